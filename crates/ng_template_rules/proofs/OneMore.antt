-- What comes of one part more of a list.
use Rattle.std.proofs.Common.{◌≡◌, ◌∙◌, ap, ℕ, ◌+◌, ◌<◌, List, ◌++◌, length, take, get_or}
use Rattle.std.specs.List.{flat_map}
use Rattle.ng_breaks.specs.LeastLaws.{flat_map_next}

-- a list with what comes of one part more
pub one_more : {A B : Type 0} (f : A → List B) (xs : List A) (i : ℕ) (x : A) (old new : List B) → i < length xs → x ≡ get_or xs i x → old ≡ flat_map f (take i xs) → new ≡ old ++ f x
    → new ≡ flat_map f (take (i + 1) xs)
one_more f xs i x old new small is so_far here = here ∙ ap (λ l. l ++ f x) so_far ∙ flat_map_next f xs i x small is
