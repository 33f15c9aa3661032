-- What comes of one part more of a list.
use Rattle.std.proofs.Common.{◌≡◌, sym, ◌∙◌, ap, ℕ, ◌+◌, ◌<◌, List, [], ◌∷◌, ◌++◌, length, map, take, get_or}
use Rattle.std.proofs.lemmas.List.{take_more, map-append}

-- a list with the image of one part more
pub mapped_more : {A B : Type 0} (f : A → B) (xs : List A) (i : ℕ) (x : A) (y : B) (old new : List B) → i < length xs → x ≡ get_or xs i x → old ≡ map f (take i xs) → new ≡ old ++ y ∷ [] → y ≡ f x
    → new ≡ map f (take (i + 1) xs)
mapped_more f xs i x y old new small is so_far pushed image =
    pushed ∙ ap (λ z. old ++ z ∷ []) image ∙ ap (λ l. l ++ f x ∷ []) so_far ∙ sym (map-append f (take i xs) (x ∷ []))
    ∙ ap (λ z. map f (take i xs ++ z ∷ [])) is ∙ ap (map f) (sym (take_more xs i x small))
