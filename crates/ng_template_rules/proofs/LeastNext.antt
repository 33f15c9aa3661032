-- The breaks of one part more of a list of references.
use Rattle.std.proofs.Common.{◌≡◌, refl, sym, ◌∙◌, ap, ℕ, ◌+◌, ◌<◌, List, [], ◌∷◌, ◌++◌, length, take, get_or, map, Option}
use Rattle.std.specs.Borrow.{Bor}
use Rattle.std.specs.List.{flat_map}
use Rattle.ng_ast.specs.declared.Component.{Component}
use Rattle.ng_ast.specs.declared.refusals.Refusal.{Refusal}
use Rattle.ng_breaks.specs.Least.{least_of}
use Rattle.ng_breaks.specs.LeastLaws.{least_next}

-- the components that references point to
abbrev pub targets : List (Bor Component) → List Component
targets = map (λ r. r.now)

pub flat_map-map : {X Y A : Type 0} (f : Y → List A) (g : X → Y) (xs : List X) → flat_map f (map g xs) ≡ flat_map (λ x. f (g x)) xs
flat_map-map f g [] = refl
flat_map-map f g (x ∷ xs) = ap (λ r. f (g x) ++ r) (flat_map-map f g xs)

-- the least with the breaks of one part more of a list of references
pub pointed_next : {A : Type 0} (f : A → List Refusal) (xs : List (Bor A)) (i : ℕ) (x : Bor A) (first best new : Option Refusal) → i < length xs → x ≡ get_or xs i x
    → best ≡ least_of first (flat_map f (map (λ r. r.now) (take i xs))) → new ≡ least_of best (f x.now) → new ≡ least_of first (flat_map f (map (λ r. r.now) (take (i + 1) xs)))
pointed_next f xs i x first best new small is so_far here =
    least_next (λ r. f r.now) xs i x first best new small is (so_far ∙ ap (least_of first) (flat_map-map f (λ r. r.now) (take i xs))) here
    ∙ ap (least_of first) (sym (flat_map-map f (λ r. r.now) (take (i + 1) xs)))
