-- Laws of the least place.
use Rattle.std.proofs.Common.{◌≡◌, refl, sym, ◌∙◌, true, false, cond, List, [], ◌∷◌, ◌++◌, Option, Some, None}
use Rattle.ng_ast.specs.declared.Place.{Place}
use Rattle.ng_unbuilt.specs.Least.{comes_first, earlier, least_of, least}

pub least_of-append : (best : Option Place) (xs ys : List Place) → least_of best (xs ++ ys) ≡ least_of (least_of best xs) ys
least_of-append best [] ys = refl
least_of-append best (x ∷ xs) ys = least_of-append (earlier best x) xs ys

pub ruleset least_laws = (least_of-append, least_of-append)

some_least : (p : Place) (ps : List Place) → (r : Place) × (least_of (Some p) ps ≡ Some r)
some_least p [] = (p, refl)
some_least p (q ∷ qs) = elim (comes_first q (Some p)) as (λ t. (r : Place) × (least_of (cond t (Some q) (Some p)) qs ≡ Some r)) [ true ↦ some_least q qs | false ↦ some_least p qs ]

-- where nothing is the least, there is no place
pub least_none : (ps : List Place) → least ps ≡ None → ps ≡ []
least_none [] h = refl
least_none (p ∷ ps) h = let e : Some (some_least p ps).0 ≡ None = sym (some_least p ps).1 ∙ h in absurd (cc)
