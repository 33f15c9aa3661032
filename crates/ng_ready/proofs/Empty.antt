-- Lists that are empty.
use Rattle.std.proofs.Common.{◌≡◌, zero, suc, true, false, Bool, List, [], ◌∷◌, ◌++◌, map, Contains, flat_map, refl, sym, ◌∙◌, ap, arith}
use Rattle.ng_ast.specs.declared.Place.{Place}
use Rattle.ng_unbuilt.specs.Least.{when}

pub left_empty : {A : Type 0} (xs ys : List A) → xs ++ ys ≡ [] → xs ≡ []
left_empty [] ys e = refl
left_empty (x ∷ xs) ys e = absurd (cc)

pub right_empty : {A : Type 0} (xs ys : List A) → xs ++ ys ≡ [] → ys ≡ []
right_empty [] ys e = e
right_empty (x ∷ xs) ys e = absurd (cc)

pub map_empty : {A B : Type 0} (f : A → B) (xs : List A) → map f xs ≡ [] → xs ≡ []
map_empty f [] e = refl
map_empty f (x ∷ xs) e = absurd (cc)

-- where the lists of all items are empty, that of one of them
pub each_empty : {A B : Type 0} (f : A → List B) (xs : List A) (x : A) → Contains xs x → flat_map f xs ≡ [] → f x ≡ []
each_empty f [] x (k, less, is) e = absurd (omega arith)
each_empty f (y ∷ ys) x (zero, less, is) e = ap f (sym is) ∙ left_empty _ _ e
each_empty f (y ∷ ys) x (suc k, less, is) e = each_empty f ys x (k, omega arith, is) (right_empty _ _ e)

-- a place that isn't wanted
pub unwanted : (t : Bool) (p : Place) → when t p ≡ [] → t ≡ false
unwanted true p e = absurd (cc)
unwanted false p e = refl
