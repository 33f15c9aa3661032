-- Laws of the least.
use Rattle.std.proofs.Common.{◌≡◌, refl, sym, ◌∙◌, ap, ℕ, ◌+◌, ◌<◌, true, false, cond, List, [], ◌∷◌, ◌++◌, append-nil, length, take, get_or, Option, Some, None}
use Rattle.std.proofs.lemmas.List.{take_more}
use Rattle.std.proofs.lemmas.Grind.{flat_map-append}
use Rattle.std.specs.List.{flat_map}
use Rattle.ng_ast.specs.declared.refusals.Refusal.{Refusal}
use Rattle.ng_breaks.specs.Least.{is_before, earlier, least_of, least}

pub least_of-append : (best : Option Refusal) (xs ys : List Refusal) → least_of best (xs ++ ys) ≡ least_of (least_of best xs) ys
least_of-append best [] ys = refl
least_of-append best (x ∷ xs) ys = least_of-append (earlier best x) xs ys

pub ruleset least_laws = (least_of-append, least_of-append)

some_least : (a : Refusal) (bs : List Refusal) → (r : Refusal) × (least_of (Some a) bs ≡ Some r)
some_least a [] = (a, refl)
some_least a (b ∷ bs) = elim (is_before b a) as (λ t. (r : Refusal) × (least_of (cond t (Some b) (Some a)) bs ≡ Some r)) [ true ↦ some_least b bs | false ↦ some_least a bs ]

-- where nothing is the least, nothing is broken
pub least_none : (bs : List Refusal) → least bs ≡ None → bs ≡ []
least_none [] h = refl
least_none (b ∷ bs) h = let e : Some (some_least b bs).0 ≡ None = sym (some_least b bs).1 ∙ h in absurd (cc)

-- what comes of one part more of a list
pub flat_map_next : {A B : Type 0} (f : A → List B) (xs : List A) (i : ℕ) (x : A) → i < length xs → x ≡ get_or xs i x → flat_map f (take i xs) ++ f x ≡ flat_map f (take (i + 1) xs)
flat_map_next f xs i x small is =
    ap (λ r. flat_map f (take i xs) ++ r) (sym (append-nil (f x))) ∙ sym (flat_map-append f (take i xs) (x ∷ []))
    ∙ ap (λ y. flat_map f (take i xs ++ y ∷ [])) is ∙ ap (flat_map f) (sym (take_more xs i x small))

-- the least with the breaks of one part more
pub least_next : {A : Type 0} (f : A → List Refusal) (xs : List A) (i : ℕ) (x : A) (first best new : Option Refusal) → i < length xs → x ≡ get_or xs i x
    → best ≡ least_of first (flat_map f (take i xs)) → new ≡ least_of best (f x) → new ≡ least_of first (flat_map f (take (i + 1) xs))
least_next f xs i x first best new small is so_far here =
    here ∙ ap (λ b. least_of b (f x)) so_far ∙ sym (least_of-append first (flat_map f (take i xs)) (f x)) ∙ ap (least_of first) (flat_map_next f xs i x small is)
