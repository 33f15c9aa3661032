-- Reading item by item.
use Rattle.std.proofs.Common.{◌≡◌, List, [], ◌++◌, refl, sym, ◌∙◌, ap, subst, append_assoc}
use Rattle.std.proofs.lemmas.List.{append-nil}
use Rattle.ng_attributes.specs.Answers.{Goes}

pub goes_none : {I X A : Type 0} (reads : I → X → List A → Type 0) (over : X → Type 0) (x : X) → Goes reads over x [] x
goes_none reads over x = record { ahead = λ i more h. h; back = λ i items h. (items, refl, h); heavy = λ h. h; calm = λ h. h }

-- what was found, and what is found next
pub goes_more : {I X A : Type 0} (reads : I → X → List A → Type 0) (over : X → Type 0) (x y z : X) (found next : List A) → Goes reads over x found y → Goes reads over y next z → Goes reads over x (found ++ next) z
goes_more {I} {X} {A} reads over x y z found next g h = record {
  ahead = λ i more k. subst (λ w. reads i x w) (sym (append_assoc found next more)) (g.ahead i (next ++ more) (h.ahead i more k));
  back = λ i items k. back i items (g.back i items k);
  heavy = λ k. g.heavy (h.heavy k);
  calm = λ k. h.calm (g.calm k);
}
  where
    again : (i : I) (items more : List A) → items ≡ found ++ more → ((rest : List A) × (more ≡ next ++ rest) × reads i z rest) → (rest : List A) × (items ≡ found ++ next ++ rest) × reads i z rest
    again i items more e k = (k.0, e ∙ ap (λ w. found ++ w) k.1 ∙ sym (append_assoc found next k.0), k.2)

    back : (i : I) (items : List A) → ((more : List A) × (items ≡ found ++ more) × reads i y more) → (rest : List A) × (items ≡ found ++ next ++ rest) × reads i z rest
    back i items k = again i items k.0 k.1 (h.back i k.0 k.2)

-- nothing more is read
pub goes_end : {I X A : Type 0} (reads : I → X → List A → Type 0) (over : X → Type 0) (x y : X) (found : List A) → Goes reads over x found y → (i : I) → reads i y [] → reads i x found
goes_end reads over x y found g i h = subst (λ w. reads i x w) (append-nil found) (g.ahead i [] h)

pub goes_unread : {I X A : Type 0} (reads : I → X → List A → Type 0) (over : X → Type 0) (x y : X) (found : List A) → Goes reads over x found y → ((i : I) (items : List A) → reads i y items → ⊥) → (i : I) (items : List A) → reads i x items → ⊥
goes_unread reads over x y found g none i items h = let k = g.back i items h in none i k.0 k.2
