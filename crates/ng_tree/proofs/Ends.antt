-- The end of a comparison of two lists.
use Rattle.std.proofs.Common.{◌≡◌, ℕ, zero, suc, min, List, [], ◌∷◌, length, drop, refl, ◌∙◌, arith, Ordering, nat_cmp}
use Rattle.std.specs.Cmp.Lexicographic.{slice_cmp}
use Rattle.std.proofs.lemmas.Bool.Decides.{nat_tests}

-- where one of them is at its end, their lengths decide
pub ends : {X : Type 0} (R : X → X → Ordering) (xs ys : List X) (i : ℕ) → i ≡ min (length xs) (length ys) → slice_cmp R (drop i xs) (drop i ys) ≡ nat_cmp (length xs) (length ys)
ends R [] [] zero e = refl
ends R [] [] (suc i) e = refl
ends R [] (y ∷ ys) zero e = grind (arith, nat_tests)
ends R [] (y ∷ ys) (suc i) e = absurd (omega arith)
ends R (x ∷ xs) [] zero e = grind (arith, nat_tests)
ends R (x ∷ xs) [] (suc i) e = absurd (omega arith)
ends R (x ∷ xs) (y ∷ ys) zero e = absurd (omega arith)
ends R (x ∷ xs) (y ∷ ys) (suc i) e =
    let more : nat_cmp (length xs) (length ys) ≡ nat_cmp (suc (length xs)) (suc (length ys)) = grind (arith, nat_tests) in
    ends R xs ys i (omega arith) ∙ more
