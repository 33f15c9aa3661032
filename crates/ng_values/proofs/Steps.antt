-- One step of a comparison of two lists, and its end.
use Rattle.std.proofs.Common.{◌≡◌, ℕ, zero, suc, ◌+◌, ◌<◌, min, List, [], ◌∷◌, length, map, drop, get_or, refl, sym, ap, ◌∙◌, arith, Ordering, nat_cmp}
use Rattle.std.specs.Cmp.Lexicographic.{slice_cmp}
use Rattle.std.specs.Ordering.{ordering_then}
use Rattle.std.proofs.lemmas.Bool.Decides.{nat_tests}

module _ {X Y : Type 0} (R : Y → Y → Ordering) (f : X → Y) where
  -- the order of what is left of two lists from a place on
  abbrev pub left : ℕ → List X → List X → Ordering
  left i xs ys = slice_cmp R (map f (drop i xs)) (map f (drop i ys))

  pub left_step : (xs ys : List X) (i : ℕ) (x y : X) → i < length xs → i < length ys → x ≡ get_or xs i x → y ≡ get_or ys i y → left i xs ys ≡ ordering_then (R (f x) (f y)) (left (i + 1) xs ys)
  left_step [] ys i x y hx hy x_is y_is = absurd (omega arith)
  left_step (a ∷ xs) [] i x y hx hy x_is y_is = absurd (omega arith)
  left_step (a ∷ xs) (b ∷ ys) zero x y hx hy x_is y_is = λ i. ordering_then (R (f (sym x_is i)) (f (sym y_is i))) (slice_cmp R (map f xs) (map f ys))
  left_step (a ∷ xs) (b ∷ ys) (suc i) x y hx hy x_is y_is =
      let next : suc (i + 1) ≡ suc i + 1 = omega arith in
      left_step xs ys i x y (omega arith) (omega arith) x_is y_is ∙ ap (λ k. ordering_then (R (f x) (f y)) (left k (a ∷ xs) (b ∷ ys))) next

  pub left_end : (xs ys : List X) (i : ℕ) → i ≡ min (length xs) (length ys) → left i xs ys ≡ nat_cmp (length xs) (length ys)
  left_end [] [] zero e = refl
  left_end [] [] (suc i) e = refl
  left_end [] (y ∷ ys) zero e = grind (arith, nat_tests)
  left_end [] (y ∷ ys) (suc i) e = absurd (omega arith)
  left_end (x ∷ xs) [] zero e = grind (arith, nat_tests)
  left_end (x ∷ xs) [] (suc i) e = absurd (omega arith)
  left_end (x ∷ xs) (y ∷ ys) zero e = absurd (omega arith)
  left_end (x ∷ xs) (y ∷ ys) (suc i) e =
      let more : nat_cmp (length xs) (length ys) ≡ nat_cmp (suc (length xs)) (suc (length ys)) = grind (arith, nat_tests) in
      left_end xs ys i (omega arith) ∙ more
