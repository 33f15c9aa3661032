-- What comes after the sign that ends an expression doesn't count.
use Rattle.std.proofs.Common.{◌≡◌, ℕ, zero, suc, ◌+◌, ◌-◌, ◌≤◌, List, [], ◌∷◌, ◌++◌, length, refl, sym, ◌∙◌, ap, subst, append_assoc, arith, inl, inr}
use Rattle.std.specs.Prelude.{Bool, true, false, cond, ◌==◌, Option, Some, None}
use Rattle.std.specs.List.{prefix_len}
use Rattle.std.specs.Option.{option_map}
use Rattle.ng_tokens.specs.declared.kinds.Sign.{Sign}
use Rattle.ng_tokens.specs.declared.kinds.Shape.{Shape}
use Rattle.ng_tokens.specs.declared.kinds.Shape.TheVariants as form
use Rattle.ng_tokens.specs.Lexis.{Text, is_blank, is_digit, is_letter, is_word, is_quote, begins, unquote}
use Rattle.ng_tokens.specs.Scan.{find, signs, quoted, shape}
use Rattle.ng_tokens.proofs.Literals.{Cut, cut_literal}
use Rattle.ng_exprs.specs.Limits.{after}
use Rattle.ng_exprs.specs.Ends.{IsEnd, stops, kind_by, end_by, end_from}
use Rattle.ng_lex.specs.Heads.{EndsAfter}

-- ---- a token before the sign

run_same : (p : ℕ → Bool) (c : ℕ) → p c ≡ false → (t z y : Text) → prefix_len p (t ++ (c ∷ z)) ≡ prefix_len p (t ++ (c ∷ y))
run_same p c e [] z y = rw e refl
run_same p c e (b ∷ t) z y = ap (λ n. cond (p b) (1 + n) 0) (run_same p c e t z y)

no_digit : (c : ℕ) → IsEnd c → is_digit c ≡ false
no_digit c (inl e) = rw e refl
no_digit c (inr e) = rw e refl

stop_no_word : (c : ℕ) → IsEnd c → is_word c ≡ false
stop_no_word c (inl e) = rw e refl
stop_no_word c (inr e) = rw e refl

-- the byte stands nowhere in the word
abbrev Free : ℕ → Text → Type 0
Free c [] = Unit {0}
Free c (b ∷ w) = ((b == c) ≡ false) × Free c w

begins_free : (w : Text) (c : ℕ) → Free c w → (t z y : Text) → begins w (t ++ (c ∷ z)) ≡ begins w (t ++ (c ∷ y))
begins_free [] c f t z y = refl
begins_free (b ∷ w) c f [] z y = rw f.0 refl
begins_free (b ∷ w) c f (d ∷ t) z y = ap (λ v. cond (b == d) v false) (begins_free w c f.1 t z y)

abbrev TailFree : ℕ → Text → Type 0
TailFree c [] = ⊥
TailFree c (b ∷ w) = Free c w

begins_tail : (w : Text) (c : ℕ) → TailFree c w → (b : ℕ) (t z y : Text) → begins w (b ∷ (t ++ (c ∷ z))) ≡ begins w (b ∷ (t ++ (c ∷ y)))
begins_tail [] c f b t z y = absurd f
begins_tail (d ∷ w) c f b t z y = ap (λ v. cond (d == b) v false) (begins_free w c f t z y)

abbrev TailsFree : ℕ → List (Text × Sign) → Type 0
TailsFree c [] = Unit {0}
TailsFree c (e ∷ es) = TailFree c e.0 × TailsFree c es

find_same : (es : List (Text × Sign)) (c : ℕ) → TailsFree c es → (b : ℕ) (t z y : Text) → find es (b ∷ (t ++ (c ∷ z))) ≡ find es (b ∷ (t ++ (c ∷ y)))
find_same [] c f b t z y = refl
find_same (e ∷ es) c f b t z y =
    ap (λ v. cond v (Some (form.Sign e.1, length e.0)) (find es (b ∷ (t ++ (c ∷ z))))) (begins_tail e.0 c f.0 b t z y)
    ∙ ap (λ v. cond (begins e.0 (b ∷ (t ++ (c ∷ y)))) (Some (form.Sign e.1, length e.0)) v) (find_same es c f.1 b t z y)

signs_free : (c : ℕ) → IsEnd c → TailsFree c signs
unfolding signs
signs_free c (inl e) = subst (λ v. TailsFree v signs) (sym e) (search arith)
signs_free c (inr e) = subst (λ v. TailsFree v signs) (sym e) (search arith)

-- the front of a front
within : (a r t s : Text) → t ++ s ≡ a ++ r → length a ≤ length t → (v : Text) × (t ≡ a ++ v)
within [] r t s e h = (t, refl)
within (b ∷ a) r [] s e h = absurd (omega arith)
within (b ∷ a) r (c ∷ t) s e h =
    let f : b ≡ c = cc in
    let g : t ++ s ≡ a ++ r = cc in
    let k : (v : Text) × (t ≡ a ++ v) = within a r t s g (omega arith) in
    (k.0, ap (λ w. c ∷ w) k.1 ∙ ap (λ d. d ∷ (a ++ k.0)) (sym f))

quoted_len : (o : Option (Text × ℕ)) (q : Shape × ℕ) → quoted o ≡ Some q → (v : Text × ℕ) × (o ≡ Some v) × (q.1 ≡ suc v.1)
quoted_len None q e = absurd (cc)
quoted_len (Some v) q e = (v, refl, (let f : (form.Text, suc v.1) ≡ q = cc in ap (λ x. x.1) (sym f)))

quoted_same : (b : ℕ) (t s r : Text) (q : Shape × ℕ) → quoted (unquote b false (t ++ s)) ≡ Some q → q.1 ≤ suc (length t) → quoted (unquote b false (t ++ r)) ≡ Some q
quoted_same b t s r q e h =
    let v = quoted_len (unquote b false (t ++ s)) q e in
    let k : Cut b false (t ++ s) v.0 = cut_literal b false (t ++ s) v.0 v.1 in
    let g : (w : Text) × (t ≡ k.0 ++ w) = within k.0 k.1 t s k.2 (omega (arith, v.2, k.3)) in
    ap (λ w. quoted (unquote b false (w ++ r))) g.1 ∙ ap (λ w. quoted (unquote b false w)) (append_assoc k.0 g.0 r) ∙ ap quoted (k.4 (g.0 ++ r)) ∙ ap quoted (sym v.1) ∙ e

shape_if : (b : ℕ) (t : Text) (c : ℕ) (z y : Text) → IsEnd c → (q : Shape × ℕ) → q.1 ≤ suc (length t) → (v w x u : Bool)
    → cond v (Some (form.Number, prefix_len is_digit (b ∷ (t ++ (c ∷ z))))) (cond w (Some (form.Name, prefix_len is_word (b ∷ (t ++ (c ∷ z))))) (
    cond x (Some (form.Variable, suc (prefix_len is_word (t ++ (c ∷ z))))) (cond u (quoted (unquote b false (t ++ (c ∷ z)))) (find signs (b ∷ (t ++ (c ∷ z))))))) ≡ Some q
    → cond v (Some (form.Number, prefix_len is_digit (b ∷ (t ++ (c ∷ y))))) (cond w (Some (form.Name, prefix_len is_word (b ∷ (t ++ (c ∷ y))))) (
    cond x (Some (form.Variable, suc (prefix_len is_word (t ++ (c ∷ y))))) (cond u (quoted (unquote b false (t ++ (c ∷ y)))) (find signs (b ∷ (t ++ (c ∷ y))))))) ≡ Some q
shape_if b t c z y i q h true w x u e = ap (λ n. Some (form.Number, n)) (run_same is_digit c (no_digit c i) (b ∷ t) y z) ∙ e
shape_if b t c z y i q h false true x u e = ap (λ n. Some (form.Name, n)) (run_same is_word c (stop_no_word c i) (b ∷ t) y z) ∙ e
shape_if b t c z y i q h false false true u e = ap (λ n. Some (form.Variable, suc n)) (run_same is_word c (stop_no_word c i) t y z) ∙ e
shape_if b t c z y i q h false false false true e = quoted_same b t (c ∷ z) (c ∷ y) q e h
shape_if b t c z y i q h false false false false e = find_same signs c (signs_free c i) b t y z ∙ e

shape_same : (b : ℕ) (t : Text) (c : ℕ) (z y : Text) → IsEnd c → (q : Shape × ℕ) → q.1 ≤ suc (length t) → shape (b ∷ (t ++ (c ∷ z))) ≡ Some q → shape (b ∷ (t ++ (c ∷ y))) ≡ Some q
unfolding shape
shape_same b t c z y i q h e = shape_if b t c z y i q h (is_digit b) (is_letter b) (b == 36) (is_quote b) e

-- ---- the scan

suc_some : (o : Option ℕ) (n : ℕ) → option_map suc o ≡ Some (suc n) → o ≡ Some n
suc_some None n e = absurd (cc)
suc_some (Some m) n e = (let f : suc m ≡ suc n = cc in let g : m ≡ n = omega arith in ap Some g)

suc_zero : (o : Option ℕ) → option_map suc o ≡ Some 0 → ⊥
suc_zero None e = cc
suc_zero (Some m) e = (let f : suc m ≡ 0 = cc in absurd (omega arith))

-- what is left of a token is stepped over
end_left : (d n : ℕ) (s : Text) (m : ℕ) → end_from d n s ≡ Some m → n ≤ m
unfolding end_from
end_left d n [] m e = absurd (cc)
end_left d zero (b ∷ s) m e = omega arith
end_left d (suc n) (b ∷ s) zero e = absurd (suc_zero (end_from d n s) e)
end_left d (suc n) (b ∷ s) (suc m) e = (let h : n ≤ m = end_left d n s m (suc_some (end_from d n s) m e) in omega arith)

-- the sign itself
sign_alone : (d n c : ℕ) → IsEnd c → (z y : Text) → end_from d n (c ∷ z) ≡ Some 0 → end_from d n (c ∷ y) ≡ Some 0
unfolding end_from shape signs
sign_alone d (suc n) c i z y e = absurd (suc_zero (end_from d n z) e)
sign_alone d zero c (inl i) z y e = rw i (round d z y (rw i at e))
  where
    round : (d : ℕ) (z y : Text) → end_from d 0 (41 ∷ z) ≡ Some 0 → end_from d 0 (41 ∷ y) ≡ Some 0
    round zero z y e = refl
    round (suc d) z y e = absurd (suc_zero (end_from d 0 z) e)
sign_alone d zero c (inr i) z y e = rw i (semicolon d z y (rw i at e))
  where
    semicolon : (d : ℕ) (z y : Text) → end_from d 0 (59 ∷ z) ≡ Some 0 → end_from d 0 (59 ∷ y) ≡ Some 0
    semicolon zero z y e = refl
    semicolon (suc d) z y e = absurd (suc_zero (end_from (suc d) 0 z) e)

-- a token: it ends the expression, or goes before the sign
token_by : (d b : ℕ) (t : Text) (c : ℕ) (z y : Text) → IsEnd c → ((e n : ℕ) → end_from e n (t ++ (c ∷ z)) ≡ Some (length t) → end_from e n (t ++ (c ∷ y)) ≡ Some (length t))
    → (o : Option (Shape × ℕ)) → shape (b ∷ (t ++ (c ∷ z))) ≡ o → end_by d (λ e n. option_map suc (end_from e n (t ++ (c ∷ z)))) o ≡ Some (suc (length t))
    → end_by d (λ e n. option_map suc (end_from e n (t ++ (c ∷ y)))) (shape (b ∷ (t ++ (c ∷ y)))) ≡ Some (suc (length t))
token_by d b t c z y i go None f e = absurd (cc)
token_by d b t c z y i go (Some q) f e = by (stops (kind_by q.0) d) refl e
  where
    size : (n m : ℕ) → n - 1 ≤ m → n ≤ suc m
    size n m h = omega arith

    zero_suc : (m : ℕ) → Some 0 ≡ Some (suc m) → ⊥
    zero_suc m e = (let f : 0 ≡ suc m = cc in absurd (omega arith))

    by : (v : Bool) → stops (kind_by q.0) d ≡ v → cond v (Some 0) (option_map suc (end_from (after (kind_by q.0) d) (q.1 - 1) (t ++ (c ∷ z)))) ≡ Some (suc (length t))
        → end_by d (λ e n. option_map suc (end_from e n (t ++ (c ∷ y)))) (shape (b ∷ (t ++ (c ∷ y)))) ≡ Some (suc (length t))
    by true s e = absurd (zero_suc (length t) e)
    by false s e =
        let g : end_from (after (kind_by q.0) d) (q.1 - 1) (t ++ (c ∷ z)) ≡ Some (length t) = suc_some _ (length t) e in
        let n : q.1 ≤ suc (length t) = size q.1 (length t) (end_left _ (q.1 - 1) (t ++ (c ∷ z)) (length t) g) in
        let same : shape (b ∷ (t ++ (c ∷ y))) ≡ Some q = shape_same b t c z y i q n f in
        ap (end_by d (λ e n. option_map suc (end_from e n (t ++ (c ∷ y))))) same ∙ ap (λ v. cond v (Some 0) (option_map suc (end_from (after (kind_by q.0) d) (q.1 - 1) (t ++ (c ∷ y))))) s ∙ ap (option_map suc) (go _ _ g)

byte_by : (b : ℕ) (t : Text) (c : ℕ) (z y : Text) (d : ℕ) → IsEnd c → ((e n : ℕ) → end_from e n (t ++ (c ∷ z)) ≡ Some (length t) → end_from e n (t ++ (c ∷ y)) ≡ Some (length t)) → (v : Bool)
    → cond v (option_map suc (end_from d 0 (t ++ (c ∷ z)))) (end_by d (λ e n. option_map suc (end_from e n (t ++ (c ∷ z)))) (shape (b ∷ (t ++ (c ∷ z))))) ≡ Some (suc (length t))
    → cond v (option_map suc (end_from d 0 (t ++ (c ∷ y)))) (end_by d (λ e n. option_map suc (end_from e n (t ++ (c ∷ y)))) (shape (b ∷ (t ++ (c ∷ y))))) ≡ Some (suc (length t))
byte_by b t c z y d i go true f = ap (option_map suc) (go d 0 (suc_some (end_from d 0 (t ++ (c ∷ z))) (length t) f))
byte_by b t c z y d i go false f = token_by d b t c z y i go (shape (b ∷ (t ++ (c ∷ z)))) refl f

pub end_any : (d n : ℕ) (t : Text) (c : ℕ) (z y : Text) → IsEnd c → end_from d n (t ++ (c ∷ z)) ≡ Some (length t) → end_from d n (t ++ (c ∷ y)) ≡ Some (length t)
unfolding end_from
end_any d n [] c z y i e = sign_alone d n c i z y e
end_any d (suc n) (b ∷ t) c z y i e = ap (option_map suc) (end_any d n t c z y i (suc_some (end_from d n (t ++ (c ∷ z))) (length t) e))
end_any d zero (b ∷ t) c z y i e = byte_by b t c z y d i (λ f n. end_any f n t c z y i) (is_blank b) e

-- the same of what stands after an expression
pub ends_any : (t : Text) (c : ℕ) (z y : Text) → IsEnd c → EndsAfter t (c ∷ z) → EndsAfter t (c ∷ y)
ends_any t c z y i e = end_any 0 0 t c z y i e
