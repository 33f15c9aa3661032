-- Fronts of texts: words, runs, places, characters.
use Rattle.std.proofs.Common.{◌≡◌, ℕ, ◌<◌, ◌≤◌, List, [], ◌∷◌, ◌++◌, length, get_or, refl, sym, ◌∙◌, ap, subst, arith, length-append}
use Rattle.std.proofs.lemmas.List.{append-nil}
use Rattle.std.proofs.Math.Seq.{take-append_seam, drop-append_seam}
use Rattle.std.specs.Prelude.{Bool, true, false, cond, ◌&&◌, ◌==◌}
use Rattle.std.specs.Str.{IsUtf8}
use Rattle.std.proofs.lemmas.Str.{IsUtf8-take, IsUtf8-drop, IsCharBoundary-before_ascii, IsCharBoundary-after_ascii}
use Rattle.ng_ast.specs.declared.Place.{Place}
use Rattle.ng_tokens.specs.Lexis.{Text, all, begins, same_text, is_one_of, step, steps}
use Rattle.ng_lex.specs.Words.{at_front}
use Rattle.ng_heads.specs.Runs.{Run}

-- ---- tests

pub both_true : (x y : Bool) → cond x y false ≡ true → (x ≡ true) × (y ≡ true)
both_true true y e = (refl, e)
both_true false y e = absurd (cc)

pub and_true : (x y : Bool) → (x && y) ≡ true → (x ≡ true) × (y ≡ true)
and_true true y e = (refl, e)
and_true false y e = absurd (cc)

pub no_true : false ≡ true → ⊥
no_true e = cc

pub not_both : (b : Bool) → b ≡ true → b ≡ false → ⊥
not_both b e f = cc

pub eq_self : (b : ℕ) → (b == b) ≡ true
eq_self b = grind arith

pub same_byte : (b c : ℕ) → (b == c) ≡ true → b ≡ c
same_byte b c e = grind arith

-- two numbers that a test tells apart
pub apart : {b c : ℕ} → b ≡ c → (b == c) ≡ false → ⊥
apart {c = c} e f = not_both (c == c) (eq_self c) (subst (λ k. (k == c) ≡ false) e f)

-- ---- lists

pub first_byte : {b c : ℕ} {x y : Text} → b ∷ x ≡ c ∷ y → b ≡ c
first_byte e = cc

pub same_front : {A : Type 0} (x y z r : List A) → x ++ z ≡ y ++ r → length x ≡ length y → (x ≡ y) × (z ≡ r)
same_front [] [] z r e l = (refl, e)
same_front [] (b ∷ y) z r e l = absurd (omega arith)
same_front (b ∷ x) [] z r e l = absurd (omega arith)
same_front (b ∷ x) (c ∷ y) z r e l =
    let h : b ≡ c = cc in
    let t : x ++ z ≡ y ++ r = cc in
    let g = same_front x y z r t (omega arith) in
    (ap (λ w. b ∷ w) g.0 ∙ ap (λ d. d ∷ y) h, g.1)

pub no_length : {A : Type 0} (x : List A) → length x ≤ 0 → x ≡ []
no_length [] h = refl
no_length (b ∷ x) h = absurd (omega arith)

-- ---- words

pub begins_self : (w r : Text) → begins w (w ++ r) ≡ true
begins_self [] r = refl
begins_self (b ∷ w) r = rw (eq_self b) (begins_self w r)

-- what stands after enough bytes doesn't count
pub begins_front : (w s z : Text) → length w ≤ length s → begins w (s ++ z) ≡ begins w s
begins_front [] s z h = refl
begins_front (b ∷ w) [] z h = absurd (omega arith)
begins_front (b ∷ w) (c ∷ s) z h = ap (λ v. cond (b == c) v false) (begins_front w s z (omega arith))

begins_if : (b c : ℕ) (w t : Text) → (begins w t ≡ true → (r : Text) × (t ≡ w ++ r)) → (x : Bool) → (b == c) ≡ x → cond x (begins w t) false ≡ true → (r : Text) × (c ∷ t ≡ (b ∷ w) ++ r)
begins_if b c w t go true f g = let h : (r : Text) × (t ≡ w ++ r) = go g in (h.0, ap (λ z. c ∷ z) h.1 ∙ ap (λ z. z ∷ w ++ h.0) (sym (same_byte b c f)))
begins_if b c w t go false f g = absurd (cc)

pub begins_is : (w t : Text) → begins w t ≡ true → (r : Text) × (t ≡ w ++ r)
begins_is [] t e = (t, refl)
begins_is (b ∷ w) [] e = absurd (cc)
begins_is (b ∷ w) (c ∷ t) e = begins_if b c w t (begins_is w t) (b == c) refl e

pub same_is : (w a : Text) → same_text w a ≡ true → a ≡ w
same_is w a e =
    let g = and_true (begins w a) (length w == length a) e in
    let h : (r : Text) × (a ≡ w ++ r) = begins_is w a g.0 in
    let n : length w ≡ length a = same_byte (length w) (length a) g.1 in
    let k : length h.0 ≤ 0 = omega (arith, n, ap length h.1, length-append w h.0) in
    h.1 ∙ ap (λ r. w ++ r) (no_length h.0 k) ∙ append-nil w

-- each word of the table passes
abbrev pub EachOf : (Text → Type 0) → List Text → Type 0
EachOf P [] = Unit {0}
EachOf P (w ∷ ws) = P w × EachOf P ws

pub one_of : (P : Text → Type 0) (ws : List Text) → EachOf P ws → (a : Text) → is_one_of ws a ≡ true → P a
one_of P [] h a e = absurd (no_true e)
one_of P (w ∷ ws) h a e = by (same_text w a) refl e (λ g. one_of P ws h.1 a g)
  where
    by : (v : Bool) → same_text w a ≡ v → cond v true (is_one_of ws a) ≡ true → (is_one_of ws a ≡ true → P a) → P a
    by true f g go = subst P (sym (same_is w a f)) h.0
    by false f g go = go g

-- ---- runs

-- one byte less
front_false : (p : ℕ → Bool) (b : ℕ) (z t : Text) → t ≡ b ∷ z → at_front p t ≡ false → p b ≡ false
front_false p b z t e h = sym (ap (at_front p) e) ∙ h

pub same_runs : (p : ℕ → Bool) (a b z y : Text) → a ++ z ≡ b ++ y → all p a ≡ true → all p b ≡ true → at_front p z ≡ false → at_front p y ≡ false → (a ≡ b) × (z ≡ y)
same_runs p [] [] z y e h i j k = (refl, e)
same_runs p [] (c ∷ b) z y e h i j k = absurd (not_both (p c) (both_true (p c) (all p b) i).0 (front_false p c (b ++ y) z e j))
same_runs p (c ∷ a) [] z y e h i j k = absurd (not_both (p c) (both_true (p c) (all p a) h).0 (front_false p c (a ++ z) y (sym e) k))
same_runs p (c ∷ a) (d ∷ b) z y e h i j k =
    let s : c ≡ d = cc in
    let t : a ++ z ≡ b ++ y = cc in
    let g = same_runs p a b z y t (both_true (p c) (all p a) h).1 (both_true (p d) (all p b) i).1 j k in
    (ap (λ w. c ∷ w) g.0 ∙ ap (λ e. e ∷ b) s, g.1)

pub one_run : (p : ℕ → Bool) (t a z b y : Text) → Run p t a z → Run p t b y → (a ≡ b) × (z ≡ y)
one_run p t a z b y h i = same_runs p a b z y (sym h.is ∙ i.is) h.passes i.passes h.stops i.stops

pub all_append : (p : ℕ → Bool) (a b : Text) → all p a ≡ true → all p b ≡ true → all p (a ++ b) ≡ true
all_append p [] b h i = i
all_append p (c ∷ a) b h i = let g = both_true (p c) (all p a) h in rw g.0 (all_append p a b g.1 i)

pub all_weaker : (p q : ℕ → Bool) → ((b : ℕ) → p b ≡ true → q b ≡ true) → (a : Text) → all p a ≡ true → all q a ≡ true
all_weaker p q law [] h = refl
all_weaker p q law (b ∷ a) h = let g = both_true (p b) (all p a) h in rw (law b g.0) (all_weaker p q law a g.1)

-- ---- places

pub steps_append : (p : Place) (x y : Text) → steps p (x ++ y) ≡ steps (steps p x) y
steps_append p [] y = refl
steps_append p (b ∷ x) y = steps_append (step p b) x y

-- ---- characters

pub at_seam : (x y : Text) (b : ℕ) → get_or (x ++ (b ∷ y)) (length x) 0 ≡ b
at_seam [] y b = refl
at_seam (c ∷ x) y b = at_seam x y b

pub utf8_before : (x y : Text) (b : ℕ) → b < 128 → IsUtf8 (x ++ (b ∷ y)) → IsUtf8 x
utf8_before x y b small u =
    let inside : length x < length (x ++ (b ∷ y)) = omega (arith, length-append x (b ∷ y)) in
    let byte : get_or (x ++ (b ∷ y)) (length x) 0 < 128 = rw (at_seam x y b) small in
    rw (← take-append_seam x (b ∷ y)) (IsUtf8-take (x ++ (b ∷ y)) (length x) u (IsCharBoundary-before_ascii (x ++ (b ∷ y)) (length x) inside byte))

pub utf8_from : (x y : Text) (b : ℕ) → b < 128 → IsUtf8 (x ++ (b ∷ y)) → IsUtf8 (b ∷ y)
utf8_from x y b small u =
    let inside : length x < length (x ++ (b ∷ y)) = omega (arith, length-append x (b ∷ y)) in
    let byte : get_or (x ++ (b ∷ y)) (length x) 0 < 128 = rw (at_seam x y b) small in
    rw (← drop-append_seam x (b ∷ y)) (IsUtf8-drop (x ++ (b ∷ y)) (length x) u (IsCharBoundary-before_ascii (x ++ (b ∷ y)) (length x) inside byte))

pub utf8_tail : (b : ℕ) (y : Text) → b < 128 → IsUtf8 (b ∷ y) → IsUtf8 y
utf8_tail b y small u = IsUtf8-drop (b ∷ y) 1 u (IsCharBoundary-after_ascii (b ∷ y) 0 u (omega arith) small)

pub utf8_after : (x y : Text) (b : ℕ) → b < 128 → IsUtf8 (x ++ (b ∷ y)) → IsUtf8 y
utf8_after x y b small u = utf8_tail b y small (utf8_from x y b small u)
