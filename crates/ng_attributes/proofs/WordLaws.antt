-- Words at the ends of a text.
use Rattle.std.proofs.Common.{◌≡◌, ℕ, zero, suc, ◌+◌, ◌-◌, ◌<◌, ◌≤◌, [], ◌∷◌, ◌++◌, length, get_or, take, drop, refl, sym, ◌∙◌, ap, subst, arith, length-drop}
use Rattle.std.proofs.lemmas.List.{drop-drop}
use Rattle.std.proofs.Math.Seq.{take-append_seam, drop-append_seam}
use Rattle.std.specs.Prelude.{Bool, true, false, cond, ◌==◌, nat_le, Some, None}
use Rattle.std.specs.List.{prefix_len}
use Rattle.std.specs.Str.{IsUtf8, IsCharBoundary}
use Rattle.std.proofs.lemmas.Str.{IsUtf8-from_ascii, IsCharBoundary-from_drop}
use Rattle.ng_tokens.specs.Lexis.{Text, all, begins, same_text}
use Rattle.ng_tokens.proofs.Scanning.{after_some}
use Rattle.ng_lex.specs.Span.{is_ascii}
use Rattle.ng_lex.specs.declared.attributes.NameForm.TheVariants as f
use Rattle.ng_lex.specs.Names.{in_part, is_part, style_by, style_of, between}
use Rattle.ng_lex.proofs.Texts.{run_len}
use Rattle.ng_attributes.specs.Runs.{Run}
use Rattle.ng_attributes.proofs.Texts.{both_true, no_true, same_byte, begins_is, same_is}

pub stripped : (w t r : Text) → begins w t ≡ true → r ≡ drop (length w) t → (begins w t ≡ true) × (t ≡ w ++ r)
stripped w t r e f = let g : (z : Text) × (t ≡ w ++ z) = begins_is w t e in (e, g.1 ∙ ap (λ k. w ++ k) (sym (f ∙ ap (drop (length w)) g.1 ∙ drop-append_seam w g.0)))

-- ---- a word at the end

below : (b : ℕ) → is_ascii b ≡ true → b < 128
below b e = grind arith

ascii_bytes : (w : Text) → all is_ascii w ≡ true → (i : ℕ) → get_or w i 0 < 128
ascii_bytes [] h i = omega arith
ascii_bytes (b ∷ w) h zero = below b (both_true (is_ascii b) (all is_ascii w) h).0
ascii_bytes (b ∷ w) h (suc i) = ascii_bytes w (both_true (is_ascii b) (all is_ascii w) h).1 i

pub ascii_utf8 : (w : Text) → all is_ascii w ≡ true → IsUtf8 w
ascii_utf8 w h = IsUtf8-from_ascii w (ascii_bytes w h)

-- the last word stands there
last_word : (b t : Text) (n : ℕ) → same_text b (take (length t - n) (drop n t)) ≡ true → drop n t ≡ b
last_word b t n e = sym (after_some t n) ∙ same_is b (take (length t - n) (drop n t)) e

pub between_boundary : (a b t rest : Text) → length a + length b ≤ length t → same_text b (take (length t - (length t - length b)) (drop (length t - length b) t)) ≡ true → rest ≡ drop (length a) t → all is_ascii b ≡ true
    → IsCharBoundary rest (length t - length a - length b)
between_boundary a b t rest size e f h =
    let long : length rest ≡ length t - length a = ap length f ∙ length-drop (length a) t in
    let back : drop (length t - length a - length b) rest ≡ b = ap (drop (length t - length a - length b)) f ∙ drop-drop (length t - length a - length b) (length a) t ∙ ap (λ n. drop n t) (omega arith) ∙ last_word b t (length t - length b) e in
    IsCharBoundary-from_drop rest (length t - length a - length b) (omega arith) (subst IsUtf8 (sym back) (ascii_utf8 b h))

pub between_some : (a b t rest r : Text) → length a + length b ≤ length t → begins a t ≡ true → same_text b (take (length t - (length t - length b)) (drop (length t - length b) t)) ≡ true → rest ≡ drop (length a) t
    → r ≡ take (length t - length a - length b) rest → between a b t ≡ Some r
between_some a b t rest r size e f g h =
    let fits : nat_le (length a + length b) (length t) ≡ true = grind arith in
    let last : same_text b (drop (length t - length b) t) ≡ true = ap (same_text b) (sym (after_some t (length t - length b))) ∙ f in
    rw (fits, e, last) (ap Some (sym (h ∙ ap (take (length t - length a - length b)) g)))

-- ---- styles

style_run : (t s r : Text) → Run in_part t s r → style_of t ≡ style_by s r
style_run t s r run =
    let n : prefix_len in_part t ≡ length s = ap (prefix_len in_part) run.is ∙ run_len in_part s r run.passes run.stops in
    let front : take (prefix_len in_part t) t ≡ s = ap (λ k. take k t) n ∙ ap (take (length s)) run.is ∙ take-append_seam s r in
    let back : drop (prefix_len in_part t) t ≡ r = ap (λ k. drop k t) n ∙ ap (drop (length s)) run.is ∙ drop-append_seam s r in
    ap (λ k. style_by k (drop (prefix_len in_part t) t)) front ∙ ap (style_by s) back

pub style_unit : (t s r u : Text) → Run in_part t s r → r ≡ 46 ∷ u → is_part s ≡ true → is_part u ≡ true → style_of t ≡ Some (f.Style s (Some u))
style_unit t s r u run e h i = style_run t s r run ∙ ap (style_by s) e ∙ rw (h, i) refl

pub style_bare : (t s r : Text) → Run in_part t s r → r ≡ [] → is_part s ≡ true → style_of t ≡ Some (f.Style s None)
style_bare t s r run e h = style_run t s r run ∙ ap (style_by s) e ∙ rw h refl

pub style_bad : (t s r u : Text) → Run in_part t s r → r ≡ 46 ∷ u → is_part s ≡ true → is_part u ≡ false → style_of t ≡ None
style_bad t s r u run e h i = style_run t s r run ∙ ap (style_by s) e ∙ rw (h, i) refl

pub style_other : (t s r : Text) → Run in_part t s r → begins (46 ∷ []) r ≡ false → (r ≡ [] → ⊥) → style_of t ≡ None
style_other t s [] run e some = absurd (some refl)
style_other t s (b ∷ r) run e some = style_run t s (b ∷ r) run ∙ by (46 == b) refl e
  where
    by : (v : Bool) → (46 == b) ≡ v → cond v true false ≡ false → style_by s (b ∷ r) ≡ None
    by true g h = absurd (no_true (sym h))
    by false g h = let i : (b == 46) ≡ false = grind arith in rw i refl

-- ---- empty texts

pub empty_is : (t : Text) → (length t == 0) ≡ true → t ≡ []
empty_is [] e = refl
empty_is (b ∷ t) e = absurd (no (length t) e)
  where
    no : (n : ℕ) → (suc n == 0) ≡ true → ⊥
    no n e = let h : suc n ≡ 0 = same_byte (suc n) 0 e in omega arith

pub some_is : (t : Text) → (length t == 0) ≡ false → t ≡ [] → ⊥
some_is [] e f = no_true (sym e)
some_is (b ∷ t) e f = let g : b ∷ t ≡ [] = f in cc
