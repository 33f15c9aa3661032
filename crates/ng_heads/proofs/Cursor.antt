-- Reading a text from left to right.
use Rattle.std.proofs.Common.{◌≡◌, ℕ, ◌<◌, [], ◌∷◌, ◌++◌, length, take, refl, sym, ◌∙◌, ap, subst, arith}
use Rattle.std.proofs.Math.Seq.{take-append_seam}
use Rattle.std.proofs.lemmas.Str.{IsUtf8-nil, IsCharBoundary-at_seam}
use Rattle.std.specs.Prelude.{Bool, true, false, cond, ◌==◌, ◌||◌}
use Rattle.std.specs.List.{prefix_len}
use Rattle.std.specs.Str.{IsUtf8, IsCharBoundary}
use Rattle.ng_tokens.specs.Lexis.{Text, is_blank, is_letter, is_word, all, begins, steps}
use Rattle.ng_lex.specs.Words.{IsName, at_front}
use Rattle.ng_lex.specs.Attributes.{differs}
use Rattle.ng_lex.proofs.Texts.{run_split}
use Rattle.ng_heads.specs.declared.at.At.{At}
use Rattle.ng_heads.specs.Runs.{Run, in_word, in_piece}
use Rattle.ng_heads.specs.Steps.{Past, Skips, Splits}
use Rattle.ng_heads.proofs.Texts.{both_true, utf8_tail, begins_is, begins_self, not_both, same_byte, same_front, utf8_from}
use Rattle.ng_heads.proofs.Names.{blank_small, run_name}

-- ---- where runs end

after_run : (p : ℕ → Bool) → ((b : ℕ) → p b ≡ true → b < 128) → (a z : Text) → all p a ≡ true → IsUtf8 (a ++ z) → IsUtf8 z
after_run p low [] z h u = u
after_run p low (b ∷ a) z h u = let g = both_true (p b) (all p a) h in after_run p low a z g.1 (utf8_tail b (a ++ z) (low b g.0) u)

-- a run as a record of this crate
pub run_of : (p : ℕ → Bool) (t : Text) → (a z : Text) × Run p t a z × (length a ≡ prefix_len p t)
run_of p t = let s = run_split p t in (s.run, s.rest, record { is = s.is; passes = s.passes; stops = s.stops }, s.long)

pub ascii_boundary : (p : ℕ → Bool) → ((b : ℕ) → p b ≡ true → b < 128) → (t : Text) (n : ℕ) → n ≡ prefix_len p t → IsUtf8 t → IsCharBoundary t n
ascii_boundary p low t n e u =
    let r = run_of p t in
    subst (λ k. IsCharBoundary t k) (r.3 ∙ sym e) (IsCharBoundary-at_seam t r.0 r.1 r.2.is (after_run p low r.0 r.1 r.2.passes (subst IsUtf8 r.2.is u)))

pub stop_boundary : (p : ℕ → Bool) → ((b : ℕ) → p b ≡ false → b < 128) → (t : Text) (n : ℕ) → n ≡ prefix_len p t → IsUtf8 t → IsCharBoundary t n
stop_boundary p low t n e u =
    let r = run_of p t in
    subst (λ k. IsCharBoundary t k) (r.3 ∙ sym e) (IsCharBoundary-at_seam t r.0 r.1 r.2.is (rest r.0 r.1 r.2.stops (subst IsUtf8 r.2.is u)))
  where
    rest : (a z : Text) → at_front p z ≡ false → IsUtf8 (a ++ z) → IsUtf8 z
    rest a [] h v = IsUtf8-nil
    rest a (b ∷ z) h v = utf8_from a z b (low b h) v

blank_low : (b : ℕ) → is_blank b ≡ true → b < 128
blank_low b e = let h = blank_small b e in omega arith

word_low : (b : ℕ) → is_word b ≡ true → b < 128
word_low b e = grind arith

dark_low : (b : ℕ) → in_word b ≡ false → b < 128
dark_low b e = by (is_blank b) refl e
  where
    by : (v : Bool) → is_blank b ≡ v → cond v false true ≡ false → b < 128
    by true f g = blank_low b f
    by false f g = absurd (cc)

piece_low : (b : ℕ) → in_piece b ≡ false → b < 128
piece_low b e = by (b == 59) (b == 41) refl refl e
  where
    by : (v w : Bool) → (b == 59) ≡ v → (b == 41) ≡ w → cond (v || w) false true ≡ false → b < 128
    by true w f g h = let s : b ≡ 59 = same_byte b 59 f in omega arith
    by false true f g h = let s : b ≡ 41 = same_byte b 41 g in omega arith
    by false false f g h = absurd (cc)

differs_low : (c : ℕ) → c < 128 → (b : ℕ) → differs c b ≡ false → b < 128
differs_low c low b e = by (b == c) refl e
  where
    by : (v : Bool) → (b == c) ≡ v → cond v false true ≡ false → b < 128
    by true f h = let s : b ≡ c = same_byte b c f in omega arith
    by false f h = absurd (cc)

pub blank_boundary : (t : Text) (n : ℕ) → n ≡ prefix_len is_blank t → IsUtf8 t → IsCharBoundary t n
blank_boundary t n e u = ascii_boundary is_blank blank_low t n e u

pub name_boundary : (t : Text) (n : ℕ) → n ≡ prefix_len is_word t → IsUtf8 t → IsCharBoundary t n
name_boundary t n e u = ascii_boundary is_word word_low t n e u

pub dark_boundary : (t : Text) (n : ℕ) → n ≡ prefix_len in_word t → IsUtf8 t → IsCharBoundary t n
dark_boundary t n e u = stop_boundary in_word dark_low t n e u

pub piece_boundary : (t : Text) (n : ℕ) → n ≡ prefix_len in_piece t → IsUtf8 t → IsCharBoundary t n
piece_boundary t n e u = stop_boundary in_piece piece_low t n e u

pub before_boundary : (c : ℕ) → c < 128 → (t : Text) (n : ℕ) → n ≡ prefix_len (differs c) t → IsUtf8 t → IsCharBoundary t n
before_boundary c low t n e u = stop_boundary (differs c) (differs_low c low) t n e u

-- ---- what stands before and after

taken : (p : ℕ → Bool) (t : Text) (n : ℕ) → n ≡ prefix_len p t → (r : Text) → t ≡ take n t ++ r → Run p t (take n t) r
taken p t n e r is =
    let s = run_of p t in
    let front : take n t ≡ s.0 = ap (λ k. take k t) (e ∙ sym s.3) ∙ ap (take (length s.0)) s.2.is ∙ take-append_seam s.0 s.1 in
    let rest : r ≡ s.1 = (same_front (take n t) s.0 r s.1 (sym is ∙ s.2.is) (ap length front)).1 in
    record { is = is; passes = ap (all p) front ∙ s.2.passes; stops = ap (at_front p) rest ∙ s.2.stops }

pub skips : (p : ℕ → Bool) (at next : At) (n : ℕ) → n ≡ prefix_len p at.text.now → Past at (take n at.text.now) next → Skips p at next
skips p at next n e h = record { a = take n at.text.now; run = taken p at.text.now n e next.text.now h.is; place = h.place }

pub splits : (p : ℕ → Bool) (at front next : At) (n : ℕ) → n ≡ prefix_len p at.text.now → front.text.now ≡ take n at.text.now → front.place ≡ at.place → Past at (take n at.text.now) next → Splits p at front next
splits p at front next n e f g h = record {
  run = subst (λ a. Run p at.text.now a next.text.now) (sym f) (taken p at.text.now n e next.text.now h.is);
  here = g;
  place = h.place ∙ ap (steps at.place) (sym f);
}

pub is_name : (at front next : At) → Splits is_word at front next → at_front is_letter at.text.now ≡ true → IsName front.text.now
is_name at front next s e = run_name at.text.now front.text.now next.text.now s.run.is s.run.passes s.run.stops e

-- ---- words

pub past_word : (at next : At) (w : Text) → begins w at.text.now ≡ true → Past at (take (length w) at.text.now) next → Past at w next
past_word at next w e h =
    let r : (r : Text) × (at.text.now ≡ w ++ r) = begins_is w at.text.now e in
    let front : take (length w) at.text.now ≡ w = ap (take (length w)) r.1 ∙ take-append_seam w r.0 in
    subst (λ a. Past at a next) front h

pub no_keyword : (w t r z : Text) → t ≡ w ++ z → at_front is_word z ≡ true → t ≡ w ++ r → at_front is_word r ≡ false → ⊥
no_keyword w t r z e h f i = not_both (at_front is_word z) h (ap (at_front is_word) (same_front w w z r (sym e ∙ f) refl).1 ∙ i)

pub no_word : (w t r : Text) → begins w t ≡ false → t ≡ w ++ r → ⊥
no_word w t r e f = not_both (begins w t) (ap (begins w) f ∙ begins_self w r) e
