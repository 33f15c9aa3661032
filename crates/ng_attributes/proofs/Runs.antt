-- Runs of bytes of one class end between characters.
use Rattle.std.proofs.Common.{◌≡◌, ℕ, ◌<◌, [], ◌∷◌, ◌++◌, length, take, drop, sym, ◌∙◌, ap, subst, arith}
use Rattle.std.proofs.Math.Seq.{take-append_seam, drop-append_seam}
use Rattle.std.specs.Prelude.{Bool, true, false}
use Rattle.std.specs.List.{prefix_len}
use Rattle.std.specs.Str.{IsUtf8, IsCharBoundary}
use Rattle.std.proofs.lemmas.Str.{IsCharBoundary-at_seam, IsCharBoundary-before_ascii, IsCharBoundary-end}
use Rattle.std.proofs.Math.Seq.{get_or-append_seam}
use Rattle.std.proofs.Common.{length-append}
use Rattle.std.proofs.lemmas.List.{append-nil}
use Rattle.ng_tokens.specs.Lexis.{Text, is_blank, is_word, all}
use Rattle.ng_tokens.proofs.Utf8.{after_ascii}
use Rattle.ng_lex.specs.Words.{at_front}
use Rattle.ng_lex.specs.Names.{in_attribute, in_part}
use Rattle.ng_lex.specs.Attributes.{differs, in_bare, in_tag}
use Rattle.ng_lex.proofs.Texts.{Splits, run_split}
use Rattle.ng_attributes.specs.declared.classes.Class.{Class}
use Rattle.ng_attributes.specs.declared.classes.Class.TheVariants as c
use Rattle.ng_attributes.specs.Runs.{passes, Run}
use Rattle.ng_attributes.proofs.Texts.{both_true}

-- each byte of the class is one of ASCII
abbrev IsNarrow : (ℕ → Bool) → Type 0
IsNarrow p = (b : ℕ) → p b ≡ true → b < 128

-- each byte that isn't of the class is one of ASCII
abbrev IsWide : (ℕ → Bool) → Type 0
IsWide p = (b : ℕ) → p b ≡ false → b < 128

after_narrow : (p : ℕ → Bool) → IsNarrow p → (a z : Text) → all p a ≡ true → IsUtf8 (a ++ z) → IsUtf8 z
after_narrow p law [] z h u = u
after_narrow p law (b ∷ a) z h u = let g = both_true (p b) (all p a) h in after_narrow p law a z g.1 (after_ascii b (a ++ z) (law b g.0) u)

narrow_boundary : (p : ℕ → Bool) → IsNarrow p → (t a z : Text) → t ≡ a ++ z → all p a ≡ true → IsUtf8 t → IsCharBoundary t (length a)
narrow_boundary p law t a z e h u = IsCharBoundary-at_seam t a z e (after_narrow p law a z h (subst IsUtf8 e u))

wide_boundary : (p : ℕ → Bool) → IsWide p → (t a z : Text) → t ≡ a ++ z → at_front p z ≡ false → IsCharBoundary t (length a)
wide_boundary p law t a [] e h = subst (λ k. IsCharBoundary k (length a)) (sym (e ∙ append-nil a)) (IsCharBoundary-end a)
wide_boundary p law t a (b ∷ z) e h =
    subst (λ k. IsCharBoundary k (length a)) (sym e)
    (IsCharBoundary-before_ascii (a ++ (b ∷ z)) (length a) (omega (arith, length-append a (b ∷ z))) (subst (λ d. d < 128) (sym (get_or-append_seam a b z 0)) (law b h)))

narrow_blank : IsNarrow is_blank
narrow_blank b e = grind arith

narrow_tag : IsNarrow in_tag
narrow_tag b e = grind arith

narrow_word : IsNarrow is_word
narrow_word b e = grind arith

narrow_part : IsNarrow in_part
narrow_part b e = grind arith

wide_attribute : IsWide in_attribute
wide_attribute b e = grind arith

wide_bare : IsWide in_bare
wide_bare b e = grind arith

wide_double : IsWide (differs 34)
wide_double b e = grind arith

wide_single : IsWide (differs 39)
wide_single b e = grind arith

seam_boundary : (k : Class) (t a z : Text) → t ≡ a ++ z → all (passes k) a ≡ true → at_front (passes k) z ≡ false → IsUtf8 t → IsCharBoundary t (length a)
seam_boundary c.Blank t a z e h i u = narrow_boundary is_blank narrow_blank t a z e h u
seam_boundary c.Tag t a z e h i u = narrow_boundary in_tag narrow_tag t a z e h u
seam_boundary c.Word t a z e h i u = narrow_boundary is_word narrow_word t a z e h u
seam_boundary c.Part t a z e h i u = narrow_boundary in_part narrow_part t a z e h u
seam_boundary c.Attribute t a z e h i u = wide_boundary in_attribute wide_attribute t a z e i
seam_boundary c.Bare t a z e h i u = wide_boundary in_bare wide_bare t a z e i
seam_boundary c.NotDouble t a z e h i u = wide_boundary (differs 34) wide_double t a z e i
seam_boundary c.NotSingle t a z e h i u = wide_boundary (differs 39) wide_single t a z e i

pub run_boundary : (k : Class) (t : Text) (n : ℕ) → n ≡ prefix_len (passes k) t → IsUtf8 t → IsCharBoundary t n
run_boundary k t n e u =
    let s : Splits (passes k) t (prefix_len (passes k) t) = run_split (passes k) t in
    subst (λ m. IsCharBoundary t m) (s.long ∙ sym e) (seam_boundary k t s.run s.rest s.is s.passes s.stops u)

-- the run at the front is cut off
pub run_cut : (p : ℕ → Bool) (t a z : Text) (n : ℕ) → n ≡ prefix_len p t → a ≡ take n t → z ≡ drop n t → Run p t a z
run_cut p t a z n e f g =
    let s : Splits p t (prefix_len p t) = run_split p t in
    let long : n ≡ length s.run = e ∙ sym s.long in
    let front : a ≡ s.run = f ∙ ap (λ m. take m t) long ∙ ap (take (length s.run)) s.is ∙ take-append_seam s.run s.rest in
    let back : z ≡ s.rest = g ∙ ap (λ m. drop m t) long ∙ ap (drop (length s.run)) s.is ∙ drop-append_seam s.run s.rest in
    record {
      is = s.is ∙ ap (λ w. w ++ s.rest) (sym front) ∙ ap (λ w. a ++ w) (sym back);
      passes = subst (λ w. all p w ≡ true) (sym front) s.passes;
      stops = subst (λ w. at_front p w ≡ false) (sym back) s.stops;
    }
