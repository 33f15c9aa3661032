-- Letters with their text, cut in two.
use Rattle.std.proofs.Common.{◌≡◌, ℕ, ◌≤◌, ◌++◌, length, take, drop, sym, ◌∙◌, ap, subst, arith, length-append}
use Rattle.std.proofs.lemmas.List.{take-append-drop, length-take-le, take-map, drop-map}
use Rattle.std.specs.Prelude.{string_bytes}
use Rattle.std.specs.Str.{IsUtf8, IsCharBoundary}
use Rattle.std.proofs.lemmas.Str.{IsUtf8-take, IsUtf8-drop}
use Rattle.ng_ast.specs.declared.Place.{Place}
use Rattle.ng_tokens.specs.Lexis.{Text}
use Rattle.ng_lex.specs.declared.letters.PlacedLetter.{PlacedLetter}
use Rattle.ng_lex.specs.Letters.{Letters, bytes, Decodes}
use Rattle.ng_attributes.specs.declared.spelled.Spelled.{Spelled}
use Rattle.ng_attributes.specs.declared.spelled.Decoded.{Decoded}
use Rattle.ng_attributes.specs.Places.{Fits}
use Rattle.ng_attributes.specs.Spelling.{AreNear, IsSpelled, IsDecoded, Splits}
use Rattle.ng_attributes.proofs.Lengths.{length_bytes, decodes_short, decodes_near, near_less}

pub split_size : (v : Spelled) (n : ℕ) → IsSpelled v → n ≤ length v.text.now → n ≤ length v.letters.now
split_size v n s h = omega (arith, ap length s.says, length_bytes v.letters.now)

pub split_of : (v first second : Spelled) (n : ℕ) → IsSpelled v → IsCharBoundary v.text.now n → first.letters.now ≡ take n v.letters.now → second.letters.now ≡ drop n v.letters.now → first.text.now ≡ take n v.text.now
    → second.text.now ≡ drop n v.text.now → Splits v n first second
split_of v first second n s cut a b x y =
    let h : n ≤ length v.text.now = cut.0 in
    let near = near_less (take n v.letters.now) (drop n v.letters.now) (subst AreNear (sym (take-append-drop n v.letters.now)) s.near) in
    let whole : v.text.now ≡ first.text.now ++ second.text.now = sym (take-append-drop n v.text.now) ∙ ap (λ k. k ++ drop n v.text.now) (sym x) ∙ ap (λ k. first.text.now ++ k) (sym y) in
    record {
      letters = sym (take-append-drop n v.letters.now) ∙ ap (λ k. k ++ drop n v.letters.now) (sym a) ∙ ap (λ k. first.letters.now ++ k) (sym b);
      text = whole;
      long = ap length x ∙ length-take-le n v.text.now h;
      first_spelled = record {
        says = x ∙ ap (take n) s.says ∙ take-map (λ (l : PlacedLetter). l.letter.byte) n v.letters.now ∙ sym (ap bytes a);
        utf8 = subst IsUtf8 (sym x) (IsUtf8-take v.text.now n s.utf8 cut);
        size = omega (arith, ap length whole, length-append first.text.now second.text.now, s.size);
        near = subst AreNear (sym a) near.0;
      };
      second_spelled = record {
        says = y ∙ ap (drop n) s.says ∙ drop-map (λ (l : PlacedLetter). l.letter.byte) n v.letters.now ∙ sym (ap bytes b);
        utf8 = subst IsUtf8 (sym y) (IsUtf8-drop v.text.now n s.utf8 cut);
        size = omega (arith, ap length whole, length-append first.text.now second.text.now, s.size);
        near = subst AreNear (sym b) near.1;
      };
    }

pub decoded_of : (p : Place) (t : Text) (d : Decoded) → Decodes p t d.letters.items → Fits p t → IsUtf8 (bytes d.letters.items) → string_bytes d.text ≡ bytes d.letters.items → Decodes p t d.letters.items × IsDecoded d × Fits p (string_bytes d.text)
decoded_of p t d h f utf8 e =
    let short : length (string_bytes d.text) ≤ length t = omega (arith, ap length e, length_bytes d.letters.items, decodes_short h) in (
      h,
      record { says = e; utf8 = subst IsUtf8 (sym e) utf8; size = omega (arith, short, f.size); near = decodes_near h f },
      record { size = omega (arith, short, f.size); line = omega (arith, short, f.line); column = omega (arith, short, f.column); byte = omega (arith, short, f.byte) },
    )
