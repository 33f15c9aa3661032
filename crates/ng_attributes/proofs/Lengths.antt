-- Letters are no more than the bytes that they are written with, and their places are near.
use Rattle.std.proofs.Common.{◌≡◌, ℕ, ◌+◌, ◌≤◌, List, [], ◌∷◌, ◌++◌, length, refl, sym, ap, subst, append_assoc, arith, length-append}
use Rattle.std.proofs.lemmas.List.{length-map}
use Rattle.std.proofs.lemmas.Str.{length-encode, len_utf8_bounds}
use Rattle.std.specs.Prelude.{Bool, true, false, cond, ◌==◌, map, encode_utf8, Some, None}
use Rattle.ng_ast.specs.declared.Place.{Place}
use Rattle.ng_tokens.specs.Lexis.{Text, same_text, step, steps}
use Rattle.ng_exprs.specs.Reading.{IsNear}
use Rattle.ng_lex.specs.declared.letters.PlacedLetter.{PlacedLetter}
use Rattle.ng_lex.specs.Letters.{Letters, bytes, start, decoded, named, characters, numeral, entity_of, Decodes}
use Rattle.ng_attributes.specs.Places.{Fits}
use Rattle.ng_attributes.specs.Spelling.{AreNear}
use Rattle.ng_attributes.proofs.Texts.{same_is}

-- ---- entities

abbrev EachLong : List (Text × ℕ) → Type 0
EachLong [] = Unit {0}
EachLong (e ∷ es) = (2 ≤ length e.0) × EachLong es

none_some : {A : Type 0} {a : A} → None ≡ Some a → ⊥
none_some e = cc

named_long : (es : List (Text × ℕ)) → EachLong es → (a : Text) (c : ℕ) → named es a ≡ Some c → 2 ≤ length a
named_long [] h a c e = absurd (none_some e)
named_long (w ∷ es) h a c e = by (same_text w.0 a) refl e (λ g. named_long es h.1 a c g)
  where
    by : (v : Bool) → same_text w.0 a ≡ v → cond v (Some w.1) (named es a) ≡ Some c → (named es a ≡ Some c → 2 ≤ length a) → 2 ≤ length a
    by true f g go = subst (λ k. 2 ≤ length k) (sym (same_is w.0 a f)) h.0
    by false f g go = go g

characters_long : EachLong characters
unfolding characters
characters_long = (omega arith, (omega arith, (omega arith, (omega arith, (omega arith, (omega arith, tt))))))

entity_long : (a : Text) (c : ℕ) → entity_of a ≡ Some c → 2 ≤ length a
entity_long [] c e = absurd (none_some e)
entity_long (b ∷ []) c e = by (b == 35) e
  where
    by : (v : Bool) → cond v (numeral []) (named characters (b ∷ [])) ≡ Some c → 2 ≤ length (b ∷ [])
    by true f = absurd (none_some f)
    by false f = named_long characters characters_long (b ∷ []) c f
entity_long (b ∷ d ∷ a) c e = omega arith

-- ---- lengths

pub decodes_short : {p : Place} {t : Text} {ls : Letters} → Decodes p t ls → length ls ≤ length t
decodes_short Decodes.nothing = omega arith
decodes_short (Decodes.byte b n h) = omega (arith, decodes_short h)
decodes_short (Decodes.ampersand n h) = omega (arith, decodes_short h)
decodes_short {p = p} (Decodes.entity {c = c} {ls = ls} a z e h) =
    omega (arith, decodes_short h, entity_long a c e, length-append (map (decoded p) (encode_utf8 c)) ls, length-map (encode_utf8 c) (decoded p), length-encode c, len_utf8_bounds c, length-append a (59 ∷ z))

pub length_bytes : (x : Letters) → length (bytes x) ≡ length x
length_bytes x = length-map x (λ (l : PlacedLetter). l.letter.byte)

-- ---- places

step_bounds : (p : Place) (b : ℕ) → ((step p b).line ≤ p.line + 1) × ((step p b).column ≤ p.column + 1) × ((step p b).byte ≤ p.byte + 1)
step_bounds p b = (grind arith, grind arith, grind arith)

pub step_fits : (p : Place) (b : ℕ) (t : Text) → Fits p (b ∷ t) → Fits (step p b) t
step_fits p b t f = let s = step_bounds p b in record {
  size = omega (arith, f.size);
  line = omega (arith, f.line, s.0);
  column = omega (arith, f.column, s.1);
  byte = omega (arith, f.byte, s.2);
}

pub steps_fits : (p : Place) (a z : Text) → Fits p (a ++ z) → Fits (steps p a) z
steps_fits p [] z f = f
steps_fits p (b ∷ a) z f = steps_fits (step p b) a z (step_fits p b (a ++ z) f)

pub fits_near : (p : Place) (t : Text) → Fits p t → IsNear p
fits_near p t f = (omega (arith, f.line), omega (arith, f.column), omega (arith, f.byte))

near_append : (x y : Letters) → AreNear x → AreNear y → AreNear (x ++ y)
near_append [] y h i = i
near_append (l ∷ x) y h i = (h.0, near_append x y h.1 i)

near_decoded : (p : Place) → IsNear p → (t : Text) → AreNear (map (decoded p) t)
near_decoded p h [] = tt
near_decoded p h (b ∷ t) = (h, near_decoded p h t)

pub decodes_near : {p : Place} {t : Text} {ls : Letters} → Decodes p t ls → Fits p t → AreNear ls
decodes_near Decodes.nothing f = tt
decodes_near {p = p} {t = t} (Decodes.byte {z = z} b n h) f = (fits_near p t f, decodes_near h (step_fits p b z f))
decodes_near {p = p} {t = t} (Decodes.ampersand {z = z} n h) f = (fits_near p t f, decodes_near h (step_fits p 38 z f))
decodes_near {p = p} {t = t} (Decodes.entity {c = c} {ls = ls} a z e h) f =
    near_append (map (decoded p) (encode_utf8 c)) ls (near_decoded p (fits_near p t f) (encode_utf8 c))
    (decodes_near h (steps_fits p (38 ∷ (a ++ (59 ∷ []))) z (subst (Fits p) (regroup a z) f)))
  where
    regroup : (a z : Text) → 38 ∷ (a ++ (59 ∷ z)) ≡ (38 ∷ (a ++ (59 ∷ []))) ++ z
    regroup a z = ap (λ k. 38 ∷ k) (sym (append_assoc a (59 ∷ []) z))

pub near_start : (ls : Letters) → AreNear ls → IsNear (start ls)
near_start [] h = (omega arith, omega arith, omega arith)
near_start (l ∷ ls) h = h.0

pub near_less : (x y : Letters) → AreNear (x ++ y) → AreNear x × AreNear y
near_less [] y h = (tt, h)
near_less (l ∷ x) y h = let g = near_less x y h.1 in ((h.0, g.0), g.1)
