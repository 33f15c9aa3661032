-- Texts that aren't too long, and what is cut off them.
use Rattle.std.proofs.Common.{◌≡◌, ◌+◌, ◌<◌, ◌≤◌, ◌^◌, ◌++◌, length, ap, arith, length-append}
use Rattle.ng_ast.specs.declared.Place.{Place}
use Rattle.ng_tokens.specs.Lexis.{Text}
use Rattle.ng_attributes.specs.Places.{Fits}

-- the numbers of a place that stands so many bytes later, at most
abbrev pub Later : Place → Place → Text → Type 0
Later q p a = (q.line ≤ p.line + length a) × (q.column ≤ p.column + length a) × (q.byte ≤ p.byte + length a)

abbrev pub Room : Place → Text → Type 0
Room p a = (p.line + length a < 2 ^ 31) × (p.column + length a < 2 ^ 31) × (p.byte + length a < 2 ^ 31)

pub fits_room : (p : Place) (t a z : Text) → Fits p t → t ≡ a ++ z → Room p a
fits_room p t a z f e = let n = ap length e in (omega (arith, f.line, n, length-append a z), omega (arith, f.column, n, length-append a z), omega (arith, f.byte, n, length-append a z))

-- what is left, where its first byte stands
pub fits_rest : (p q : Place) (t a z : Text) → Fits p t → t ≡ a ++ z → Later q p a → Fits q z
fits_rest p q t a z f e b = let n = ap length e in record {
  size = omega (arith, f.size, n, length-append a z);
  line = omega (arith, f.line, n, length-append a z, b.0);
  column = omega (arith, f.column, n, length-append a z, b.1);
  byte = omega (arith, f.byte, n, length-append a z, b.2);
}

-- a front
pub fits_front : (p : Place) (t a z : Text) → Fits p t → t ≡ a ++ z → Fits p a
fits_front p t a z f e = let n = ap length e in record {
  size = omega (arith, f.size, n, length-append a z);
  line = omega (arith, f.line, n, length-append a z);
  column = omega (arith, f.column, n, length-append a z);
  byte = omega (arith, f.byte, n, length-append a z);
}
