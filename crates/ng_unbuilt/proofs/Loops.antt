-- Steps of the loop over the pieces of a text.
use Rattle.std.proofs.Common.{◌≡◌, ℕ, ◌+◌, ◌<◌, ◌≤◌, List, ◌∷◌, length, drop, get_or, sym, ◌∙◌, ap, arith}
use Rattle.std.specs.Prelude.{true, false, nat_le}
use Rattle.std.proofs.lemmas.List.{at_drop_more, at_drop_all}
use Rattle.std.proofs.lemmas.Bool.Decides.{nat_tests}
use Rattle.ng_ast.specs.declared.Piece.{Piece}
use Rattle.ng_semantics.specs.First.{bytes_in, piece_bytes}

-- one piece more
pub short_more : (pieces : List Piece) (i total len : ℕ) (p : Piece) → i < length pieces → p ≡ get_or pieces i p → len ≡ piece_bytes p → total + bytes_in (drop i pieces) ≡ (total + len) + bytes_in (drop (i + 1) pieces)
short_more pieces i total len p h e f =
    let one : bytes_in (drop i pieces) ≡ piece_bytes p + bytes_in (drop (i + 1) pieces) = at_drop_more bytes_in pieces i p h ∙ ap (λ x. bytes_in (x ∷ drop (i + 1) pieces)) (sym e) in omega (arith, one, f)

-- a piece that is too long
pub long : (pieces : List Piece) (i total len : ℕ) (p : Piece) → i < length pieces → p ≡ get_or pieces i p → len ≡ piece_bytes p → 65535 < total + len → nat_le (total + bytes_in (drop i pieces)) 65535 ≡ false
long pieces i total len p h e f over = let k = short_more pieces i total len p h e f in by (total + bytes_in (drop i pieces)) (omega (arith, k))
  where
    by : (n : ℕ) → 65535 < n → nat_le n 65535 ≡ false
    by n m = grind (arith, nat_tests)

-- no piece more
pub short_end : (pieces : List Piece) (i total : ℕ) → length pieces ≤ i → total ≤ 65535 → nat_le (total + bytes_in (drop i pieces)) 65535 ≡ true
short_end pieces i total h le = let e : bytes_in (drop i pieces) ≡ 0 = at_drop_all bytes_in pieces i h in by (total + bytes_in (drop i pieces)) (omega (arith, e))
  where
    by : (n : ℕ) → n ≤ 65535 → nat_le n 65535 ≡ true
    by n m = grind (arith, nat_tests)
