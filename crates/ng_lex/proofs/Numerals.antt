-- The value of digits, cut on the way, says the same character.
use Rattle.std.proofs.Common.{◌≡◌, ℕ, suc, ◌+◌, ◌*◌, ◌<◌, ◌≤◌, [], ◌∷◌, min, length, drop, get_or, refl, sym, ◌∙◌, ap, add-one, arith}
use Rattle.std.proofs.Math.Seq.{drop-cons}
use Rattle.std.specs.Prelude.{Bool, true, false, ◌&&◌, ◌||◌, nat_le, None}
use Rattle.ng_tokens.specs.Lexis.{Text, is_digit, all, value_from}
use Rattle.ng_lex.specs.Letters.{scalar, is_hex, hex_digit, hex_from, decimal, hexadecimal}

cut_step : (m c d : ℕ) → min (16 * min m c + d) c ≡ min (16 * m + d) c
cut_step m c d = omega arith

hex_cut : (z : Text) (m c : ℕ) → min (hex_from (min m c) z) c ≡ min (hex_from m z) c
hex_cut [] m c = omega arith
hex_cut (b ∷ z) m c = sym (hex_cut z (16 * min m c + hex_digit b) c) ∙ ap (λ n. min (hex_from n z) c) (cut_step m c (hex_digit b)) ∙ hex_cut z (16 * m + hex_digit b) c

pub hex_on : (z : Text) (i n m c : ℕ) → i < length z → m ≡ min (16 * n + hex_digit (get_or z i 0)) c → min (hex_from m (drop (i + 1) z)) c ≡ min (hex_from n (drop i z)) c
hex_on z i n m c h e = rw (add-one, drop-cons z i 0 h, e) (hex_cut (drop (suc i) z) (16 * n + hex_digit (get_or z i 0)) c)

too_large : (n : ℕ) → 1114112 ≤ n → ((nat_le 1 n && nat_le n 55295) || (nat_le 57344 n && nat_le n 1114111)) ≡ false
too_large n h = grind arith

none_above : (n : ℕ) → 1114112 ≤ n → scalar n ≡ None
none_above n h = rw (too_large n h) refl

-- a number that is cut above every character is none of them
scalar_cut : (n : ℕ) → scalar (min n 1114112) ≡ scalar n
scalar_cut n = by (nat_le n 1114112) refl
  where
    by : (v : Bool) → nat_le n 1114112 ≡ v → scalar (min n 1114112) ≡ scalar n
    by true e = let same : min n 1114112 ≡ n = grind arith in ap scalar same
    by false e = let same : min n 1114112 ≡ 1114112 = grind arith in let above : 1114112 ≤ n = grind arith in ap scalar same ∙ sym (none_above n above)

pub decimal_is : (z : Text) (n : ℕ) → 1 ≤ length z → all is_digit z ≡ true → n ≡ min (value_from 0 z) 1114112 → scalar n ≡ decimal z
decimal_is [] n h e f = absurd (omega arith)
decimal_is (b ∷ z) n h e f = ap scalar f ∙ scalar_cut (value_from 0 (b ∷ z)) ∙ rw e refl

pub hexadecimal_is : (z : Text) (n : ℕ) → 1 ≤ length z → all is_hex z ≡ true → n ≡ min (hex_from 0 z) 1114112 → scalar n ≡ hexadecimal z
hexadecimal_is [] n h e f = absurd (omega arith)
hexadecimal_is (b ∷ z) n h e f = ap scalar f ∙ scalar_cut (hex_from 0 (b ∷ z)) ∙ rw e refl
