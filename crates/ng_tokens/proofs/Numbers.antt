-- The value of digits, cut on the way, is the value cut at the end.
use Rattle.std.proofs.Common.{◌≡◌, ℕ, suc, ◌+◌, ◌-◌, ◌*◌, ◌<◌, [], ◌∷◌, min, length, drop, get_or, sym, ◌∙◌, ap, add-one, arith}
use Rattle.std.proofs.Math.Seq.{drop-cons}
use Rattle.ng_tokens.specs.Lexis.{Text, value_from}

cut_step : (m c d : ℕ) → min (10 * min m c + d) c ≡ min (10 * m + d) c
cut_step m c d = omega arith

cut : (z : Text) (m c : ℕ) → min (value_from (min m c) z) c ≡ min (value_from m z) c
cut [] m c = omega arith
cut (b ∷ z) m c =
    sym (cut z (10 * min m c + (b - 48)) c) ∙ ap (λ n. min (value_from n z) c) (cut_step m c (b - 48)) ∙ cut z (10 * m + (b - 48)) c

pub step_on : (z : Text) (i n m c : ℕ) → i < length z → m ≡ min (10 * n + (get_or z i 0 - 48)) c → min (value_from m (drop (i + 1) z)) c ≡ min (value_from n (drop i z)) c
step_on z i n m c h e = rw (add-one, drop-cons z i 0 h, e) (cut (drop (suc i) z) (10 * n + (get_or z i 0 - 48)) c)
