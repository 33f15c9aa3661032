-- Texts that are cut at a byte of ASCII.
use Rattle.std.proofs.Common.{◌≡◌, ℕ, ◌+◌, ◌<◌, [], ◌∷◌, ◌++◌, length, drop, sym, ◌∙◌, ap, subst, append_assoc, arith, length-append}
use Rattle.std.proofs.Math.Seq.{get_or-append_seam, take-append_seam, drop-append_seam}
use Rattle.std.specs.Str.{IsUtf8}
use Rattle.std.proofs.lemmas.Str.{IsUtf8-take, IsUtf8-drop, IsCharBoundary-after_ascii, IsCharBoundary-before_ascii}
use Rattle.ng_tokens.specs.Lexis.{Text}

-- what comes before a byte of ASCII is text
pub utf8_before : (x : Text) (c : ℕ) (r : Text) → c < 128 → IsUtf8 (x ++ (c ∷ r)) → IsUtf8 x
utf8_before x c r h u = subst IsUtf8 (take-append_seam x (c ∷ r)) (IsUtf8-take (x ++ (c ∷ r)) (length x) u (IsCharBoundary-before_ascii (x ++ (c ∷ r)) (length x) within (subst (λ d. d < 128) (sym (get_or-append_seam x c r 0)) h)))
  where
    within : length x < length (x ++ (c ∷ r))
    within = omega (arith, length-append x (c ∷ r))

-- what comes after a byte of ASCII is text
pub utf8_after : (x : Text) (c : ℕ) (r : Text) → c < 128 → IsUtf8 (x ++ (c ∷ r)) → IsUtf8 r
utf8_after x c r h u = subst IsUtf8 past (IsUtf8-drop (x ++ (c ∷ r)) (length x + 1) u (IsCharBoundary-after_ascii (x ++ (c ∷ r)) (length x) u within (subst (λ d. d < 128) (sym (get_or-append_seam x c r 0)) h)))
  where
    within : length x < length (x ++ (c ∷ r))
    within = omega (arith, length-append x (c ∷ r))

    size : length (x ++ (c ∷ [])) ≡ length x + 1
    size = omega (arith, length-append x (c ∷ []))

    past : drop (length x + 1) (x ++ (c ∷ r)) ≡ r
    past = ap (λ n. drop n (x ++ (c ∷ r))) (sym size) ∙ ap (drop (length (x ++ (c ∷ [])))) (sym (append_assoc x (c ∷ []) r)) ∙ drop-append_seam (x ++ (c ∷ [])) r
