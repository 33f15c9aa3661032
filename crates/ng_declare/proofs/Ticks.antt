-- Where a text in backticks may be cut.
use Rattle.std.proofs.Common.{◌≡◌, ℕ, ◌+◌, ◌<◌, ◌∷◌, ◌++◌, length, drop, get_or, sym, ◌∙◌, ap, arith, length-append}
use Rattle.std.specs.Prelude.{Some}
use Rattle.std.specs.Str.{IsUtf8, IsCharBoundary}
use Rattle.std.proofs.lemmas.Str.{IsCharBoundary-after_ascii, IsCharBoundary-before_ascii, IsUtf8-drop}
use Rattle.std.proofs.lemmas.List.{get_or-drop}
use Rattle.std.proofs.Math.Seq.{drop-append_seam}
use Rattle.ng_tokens.specs.Lexis.{Text}
use Rattle.ng_declare.specs.Quotes.{quote_at}
use Rattle.ng_declare.specs.QuotesLaws.{Quoted, quoted}

-- before and after the text, and after the backtick that ends it
pub quoted_cuts : (t : Text) (n : ℕ) → quote_at t ≡ Some n → IsUtf8 t → IsCharBoundary t 1 × IsCharBoundary (drop 1 t) n × IsCharBoundary (drop 1 t) (n + 1)
quoted_cuts t n e u =
    let q : Quoted t n = quoted t n e in
    let head : get_or t 0 0 ≡ 96 = ap (λ (w : Text). get_or w 0 0) q.2 in
    let some : 0 < length t = omega (arith, ap length q.2) in
    let first : IsCharBoundary t 1 = IsCharBoundary-after_ascii t 0 u some (omega (arith, head)) in
    let rest : drop 1 t ≡ q.0 ++ 96 ∷ q.1 = ap (drop 1) q.2 in
    let there : drop n (drop 1 t) ≡ 96 ∷ q.1 = ap (drop n) rest ∙ ap (λ m. drop m (q.0 ++ 96 ∷ q.1)) q.3 ∙ drop-append_seam q.0 (96 ∷ q.1) in
    let zero : n + 0 ≡ n = omega arith in
    let tick : get_or (drop 1 t) n 0 ≡ 96 = ap (λ k. get_or (drop 1 t) k 0) (sym zero) ∙ sym (get_or-drop n (drop 1 t) 0 0) ∙ ap (λ (w : Text). get_or w 0 0) there in
    let inside : n < length (drop 1 t) = omega (arith, ap length rest, length-append q.0 (96 ∷ q.1), q.3) in
    let v : IsUtf8 (drop 1 t) = IsUtf8-drop t 1 u first in
    (first, IsCharBoundary-before_ascii (drop 1 t) n inside (omega (arith, tick)), IsCharBoundary-after_ascii (drop 1 t) n v inside (omega (arith, tick)))
