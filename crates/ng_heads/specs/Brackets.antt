-- What stands in the brackets of a head.
use Rattle.std.specs.Prelude.{◌≡◌, [], ◌∷◌, ◌++◌}
use Rattle.ng_tokens.specs.Lexis.{Text, steps}
use Rattle.ng_lex.specs.Words.{IsBlank}
use Rattle.ng_heads.specs.declared.at.At.{At}

-- The text, which stands after the word of a head, begins with `(` and ends with `)` and `{`; what stands between is given, with the `)`.
pub record InBrackets (at inside : At) : Type 0 where
  pub w : Text
  pub x : Text
  pub v : Text
  pub before : IsBlank w
  pub behind : IsBlank v
  pub is : at.text.now ≡ w ++ (40 ∷ (x ++ (41 ∷ (v ++ (123 ∷ [])))))
  pub kept : inside.text.now ≡ x ++ (41 ∷ [])
  pub place : inside.place ≡ steps at.place (w ++ (40 ∷ []))

abbrev pub NoBrackets : At → Type 0
NoBrackets at = (w x v : Text) → IsBlank w → IsBlank v → at.text.now ≡ w ++ (40 ∷ (x ++ (41 ∷ (v ++ (123 ∷ []))))) → ⊥
