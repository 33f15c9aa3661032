-- The end of the head of a block.
use Rattle.std.specs.Prelude.{◌≡◌, ℕ, ◌+◌, [], ◌∷◌, ◌++◌, length}
use Rattle.ng_tokens.specs.Lexis.{Text}
use Rattle.ng_lex.specs.Words.{IsBlank}

-- The text ends with `)`, white space and `{`, and so many bytes stand up to the `)`, with it.
pub record ClosedAt (t : Text) (n : ℕ) : Type 0 where
  pub x : Text
  pub v : Text
  pub blank : IsBlank v
  pub is : t ≡ x ++ (41 ∷ (v ++ (123 ∷ [])))
  pub long : n ≡ length x + 1

abbrev pub NotClosed : Text → Type 0
NotClosed t = (x v : Text) → IsBlank v → t ≡ x ++ (41 ∷ (v ++ (123 ∷ []))) → ⊥
