-- `@let`, from left to right.
use Rattle.std.specs.Prelude.{◌≡◌, ◌++◌}
use Rattle.ng_tokens.specs.Lexis.{Text}
use Rattle.ng_lex.specs.Heads.{IsLetFront}
use Rattle.ng_heads.specs.declared.at.At.{At}
use Rattle.ng_heads.specs.Steps.{Past}

-- all of a `@let` before its expression stands at the front
pub record AtLetFront (at name next : At) : Type 0 where
  pub x : Text
  pub front : IsLetFront x name.text.now
  pub past : Past at x next

abbrev pub NoLetFront : Text → Type 0
NoLetFront t = (x n z : Text) → t ≡ x ++ z → IsLetFront x n → ⊥
