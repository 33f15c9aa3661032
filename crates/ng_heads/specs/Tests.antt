-- The tests of `@if`, with their names.
use Rattle.std.specs.Prelude.{◌≡◌, false, [], ◌∷◌, ◌++◌, Option, Some, None, Result, Ok, Err}
use Rattle.ng_ast.specs.declared.Expr.{Expr}
use Rattle.ng_tokens.specs.Lexis.{Text}
use Rattle.ng_exprs.specs.Reading.{ReadsExpr}
use Rattle.ng_lex.specs.Heads.{IsAs, ReadsTest, OverFront}
use Rattle.ng_heads.specs.declared.at.At.{At}
use Rattle.ng_heads.specs.Answers.{Reads}
use Rattle.ng_heads.specs.declared.halt.Stop.{Stop}
use Rattle.ng_heads.specs.declared.halt.Stop.TheVariants as stop

-- the text is `;`, `as`, the name and `)`
pub record Named (t n : Text) : Type 0 where
  pub u : Text
  pub is : t ≡ 59 ∷ (u ++ (41 ∷ []))
  pub named : IsAs u n

abbrev pub NotNamed : Text → Type 0
NotNamed t = (n : Text) → Named t n → ⊥

-- what stands behind the test: the `)` at the end, or a name before it
abbrev pub AnswersName : At → Result (Option Text) Stop → Type 0
AnswersName at (Ok None) = at.text.now ≡ 41 ∷ []
AnswersName at (Ok (Some n)) = Named at.text.now n
AnswersName at (Err (stop.Syntax q)) = (at.text.now ≡ 41 ∷ [] → ⊥) × NotNamed at.text.now
AnswersName at (Err stop.Limit) = ⊥
AnswersName at (Err stop.Memory) = Unit {0}

-- what the brackets of an `@if` hold, with the one that closes them
abbrev pub AnswersTest : At → Result (Expr × Option Text) Stop → Type 0
AnswersTest at r = (x : Text) → at.text.now ≡ x ++ (41 ∷ []) → Reads (λ (v : Expr × Option Text). ReadsTest at.place x v.0 v.1) (λ z. OverFront at.place (at.text.now ++ z)) r

-- the same where they hold an expression alone
abbrev pub AnswersAlone : At → Result Expr Stop → Type 0
AnswersAlone at r = (x : Text) → at.text.now ≡ x ++ (41 ∷ []) → Reads (ReadsExpr false at.place x) (λ z. OverFront at.place (at.text.now ++ z)) r
