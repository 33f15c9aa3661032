-- The readings of a listener's text.
use Rattle.std.specs.Prelude.{Bool, false, List, Result}
use Rattle.ng_ast.specs.declared.Place.{Place}
use Rattle.ng_ast.specs.declared.Stmt.{Stmt}
use Rattle.ng_ast.specs.declared.refusals.ReadError.{ReadError}
use Rattle.ng_tokens.specs.Lexis.{Text}
use Rattle.ng_exprs.specs.declared.halt.Halt.{Halt}
use Rattle.ng_exprs.specs.Grammar.{Tokens}
use Rattle.ng_exprs.specs.Statements.{ReadsListener}
use Rattle.ng_exprs.specs.Awaits.{AwaitsListener}
use Rattle.ng_exprs.specs.Phrases.{ReadsPhrase, OverPhrase, NoPhrase, AnswersTokens, AnswersPhrase}

-- the text, whose first byte stands at the place, is this listener; within the limits, if the truth value says so
abbrev pub ReadsLines : Bool → Place → Text → List Stmt → Type 0
ReadsLines l = ReadsPhrase false (ReadsListener l)

-- a front of the text is a listener that is begun, and passes a limit
abbrev pub OverLines : Place → Text → Type 0
OverLines = OverPhrase false (ReadsListener false) AwaitsListener

-- the text is no listener, or none within the limits
abbrev pub NoLines : Bool → Place → Text → Type 0
NoLines l = NoPhrase false (ReadsListener l)

-- ---- what the readers of tokens and of a text give

abbrev pub AnswersListener : Tokens → Result (List Stmt) Halt → Type 0
AnswersListener = AnswersTokens ReadsListener AwaitsListener

abbrev pub AnswersLines : Place → Text → Result (List Stmt) ReadError → Type 0
AnswersLines = AnswersPhrase false ReadsListener AwaitsListener
