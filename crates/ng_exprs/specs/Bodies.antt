-- The readings of a body's text, in which comments may stand.
use Rattle.std.specs.Prelude.{Bool, true, false, List, Result}
use Rattle.ng_ast.specs.declared.Place.{Place}
use Rattle.ng_ast.specs.declared.Stmt.{Stmt}
use Rattle.ng_ast.specs.declared.refusals.ReadError.{ReadError}
use Rattle.ng_tokens.specs.Lexis.{Text}
use Rattle.ng_exprs.specs.declared.halt.Halt.{Halt}
use Rattle.ng_exprs.specs.Grammar.{Tokens}
use Rattle.ng_exprs.specs.Statements.{ReadsStmts}
use Rattle.ng_exprs.specs.Awaits.{AwaitsBody}
use Rattle.ng_exprs.specs.Phrases.{ReadsPhrase, OverPhrase, NoPhrase, AnswersTokens, AnswersPhrase}

-- the tokens are the statements of a body, in which no bracket is open at first
abbrev pub ReadsWhole : Bool → Tokens → List Stmt → Type 0
ReadsWhole l = ReadsStmts l 0

-- the text, whose first byte stands at the place, is this body; within the limits, if the truth value says so
abbrev pub ReadsBody : Bool → Place → Text → List Stmt → Type 0
ReadsBody l = ReadsPhrase true (ReadsWhole l)

-- a front of the text is a body that is begun, and passes a limit
abbrev pub OverBody : Place → Text → Type 0
OverBody = OverPhrase true (ReadsWhole false) (AwaitsBody 0)

-- the text is no body, or none within the limits
abbrev pub NoBody : Bool → Place → Text → Type 0
NoBody l = NoPhrase true (ReadsWhole l)

-- ---- what the readers of tokens and of a text give

abbrev pub AnswersStatements : Tokens → Result (List Stmt) Halt → Type 0
AnswersStatements = AnswersTokens ReadsWhole (AwaitsBody 0)

abbrev pub AnswersBody : Place → Text → Result (List Stmt) ReadError → Type 0
AnswersBody = AnswersPhrase true ReadsWhole (AwaitsBody 0)
