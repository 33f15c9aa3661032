-- The selector that a text literal writes.
use Rattle.std.specs.Prelude.{◌≡◌, [], Option, Some, None, Ok, Err}
use Rattle.ng_ast.specs.declared.Place.{Place}
use Rattle.ng_ast.specs.declared.Selector.{Selector}
use Rattle.ng_tokens.specs.Lexis.{Text}
use Rattle.ng_selectors.specs.Grammar.{ReadsSelector}
use Rattle.ng_selectors.specs.Parse.{selector_of}
use Rattle.ng_phrases.specs.Parser.{Stop, Parser}

-- nothing, for the selector that the literal's text is
abbrev pub ReadsWritten : Text → Place → Text → Text → Selector → Type 0
ReadsWritten t p x z found = (x ≡ []) × ReadsSelector t found

abbrev pub written_by : {Q : Type 0} → Option Selector → Parser Q Selector
written_by (Some found) = λ p z. Ok (found, p, z)
written_by None = λ p z. Err Stop.Syntax

unfoldable pub parse_written : {Q : Type 0} → Text → Parser Q Selector
parse_written t = written_by (selector_of t)
