use Rattle.std.proofs.Common.{◌≡◌, drop}
use Rattle.std.specs.Prelude.{false}
use Rattle.ng_tokens.specs.Lexis.{unquote, value_of}
use Rattle.ng_tokens.proofs.Loops.{kept}
use Rattle.ng_tokens.proofs.lexer.unquoted.Given as goal

abbrev pub invariant-loop-b : goal.invariant-loop-b
invariant-loop-b l = kept l.found.items (unquote l.quote l.escaped (drop l.b-index l.z)) ≡ value_of (unquote l.quote false l.z)
