use Rattle.std.proofs.Common.{◌≡◌, drop}
use Rattle.ng_tokens.specs.Lexis.{closed}
use Rattle.ng_tokens.proofs.Loops.{later}
use Rattle.ng_tokens.proofs.lexer.closed.Given as goal

abbrev pub invariant-loop-at : goal.invariant-loop-at
invariant-loop-at l = later l.at (closed l.last (drop l.at l.z)) ≡ closed 0 l.z
