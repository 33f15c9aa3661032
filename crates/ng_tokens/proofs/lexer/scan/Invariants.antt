use Rattle.std.proofs.Common.{length}
use Rattle.ng_tokens.specs.Scan.{scan}
use Rattle.ng_tokens.proofs.Scanning.{Inv}
use Rattle.ng_tokens.proofs.lexer.scan.Given as goal

abbrev pub invariant-loop-rest : goal.invariant-loop-rest
invariant-loop-rest l = Inv (scan l.fn.comments 0 l.fn.base l.fn.text) l.found.items l.fn.comments l.place l.rest

abbrev pub decreases-loop-rest : goal.decreases-loop-rest
decreases-loop-rest l = length l.rest
