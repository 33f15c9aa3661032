use Rattle.std.proofs.Common.{length}
use Rattle.ng_lex.specs.Decode.{decode}
use Rattle.ng_lex.proofs.Reading.{Inv}
use Rattle.ng_lex.proofs.entities.read.Given as goal

abbrev pub invariant-loop-rest : goal.invariant-loop-rest
invariant-loop-rest l = Inv (decode 0 l.fn.base l.fn.z) l.found.items l.place l.rest

abbrev pub decreases-loop-rest : goal.decreases-loop-rest
decreases-loop-rest l = length l.rest
