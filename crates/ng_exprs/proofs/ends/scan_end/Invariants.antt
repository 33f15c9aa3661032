use Rattle.std.proofs.Common.{length}
use Rattle.ng_exprs.proofs.Closing.{Inv}
use Rattle.ng_exprs.proofs.ends.scan_end.Given as goal

abbrev pub invariant-loop-rest : goal.invariant-loop-rest
invariant-loop-rest l = Inv l.text l.at l.depth l.rest

abbrev pub decreases-loop-rest : goal.decreases-loop-rest
decreases-loop-rest l = length l.rest
