use Rattle.ng_exprs.proofs.LineSteps.{last_by}
use Rattle.ng_exprs.proofs.lines.is_last.Goals as goal

pub returns : goal.returns
returns c = rw c.len.ensures (last_by _)
