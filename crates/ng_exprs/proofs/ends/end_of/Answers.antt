use Rattle.ng_exprs.proofs.Closing.{ends_at}
use Rattle.ng_exprs.proofs.ends.end_of.Goals as goal

pub returns-clause-ends : goal.returns-clause-ends
returns-clause-ends c = ends_at _ _ c.scan_end.ensures
