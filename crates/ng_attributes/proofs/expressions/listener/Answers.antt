use Rattle.ng_exprs.proofs.LinesPublic.{unlimited_lines}
use Rattle.ng_attributes.proofs.expressions.listener.Goals as goal

pub returns-in-Ok : goal.returns-in-Ok
returns-in-Ok c = let r = c.in-Ok.ensures.reads in ((r.0, r.1, unlimited_lines r.0 _ r.2), λ over. c.in-Ok.ensures.within over.0)
