use Rattle.std.proofs.Common.{sym}
use Rattle.ng_exprs.proofs.Closing.{inv_start, inv_end, is_end}
use Rattle.ng_exprs.proofs.ends.scan_end.Goals as goal

pub loop-rest-init : goal.loop-rest-init
loop-rest-init c = rw c.as_bytes-rest.ensures.value (inv_start c.args.text.now)

pub returns : goal.returns
returns c = inv_end c.args.text.now c.loop-rest.at c.loop-rest.depth c.loop-rest.rest.now c.loop-rest.invariant (is_end _ (sym c.loop-rest-test.ensures))
