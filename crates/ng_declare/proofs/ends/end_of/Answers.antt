use Rattle.std.proofs.Common.{sym}
use Rattle.ng_declare.proofs.EndSteps.{left_end, no_text}
use Rattle.ng_declare.proofs.ends.end_of.Goals as goal

pub returns : goal.returns
returns c = left_end c.args.ending c.args.text.now c.loop-rest.at c.loop-rest.depth c.loop-rest.rest.now c.loop-rest.invariant.left (no_text c.loop-rest.rest.now (sym c.loop-rest-test.ensures))
