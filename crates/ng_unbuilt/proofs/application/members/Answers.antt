use Rattle.ng_unbuilt.specs.Forms.{member_forms}
use Rattle.ng_unbuilt.proofs.Items.{least_next}
use Rattle.ng_unbuilt.proofs.application.members.Goals as goal

pub loop-member-preserved : goal.loop-member-preserved
loop-member-preserved c = least_next member_forms c.args.members.now c.loop-member.member-index c.member-item.result c.args.best c.loop-member.best c.offer-best.result c.loop-member-test.true c.member-item.is c.loop-member.invariant
    (rw c.is_whole.ensures at c.offer-best.ensures)
