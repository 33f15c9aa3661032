use Rattle.ng_quiet.specs.Quiet.{own_call}
use Rattle.ng_quiet.proofs.OneMore.{joined_more}
use Rattle.ng_quiet.proofs.fields.own_calls.Goals as goal

pub loop-usage-preserved : goal.loop-usage-preserved
loop-usage-preserved c = joined_more (λ u. own_call u.act u.meaning) c.args.usages.now c.loop-usage.usage-index c.usage-item.result c.loop-usage.row.items c.push_call.new.row.items
    c.loop-usage-test.true c.usage-item.is c.loop-usage.invariant c.in_ok-push_call.ensures
