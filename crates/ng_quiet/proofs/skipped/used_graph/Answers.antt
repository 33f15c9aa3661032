use Rattle.std.proofs.Common.{map}
use Rattle.ng_quiet.specs.Used.{used_positions}
use Rattle.ng_quiet.proofs.OneMore.{pointed_more}
use Rattle.ng_quiet.proofs.skipped.used_graph.Goals as goal

pub loop-component-preserved : goal.loop-component-preserved
loop-component-preserved c = pointed_more (used_positions (map (λ r. r.now) c.args.components.now)) c.args.components.now c.loop-component.component-index c.component-item.result c.in_ok-row.row c.loop-component.graph.items c.push.new.self.items
    c.loop-component-test.true c.component-item.is c.loop-component.invariant c.in_ok-push.ensures.items c.in_ok-row.ensures
