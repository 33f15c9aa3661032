use Rattle.std.proofs.Common.{subst}
use Rattle.ng_graph.specs.Visit.{Visits}
use Rattle.ng_graph.proofs.Steps.{visits_then, take_next}
use Rattle.ng_graph.proofs.visit_all.Goals as goal

pub loop-node-preserved : goal.loop-node-preserved
loop-node-preserved c = subst (λ r. Visits r c.args.marked.now c.visit.new.marked c.args.queue.now.items c.visit.new.queue.items) (take_next c.args.row.now c.loop-node.node-index c.loop-node-test.true)
    (visits_then _ _ _ _ _ _ _ _ c.loop-node.invariant c.in_ok-visit.ensures)
