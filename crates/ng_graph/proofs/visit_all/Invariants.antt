use Rattle.std.proofs.Common.{take}
use Rattle.ng_graph.specs.Visit.{Visits}
use Rattle.ng_graph.proofs.visit_all.Given as goal

abbrev pub invariant-loop-node : goal.invariant-loop-node
invariant-loop-node l = Visits (take l.node-index l.row) l.initial.marked l.marked l.initial.queue.items l.queue.items
