use Rattle.std.proofs.Common.{length, ◌+◌, ◌-◌}
use Rattle.ng_graph.specs.Visit.{left, Searched}
use Rattle.ng_graph.proofs.search.Given as goal

abbrev pub invariant-loop-at : goal.invariant-loop-at
invariant-loop-at l = Searched l.graph l.start l.marked l.queue.items l.at

abbrev pub decreases-loop-at : goal.decreases-loop-at
decreases-loop-at l = ((length l.queue.items - l.at) + left l.marked) + left l.marked
