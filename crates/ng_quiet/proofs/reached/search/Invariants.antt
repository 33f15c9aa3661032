use Rattle.std.proofs.Common.{ℕ, ◌+◌, List, length}
use Rattle.ng_quiet.specs.Reached.{Searches, left}
use Rattle.ng_quiet.proofs.reached.search.Given as goal

abbrev pub invariant-loop-node : goal.invariant-loop-node
invariant-loop-node l = (starts : List ℕ) → Searches l.graph starts l.initial.marks l.initial.ahead.items → Searches l.graph starts l.marks l.ahead.items

abbrev pub decreases-loop-node : goal.decreases-loop-node
decreases-loop-node l = length l.ahead.items + left l.marks l.graph
