use Rattle.std.proofs.Common.{◌≡◌, length}
use Rattle.ng_graph.specs.Walk.{Tells}
use Rattle.ng_graph.proofs.cycles.Given as goal

abbrev pub invariant-loop-node : goal.invariant-loop-node
invariant-loop-node l = record { long : length l.answers.items ≡ l.node; each : Tells l.graph l.answers.items }
