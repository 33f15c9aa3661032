use Rattle.std.proofs.Common.{refl}
use Rattle.ng_graph.proofs.Steps.{none_left, none_outside}
use Rattle.ng_graph.proofs.reaches_itself.Goals as goal

pub returns-then-start-graph : goal.returns-then-start-graph
returns-then-start-graph c = none_outside _ _ c.if-start-graph.true

pub returns-then-is_empty : goal.returns-then-is_empty
returns-then-is_empty c = none_left _ _ _ c.row_of.ensures (c.if-is_empty.ensures.0 refl)
