use Rattle.std.proofs.Common.{arith}
use Rattle.ng_graph.proofs.Steps.{searched_all}
use Rattle.ng_graph.proofs.decide.Goals as goal

pub returns : goal.returns
returns c = searched_all _ _ _ _ _ c.in_ok-search.ensures (omega arith)
