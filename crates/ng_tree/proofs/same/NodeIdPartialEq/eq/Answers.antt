use Rattle.std.specs.Bool.{one_answer}
use Rattle.ng_tree.specs.Same.{is_same_node_decides}
use Rattle.ng_tree.proofs.same.NodeIdPartialEq.eq.Goals as goal

pub returns : goal.returns
returns c = one_answer _ _ c.same.ensures (is_same_node_decides _ _)
