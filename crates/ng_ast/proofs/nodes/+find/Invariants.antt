use Rattle.std.proofs.Common.{◌≡◌, ◌+◌, take, length}
use Rattle.std.specs.List.{flat_map}
use Rattle.ng_ast.specs.Nodes.{all_nodes, branch_nodes}
use Rattle.ng_ast.proofs.nodes.+find.Given as goal

abbrev pub invariant-find_in_nodes-loop-node : goal.invariant-find_in_nodes-loop-node
invariant-find_in_nodes-loop-node l = l.initial.left ≡ length (all_nodes (take l.node-index l.nodes)) + l.left

abbrev pub invariant-find_in_branches-loop-branch : goal.invariant-find_in_branches-loop-branch
invariant-find_in_branches-loop-branch l = l.initial.left ≡ length (flat_map branch_nodes (take l.branch-index l.branches)) + l.left
