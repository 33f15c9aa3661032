use Rattle.std.proofs.Common.{◌≡◌, ◌++◌, take}
use Rattle.std.specs.List.{flat_map}
use Rattle.ng_ast.specs.Nodes.{all_nodes, branch_nodes}
use Rattle.ng_parts.specs.Flat.{pointed}
use Rattle.ng_parts.proofs.nodes.+nodes.Given as goal

abbrev pub invariant-push_nodes-loop-node : goal.invariant-push_nodes-loop-node
invariant-push_nodes-loop-node l = pointed l.found.items ≡ pointed l.initial.found.items ++ all_nodes (take l.node-index l.nodes)

abbrev pub invariant-push_branches-loop-branch : goal.invariant-push_branches-loop-branch
invariant-push_branches-loop-branch l = pointed l.found.items ≡ pointed l.initial.found.items ++ flat_map branch_nodes (take l.branch-index l.branches)
