use Rattle.std.proofs.Common.{◌≡◌, take}
use Rattle.ng_ast.proofs.+copy_template.Given as goal

abbrev pub invariant-templates::copy_nodes-loop-node : goal.invariant-templates::copy_nodes-loop-node
invariant-templates::copy_nodes-loop-node l = l.copies.items ≡ take l.node-index l.nodes

abbrev pub invariant-templates::copy_branches-loop-branch : goal.invariant-templates::copy_branches-loop-branch
invariant-templates::copy_branches-loop-branch l = l.copies.items ≡ take l.branch-index l.branches
