use Rattle.std.proofs.Common.{arith}
use Rattle.ng_ast.specs.Nodes.{branch_nodes, node_and_inner}
use Rattle.ng_ast.proofs.Finds.{starts, found_at, for_first, for_after}
use Rattle.ng_ast.proofs.nodes.+find.Goals as goal

pub find_in_node-returns-then-n-eq0 : goal.find_in_node-returns-then-n-eq0
find_in_node-returns-then-n-eq0 t c = starts c.args.node.now c.args.n (omega arith)

pub find_in_node-returns-in-Ok : goal.find_in_node-returns-in-Ok
find_in_node-returns-in-Ok t c =
    for_first c.args.node.now _ _ _ _ c.in-For.is c.args.n c.in-Ok.found.now (omega arith) (rw c.as_slice-in-For.ensures at c.in-Ok.ensures)

pub find_in_node-returns-in-Err : goal.find_in_node-returns-in-Err
find_in_node-returns-in-Err t c =
    for_after c.args.node.now _ _ _ _ c.in-For.is c.args.n c.in-Err.past c.find_in_empty.result (omega arith) (rw c.as_slice-in-For.ensures at c.in-Err.ensures) c.find_in_empty.ensures

pub find_in_nodes-returns-in-Ok : goal.find_in_nodes-returns-in-Ok
find_in_nodes-returns-in-Ok t c =
    found_at node_and_inner c.args.nodes.now c.loop-node.node-index c.loop-node.left c.args.n c.node-item.result c.in-Ok.found.now (omega arith) c.node-item.is c.loop-node.invariant c.in-Ok.ensures

pub find_in_branches-returns-in-Ok : goal.find_in_branches-returns-in-Ok
find_in_branches-returns-in-Ok t c =
    found_at branch_nodes c.args.branches.now c.loop-branch.branch-index c.loop-branch.left c.args.n c.branch-item.result c.in-Ok.found.now (omega arith) c.branch-item.is c.loop-branch.invariant
    (rw c.as_slice.ensures at c.in-Ok.ensures)
