use Rattle.std.proofs.Common.{refl, [], ◌++◌}
use Rattle.std.specs.List.{flat_map}
use Rattle.ng_ast.specs.Inner.{optional_nodes}
use Rattle.ng_ast.specs.Nodes.{node_and_inner, all_nodes, branch_nodes}
use Rattle.ng_semantics.specs.First.{names_of}
use Rattle.ng_unbuilt.proofs.Items.{least_next_of}
use Rattle.ng_unbuilt.proofs.NodeLaws.{form, told, told_both, inside-Element, inside-Text, inside-If, inside-For, inside-Switch, inside-Let}
use Rattle.ng_unbuilt.proofs.template.+nodes.Goals as goal

pub nodes-loop-one-preserved : goal.nodes-loop-one-preserved
nodes-loop-one-preserved t c = least_next_of (form (names_of c.args.members.now)) node_and_inner c.args.nodes.now c.loop-one.one-index c.one-item.result c.args.best c.loop-one.best c.node-best.result c.loop-one-test.true c.one-item.is
    c.loop-one.invariant c.node-best.ensures

pub branches-loop-branch-preserved : goal.branches-loop-branch-preserved
branches-loop-branch-preserved t c = least_next_of (form (names_of c.args.members.now)) branch_nodes c.args.branches.now c.loop-branch.branch-index c.branch-item.result c.args.best c.loop-branch.best c.nodes-best.result c.loop-branch-test.true c.branch-item.is
    c.loop-branch.invariant (rw c.as_slice.ensures at c.nodes-best.ensures)

pub node-returns-in-Element : goal.node-returns-in-Element
node-returns-in-Element t c = told (names_of c.args.members.now) c.args.node.now (all_nodes c.in-Element.inner) c.args.best c.this_node-best.result c.nodes.result (inside-Element c.args.node.now c.in-Element.field-0 c.in-Element.field-1 c.in-Element.field-2 c.in-Element.inner c.in-Element.is)
    c.this_node-best.ensures (rw c.as_slice.ensures at c.nodes.ensures)

pub node-returns-in-Text : goal.node-returns-in-Text
node-returns-in-Text t c = told (names_of c.args.members.now) c.args.node.now [] c.args.best c.this_node-best.result c.this_node-best.result (inside-Text c.args.node.now c.in-Text.field-0 c.in-Text.field-1 c.in-Text.is) c.this_node-best.ensures refl

pub node-returns-in-If : goal.node-returns-in-If
node-returns-in-If t c = told (names_of c.args.members.now) c.args.node.now (flat_map branch_nodes c.in-If.inner) c.args.best c.this_node-best.result c.branches.result (inside-If c.args.node.now c.in-If.field-0 c.in-If.inner c.in-If.is)
    c.this_node-best.ensures (rw c.as_slice-in-If.ensures at c.branches.ensures)

pub node-returns-in-For : goal.node-returns-in-For
node-returns-in-For t c =
    let names = names_of c.args.members.now in
    told names c.args.node.now (all_nodes c.in-For.inner ++ all_nodes (optional_nodes c.in-For.empty)) c.args.best c.this_node-best.result c.empty_nodes.result
    (inside-For c.args.node.now c.in-For.field-0 c.in-For.field-1 c.in-For.inner c.in-For.empty c.in-For.is) c.this_node-best.ensures
    (told_both names (all_nodes c.in-For.inner) (all_nodes (optional_nodes c.in-For.empty)) c.this_node-best.result c.nodes-best.result c.empty_nodes.result (rw c.as_slice-in-For.ensures at c.nodes-best.ensures) c.empty_nodes.ensures)

pub node-returns-in-Switch : goal.node-returns-in-Switch
node-returns-in-Switch t c = told (names_of c.args.members.now) c.args.node.now (flat_map branch_nodes c.in-Switch.inner) c.args.best c.this_node-best.result c.branches-in-Switch.result
    (inside-Switch c.args.node.now c.in-Switch.field-0 c.in-Switch.field-1 c.in-Switch.inner c.in-Switch.is) c.this_node-best.ensures (rw c.as_slice-in-Switch.ensures at c.branches-in-Switch.ensures)

pub node-returns-in-Let : goal.node-returns-in-Let
node-returns-in-Let t c = told (names_of c.args.members.now) c.args.node.now [] c.args.best c.this_node-best.result c.this_node-best.result (inside-Let c.args.node.now c.in-Let.field-0 c.in-Let.field-1 c.in-Let.field-2 c.in-Let.is) c.this_node-best.ensures refl
