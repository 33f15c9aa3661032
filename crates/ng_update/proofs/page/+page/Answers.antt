use Rattle.std.proofs.Common.{◌≡◌, ◌-◌, suc, take, ◌++◌, IsTrue, sym, ap, ◌∙◌, arith, append-nil, append_assoc}
use Rattle.ng_ast.specs.declared.TNode.{out-TNode}
use Rattle.ng_ast.specs.declared.TNode.TheOpen.{TNode-F}
use Rattle.ng_semantics.specs.First.{is_first_node, are_first_nodes}
use Rattle.ng_update.specs.Fields.{world_of, names_in}
use Rattle.ng_update.specs.Printed.{node_printed, printed}
use Rattle.ng_update.proofs.Lists.{take_end}
use Rattle.ng_update.proofs.Nodes.{first_node_at, first_inside, out_Element}
use Rattle.ng_update.proofs.Prints.{printed_nil, printed_zero, printed_more}
use Rattle.ng_update.proofs.page.+page.Goals as goal

pub write_node-write_nodes-requires : goal.write_node-write_nodes-requires
write_node-write_nodes-requires t c =
    let names = names_in c.args.fields.now in
    let first : IsTrue (is_first_node names (are_first_nodes names c.args.depth) (TNode-F.Element c.in-Element.field-0 c.in-Element.tag c.in-Element.field-2 c.in-Element.inner)) =
    ap (is_first_node names (are_first_nodes names c.args.depth)) (sym (ap out-TNode c.in-Element.is ∙ out_Element c.in-Element.field-0 c.in-Element.tag c.in-Element.field-2 c.in-Element.inner))
    ∙ c.requires in
    (omega arith, ap (are_first_nodes names c.args.depth) c.as_slice.ensures ∙ first_inside names c.args.depth c.in-Element.field-0 c.in-Element.tag c.in-Element.field-2 c.in-Element.inner first)

pub write_nodes-returns-then-depth-eq0 : goal.write_nodes-returns-then-depth-eq0
write_nodes-returns-then-depth-eq0 t c = sym (ap (λ xs. c.args.out.now.items ++ xs) (printed_zero c.args.depth (world_of c.args.fields.now) c.args.nodes.now c.if-depth-eq0.true) ∙ append-nil c.args.out.now.items)

pub write_nodes-loop-node-init : goal.write_nodes-loop-node-init
write_nodes-loop-node-init t c = sym (ap (λ xs. c.args.out.now.items ++ xs) (printed_nil c.args.depth (world_of c.args.fields.now)) ∙ append-nil c.args.out.now.items)

pub write_nodes-write_node-requires : goal.write_nodes-write_node-requires
write_nodes-write_node-requires t c =
    let deep : c.args.depth ≡ suc (c.args.depth - 1) = omega (arith, c.if-depth-eq0.false) in
    (omega (arith, c.if-depth-eq0.false), first_node_at (names_in c.args.fields.now) c.args.depth (c.args.depth - 1) c.args.nodes.now c.loop-node.node-index c.node-item.result deep c.requires (omega arith) c.node-item.is)

pub write_nodes-loop-node-preserved : goal.write_nodes-loop-node-preserved
write_nodes-loop-node-preserved t c =
    let deep : c.args.depth ≡ suc (c.args.depth - 1) = omega (arith, c.if-depth-eq0.false) in
    let world = world_of c.args.fields.now in
    let i = c.loop-node.node-index in
    let one = node_printed (printed (c.args.depth - 1) world) world (out-TNode c.node-item.result) in
    let before = c.args.out.now.items in
    c.in_ok-write_node.ensures ∙ ap (λ xs. xs ++ one) c.loop-node.invariant ∙ append_assoc before (printed c.args.depth world (take i c.args.nodes.now)) one
    ∙ ap (λ xs. before ++ xs) (sym (printed_more c.args.depth (c.args.depth - 1) world c.args.nodes.now i c.node-item.result deep (omega arith) c.node-item.is))

pub write_nodes-returns : goal.write_nodes-returns
write_nodes-returns t c =
    c.loop-node.invariant
    ∙ ap (λ ns. c.args.out.now.items ++ printed c.args.depth (world_of c.args.fields.now) ns) (take_end c.args.nodes.now c.loop-node.node-index (omega arith))
