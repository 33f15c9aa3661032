use Rattle.std.proofs.Common.{◌≡◌, ◌-◌, suc, IsTrue, List, sym, ◌∙◌, arith}
use Rattle.ng_semantics.specs.Text.{Text}
use Rattle.ng_semantics.specs.First.{are_first_nodes}
use Rattle.ng_update.proofs.Nodes.{among_hit, among_miss, among_end, among_zero, first_node_at}
use Rattle.ng_update.proofs.click.+attributes.Goals as goal

pub attributes_of-returns-then-depth-eq0 : goal.attributes_of-returns-then-depth-eq0
attributes_of-returns-then-depth-eq0 t c = sym (among_zero c.args.tag.now c.args.depth c.args.nodes.now c.if-depth-eq0.true)

pub attributes_of-attributes_in-requires : goal.attributes_of-attributes_in-requires
attributes_of-attributes_in-requires t c =
    let p : (names : List Text) × IsTrue (are_first_nodes names c.args.depth c.args.nodes.now) = c.requires.1.1 in
    let deep : c.args.depth ≡ suc (c.args.depth - 1) = omega (arith, c.if-depth-eq0.false) in
    (omega (arith, c.if-depth-eq0.false, c.requires.1.0), (p.0, first_node_at p.0 c.args.depth (c.args.depth - 1) c.args.nodes.now c.loop-node.node-index c.node-item.result deep p.1 (omega arith) c.node-item.is))

pub attributes_of-returns-in-Some : goal.attributes_of-returns-in-Some
attributes_of-returns-in-Some t c =
    let deep : c.args.depth ≡ suc (c.args.depth - 1) = omega (arith, c.if-depth-eq0.false) in
    sym (among_hit c.args.tag.now c.args.depth (c.args.depth - 1) c.args.nodes.now c.loop-node.node-index c.node-item.result c.in-Some.attributes.now deep (omega arith) c.node-item.is (sym c.in-Some.ensures))
    ∙ c.loop-node.invariant

pub attributes_of-loop-node-preserved : goal.attributes_of-loop-node-preserved
attributes_of-loop-node-preserved t c =
    let deep : c.args.depth ≡ suc (c.args.depth - 1) = omega (arith, c.if-depth-eq0.false) in
    sym (among_miss c.args.tag.now c.args.depth (c.args.depth - 1) c.args.nodes.now c.loop-node.node-index c.node-item.result deep (omega arith) c.node-item.is (sym c.in_default.ensures))
    ∙ c.loop-node.invariant

pub attributes_of-returns : goal.attributes_of-returns
attributes_of-returns t c = sym (among_end c.args.tag.now c.args.depth c.args.nodes.now c.loop-node.node-index (omega arith)) ∙ c.loop-node.invariant
