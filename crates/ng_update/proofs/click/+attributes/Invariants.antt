use Rattle.std.proofs.Common.{◌≡◌, ◌+◌, ◌*◌, drop}
use Rattle.ng_semantics.specs.Template.{in_order}
use Rattle.ng_update.specs.Clicked.{attributes_among}
use Rattle.ng_update.proofs.click.+attributes.Given as goal

abbrev pub invariant-attributes_of-loop-node : goal.invariant-attributes_of-loop-node
invariant-attributes_of-loop-node l = attributes_among l.tag (in_order l.depth (drop l.node-index l.nodes)) ≡ attributes_among l.tag (in_order l.depth l.nodes)

abbrev pub decreases-attributes_of : goal.decreases-attributes_of
decreases-attributes_of l = 2 * l.depth

abbrev pub decreases-attributes_in : goal.decreases-attributes_in
decreases-attributes_in l = 2 * l.depth + 1
