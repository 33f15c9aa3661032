use Rattle.std.proofs.Common.{◌≡◌, ◌+◌, ◌*◌, ◌++◌, take}
use Rattle.ng_update.specs.Fields.{world_of}
use Rattle.ng_update.specs.Printed.{printed}
use Rattle.ng_update.proofs.page.+page.Given as goal

abbrev pub invariant-write_nodes-loop-node : goal.invariant-write_nodes-loop-node
invariant-write_nodes-loop-node l = l.out.items ≡ l.initial.out.items ++ printed l.depth (world_of l.fields) (take l.node-index l.nodes)

abbrev pub decreases-write_nodes : goal.decreases-write_nodes
decreases-write_nodes l = 2 * l.depth

abbrev pub decreases-write_node : goal.decreases-write_node
decreases-write_node l = 2 * l.depth + 1
