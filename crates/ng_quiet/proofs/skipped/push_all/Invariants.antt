use Rattle.std.proofs.Common.{◌≡◌, ◌++◌, map, take}
use Rattle.std.specs.List.{flat_map}
use Rattle.ng_parts.specs.Flat.{pointed}
use Rattle.ng_quiet.specs.Used.{node_positions}
use Rattle.ng_quiet.proofs.skipped.push_all.Given as goal

abbrev pub invariant-loop-node : goal.invariant-loop-node
invariant-loop-node l = l.row.items ≡ l.initial.row.items ++ flat_map (node_positions (map (λ c. c.now) l.components)) (pointed (take l.node-index l.nodes))
