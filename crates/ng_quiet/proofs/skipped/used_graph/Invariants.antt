use Rattle.std.proofs.Common.{◌≡◌, map, take}
use Rattle.ng_quiet.specs.Used.{used_positions}
use Rattle.ng_quiet.proofs.skipped.used_graph.Given as goal

abbrev pub invariant-loop-component : goal.invariant-loop-component
invariant-loop-component l = l.graph.items ≡ map (used_positions (map (λ c. c.now) l.components)) (map (λ c. c.now) (take l.component-index l.components))
