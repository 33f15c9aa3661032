use Rattle.std.proofs.Common.{◌≡◌, ◌++◌, map, take}
use Rattle.std.specs.List.{flat_map}
use Rattle.ng_hosts.specs.Index.{component_at}
use Rattle.ng_hosts.proofs.hosts.push_components.Given as goal

abbrev pub invariant-loop-at : goal.invariant-loop-at
invariant-loop-at l = map (λ c. c.now) l.hosts.items ≡ map (λ c. c.now) l.initial.hosts.items ++ flat_map (component_at (map (λ c. c.now) l.components)) (take l.at-index l.positions)
