use Rattle.std.proofs.Common.{◌≡◌, map, take}
use Rattle.ng_hosts.specs.Hosts.{components}
use Rattle.ng_hosts.proofs.components.components_of.Given as goal

abbrev pub invariant-loop-decl : goal.invariant-loop-decl
invariant-loop-decl l = map (λ c. c.now) l.found.items ≡ components (take l.decl-index l.decls)
