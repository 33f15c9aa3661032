use Rattle.std.proofs.Common.{◌≡◌, ◌++◌, map, drop}
use Rattle.ng_hosts.specs.Hosts.{positions}
use Rattle.ng_quiet.proofs.skipped.on_push.Given as goal

abbrev pub invariant-loop-at : goal.invariant-loop-at
invariant-loop-at l = l.found.items ++ positions (λ c. c.onpush) l.at (map (λ c. c.now) (drop l.at l.components)) ≡ positions (λ c. c.onpush) 0 (map (λ c. c.now) l.components)
