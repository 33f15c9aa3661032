use Rattle.std.proofs.Common.{map, take}
use Rattle.ng_hosts.specs.Index.{entries, Adds}
use Rattle.ng_hosts.proofs.index.selector_index.Given as goal

abbrev pub invariant-loop-at : goal.invariant-loop-at
invariant-loop-at l = Adds l.initial.index l.index (λ w. entries l.counts w 0 (map (λ c. c.now) (take l.at l.components)))
