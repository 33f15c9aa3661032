use Rattle.std.proofs.Common.{◌≡◌, ◌||◌, ℕ, map, take}
use Rattle.std.specs.BTreeSet.{contains}
use Rattle.std.specs.List.{list_any}
use Rattle.std.specs.Ordering.{nat_cmp}
use Rattle.ng_hosts.specs.Index.{attr_hits}
use Rattle.ng_hosts.proofs.search.try_attrs.Given as goal

abbrev pub invariant-loop-attr : goal.invariant-loop-attr
invariant-loop-attr l = (at : ℕ) → contains nat_cmp l.found at ≡ (contains nat_cmp l.initial.found at || list_any (attr_hits (map (λ c. c.now) l.components) l.tag l.seen l.index at) (take l.attr-index l.seen))
