use Rattle.std.proofs.Common.{◌≡◌, ◌||◌, ℕ, true, map, take}
use Rattle.std.specs.Prelude.{IfSome}
use Rattle.std.specs.BTreeSet.{contains}
use Rattle.std.specs.List.{list_any}
use Rattle.std.specs.Ordering.{nat_cmp}
use Rattle.ng_hosts.specs.Index.{hits}
use Rattle.ng_hosts.proofs.search.try_entries.Given as goal

abbrev pub invariant-loop-entry : goal.invariant-loop-entry
invariant-loop-entry l = record {
  last : IfSome l.last (λ at. contains nat_cmp l.found at ≡ true);
  found : (at : ℕ) → contains nat_cmp l.found at ≡ (contains nat_cmp l.initial.found at || list_any (hits (map (λ c. c.now) l.components) l.tag l.seen at) (take l.entry-index l.entries));
}
