use Rattle.std.proofs.Common.{◌≡◌, ◌||◌, ℕ, map, take}
use Rattle.std.specs.BTreeSet.{contains}
use Rattle.std.specs.List.{list_any}
use Rattle.std.specs.Ordering.{nat_cmp}
use Rattle.ng_hosts.specs.Index.{class_hits}
use Rattle.ng_hosts.proofs.search.try_words.Given as goal

abbrev pub invariant-loop-piece : goal.invariant-loop-piece
invariant-loop-piece l = (at : ℕ) → contains nat_cmp l.found at ≡ (contains nat_cmp l.initial.found at || list_any (class_hits (map (λ c. c.now) l.components) l.tag l.seen l.index at) (map (λ p. p.now) (take l.piece-index l.piece-items)))
