use Rattle.std.proofs.Common.{◌≡◌, drop}
use Rattle.ng_values.specs.Calls.{place_of}
use Rattle.ng_values.specs.View.{plain_items}
use Rattle.ng_values.proofs.calls.index_of.Given as goal

abbrev pub invariant-loop-at : goal.invariant-loop-at
invariant-loop-at l = place_of 0 l.value (plain_items l.items) ≡ place_of l.at l.value (plain_items (drop l.at l.items))
