use Rattle.std.proofs.Common.{◌≡◌, ◌++◌, take}
use Rattle.ng_values.specs.View.{plain_items}
use Rattle.ng_values.proofs.calls.append.Given as goal

abbrev pub invariant-loop-item : goal.invariant-loop-item
invariant-loop-item l = plain_items l.out.items ≡ plain_items l.initial.out.items ++ plain_items (take l.item-index l.items)
