use Rattle.std.proofs.Common.{◌≡◌, take}
use Rattle.ng_values.specs.View.{plain_pairs}
use Rattle.ng_values.proofs.calls.and_pair.Given as goal

abbrev pub invariant-loop-pair : goal.invariant-loop-pair
invariant-loop-pair l = plain_pairs l.out.items ≡ plain_pairs (take l.pair-index l.pairs)
