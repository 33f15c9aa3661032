use Rattle.std.proofs.Common.{length}
use Rattle.ng_heads.proofs.RowLaws.{Pairs}
use Rattle.ng_heads.proofs.pairs.add_pairs.Given as goal

abbrev pub invariant-pairs : goal.invariant-pairs
invariant-pairs l = Pairs l.fn.at.text.now l.fn.vars l.vars l.left.text.now

abbrev pub decreases-pairs : goal.decreases-pairs
decreases-pairs l = length l.left.text.now
