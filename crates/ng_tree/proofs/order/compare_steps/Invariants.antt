use Rattle.std.proofs.Common.{◌≡◌, drop}
use Rattle.ng_tree.specs.Order.{path_cmp}
use Rattle.ng_tree.proofs.order.compare_steps.Given as goal

abbrev pub invariant-loop-at : goal.invariant-loop-at
invariant-loop-at l = path_cmp l.mine l.theirs ≡ path_cmp (drop l.at l.mine) (drop l.at l.theirs)
