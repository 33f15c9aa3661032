use Rattle.std.proofs.Common.{◌≡◌, ◌+◌, ◌*◌}
use Rattle.std.specs.Cmp.Lexicographic.{slice_cmp}
use Rattle.ng_values.specs.Measure.{depth, list_depth, rec_depth}
use Rattle.ng_values.specs.Order.{order, order_pair}
use Rattle.ng_values.specs.View.{plain, plain_items, plain_pair, plain_pairs}
use Rattle.ng_values.proofs.Steps.{left}
use Rattle.ng_values.proofs.+compare.Given as goal

abbrev pub decreases-value::Value::compare : goal.decreases-value::Value::compare
decreases-value::Value::compare l = 4 * depth (plain l.self.now) + 2

abbrev pub decreases-value::Value::compare_content : goal.decreases-value::Value::compare_content
decreases-value::Value::compare_content l = 4 * depth (plain l.self.now) + 1

abbrev pub decreases-order::compare_items : goal.decreases-order::compare_items
decreases-order::compare_items l = 4 * list_depth (plain_items l.mine.now)

abbrev pub decreases-order::compare_pairs : goal.decreases-order::compare_pairs
decreases-order::compare_pairs l = 4 * rec_depth (plain_pairs l.mine.now)

abbrev pub decreases-order::compare_pair : goal.decreases-order::compare_pair
decreases-order::compare_pair l = 4 * depth (plain l.mine.now.1) + 3

abbrev pub invariant-order::compare_items-loop-at : goal.invariant-order::compare_items-loop-at
invariant-order::compare_items-loop-at l = slice_cmp order (plain_items l.mine) (plain_items l.theirs) ≡ left order plain l.at l.mine l.theirs

abbrev pub invariant-order::compare_pairs-loop-at : goal.invariant-order::compare_pairs-loop-at
invariant-order::compare_pairs-loop-at l = slice_cmp order_pair (plain_pairs l.mine) (plain_pairs l.theirs) ≡ left order_pair plain_pair l.at l.mine l.theirs
