use Rattle.std.proofs.Common.{sym, ◌∙◌, arith}
use Rattle.ng_tree.specs.Order.{step_cmp}
use Rattle.ng_tree.proofs.Ends.{ends}
use Rattle.ng_tree.proofs.order.compare_steps.Goals as goal

pub returns : goal.returns
returns c = c.cmp.ensures ∙ sym (c.loop-at.invariant ∙ ends step_cmp c.args.mine.now c.args.theirs.now c.loop-at.at (omega (arith, c.min-at-end.ensures)))
