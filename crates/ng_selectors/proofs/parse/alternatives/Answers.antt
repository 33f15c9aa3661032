use Rattle.std.proofs.Common.{arith}
use Rattle.std.proofs.lemmas.Grind.{common_steps}
use Rattle.ng_selectors.specs.Parse.{alternative}
use Rattle.ng_selectors.proofs.Turns.{list_end, list_stop, list_broken, list_turn, list_smaller}
use Rattle.ng_selectors.proofs.parse.alternatives.Goals as goal

pub returns-in_err-one : goal.returns-in_err-one
unfolding alternative
returns-in_err-one c = grind (arith, common_steps, list_stop)

pub returns-then-is_at_end : goal.returns-then-is_at_end
unfolding alternative
returns-then-is_at_end c = grind (arith, common_steps, list_end)

pub loop-found-smaller : goal.loop-found-smaller
unfolding alternative
loop-found-smaller c = list_smaller _ _ _ _ c.in_ok-one.ensures c.in_ok-comma.ensures

pub loop-found-preserved : goal.loop-found-preserved
unfolding alternative
loop-found-preserved c = grind (arith, common_steps, list_turn)

pub returns-in_err-comma : goal.returns-in_err-comma
unfolding alternative
returns-in_err-comma c = grind (arith, common_steps, list_broken)
