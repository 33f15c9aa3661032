use Rattle.std.proofs.Common.{rules, arith}
use Rattle.std.proofs.lemmas.Grind.{common_steps}
use Rattle.ng_selectors.proofs.Turns.{negation_zero, negation_more, parts_end, parts_stop, parts_turn, parts_smaller}
use Rattle.ng_selectors.proofs.parse.+one.Goals as goal

pub negation-returns-then-depth-eq0 : goal.negation-returns-then-depth-eq0
negation-returns-then-depth-eq0 t c = negation_zero c.args.depth _ (omega arith)

pub negation-returns-in_err-expect : goal.negation-returns-in_err-expect
negation-returns-in_err-expect t c = rw (negation_more c.args.depth c.args.cursor.now.rest.now (omega arith)) (search rules)

pub negation-returns-in_err-inner : goal.negation-returns-in_err-inner
negation-returns-in_err-inner t c = rw (negation_more c.args.depth c.args.cursor.now.rest.now (omega arith)) (search rules)

pub negation-returns-in_err-expect-2 : goal.negation-returns-in_err-expect-2
negation-returns-in_err-expect-2 t c = rw (negation_more c.args.depth c.args.cursor.now.rest.now (omega arith)) (search rules)

pub negation-returns : goal.negation-returns
negation-returns t c = rw (negation_more c.args.depth c.args.cursor.now.rest.now (omega arith)) (search rules)

pub parts-returns-in_err-part : goal.parts-returns-in_err-part
parts-returns-in_err-part t c = grind (arith, common_steps, parts_stop)

pub parts-loop-found-smaller : goal.parts-loop-found-smaller
parts-loop-found-smaller t c = parts_smaller c.args.depth _ _ _ c.in_ok-part.ensures

pub parts-loop-found-preserved : goal.parts-loop-found-preserved
parts-loop-found-preserved t c = grind (arith, common_steps, parts_turn)

pub parts-returns : goal.parts-returns
parts-returns t c = grind (arith, common_steps, parts_end)
