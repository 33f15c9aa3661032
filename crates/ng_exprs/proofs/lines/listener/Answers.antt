use Rattle.std.proofs.Common.{rules, arith}
use Rattle.std.proofs.lemmas.Grind.{common_steps}
use Rattle.ng_exprs.proofs.Turns.{one_more, no_more}
use Rattle.ng_exprs.specs.Parse.{front, turns}
use Rattle.ng_exprs.specs.Lines.{listener, most}
use Rattle.ng_exprs.proofs.LineSteps.{line_err, line_last, line_refused, line_ended, line_more}
use Rattle.ng_exprs.proofs.lines.listener.Goals as goal

pub returns-in_err-simple : goal.returns-in_err-simple
returns-in_err-simple c = let e = one_more (λ n. front c.loop-turn.found (listener turns 256 most c.args.depth n c.loop-turn.tokens)) _ c.loop-turn._turn c.loop-turn-test.true c.loop-turn.invariant in grind (arith, common_steps, line_err)

pub returns-then-is_last : goal.returns-then-is_last
returns-then-is_last c = let e = one_more (λ n. front c.loop-turn.found (listener turns 256 most c.args.depth n c.loop-turn.tokens)) _ c.loop-turn._turn c.loop-turn-test.true c.loop-turn.invariant in grind (arith, common_steps, line_last)

pub returns-in_err-expect : goal.returns-in_err-expect
returns-in_err-expect c = let e = one_more (λ n. front c.loop-turn.found (listener turns 256 most c.args.depth n c.loop-turn.tokens)) _ c.loop-turn._turn c.loop-turn-test.true c.loop-turn.invariant in grind (arith, common_steps, line_refused)

pub returns-then-is_last-2 : goal.returns-then-is_last-2
returns-then-is_last-2 c = let e = one_more (λ n. front c.loop-turn.found (listener turns 256 most c.args.depth n c.loop-turn.tokens)) _ c.loop-turn._turn c.loop-turn-test.true c.loop-turn.invariant in grind (arith, common_steps, line_ended)

pub loop-turn-preserved : goal.loop-turn-preserved
loop-turn-preserved c = let e = one_more (λ n. front c.loop-turn.found (listener turns 256 most c.args.depth n c.loop-turn.tokens)) _ c.loop-turn._turn c.loop-turn-test.true c.loop-turn.invariant in grind (arith, common_steps, line_more)

pub returns : goal.returns
unfolding listener
returns c = let e = no_more (λ n. front c.loop-turn.found (listener turns 256 most c.args.depth n c.loop-turn.tokens)) _ c.loop-turn._turn c.loop-turn-test.false c.loop-turn.invariant in first_of (search rules, grind (arith, common_steps))
