use Rattle.std.proofs.Common.{rules, arith}
use Rattle.std.proofs.lemmas.Grind.{common_steps}
use Rattle.ng_exprs.proofs.Turns.{one_more, no_more}
use Rattle.ng_exprs.specs.Parse.{front, turns}
use Rattle.ng_exprs.specs.Lines.{list_of, measured, most}
use Rattle.ng_exprs.proofs.LineSteps.{list_step}
use Rattle.ng_exprs.proofs.lines.list.Goals as goal

pub returns-in_err-measured : goal.returns-in_err-measured
unfolding list_of
returns-in_err-measured c = let e = one_more (λ n. front c.loop-turn.found (list_of (measured turns 256 most c.args.depth) n c.loop-turn.tokens)) _ c.loop-turn._turn c.loop-turn-test.true c.loop-turn.invariant in first_of (search rules, grind (arith, common_steps))

pub returns-then-not-sees : goal.returns-then-not-sees
unfolding list_of
returns-then-not-sees c = let e = one_more (λ n. front c.loop-turn.found (list_of (measured turns 256 most c.args.depth) n c.loop-turn.tokens)) _ c.loop-turn._turn c.loop-turn-test.true c.loop-turn.invariant in first_of (search rules, grind (arith, common_steps))

pub loop-turn-preserved : goal.loop-turn-preserved
loop-turn-preserved c = let e = one_more (λ n. front c.loop-turn.found (list_of (measured turns 256 most c.args.depth) n c.loop-turn.tokens)) _ c.loop-turn._turn c.loop-turn-test.true c.loop-turn.invariant in grind (arith, common_steps, list_step)

pub returns : goal.returns
unfolding list_of
returns c = let e = no_more (λ n. front c.loop-turn.found (list_of (measured turns 256 most c.args.depth) n c.loop-turn.tokens)) _ c.loop-turn._turn c.loop-turn-test.false c.loop-turn.invariant in first_of (search rules, grind (arith, common_steps))
