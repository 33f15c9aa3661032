use Rattle.std.proofs.Common.{rules, arith}
use Rattle.std.proofs.lemmas.Grind.{common_steps}
use Rattle.ng_exprs.proofs.Turns.{one_more, no_more}
use Rattle.ng_exprs.specs.Parse.{whole, some_of, front, turns}
use Rattle.ng_exprs.proofs.Steps.{some_step}
use Rattle.ng_exprs.proofs.parse.Rules.some_of.Goals as goal

pub returns-in_err-within : goal.returns-in_err-within
unfolding some_of
returns-in_err-within g c = let e = one_more (λ n. front c.loop-turn.found (some_of (whole turns c.args.self.now.depth) n c.loop-turn.tokens)) _ c.loop-turn._turn c.loop-turn-test.true c.loop-turn.invariant in first_of (search rules, grind (arith, common_steps))

pub returns-then-not-sees : goal.returns-then-not-sees
unfolding some_of
returns-then-not-sees g c = let e = one_more (λ n. front c.loop-turn.found (some_of (whole turns c.args.self.now.depth) n c.loop-turn.tokens)) _ c.loop-turn._turn c.loop-turn-test.true c.loop-turn.invariant in first_of (search rules, grind (arith, common_steps))

pub loop-turn-preserved : goal.loop-turn-preserved
loop-turn-preserved g c = let e = one_more (λ n. front c.loop-turn.found (some_of (whole turns c.args.self.now.depth) n c.loop-turn.tokens)) _ c.loop-turn._turn c.loop-turn-test.true c.loop-turn.invariant in grind (arith, common_steps, some_step)

pub returns : goal.returns
unfolding some_of
returns g c = let e = no_more (λ n. front c.loop-turn.found (some_of (whole turns c.args.self.now.depth) n c.loop-turn.tokens)) _ c.loop-turn._turn c.loop-turn-test.false c.loop-turn.invariant in first_of (search rules, grind (arith, common_steps))
