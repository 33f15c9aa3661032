use Rattle.std.proofs.Common.{rules, arith}
use Rattle.std.proofs.lemmas.Grind.{common_steps}
use Rattle.ng_exprs.proofs.Turns.{one_more, no_more}
use Rattle.ng_exprs.specs.Parse.{brackets, arguments, front, turns}
use Rattle.ng_exprs.proofs.Steps.{arguments_step, arguments_stop}
use Rattle.ng_exprs.proofs.parse.Rules.arguments.Goals as goal

pub returns-in_err-chosen : goal.returns-in_err-chosen
unfolding arguments turns
returns-in_err-chosen g c = let e = one_more (λ n. front c.loop-turn.found (arguments (brackets turns c.args.self.now.depth) n c.loop-turn.tokens)) _ c.loop-turn._turn c.loop-turn-test.true c.loop-turn.invariant in first_of (search rules, grind (arith, common_steps))

pub returns-then-not-sees : goal.returns-then-not-sees
returns-then-not-sees g c = let e = one_more (λ n. front c.loop-turn.found (arguments (brackets turns c.args.self.now.depth) n c.loop-turn.tokens)) _ c.loop-turn._turn c.loop-turn-test.true c.loop-turn.invariant in grind (arith, common_steps, arguments_stop)

pub loop-turn-preserved : goal.loop-turn-preserved
unfolding turns
loop-turn-preserved g c = let e = one_more (λ n. front c.loop-turn.found (arguments (brackets turns c.args.self.now.depth) n c.loop-turn.tokens)) _ c.loop-turn._turn c.loop-turn-test.true c.loop-turn.invariant in grind (arith, common_steps, arguments_step)

pub returns : goal.returns
unfolding arguments
returns g c = let e = no_more (λ n. front c.loop-turn.found (arguments (brackets turns c.args.self.now.depth) n c.loop-turn.tokens)) _ c.loop-turn._turn c.loop-turn-test.false c.loop-turn.invariant in first_of (search rules, grind (arith, common_steps))
