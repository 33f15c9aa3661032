use Rattle.std.proofs.Common.{rules, arith}
use Rattle.std.proofs.lemmas.Grind.{common_steps}
use Rattle.ng_exprs.proofs.Turns.{one_more, no_more}
use Rattle.ng_exprs.specs.Parse.{brackets, pipes, turns}
use Rattle.ng_exprs.proofs.parse.Rules.pipes.Goals as goal

pub returns-then-not-sees : goal.returns-then-not-sees
unfolding pipes
returns-then-not-sees g c = let e = one_more (λ n. pipes (brackets turns c.args.self.now.depth) n c.args.place c.loop-turn.value c.loop-turn.tokens) _ c.loop-turn._turn c.loop-turn-test.true c.loop-turn.invariant in first_of (search rules, grind (arith, common_steps))

pub returns-in_err-value : goal.returns-in_err-value
unfolding pipes
returns-in_err-value g c = let e = one_more (λ n. pipes (brackets turns c.args.self.now.depth) n c.args.place c.loop-turn.value c.loop-turn.tokens) _ c.loop-turn._turn c.loop-turn-test.true c.loop-turn.invariant in first_of (search rules, grind (arith, common_steps))

pub loop-turn-preserved : goal.loop-turn-preserved
unfolding pipes
loop-turn-preserved g c = let e = one_more (λ n. pipes (brackets turns c.args.self.now.depth) n c.args.place c.loop-turn.value c.loop-turn.tokens) _ c.loop-turn._turn c.loop-turn-test.true c.loop-turn.invariant in first_of (search rules, grind (arith, common_steps))

pub returns : goal.returns
unfolding pipes
returns g c = let e = no_more (λ n. pipes (brackets turns c.args.self.now.depth) n c.args.place c.loop-turn.value c.loop-turn.tokens) _ c.loop-turn._turn c.loop-turn-test.false c.loop-turn.invariant in first_of (search rules, grind (arith, common_steps))
