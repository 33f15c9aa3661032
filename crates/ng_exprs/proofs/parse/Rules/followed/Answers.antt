use Rattle.std.proofs.Common.{rules, arith}
use Rattle.std.proofs.lemmas.Grind.{common_steps}
use Rattle.ng_exprs.proofs.Turns.{one_more}
use Rattle.ng_exprs.specs.Parse.{brackets, followed, turns}
use Rattle.ng_exprs.proofs.parse.Rules.followed.Goals as goal

pub returns-in_default : goal.returns-in_default
unfolding followed
returns-in_default g c = let e = one_more (λ n. followed (brackets turns c.args.self.now.depth) n c.loop-turn.named c.args.place c.loop-turn.owner c.loop-turn.tokens) _ c.loop-turn._turn c.loop-turn-test.true c.loop-turn.invariant in first_of (search rules, grind (arith, common_steps))

pub loop-turn-preserved : goal.loop-turn-preserved
unfolding followed
loop-turn-preserved g c = let e = one_more (λ n. followed (brackets turns c.args.self.now.depth) n c.loop-turn.named c.args.place c.loop-turn.owner c.loop-turn.tokens) _ c.loop-turn._turn c.loop-turn-test.true c.loop-turn.invariant in first_of (search rules, grind (arith, common_steps))

pub returns-in_err-owner-in-Some-Dot : goal.returns-in_err-owner-in-Some-Dot
unfolding followed
returns-in_err-owner-in-Some-Dot g c = let e = one_more (λ n. followed (brackets turns c.args.self.now.depth) n c.loop-turn.named c.args.place c.loop-turn.owner c.loop-turn.tokens) _ c.loop-turn._turn c.loop-turn-test.true c.loop-turn.invariant in first_of (search rules, grind (arith, common_steps))

pub returns-in_err-owner-in-Some-SafeDot : goal.returns-in_err-owner-in-Some-SafeDot
unfolding followed
returns-in_err-owner-in-Some-SafeDot g c = let e = one_more (λ n. followed (brackets turns c.args.self.now.depth) n c.loop-turn.named c.args.place c.loop-turn.owner c.loop-turn.tokens) _ c.loop-turn._turn c.loop-turn-test.true c.loop-turn.invariant in first_of (search rules, grind (arith, common_steps))

pub returns-in_err-owner-in-Some-OpenSquare : goal.returns-in_err-owner-in-Some-OpenSquare
unfolding followed
returns-in_err-owner-in-Some-OpenSquare g c = let e = one_more (λ n. followed (brackets turns c.args.self.now.depth) n c.loop-turn.named c.args.place c.loop-turn.owner c.loop-turn.tokens) _ c.loop-turn._turn c.loop-turn-test.true c.loop-turn.invariant in first_of (search rules, grind (arith, common_steps))

pub returns-in_err-owner-in-Some-OpenRound : goal.returns-in_err-owner-in-Some-OpenRound
unfolding followed
returns-in_err-owner-in-Some-OpenRound g c = let e = one_more (λ n. followed (brackets turns c.args.self.now.depth) n c.loop-turn.named c.args.place c.loop-turn.owner c.loop-turn.tokens) _ c.loop-turn._turn c.loop-turn-test.true c.loop-turn.invariant in first_of (search rules, grind (arith, common_steps))
