use Rattle.std.proofs.Common.{◌≡◌, ◌-◌, rules, arith}
use Rattle.std.proofs.lemmas.Grind.{common_steps}
use Rattle.ng_exprs.proofs.Turns.{one_more, no_more}
use Rattle.ng_exprs.proofs.Steps.{ranked_step}
use Rattle.ng_exprs.specs.Parse.{brackets, ranked, joins, turns}
use Rattle.ng_exprs.proofs.parse.Rules.+ranked.Goals as goal

pub returns-then-rank-eq0 : goal.returns-then-rank-eq0
unfolding ranked turns
returns-then-rank-eq0 g t c = let none : c.args.rank ≡ 0 = omega arith in rw none c.prefixed.ensures

pub returns-in_err-left : goal.returns-in_err-left
returns-in_err-left g t c = let e = ranked_step (brackets turns c.args.self.now.depth) c.args.rank c.args.tokens.now (omega arith) in first_of (search rules, grind (arith, common_steps))

pub loop-turn-init : goal.loop-turn-init
unfolding turns
loop-turn-init g t c = let e = ranked_step (brackets turns c.args.self.now.depth) c.args.rank c.args.tokens.now (omega arith) in first_of (search rules, grind (arith, common_steps))

pub returns-in_default : goal.returns-in_default
unfolding joins
returns-in_default g t c = let e = one_more (λ n. joins (brackets turns c.args.self.now.depth) (ranked (brackets turns c.args.self.now.depth) (c.args.rank - 1)) c.args.rank n c.place-place.result c.loop-turn.left c.loop-turn.tokens) _ c.loop-turn._turn c.loop-turn-test.true c.loop-turn.invariant in first_of (search rules, grind (arith, common_steps))

pub returns-in_err-right : goal.returns-in_err-right
unfolding joins
returns-in_err-right g t c = let e = one_more (λ n. joins (brackets turns c.args.self.now.depth) (ranked (brackets turns c.args.self.now.depth) (c.args.rank - 1)) c.args.rank n c.place-place.result c.loop-turn.left c.loop-turn.tokens) _ c.loop-turn._turn c.loop-turn-test.true c.loop-turn.invariant in first_of (search rules, grind (arith, common_steps))

pub loop-turn-preserved : goal.loop-turn-preserved
unfolding joins
loop-turn-preserved g t c = let e = one_more (λ n. joins (brackets turns c.args.self.now.depth) (ranked (brackets turns c.args.self.now.depth) (c.args.rank - 1)) c.args.rank n c.place-place.result c.loop-turn.left c.loop-turn.tokens) _ c.loop-turn._turn c.loop-turn-test.true c.loop-turn.invariant in first_of (search rules, grind (arith, common_steps))

pub returns : goal.returns
unfolding joins
returns g t c = let e = no_more (λ n. joins (brackets turns c.args.self.now.depth) (ranked (brackets turns c.args.self.now.depth) (c.args.rank - 1)) c.args.rank n c.place-place.result c.loop-turn.left c.loop-turn.tokens) _ c.loop-turn._turn c.loop-turn-test.false c.loop-turn.invariant in first_of (search rules, grind (arith, common_steps))
