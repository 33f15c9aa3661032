use Rattle.std.proofs.Common.{rules, arith}
use Rattle.std.proofs.lemmas.Grind.{common_steps}
use Rattle.ng_exprs.proofs.Turns.{one_more, no_more}
use Rattle.ng_exprs.specs.Parse.{front, turns}
use Rattle.ng_exprs.specs.Lines.{most}
use Rattle.ng_exprs.specs.Blocks.{statements, body}
use Rattle.ng_exprs.proofs.LineSteps.{stmts_over, stmts_err, stmts_more}
use Rattle.ng_exprs.proofs.blocks.Blocks.statements.Goals as goal

pub returns-then-is_over : goal.returns-then-is_over
returns-then-is_over g c = let e = one_more (λ n. front c.loop-turn.found (statements turns 256 most (body turns 256 most c.args.self.now.depth) c.args.self.now.depth n c.loop-turn.tokens)) _ c.loop-turn._turn c.loop-turn-test.true c.loop-turn.invariant in grind (arith, common_steps, stmts_over)

pub returns-in_err-statement : goal.returns-in_err-statement
returns-in_err-statement g c = let e = one_more (λ n. front c.loop-turn.found (statements turns 256 most (body turns 256 most c.args.self.now.depth) c.args.self.now.depth n c.loop-turn.tokens)) _ c.loop-turn._turn c.loop-turn-test.true c.loop-turn.invariant in grind (arith, common_steps, stmts_err)

pub loop-turn-preserved : goal.loop-turn-preserved
loop-turn-preserved g c = let e = one_more (λ n. front c.loop-turn.found (statements turns 256 most (body turns 256 most c.args.self.now.depth) c.args.self.now.depth n c.loop-turn.tokens)) _ c.loop-turn._turn c.loop-turn-test.true c.loop-turn.invariant in grind (arith, common_steps, stmts_more)

pub returns : goal.returns
unfolding statements
returns g c = let e = no_more (λ n. front c.loop-turn.found (statements turns 256 most (body turns 256 most c.args.self.now.depth) c.args.self.now.depth n c.loop-turn.tokens)) _ c.loop-turn._turn c.loop-turn-test.false c.loop-turn.invariant in first_of (search rules, grind (arith, common_steps))
