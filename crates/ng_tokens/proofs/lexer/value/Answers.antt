use Rattle.std.proofs.Common.{◌^◌, ◌∙◌, arith}
use Rattle.ng_tokens.proofs.Numbers.{step_on}
use Rattle.ng_tokens.proofs.lexer.value.Goals as goal

pub loop-b-preserved : goal.loop-b-preserved
loop-b-preserved c =
    (step_on c.args.z.now c.loop-b.b-index c.loop-b.n c.min-n.result (2 ^ 63) c.loop-b-test.true (omega arith) ∙ c.loop-b.invariant.0, omega arith)
