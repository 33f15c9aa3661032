use Rattle.std.proofs.Common.{◌∙◌, arith}
use Rattle.ng_tokens.proofs.Numbers.{step_on}
use Rattle.ng_lex.proofs.entities.decimal_value.Goals as goal

pub loop-b-preserved : goal.loop-b-preserved
loop-b-preserved c =
    (step_on c.args.z.now c.loop-b.b-index c.loop-b.n c.min-n.result 1114112 c.loop-b-test.true (omega arith) ∙ c.loop-b.invariant.0, omega arith)
