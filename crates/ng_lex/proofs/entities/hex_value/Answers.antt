use Rattle.std.proofs.Common.{◌∙◌, arith}
use Rattle.ng_lex.proofs.Numerals.{hex_on}
use Rattle.ng_lex.proofs.entities.hex_value.Goals as goal

pub loop-b-preserved : goal.loop-b-preserved
loop-b-preserved c =
    (hex_on c.args.z.now c.loop-b.b-index c.loop-b.n c.min-n.result 1114112 c.loop-b-test.true (omega arith) ∙ c.loop-b.invariant.0, omega arith)
