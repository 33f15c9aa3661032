use Rattle.std.proofs.Common.{◌∙◌, ap, refl, ◌++◌, arith}
use Rattle.ng_quiet.specs.Reached.{Takes}
use Rattle.ng_quiet.proofs.reached.mark.Goals as goal

pub returns : goal.returns
returns c = Takes.fresh c.row_of.result.now c.row_of.ensures (omega arith) c.if-marks-node.false refl
    (c.in_ok-extend_from_slice.ensures.items ∙ ap (λ l. c.args.ahead.now.items ++ l) c.as_slice.ensures)
