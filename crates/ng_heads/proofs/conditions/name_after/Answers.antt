use Rattle.std.proofs.Common.{sym, ◌∙◌}
use Rattle.ng_heads.proofs.TestLaws.{unnamed_sign, unnamed_as, unnamed_gap, unnamed_name, unnamed_end, named}
use Rattle.ng_heads.proofs.conditions.name_after.Goals as goal

pub returns-in_err-part : goal.returns-in_err-part
returns-in_err-part c = rw c.from_residual.ensures (unnamed_sign c.args.at.text.now c.in_err-part.ensures)

pub returns-in_err-word : goal.returns-in_err-word
returns-in_err-word c = rw c.from_residual-in_err-word.ensures (unnamed_as c.args.at c.in_ok-part.part c.in_ok-part.ensures c.blank-front.result c.blank-front.ensures c.in_err-word.ensures)

pub returns-in_err-gap : goal.returns-in_err-gap
returns-in_err-gap c =
    rw c.from_residual-in_err-gap.ensures (unnamed_gap c.args.at c.in_ok-part.part c.in_ok-part.ensures c.blank-front.result c.blank-front.ensures c.in_ok-word.word c.in_ok-word.ensures c.in_err-gap.ensures)

pub returns-in_err-name : goal.returns-in_err-name
returns-in_err-name c =
    rw c.from_residual-in_err-name.ensures (unnamed_name c.args.at c.in_ok-part.part c.in_ok-part.ensures c.blank-front.result c.blank-front.ensures c.in_ok-word.word c.in_ok-word.ensures c.in_ok-gap.gap c.in_ok-gap.ensures.1 c.in_err-name.ensures)

pub returns-then-is : goal.returns-then-is
returns-then-is c =
    named c.args.at c.in_ok-part.part c.in_ok-part.ensures c.blank-front.result c.blank-front.ensures c.in_ok-word.word c.in_ok-word.ensures c.in_ok-gap.gap c.in_ok-gap.ensures.1 c.in_ok-name.name c.in_ok-name.rest c.in_ok-name.ensures.1 c.blank-end.result c.blank-end.ensures
    c.in_ok-gap.ensures.0 c.in_ok-name.ensures.0 (sym c.is.ensures ∙ c.if-is.true)

pub returns-else-is : goal.returns-else-is
returns-else-is c =
    unnamed_end c.args.at c.in_ok-part.part c.in_ok-part.ensures c.blank-front.result c.blank-front.ensures c.in_ok-word.word c.in_ok-word.ensures c.in_ok-gap.gap c.in_ok-gap.ensures.1 c.in_ok-name.name c.in_ok-name.rest c.in_ok-name.ensures.1 c.blank-end.result c.blank-end.ensures
    (sym c.is.ensures ∙ c.if-is.false)
