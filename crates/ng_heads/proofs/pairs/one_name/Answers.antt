use Rattle.std.proofs.Common.{sym, ◌∙◌}
use Rattle.ng_heads.proofs.RowLaws.{no_one_name, more_than_name, one_name_is}
use Rattle.ng_heads.proofs.pairs.one_name.Goals as goal

pub returns-in_err-name : goal.returns-in_err-name
returns-in_err-name c = rw c.from_residual.ensures (no_one_name c.args.at c.blank-front.result c.blank-front.ensures c.in_err-name.ensures)

pub returns-then-is : goal.returns-then-is
returns-then-is c = one_name_is c.args.at c.blank-front.result c.blank-front.ensures c.in_ok-name.name c.in_ok-name.rest c.in_ok-name.ensures.1 c.blank-end.result c.blank-end.ensures c.in_ok-name.ensures.0 (sym c.is.ensures ∙ c.if-is.true)

pub returns-else-is : goal.returns-else-is
returns-else-is c = more_than_name c.args.at c.blank-front.result c.blank-front.ensures c.in_ok-name.name c.in_ok-name.rest c.in_ok-name.ensures.1 c.blank-end.result c.blank-end.ensures (sym c.is.ensures ∙ c.if-is.false)
