use Rattle.ng_heads.proofs.RowLaws.{unnamed_row, ungapped_row, row_without_of, at_row}
use Rattle.ng_heads.proofs.fors.row.Goals as goal

pub returns-in_err-name : goal.returns-in_err-name
returns-in_err-name c = rw c.from_residual.ensures (unnamed_row c.args.at c.blank-front.result c.blank-front.ensures c.in_err-name.ensures)

pub returns-in_err-gap : goal.returns-in_err-gap
returns-in_err-gap c = rw c.from_residual-in_err-gap.ensures (ungapped_row c.args.at c.blank-front.result c.blank-front.ensures c.in_ok-name.name c.in_ok-name.rest c.in_ok-name.ensures.1 c.in_err-gap.ensures)

pub returns-in_err-rest : goal.returns-in_err-rest
returns-in_err-rest c =
    rw c.from_residual-in_err-rest.ensures (row_without_of c.args.at c.blank-front.result c.blank-front.ensures c.in_ok-name.name c.in_ok-name.rest c.in_ok-name.ensures.1 c.in_ok-gap.gap c.in_ok-gap.ensures.1 c.in_err-rest.ensures)

pub returns : goal.returns
returns c =
    at_row c.args.at c.blank-front.result c.blank-front.ensures c.in_ok-name.name c.in_ok-name.rest c.in_ok-name.ensures.1 c.in_ok-gap.gap c.in_ok-gap.ensures.1 c.in_ok-rest.rest c.in_ok-gap.ensures.0 c.in_ok-name.ensures.0 c.in_ok-rest.ensures.0 c.in_ok-rest.ensures.1
