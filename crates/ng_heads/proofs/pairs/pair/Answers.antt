use Rattle.ng_heads.proofs.RowLaws.{no_equals, no_pair_name, no_pair_variable, pair_is}
use Rattle.ng_heads.proofs.pairs.pair.Goals as goal

pub returns-in_err-right : goal.returns-in_err-right
returns-in_err-right c = rw c.from_residual.ensures (no_equals c.args.at c.until.result.0 c.until.result.1 c.until.ensures c.in_err-right.ensures)

pub returns-in_err-name : goal.returns-in_err-name
returns-in_err-name c = rw c.from_residual-in_err-name.ensures (no_pair_name c.args.at c.until.result.0 c.until.result.1 c.until.ensures c.in_ok-right.right c.in_ok-right.ensures c.in_err-name.ensures)

pub returns-in_err-variable : goal.returns-in_err-variable
returns-in_err-variable c =
    rw c.from_residual-in_err-variable.ensures (no_pair_variable c.args.at c.until.result.0 c.until.result.1 c.until.ensures c.in_ok-right.right c.in_ok-right.ensures c.in_err-variable.ensures)

pub returns : goal.returns
returns c =
    pair_is c.args.at c.until.result.0 c.until.result.1 c.until.ensures c.in_ok-right.right c.in_ok-right.ensures c.in_ok-name.name.now c.in_ok-variable.variable.now c.in_ok-name.ensures c.in_ok-variable.ensures.0 c.in_ok-variable.ensures.1
