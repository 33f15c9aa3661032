use Rattle.ng_heads.proofs.BlockLaws.{no_gap, if_clause}
use Rattle.ng_heads.proofs.heads.after_if.Goals as goal

pub returns-in_err-rest : goal.returns-in_err-rest
returns-in_err-rest c = rw c.from_residual.ensures (no_gap c.args.at c.in_err-rest.ensures)

pub returns : goal.returns
returns c = if_clause c.args.at c.in_ok-rest.rest c.word.result c.in_ok-rest.ensures.0 c.in_ok-rest.ensures.1 c.word.ensures
