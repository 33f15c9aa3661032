use Rattle.ng_exprs.proofs.Whole.{answered_ok, answered_err, unscanned}
use Rattle.ng_exprs.proofs.read_text.Goals as goal

pub returns-in-Err : goal.returns-in-Err
returns-in-Err c = unscanned _ _ _ _ c.in-Err.ensures

pub returns-in-Ok-read_tokens : goal.returns-in-Ok-read_tokens
returns-in-Ok-read_tokens c = answered_ok _ _ _ _ c.in-Ok.ensures _ c.in-Ok-read_tokens.ensures

pub returns : goal.returns
returns c = answered_err _ _ _ _ c.in-Ok.ensures _ _ c.in-Err-read_tokens.ensures c.refused.ensures
