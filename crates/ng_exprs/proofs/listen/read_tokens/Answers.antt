use Rattle.ng_exprs.specs.Lines.{most}
use Rattle.ng_exprs.proofs.LinesPublic.{listener_ok, listener_err}
use Rattle.ng_exprs.proofs.listen.read_tokens.Goals as goal

pub returns-in-Ok : goal.returns-in-Ok
unfolding most
returns-in-Ok c = listener_ok _ _ _ c.in-Ok.ensures

pub returns-in-Err : goal.returns-in-Err
unfolding most
returns-in-Err c = listener_err _ _ c.requires c.in-Err.ensures
