use Rattle.ng_tags.proofs.Tagging.{told_ok, told_err}
use Rattle.ng_tags.proofs.tags.token.Goals as goal

pub returns-in-Ok : goal.returns-in-Ok
returns-in-Ok c = told_ok c.args.found _ c.in-Ok.is

pub returns-in-Err : goal.returns-in-Err
returns-in-Err c = told_err c.args.found c.in-Err.stop _ c.in-Err.is c.halted.ensures
