use Rattle.std.proofs.Common.{ap, Err}
use Rattle.ng_cli.specs.Refusals.{events_syntax, events_not_built}
use Rattle.ng_cli.proofs.inputs.clicks_of.Goals as goal

pub returns-in-Err-Syntax-clause-err : goal.returns-in-Err-Syntax-clause-err
returns-in-Err-Syntax-clause-err c = events_syntax c.requires (c.in-Err-Syntax.ensures.syntax (ap Err c.in-Err-Syntax.field-0-is))

pub returns-in-Err-NotBuilt-clause-err : goal.returns-in-Err-NotBuilt-clause-err
returns-in-Err-NotBuilt-clause-err c =
    let h = c.in-Err-NotBuilt.ensures.not_built (ap Err c.in-Err-NotBuilt.field-0-is) in
    events_not_built c.requires h.0 h.1 h.2
