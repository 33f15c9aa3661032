use Rattle.std.proofs.Common.{rules}
use Rattle.ng_tags.proofs.outlets.choice.Goals as goal

pub returns-in_err-left : goal.returns-in_err-left
returns-in_err-left c = search rules

pub returns-in_err-right : goal.returns-in_err-right
returns-in_err-right c = search rules

pub same-left : goal.same-left
same-left c = search rules

pub returns : goal.returns
returns c = search rules
