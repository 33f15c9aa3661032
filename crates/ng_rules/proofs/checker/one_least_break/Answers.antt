use Rattle.ng_rules.proofs.Laws.{one_least}
use Rattle.ng_rules.proofs.checker.one_least_break.Goals as goal

pub returns : goal.returns
returns c = one_least
