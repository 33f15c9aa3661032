use Rattle.ng_rules.proofs.Laws.{one_list}
use Rattle.ng_rules.proofs.checker.one_list_of_breaks.Goals as goal

pub returns : goal.returns
returns c = one_list
