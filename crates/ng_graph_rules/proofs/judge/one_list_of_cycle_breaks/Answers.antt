use Rattle.ng_graph_rules.proofs.Unique.{same_breaks}
use Rattle.ng_graph_rules.proofs.judge.one_list_of_cycle_breaks.Goals as goal

pub returns : goal.returns
returns c = same_breaks
