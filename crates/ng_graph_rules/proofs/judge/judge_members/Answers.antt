use Rattle.std.proofs.Common.{◌∙◌}
use Rattle.ng_graph_rules.proofs.Laws.{taken_at}
use Rattle.ng_graph_rules.proofs.judge.judge_members.Goals as goal

pub returns : goal.returns
returns c = taken_at _ _ _ _ _ _ _ (c.as_slice.ensures.value ∙ c.in_ok-graph.ensures) (c.as_slice-2.ensures.value ∙ c.in_ok-sites.ensures) c.in_ok-judge_graph.ensures
