use Rattle.std.proofs.Common.{◌∙◌, ap}
use Rattle.ng_scopes.specs.Names.{Scope}
use Rattle.ng_graph_rules.specs.CycleRules.{getter_graph}
use Rattle.ng_graph_rules.proofs.Laws.{scope_of}
use Rattle.ng_graph_rules.proofs.getters.getter_graph.Goals as goal

pub returns : goal.returns
returns c = c.in_ok-rows.ensures ∙ ap (λ (s : Scope). getter_graph s c.args.members.now) (scope_of c.in_ok-table.table _ c.args.members.now (c.in_ok-table.ensures) (c.as_slice.ensures.value ∙ c.in_ok-names.ensures))
