use Rattle.std.proofs.Common.{◌≡◌, take}
use Rattle.ng_graph_rules.specs.CycleRules.{getter_graph}
use Rattle.ng_scopes.specs.Names.{nothing}
use Rattle.ng_scopes.specs.Scope.{kept_in}
use Rattle.ng_graph_rules.proofs.getters.rows_in.Given as goal

abbrev pub invariant-loop-member : goal.invariant-loop-member
invariant-loop-member l = l.rows.items ≡ getter_graph (kept_in l.table nothing 0) (take l.member-index l.members)
