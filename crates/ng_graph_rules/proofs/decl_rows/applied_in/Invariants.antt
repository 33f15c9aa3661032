use Rattle.std.proofs.Common.{◌≡◌, take, bytes_eq}
use Rattle.std.specs.HashMap.{get}
use Rattle.ng_graph_rules.specs.CycleRules.{applied_in}
use Rattle.ng_graph_rules.proofs.decl_rows.applied_in.Given as goal

abbrev pub invariant-loop-usage : goal.invariant-loop-usage
invariant-loop-usage l = l.row.items ≡ applied_in (get bytes_eq l.index) (take l.usage-index l.usages)
