use Rattle.std.proofs.Common.{◌≡◌, take, bytes_eq}
use Rattle.std.specs.HashMap.{get}
use Rattle.ng_graph_rules.specs.CycleRules.{environment_graph}
use Rattle.ng_graph_rules.proofs.decl_rows.environment_graph.Given as goal

abbrev pub invariant-loop-decl : goal.invariant-loop-decl
invariant-loop-decl l = l.rows.items ≡ environment_graph (get bytes_eq l.index) (take l.decl-index l.decls)
