use Rattle.std.proofs.Common.{take}
use Rattle.ng_graph_rules.specs.CycleRules.{TakesGetterCycles}
use Rattle.ng_graph_rules.proofs.judge.judge_getters.Given as goal

abbrev pub invariant-loop-decl : goal.invariant-loop-decl
invariant-loop-decl l = TakesGetterCycles (take l.decl-index l.decls) l.initial.best l.best
