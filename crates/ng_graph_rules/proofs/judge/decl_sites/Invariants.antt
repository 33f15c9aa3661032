use Rattle.std.proofs.Common.{◌≡◌, take}
use Rattle.ng_graph_rules.specs.CycleRules.{decl_sites}
use Rattle.ng_graph_rules.proofs.judge.decl_sites.Given as goal

abbrev pub invariant-loop-decl : goal.invariant-loop-decl
invariant-loop-decl l = l.sites.items ≡ decl_sites (take l.decl-index l.decls)
