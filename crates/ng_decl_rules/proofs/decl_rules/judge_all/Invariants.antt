use Rattle.std.proofs.Common.{◌≡◌, take, bytes_eq}
use Rattle.std.specs.List.{flat_map}
use Rattle.ng_breaks.specs.Least.{least_of}
use Rattle.std.specs.HashMap.{get}
use Rattle.ng_decl_rules.specs.DeclRules.{each_breaks}
use Rattle.ng_decl_rules.proofs.decl_rules.judge_all.Given as goal

abbrev pub invariant-loop-decl : goal.invariant-loop-decl
invariant-loop-decl l = l.best ≡ least_of l.initial.best (flat_map (each_breaks (get bytes_eq l.index)) (take l.decl-index l.decls))
