use Rattle.std.proofs.Common.{◌≡◌, take, bytes_eq, not}
use Rattle.std.specs.List.{flat_map}
use Rattle.std.specs.HashMap.{get}
use Rattle.ng_ast.specs.declared.refusals.Rule.TheVariants as rule
use Rattle.ng_breaks.specs.Least.{broken, least_of}
use Rattle.ng_decl_rules.specs.DeclRules.{starts_at}
use Rattle.ng_decl_rules.proofs.decl_rules.judge_boots.Given as goal

abbrev pub invariant-loop-boot : goal.invariant-loop-boot
invariant-loop-boot l = l.best ≡ least_of l.initial.best (flat_map (λ s. broken (not (starts_at l.decls (get bytes_eq l.index s.name))) rule.N01 s.place s.name) (take l.boot-index l.boots))
