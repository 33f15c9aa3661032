use Rattle.std.proofs.Common.{◌≡◌, take, bytes_eq}
use Rattle.std.specs.List.{flat_map}
use Rattle.ng_breaks.specs.Least.{least_of}
use Rattle.std.specs.HashMap.{get}
use Rattle.ng_breaks.specs.NameRules.{usage_breaks}
use Rattle.ng_decl_rules.proofs.decl_rules.judge_usages.Given as goal

abbrev pub invariant-loop-usage : goal.invariant-loop-usage
invariant-loop-usage l = l.best ≡ least_of l.initial.best (flat_map (λ u. usage_breaks (get bytes_eq l.index u.name) l.owner u) (take l.usage-index l.usages))
