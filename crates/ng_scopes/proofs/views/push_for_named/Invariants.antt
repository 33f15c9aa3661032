use Rattle.std.proofs.Common.{◌≡◌, ◌++◌, map, take}
use Rattle.ng_scopes.specs.Templates.{head_variable}
use Rattle.ng_scopes.proofs.views.push_for_named.Given as goal

abbrev pub invariant-loop-named : goal.invariant-loop-named
invariant-loop-named l = l.names.items ≡ l.initial.names.items ++ map (λ v. head_variable l.place v.0) (take l.named-index l.named-items)
