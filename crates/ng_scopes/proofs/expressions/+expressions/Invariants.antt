use Rattle.std.proofs.Common.{◌≡◌, ◌++◌, take}
use Rattle.std.specs.List.{flat_map}
use Rattle.ng_scopes.specs.Scope.{meaning_of}
use Rattle.ng_scopes.specs.Usages.{usages}
use Rattle.ng_scopes.proofs.expressions.+expressions.Given as goal

abbrev pub invariant-push_exprs-loop-expr : goal.invariant-push_exprs-loop-expr
invariant-push_exprs-loop-expr l = l.found.items ≡ l.initial.found.items ++ flat_map (usages l.spot (meaning_of l.scope)) (take l.expr-index l.exprs)

abbrev pub invariant-push_pairs-loop-pair : goal.invariant-push_pairs-loop-pair
invariant-push_pairs-loop-pair l = l.found.items ≡ l.initial.found.items ++ flat_map (λ q. usages l.spot (meaning_of l.scope) q.1) (take l.pair-index l.pairs)
