use Rattle.std.proofs.Common.{◌≡◌, ◌++◌, take}
use Rattle.std.specs.List.{flat_map}
use Rattle.ng_scopes.specs.Scope.{meaning_of}
use Rattle.ng_scopes.specs.Usages.{stmt_usages}
use Rattle.ng_scopes.proofs.statements.+statements.Given as goal

abbrev pub invariant-push_stmts-loop-stmt : goal.invariant-push_stmts-loop-stmt
invariant-push_stmts-loop-stmt l = l.found.items ≡ l.initial.found.items ++ flat_map (stmt_usages l.spot (meaning_of l.scope)) (take l.stmt-index l.stmts)
