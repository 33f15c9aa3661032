use Rattle.std.proofs.Common.{◌≡◌, take}
use Rattle.ng_scopes.specs.Declarations.{parameters}
use Rattle.ng_scopes.proofs.declarations.parameters.Given as goal

abbrev pub invariant-loop-param : goal.invariant-loop-param
invariant-loop-param l = l.names.items ≡ parameters l.place (take l.param-index l.params)
