use Rattle.std.proofs.Common.{◌≡◌, take}
use Rattle.ng_scopes.specs.Names.{IsTable, lets_of}
use Rattle.ng_scopes.proofs.scope.table_of.Given as goal

abbrev pub invariant-loop-known : goal.invariant-loop-known
invariant-loop-known l = record { table : IsTable l.table (take l.known-index l.names); before : l.before ≡ lets_of (take l.known-index l.names) }
