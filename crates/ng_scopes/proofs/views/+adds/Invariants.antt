use Rattle.std.proofs.Common.{◌≡◌, ◌++◌, take}
use Rattle.std.specs.List.{flat_map}
use Rattle.ng_scopes.specs.Templates.{adds}
use Rattle.ng_scopes.proofs.views.+adds.Given as goal

abbrev pub invariant-push_all_adds-loop-node : goal.invariant-push_all_adds-loop-node
invariant-push_all_adds-loop-node l = l.names.items ≡ l.initial.names.items ++ flat_map adds (take l.node-index l.nodes)
