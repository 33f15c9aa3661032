use Rattle.std.proofs.Common.{◌≡◌, take}
use Rattle.std.specs.List.{filter_map}
use Rattle.ng_tree.specs.Names.{environment_in}
use Rattle.ng_tree.proofs.naming.environment_names.Given as goal

abbrev pub invariant-loop-decl : goal.invariant-loop-decl
invariant-loop-decl l = l.names.items ≡ filter_map environment_in (take l.decl-index l.decls)
