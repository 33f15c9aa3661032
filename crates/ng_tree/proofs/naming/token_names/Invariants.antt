use Rattle.std.proofs.Common.{◌≡◌, take}
use Rattle.std.specs.List.{filter_map}
use Rattle.ng_tree.specs.Names.{token_in}
use Rattle.ng_tree.proofs.naming.token_names.Given as goal

abbrev pub invariant-loop-decl : goal.invariant-loop-decl
invariant-loop-decl l = l.names.items ≡ filter_map token_in (take l.decl-index l.decls)
