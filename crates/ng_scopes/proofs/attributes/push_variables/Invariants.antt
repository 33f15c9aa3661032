use Rattle.std.proofs.Common.{◌≡◌, ◌++◌, take}
use Rattle.std.specs.List.{flat_map}
use Rattle.ng_scopes.specs.Templates.{let_known}
use Rattle.ng_scopes.proofs.attributes.push_variables.Given as goal

abbrev pub invariant-loop-attr : goal.invariant-loop-attr
invariant-loop-attr l = l.names.items ≡ l.initial.names.items ++ flat_map let_known (take l.attr-index l.attrs)
