use Rattle.std.proofs.Common.{◌≡◌, ◌++◌, take}
use Rattle.std.specs.List.{flat_map}
use Rattle.ng_scopes.specs.Templates.{attr_known}
use Rattle.ng_scopes.proofs.attributes.push_references.Given as goal

abbrev pub invariant-loop-attr : goal.invariant-loop-attr
invariant-loop-attr l = l.names.items ≡ l.initial.names.items ++ flat_map (attr_known l.meaning) (take l.attr-index l.attrs)
