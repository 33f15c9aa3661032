use Rattle.std.proofs.Common.{◌≡◌, ◌++◌, take}
use Rattle.std.specs.List.{flat_map}
use Rattle.ng_scopes.specs.Scope.{meaning_of}
use Rattle.ng_scopes.specs.Templates.{attr_usages}
use Rattle.ng_scopes.proofs.attributes.push_attrs.Given as goal

abbrev pub invariant-loop-attr : goal.invariant-loop-attr
invariant-loop-attr l = l.found.items ≡ l.initial.found.items ++ flat_map (attr_usages (meaning_of l.scope)) (take l.attr-index l.attrs)
