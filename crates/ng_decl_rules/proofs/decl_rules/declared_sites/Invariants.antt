use Rattle.std.proofs.Common.{◌≡◌, take}
use Rattle.std.specs.List.{flat_map}
use Rattle.ng_decl_rules.specs.DeclRules.{declared_site}
use Rattle.ng_decl_rules.proofs.decl_rules.declared_sites.Given as goal

abbrev pub invariant-loop-decl : goal.invariant-loop-decl
invariant-loop-decl l = l.sites.items ≡ flat_map declared_site (take l.decl-index l.decls)
