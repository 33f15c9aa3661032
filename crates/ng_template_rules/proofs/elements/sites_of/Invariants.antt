use Rattle.std.proofs.Common.{◌≡◌, take}
use Rattle.ng_template_rules.specs.ElementRules.{sites_of}
use Rattle.ng_template_rules.proofs.elements.sites_of.Given as goal

abbrev pub invariant-loop-attr : goal.invariant-loop-attr
invariant-loop-attr l = l.sites.items ≡ sites_of l.group (take l.attr-index l.attrs)
