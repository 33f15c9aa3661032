use Rattle.std.proofs.Common.{◌≡◌, take}
use Rattle.ng_template_rules.specs.ElementRules.{heard_sites}
use Rattle.ng_template_rules.proofs.elements.heard_sites.Given as goal

abbrev pub invariant-loop-attr : goal.invariant-loop-attr
invariant-loop-attr l = l.sites.items ≡ heard_sites (take l.attr-index l.attrs)
