use Rattle.std.proofs.Common.{◌≡◌, take}
use Rattle.ng_template_rules.specs.TemplateRules.{variables}
use Rattle.ng_template_rules.proofs.nodes.variables.Given as goal

abbrev pub invariant-loop-known : goal.invariant-loop-known
invariant-loop-known l = l.sites.items ≡ variables (take l.known-index l.names)
