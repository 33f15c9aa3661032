use Rattle.std.proofs.Common.{◌≡◌, take}
use Rattle.ng_template_rules.specs.TemplateRules.{references}
use Rattle.ng_template_rules.proofs.nodes.references.Given as goal

abbrev pub invariant-loop-known : goal.invariant-loop-known
invariant-loop-known l = l.sites.items ≡ references (take l.known-index l.names)
