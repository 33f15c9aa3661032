use Rattle.std.proofs.Common.{◌≡◌, take}
use Rattle.std.specs.Option.{option_copied}
use Rattle.ng_template_rules.specs.ElementRules.{given}
use Rattle.ng_template_rules.proofs.elements.given.Given as goal

abbrev pub invariant-loop-site : goal.invariant-loop-site
invariant-loop-site l = l.inputs.items ≡ given (option_copied l.host) (take l.site-index l.sites)
