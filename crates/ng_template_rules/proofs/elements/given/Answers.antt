use Rattle.std.proofs.Common.{◌∙◌, ◌++◌, ap}
use Rattle.std.specs.Option.{option_copied}
use Rattle.ng_parts.specs.Sites.{when}
use Rattle.ng_template_rules.specs.ElementRules.{has_input}
use Rattle.ng_template_rules.proofs.OneMore.{one_more}
use Rattle.ng_template_rules.proofs.elements.given.Goals as goal

pub loop-site-preserved : goal.loop-site-preserved
loop-site-preserved c = one_more (λ s. when (has_input (option_copied c.args.host) s.name) s) c.args.sites.now c.loop-site.site-index c.site-item.result c.loop-site.inputs.items c.push_if.new.found.items
    c.loop-site-test.true c.site-item.is c.loop-site.invariant
    (c.in_ok-push_if.ensures ∙ ap (λ b. c.loop-site.inputs.items ++ when b c.site-item.result) c.has_input.ensures)
