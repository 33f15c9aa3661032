use Rattle.std.proofs.Common.{◌∙◌, ◌++◌, ap, not}
use Rattle.ng_parts.specs.Sites.{site, when}
use Rattle.ng_template_rules.specs.TemplateRules.{is_reference}
use Rattle.ng_template_rules.proofs.OneMore.{one_more}
use Rattle.ng_template_rules.proofs.nodes.variables.Goals as goal

pub loop-known-preserved : goal.loop-known-preserved
loop-known-preserved c = one_more (λ k. when (not (is_reference k.meaning)) (site k.place k.name)) c.args.names.now c.loop-known.known-index c.known-item.result c.loop-known.sites.items c.push_if.new.found.items
    c.loop-known-test.true c.known-item.is c.loop-known.invariant
    (c.in_ok-push_if.ensures ∙ ap (λ b. c.loop-known.sites.items ++ when (not b) (site c.known-item.result.place c.known-item.result.name)) c.is_reference.ensures)
