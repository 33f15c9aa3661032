use Rattle.std.proofs.Common.{◌∙◌, ◌++◌, ap}
use Rattle.ng_parts.specs.Sites.{site, when}
use Rattle.ng_template_rules.specs.ElementRules.{is_of}
use Rattle.ng_template_rules.proofs.OneMore.{one_more}
use Rattle.ng_template_rules.proofs.elements.sites_of.Goals as goal

pub loop-attr-preserved : goal.loop-attr-preserved
loop-attr-preserved c = one_more (λ a. when (is_of c.args.group a.form) (site a.place a.name)) c.args.attrs.now c.loop-attr.attr-index c.attr-item.result c.loop-attr.sites.items c.push_if.new.found.items
    c.loop-attr-test.true c.attr-item.is c.loop-attr.invariant
    (c.in_ok-push_if.ensures ∙ ap (λ b. c.loop-attr.sites.items ++ when b (site c.attr-item.result.place c.attr-item.result.name)) c.is_of.ensures)
