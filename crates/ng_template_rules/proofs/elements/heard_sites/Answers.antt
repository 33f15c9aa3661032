use Rattle.ng_template_rules.specs.ElementRules.{heard}
use Rattle.ng_template_rules.proofs.OneMore.{one_more}
use Rattle.ng_template_rules.proofs.elements.heard_sites.Goals as goal

pub loop-attr-preserved : goal.loop-attr-preserved
loop-attr-preserved c = one_more (λ a. heard a.place a.name a.form) c.args.attrs.now c.loop-attr.attr-index c.attr-item.result c.loop-attr.sites.items c.push_heard.new.sites.items
    c.loop-attr-test.true c.attr-item.is c.loop-attr.invariant c.in_ok-push_heard.ensures
