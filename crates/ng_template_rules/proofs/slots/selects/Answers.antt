use Rattle.ng_template_rules.specs.TemplateRules.{selects}
use Rattle.ng_template_rules.proofs.OneMore.{one_more}
use Rattle.ng_template_rules.proofs.slots.selects.Goals as goal

pub loop-attr-preserved : goal.loop-attr-preserved
loop-attr-preserved c = one_more (λ a. selects a.name a.form) c.args.attrs.now c.loop-attr.attr-index c.attr-item.result c.loop-attr.selects.items c.push_select.new.selects.items
    c.loop-attr-test.true c.attr-item.is c.loop-attr.invariant c.in_ok-push_select.ensures
