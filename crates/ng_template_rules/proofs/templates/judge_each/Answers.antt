use Rattle.std.proofs.Common.{◌∙◌, ap}
use Rattle.ng_breaks.specs.Least.{least_of}
use Rattle.ng_template_rules.specs.TemplateRules.{component_breaks, template_breaks}
use Rattle.ng_template_rules.proofs.LeastNext.{pointed_next, targets}
use Rattle.ng_template_rules.proofs.templates.judge_each.Goals as goal

pub loop-component-preserved : goal.loop-component-preserved
loop-component-preserved c = pointed_next (component_breaks (targets c.args.components.now)) c.args.components.now c.loop-component.component-index c.component-item.result c.args.best.now c.loop-component.best c.judge_template.new.best
    c.loop-component-test.true c.component-item.is c.loop-component.invariant
    (c.in_ok-judge_template.ensures ∙ ap (λ ts. least_of c.loop-component.best (template_breaks (targets c.args.components.now) c.component-item.result.now.name ts)) c.as_slice.ensures)
