use Rattle.std.proofs.Common.{◌∙◌, ap, not}
use Rattle.ng_ast.specs.declared.refusals.Rule.TheVariants as rule
use Rattle.ng_breaks.specs.Least.{broken, least_of}
use Rattle.ng_template_rules.specs.ElementRules.{is_allowed}
use Rattle.ng_breaks.specs.LeastLaws.{least_next}
use Rattle.ng_template_rules.proofs.allowed.judge_others.Goals as goal

pub loop-attr-preserved : goal.loop-attr-preserved
loop-attr-preserved c = least_next (λ a. broken (not (is_allowed c.args.tag.now a)) rule.N25 a.place c.args.tag.now) c.args.attrs.now c.loop-attr.attr-index c.attr-item.result c.args.best.now c.loop-attr.best c.offer.new.best
    c.loop-attr-test.true c.attr-item.is c.loop-attr.invariant
    (c.in_ok-offer.ensures ∙ ap (λ b. least_of c.loop-attr.best (broken (not b) rule.N25 c.attr-item.result.place c.args.tag.now)) c.is_allowed.ensures)
