use Rattle.std.proofs.Common.{◌∙◌, ◌||◌, ap, not}
use Rattle.std.specs.Option.{option_copied}
use Rattle.ng_ast.specs.declared.refusals.Rule.TheVariants as rule
use Rattle.ng_breaks.specs.Least.{broken, least_of}
use Rattle.ng_template_rules.specs.ElementRules.{has_input}
use Rattle.ng_template_rules.specs.Tables.{is_property}
use Rattle.ng_breaks.specs.LeastLaws.{least_next}
use Rattle.ng_template_rules.proofs.elements.judge_bound.Goals as goal

pub loop-site-preserved : goal.loop-site-preserved
loop-site-preserved c = least_next (λ s. broken (not (has_input (option_copied c.args.host) s.name || is_property s.name)) rule.N05 s.place s.name) c.args.bound.now c.loop-site.site-index c.site-item.result c.args.best.now c.loop-site.best c.offer.new.best
    c.loop-site-test.true c.site-item.is c.loop-site.invariant
    (c.in_ok-offer.ensures ∙ ap (λ b. least_of c.loop-site.best (broken b rule.N05 c.site-item.result.place c.site-item.result.name)) c.lacks_input.ensures)
