use Rattle.std.proofs.Common.{◌∙◌, ap}
use Rattle.ng_ast.specs.declared.refusals.Rule.TheVariants as rule
use Rattle.ng_breaks.specs.Least.{broken, least_of}
use Rattle.ng_template_rules.specs.ElementRules.{wanted_breaks}
use Rattle.ng_breaks.specs.LeastLaws.{least_next}
use Rattle.ng_template_rules.proofs.elements.judge_wanted.Goals as goal

pub loop-member-preserved : goal.loop-member-preserved
loop-member-preserved c = least_next (wanted_breaks c.args.place c.args.giving.now) c.args.members.now c.loop-member.member-index c.member-item.result c.args.best.now c.loop-member.best c.offer.new.best
    c.loop-member-test.true c.member-item.is c.loop-member.invariant
    (c.in_ok-offer.ensures ∙ ap (λ b. least_of c.loop-member.best (broken b rule.N06 c.args.place c.member-item.result.name)) c.is_missing.ensures)
