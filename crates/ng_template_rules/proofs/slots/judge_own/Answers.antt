use Rattle.std.proofs.Common.{◌∙◌, ap}
use Rattle.ng_ast.specs.declared.refusals.Rule.TheVariants as rule
use Rattle.ng_parts.specs.Sites.{is_among}
use Rattle.ng_breaks.specs.Least.{broken, least_of}
use Rattle.ng_breaks.specs.LeastLaws.{least_next}
use Rattle.ng_template_rules.proofs.slots.judge_own.Goals as goal

pub loop-name-preserved : goal.loop-name-preserved
loop-name-preserved c = least_next (λ n. broken (is_among c.args.seen.now n) rule.N17 c.args.place n) c.args.own.now c.loop-name.name-index c.name-item.result c.args.best.now c.loop-name.best c.offer.new.best
    c.loop-name-test.true c.name-item.is c.loop-name.invariant
    (c.in_ok-offer.ensures ∙ ap (λ b. least_of c.loop-name.best (broken b rule.N17 c.args.place c.name-item.result)) c.is_seen.ensures)
