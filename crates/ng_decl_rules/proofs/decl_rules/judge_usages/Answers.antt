use Rattle.std.proofs.Common.{◌∙◌, ap, bytes_eq}
use Rattle.std.specs.HashMap.{get}
use Rattle.ng_breaks.specs.Least.{least_of}
use Rattle.ng_breaks.specs.NameRules.{usage_breaks}
use Rattle.ng_breaks.specs.LeastLaws.{least_next}
use Rattle.ng_decl_rules.proofs.decl_rules.judge_usages.Goals as goal

pub loop-usage-preserved : goal.loop-usage-preserved
loop-usage-preserved c = least_next (λ u. usage_breaks (get bytes_eq c.args.index.now u.name) c.args.owner.now u) c.args.usages.now c.loop-usage.usage-index c.usage-item.result c.args.best.now c.loop-usage.best c.judge_usage.new.best
    c.loop-usage-test.true c.usage-item.is c.loop-usage.invariant
    (c.in_ok-judge_usage.ensures ∙ ap (λ d. least_of c.loop-usage.best (usage_breaks d c.args.owner.now c.usage-item.result)) c.get.ensures.value)
