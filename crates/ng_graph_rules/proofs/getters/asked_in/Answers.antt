use Rattle.std.proofs.Common.{◌∙◌, ◌++◌, ap}
use Rattle.ng_breaks.specs.LeastLaws.{flat_map_next}
use Rattle.ng_graph_rules.specs.CycleRules.{asked}
use Rattle.ng_graph_rules.proofs.getters.asked_in.Goals as goal

pub loop-usage-preserved : goal.loop-usage-preserved
loop-usage-preserved c = c.in_ok-push_asked.ensures ∙ ap (λ l. l ++ asked c.usage-item.result.meaning c.usage-item.result.act) c.loop-usage.invariant
    ∙ flat_map_next (λ u. asked u.meaning u.act) c.args.usages.now c.loop-usage.usage-index c.usage-item.result c.loop-usage-test.true c.usage-item.is
