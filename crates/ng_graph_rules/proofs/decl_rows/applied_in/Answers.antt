use Rattle.std.proofs.Common.{◌∙◌, ◌++◌, ap, bytes_eq}
use Rattle.std.specs.HashMap.{get}
use Rattle.ng_breaks.specs.LeastLaws.{flat_map_next}
use Rattle.ng_graph_rules.specs.CycleRules.{applied}
use Rattle.ng_graph_rules.proofs.decl_rows.applied_in.Goals as goal

pub loop-usage-preserved : goal.loop-usage-preserved
loop-usage-preserved c = c.in_ok-push_applied.ensures ∙ ap (λ d. c.loop-usage.row.items ++ applied d c.usage-item.result.act) c.get.ensures.value
    ∙ ap (λ l. l ++ applied (get bytes_eq c.args.index.now c.usage-item.result.name) c.usage-item.result.act) c.loop-usage.invariant
    ∙ flat_map_next (λ u. applied (get bytes_eq c.args.index.now u.name) u.act) c.args.usages.now c.loop-usage.usage-index c.usage-item.result c.loop-usage-test.true c.usage-item.is
