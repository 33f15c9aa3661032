use Rattle.std.proofs.Common.{◌≡◌, take}
use Rattle.ng_graph_rules.specs.CycleRules.{asked_in}
use Rattle.ng_graph_rules.proofs.getters.asked_in.Given as goal

abbrev pub invariant-loop-usage : goal.invariant-loop-usage
invariant-loop-usage l = l.row.items ≡ asked_in (take l.usage-index l.usages)
