use Rattle.std.proofs.Common.{◌≡◌, drop}
use Rattle.ng_breaks.specs.Least.{least_of}
use Rattle.ng_graph_rules.specs.CycleRules.{told_from}
use Rattle.ng_graph_rules.proofs.judge.offer_told.Given as goal

abbrev pub invariant-loop-site : goal.invariant-loop-site
invariant-loop-site l = least_of l.best (told_from l.rule l.answers l.at (drop l.site-index l.sites)) ≡ least_of l.initial.best (told_from l.rule l.answers 0 l.sites)
