use Rattle.std.proofs.Common.{◌≡◌, drop}
use Rattle.ng_breaks.specs.Least.{least_of, of_rule}
use Rattle.ng_breaks.proofs.least.offer_all.Given as goal

abbrev pub invariant-loop-site : goal.invariant-loop-site
invariant-loop-site l = least_of l.best (of_rule l.rule (drop l.site-index l.sites)) ≡ least_of l.initial.best (of_rule l.rule l.sites)
