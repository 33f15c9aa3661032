use Rattle.ng_exprs.proofs.parse.Rules.+prefixed.Given as goal

abbrev pub decreases-prefixed : goal.decreases-prefixed
decreases-prefixed g l = l.turns
