use Rattle.ng_exprs.proofs.parse.Rules.+chosen.Given as goal

abbrev pub decreases-chosen : goal.decreases-chosen
decreases-chosen g l = l.turns
