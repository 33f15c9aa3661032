use Rattle.ng_exprs.proofs.parse.+whole.Given as goal

abbrev pub decreases-whole : goal.decreases-whole
decreases-whole l = l.depth
