use Rattle.ng_exprs.proofs.blocks.+body.Given as goal

abbrev pub decreases-body : goal.decreases-body
decreases-body l = l.depth
