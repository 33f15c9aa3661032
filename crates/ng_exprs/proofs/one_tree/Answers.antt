use Rattle.ng_exprs.proofs.Public.{reads_one}
use Rattle.ng_exprs.proofs.one_tree.Goals as goal

pub returns : goal.returns
returns c = reads_one
