use Rattle.ng_sizes.proofs.Whole.{few_of_parts}
use Rattle.ng_sizes.proofs.nodes_are_few.Goals as goal

pub returns : goal.returns
returns c = few_of_parts
