use Rattle.ng_sizes.proofs.Whole.{shallow_of_parts}
use Rattle.ng_sizes.proofs.nodes_are_shallow.Goals as goal

pub returns : goal.returns
returns c = shallow_of_parts
