use Rattle.ng_sizes.proofs.Whole.{order_of_parts, few_in_order}
use Rattle.ng_sizes.proofs.nodes_are_in_order.Goals as goal

pub returns-clause-whole : goal.returns-clause-whole
returns-clause-whole c = order_of_parts

pub returns-clause-few : goal.returns-clause-few
returns-clause-few c = few_in_order
