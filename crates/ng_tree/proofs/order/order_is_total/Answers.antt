use Rattle.ng_tree.specs.OrderTotal.{path_total, up_to_itself, up_to_both, up_to_chain, up_to_either}
use Rattle.ng_tree.proofs.order.order_is_total.Goals as goal

pub returns : goal.returns
returns c = record {
  reflexive = up_to_itself;
  antisymmetric = up_to_both;
  transitive = up_to_chain;
  total = up_to_either;
  reversed = path_total.antisymm;
}
