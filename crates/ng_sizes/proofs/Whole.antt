-- The laws on whole lists of parts.
use Rattle.std.proofs.Common.{◌≡◌, ◌≤◌, List, length, ap, arith}
use Rattle.ng_ast.specs.declared.TNode.{TNode}
use Rattle.ng_ast.specs.Nodes.{all_nodes}
use Rattle.ng_nodes.specs.Texts.{Parts}
use Rattle.ng_nodes.specs.Limits.{ReadsNodes}
use Rattle.ng_nodes.specs.Reading.{OverParts}
use Rattle.ng_semantics.specs.Template.{in_order, nesting}
use Rattle.ng_sizes.specs.Sizes.{IsShallow}
use Rattle.ng_sizes.proofs.Order.{order_is}
use Rattle.ng_sizes.proofs.Levels.{shallow}
use Rattle.ng_sizes.proofs.Few.{few}

pub few_of_parts : (ts : Parts) (ns : List TNode) → ReadsNodes ts ns → (OverParts ts → ⊥) → length (all_nodes ns) ≤ 4096
few_of_parts ts ns h within = few 32 4096 ts ns h within

pub shallow_of_parts : (ts : Parts) (ns : List TNode) → ReadsNodes ts ns → (OverParts ts → ⊥) → IsShallow 32 ns
shallow_of_parts ts ns h within = shallow 32 4096 ts ns h within

pub order_of_parts : (ts : Parts) (ns : List TNode) → ReadsNodes ts ns → (OverParts ts → ⊥) → in_order nesting ns ≡ all_nodes ns
order_of_parts ts ns h within = order_is 32 ns (shallow_of_parts ts ns h within)

pub few_in_order : (ts : Parts) (ns : List TNode) → ReadsNodes ts ns → (OverParts ts → ⊥) → length (in_order nesting ns) ≤ 4096
few_in_order ts ns h within = omega (arith, few_of_parts ts ns h within, ap length (order_of_parts ts ns h within))
