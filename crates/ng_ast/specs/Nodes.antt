-- The nodes of a template, in the order of their numbers.
use Rattle.std.specs.Prelude.{◌≡◌, ℕ, ◌+◌, List, [], ◌∷◌, length, Result, Ok, Err, Some}
use Rattle.std.specs.Borrow.{Bor}
use Rattle.std.specs.List.{flat_map, slice_get}
use Rattle.ng_ast.specs.declared.Branch.{Branch}
use Rattle.ng_ast.specs.declared.TNode.{TNode}
use Rattle.ng_ast.specs.Walked.{walked}

-- a node, and then all that stands inside it, in the order of their first bytes
unfoldable pub node_and_inner : TNode → List TNode
node_and_inner = walked [] (λ t insides. t ∷ flat_map (λ ts. ts) insides)

-- all nodes of a list of nodes: the node with number n is the n-th of them, from 0
abbrev pub all_nodes : List TNode → List TNode
all_nodes = flat_map node_and_inner

-- all nodes of a branch
abbrev pub branch_nodes : Branch → List TNode
branch_nodes b = all_nodes b.nodes

-- the sum of a list of numbers
abbrev pub total : List ℕ → ℕ
total [] = 0
total (n ∷ ns) = n + total ns

-- how many nodes a node and all that stands inside it are
unfoldable pub node_count : TNode → ℕ
node_count = walked 0 (λ t counts. 1 + total counts)

-- how many nodes a list of nodes has
unfoldable pub count : List TNode → ℕ
count [] = 0
count (t ∷ ts) = node_count t + count ts

-- What a look at a list of nodes answers: the node with that number, or how far past the last of them the number is.
abbrev pub Finds : List TNode → ℕ → Result (Bor TNode) ℕ → Type 0
Finds ts n (Ok t) = slice_get ts n ≡ Some t.now
Finds ts n (Err past) = n ≡ length ts + past
