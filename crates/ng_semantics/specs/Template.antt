-- The nodes of a template and their numbers.
use Rattle.std.specs.Prelude.{ℕ, zero, suc, List, [], ◌∷◌, ◌++◌, Option, Some, None, slice_get}
use Rattle.std.specs.List.{flat_map}
use Rattle.ng_ast.specs.declared.TNode.{TNode, out-TNode}
use Rattle.ng_ast.specs.declared.TNode.TheOpen.{TNode-F}
use Rattle.ng_ast.specs.declared.Branch.{Branch}

-- Elements and blocks nest less deep than this.
abbrev pub nesting : ℕ
nesting = 33

-- The nodes that stand inside a node.
abbrev pub inside : TNode-F TNode Branch → List TNode
inside (TNode-F.Element place tag attrs nodes) = nodes
inside (TNode-F.Text place pieces) = []
inside (TNode-F.If place branches) = flat_map (λ b. b.nodes) branches
inside (TNode-F.For place head nodes empty) = nodes ++ elim empty [ None ↦ [] | Some b ↦ b.nodes ]
inside (TNode-F.Switch place value branches) = flat_map (λ b. b.nodes) branches
inside (TNode-F.Let place name value) = []

-- Nodes that stand side by side and all nodes inside them, in the order of their first byte, at most so many levels deep.
unfoldable pub in_order : ℕ → List TNode → List TNode
in_order zero nodes = []
in_order (suc depth) nodes = flat_map (λ node. node ∷ in_order depth (inside (out-TNode node))) nodes

-- The node with this number in a template. Numbers go from 0 in the order of the first bytes.
abbrev pub node_at : List TNode → ℕ → Option TNode
node_at nodes n = slice_get (in_order nesting nodes) n
