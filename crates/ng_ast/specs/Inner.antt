-- The nodes of a template as a plain tree: what stands directly inside a node.
use Rattle.std.specs.Prelude.{List, [], ◌++◌, Option, Some, None}
use Rattle.std.specs.List.{flat_map}
use Rattle.ng_ast.specs.declared.Branch.{Branch}
use Rattle.ng_ast.specs.declared.TNode.{TNode, out-TNode}
use Rattle.ng_ast.specs.declared.TNode.TheOpen.{TNode-F}

-- the nodes of a branch that may be left out
abbrev pub optional_nodes : Option Branch → List TNode
optional_nodes None = []
optional_nodes (Some b) = b.nodes

-- the nodes directly inside, in the order of the text; a branch is no node, and its nodes stand inside the block
abbrev pub inner_layer : TNode-F TNode Branch → List TNode
inner_layer (TNode-F.Element p tag attrs ts) = ts
inner_layer (TNode-F.Text p pieces) = []
inner_layer (TNode-F.If p bs) = flat_map (λ b. b.nodes) bs
inner_layer (TNode-F.For p head ts empty) = ts ++ optional_nodes empty
inner_layer (TNode-F.Switch p e bs) = flat_map (λ b. b.nodes) bs
inner_layer (TNode-F.Let p name e) = []

-- the nodes directly inside a node
abbrev pub inner : TNode → List TNode
inner t = inner_layer (out-TNode t)
