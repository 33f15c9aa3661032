-- The components that templates use, as a graph whose nodes are the components by their positions.
use Rattle.std.specs.Prelude.{◌≡◌, ℕ, Bool, false, List, [], map, length, Some, slice_get, slice_index_or, IsTrue}
use Rattle.std.specs.List.{flat_map}
use Rattle.ng_graph.specs.Walk.{Graph}
use Rattle.ng_ast.specs.declared.TNode.{TNode, out-TNode}
use Rattle.ng_ast.specs.declared.TNode.TheOpen.{TNode-F}
use Rattle.ng_ast.specs.declared.Branch.{Branch}
use Rattle.ng_ast.specs.declared.Component.{Component}
use Rattle.ng_ast.specs.Nodes.{all_nodes}
use Rattle.ng_hosts.specs.Hosts.{Name, host_positions}
use Rattle.ng_quiet.specs.Reached.{IsMarked}
use Rattle.ng_quiet.specs.Quiet.{MayBeSkipped, KeepsFields}

abbrev pub layer_positions : List Component → TNode-F TNode Branch → List ℕ
layer_positions cs (TNode-F.Element p tag attrs ts) = host_positions cs tag attrs
layer_positions cs (TNode-F.Text p pieces) = []
layer_positions cs (TNode-F.If p bs) = []
layer_positions cs (TNode-F.For p head ts empty) = []
layer_positions cs (TNode-F.Switch p e bs) = []
layer_positions cs (TNode-F.Let p n e) = []

-- the positions of the components that a node is a host of
unfoldable pub node_positions : List Component → TNode → List ℕ
node_positions cs t = layer_positions cs (out-TNode t)

-- the positions of the components that a component's template uses
abbrev pub used_positions : List Component → Component → List ℕ
used_positions cs c = flat_map (node_positions cs) (all_nodes c.template.nodes)

abbrev pub used_graph : List Component → Graph
used_graph cs = map (used_positions cs) cs

-- The marks are those of the components whose check may be left out.
pub record MarksSkipped (cs : List Component) (marks : List Bool) : Type 0 where
  pub long : length marks ≡ length cs
  pub sound : (k : ℕ) (c : Component) → slice_get cs k ≡ Some c → IsMarked marks k → MayBeSkipped cs c
  pub complete : (c : Component) → MayBeSkipped cs c → (k : ℕ) × (slice_get cs k ≡ Some c) × IsMarked marks k

-- Each component with a mark reads steadily and keeps its fields.
abbrev pub AllKeep : List Component → List Bool → List Bool → (Name → Bool) → Type 0
AllKeep cs marks steady called = (k : ℕ) (c : Component) → slice_get cs k ≡ Some c → IsMarked marks k → IsTrue (slice_index_or steady k false) × KeepsFields called c
