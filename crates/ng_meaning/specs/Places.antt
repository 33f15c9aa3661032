-- Where views stand: their paths, and what the templates alone say of the view at a path.
use Rattle.std.specs.Prelude.{ℕ, Bool, true, false, List, [], ◌∷◌, ◌++◌, map, reverse, Option, Some, None}
use Rattle.ng_ast.specs.declared.App.{App}
use Rattle.ng_ast.specs.declared.Component.{Component}
use Rattle.ng_tree.specs.declared.NodeId.{NodeId}
use Rattle.ng_tree.specs.declared.NodeId.TheVariants as id
use Rattle.ng_tree.specs.declared.Site.{Site}
use Rattle.ng_tree.specs.declared.Site.TheVariants as site
use Rattle.ng_tree.specs.declared.Step.{Step}
use Rattle.ng_tree.specs.declared.Step.TheVariants as step
use Rattle.ng_meaning.specs.Declared.{root_component}
use Rattle.ng_meaning.specs.Template.{Form, NgContent, Host, If, For, Switch, NgTemplate, Nodes, no_nodes, Node, branch_nodes, node_at, template_nodes}

-- ---- paths

-- The steps from the root component's view to a view, the innermost step first: a view inside has one step more in front. (The paths that are
-- printed, and those in sites and nodes, have their outermost step first.)
abbrev pub Trail : Type 0
Trail = List Step

-- the path of a view, outermost step first
abbrev pub path_of : Trail → List Step
path_of = reverse

-- the instance whose own view has this path
abbrev pub instance_at : Trail → Site
instance_at p = site.Component (path_of p)

-- a node of the view with this path
abbrev pub node_id : Trail → ℕ → NodeId
node_id p n = id.At (path_of p) n

-- the site of a node: the instance of a host, and of another element the element
abbrev pub node_site : Trail → ℕ → Form → Site
node_site p n (Host c tag attrs nodes) = instance_at (step.Child n ∷ p)
node_site p n f = site.Element (node_id p n)

-- ---- the way of an instance

-- An instance on the way of a search for a provider, seen from inside, that is from its own template, or from beside, that is from its content.
pub record Entry : Type 0 where
  pub path : Trail
  pub component : Component
  pub inside : Bool

-- ---- views

-- What the templates say of a view: its path; the instance whose template has it, by its path, and that instance's component; its nodes; the content
-- that stands inside the host of that instance; and the entries of the way of what stands in the view.
pub record Outline : Type 0 where
  pub path : Trail
  pub unit : Trail
  pub component : Component
  pub nodes : Nodes
  pub content : Nodes
  pub entries : List Entry

-- a view, and then the views whose names are seen in it, from the nearest
abbrev pub Outlines : Type 0
Outlines = List Outline

-- the entries seen from a node of a view: the hosts that enclose it there, and then those of the view
abbrev pub entries_at : Outline → Node → List Entry
entries_at o q = map (λ h. record { path = step.Child h.0 ∷ o.path; component = h.1; inside = false }) q.hosts ++ o.entries

-- the own view of an instance, given the content inside its host and the entries seen from the host
abbrev pub instance_view : App → Trail → Component → Nodes → List Entry → Outline
instance_view app p c content beyond =
    record { path = p; unit = p; component = c; nodes = template_nodes app c; content = content; entries = record { path = p; component = c; inside = true } ∷ beyond }

-- a view inside the same template, at a node of a view
abbrev pub inner_view : Trail → Outline → Node → Nodes → Outline
inner_view p o q nodes = record o { path = p; nodes = nodes; entries = entries_at o q }

-- the nodes of the branch of a block with this number; the fallback of an `ng-content` is its branch 0
abbrev pub nodes_in_branch : Form → ℕ → Nodes
nodes_in_branch (If bs) k = branch_nodes bs k
nodes_in_branch (Switch e bs) k = branch_nodes bs k
nodes_in_branch (For head nodes empty) k = branch_nodes empty k
nodes_in_branch (NgContent attrs nodes) k = nodes
nodes_in_branch _ k = no_nodes

-- the nodes of a row
abbrev pub nodes_in_row : Form → Nodes
nodes_in_row (For head nodes empty) = nodes
nodes_in_row _ = no_nodes

-- the nodes of an `ng-template`
abbrev pub nodes_in_template : Form → Nodes
nodes_in_template (NgTemplate attrs nodes) = nodes
nodes_in_template _ = no_nodes

-- what follows from the node with a number, where the view has it
abbrev pub at_node : Outline → ℕ → (Node → Outlines) → Outlines
at_node o n f = elim (node_at n o.nodes) [ None ↦ [] | Some q ↦ f q ]

-- the own view of the component on a host
abbrev pub host_view : App → Outline → Node → Form → Outlines
host_view app o q (Host c tag attrs content) = instance_view app (step.Child q.number ∷ o.path) c content (entries_at o q) ∷ []
host_view app o q _ = []

-- The view of an `ng-template`, shown at a path: it stands where it is declared, in the nearest view that has the node, and has the way of that place.
abbrev pub outlet_view : Trail → ℕ → Outlines → Outlines
outlet_view p t [] = []
outlet_view p t (o ∷ outer) = elim (node_at t o.nodes) [ Some q ↦ inner_view p o q (nodes_in_template q.form) ∷ o ∷ outer | None ↦ outlet_view p t outer ]

-- the view that a step enters
abbrev pub entered : App → Step → Outlines → Outlines
entered app s [] = []
entered app (step.Child n) (o ∷ outer) = at_node o n (λ q. host_view app o q q.form)
entered app (step.Branch n k) (o ∷ outer) = at_node o n (λ q. inner_view (step.Branch n k ∷ o.path) o q (nodes_in_branch q.form k) ∷ o ∷ outer)
entered app (step.Row n w k) (o ∷ outer) = at_node o n (λ q. inner_view (step.Row n w k ∷ o.path) o q (nodes_in_row q.form) ∷ o ∷ outer)
entered app (step.Outlet n t) (o ∷ outer) = outlet_view (step.Outlet n t ∷ o.path) t (o ∷ outer)

-- the own view of the root instance, which has no host in a template
abbrev pub root_view : App → Option Component → Outlines
root_view app None = []
root_view app (Some c) = instance_view app [] c no_nodes [] ∷ []

-- the view at a path, and then the views whose names are seen in it
unfoldable pub outlines : App → Trail → Outlines
outlines app [] = root_view app (root_component app)
outlines app (s ∷ p) = entered app s (outlines app p)

-- the entries of the way of what stands in the first view
abbrev pub entries_of : Outlines → List Entry
entries_of [] = []
entries_of (o ∷ outer) = o.entries

-- The way of an instance: the instance from inside; the hosts of the same template that enclose its host, from beside, the innermost first; the
-- instance whose template has its host, from inside; and so on up to the root.
unfoldable pub way : App → Trail → List Entry
way app p = entries_of (outlines app p)
