-- Which elements and hosts are live, told without a walk through the tree.
use Rattle.std.specs.Prelude.{◌≡◌, ℕ, List, [], ◌∷◌}
use Rattle.ng_ast.specs.declared.App.{App}
use Rattle.ng_ast.specs.declared.Component.{Component}
use Rattle.ng_ast.specs.declared.TAttr.{TAttr}
use Rattle.ng_tree.specs.declared.NodeId.{NodeId}
use Rattle.ng_tree.specs.declared.Step.TheVariants as step
use Rattle.ng_meaning.specs.Lists.{Text}
use Rattle.ng_meaning.specs.Template.{Form, Element, Host, NgContainer, Nodes}
use Rattle.ng_meaning.specs.Places.{Trail, Outline, Outlines, node_id, outlines}
use Rattle.ng_meaning.specs.Tree.{Tree}
use Rattle.ng_meaning.specs.Queries.{Live}
use Rattle.ng_meaning.specs.Laws.OnPage.{Stands}
use Rattle.ng_meaning.specs.Laws.Units.{IsShown}

-- The number of the node at which a template declares a view: the block of a branch or of a row, the `ng-content` of a fallback, the `ng-template` of
-- an outlet's view. An instance's own view isn't declared at a node.
abbrev pub declared_at : Trail → ℕ
declared_at (step.Branch n k ∷ p) = n
declared_at (step.Row n w k ∷ p) = n
declared_at (step.Outlet n t ∷ p) = t
declared_at p = 0

mutual
  -- A view stands in these elements and hosts of its template, the innermost first: an instance's own view in none, and a view inside of the template in
  -- those of the node at which it is declared. The views are the view itself, and then those whose names are seen in it.
  pub data ViewStands : Outlines → List NodeId → Type 0 where
    of_instance : {o : Outline} → ViewStands (o ∷ []) []
    of_node : {o d : Outline} {outer : Outlines} {f : Form} {round : List NodeId} → NodeStands (d ∷ outer) (declared_at o.path) f round → ViewStands (o ∷ d ∷ outer) round

  -- A node with this number and form stands in the first view, in these elements and hosts of its template, the innermost first: an outermost node of the
  -- view in those of the view, what stands in an element or a host in that one too, and what stands in a container in those of the container.
  pub data NodeStands : Outlines → ℕ → Form → List NodeId → Type 0 where
    outermost : {o : Outline} {outer : Outlines} {n : ℕ} {f : Form} {round : List NodeId} → ViewStands (o ∷ outer) round → Stands n f o.nodes → NodeStands (o ∷ outer) n f round
    in_element : {o : Outline} {outer : Outlines} {n m : ℕ} {f : Form} {tag : Text} {attrs : List TAttr} {nodes : Nodes} {round : List NodeId}
        → NodeStands (o ∷ outer) m (Element tag attrs nodes) round → Stands n f nodes → NodeStands (o ∷ outer) n f (node_id o.path m ∷ round)
    in_host : {o : Outline} {outer : Outlines} {n m : ℕ} {f : Form} {c : Component} {tag : Text} {attrs : List TAttr} {nodes : Nodes} {round : List NodeId}
        → NodeStands (o ∷ outer) m (Host c tag attrs nodes) round → Stands n f nodes → NodeStands (o ∷ outer) n f (node_id o.path m ∷ round)
    in_container : {o : Outline} {outer : Outlines} {n m : ℕ} {f : Form} {attrs : List TAttr} {nodes : Nodes} {round : List NodeId}
        → NodeStands (o ∷ outer) m (NgContainer attrs nodes) round → Stands n f nodes → NodeStands (o ∷ outer) n f round

-- a node is an element or a host
abbrev pub IsElement : Form → Type 0
IsElement (Element tag attrs nodes) = Unit {0}
IsElement (Host c tag attrs nodes) = Unit {0}
IsElement f = ⊥

-- An element or a host is live: it stands in a view that is shown. Its unit is the instance whose template has the view, and those that enclose it are
-- the elements and hosts of that template in which it stands.
pub record IsLive (app : App) (tree : Tree) (q : Live) : Type 0 where
  pub view : Outline
  pub outer : Outlines
  pub is_view : outlines app q.view ≡ view ∷ outer
  pub is_shown : IsShown app tree q.view
  pub unit : q.unit ≡ view.unit
  pub stands : NodeStands (view ∷ outer) q.number q.form q.enclosing
  pub is_element : IsElement q.form
