-- Which nodes are on the page, told without drawing it.
use Rattle.std.specs.Prelude.{◌≡◌, ◌⊎◌, ℕ, ◌+◌, ◌≤◌, true, List, [], ◌∷◌, length, Some}
use Rattle.ng_ast.specs.declared.App.{App}
use Rattle.ng_ast.specs.declared.Component.{Component}
use Rattle.ng_ast.specs.declared.TAttr.{TAttr}
use Rattle.ng_tree.specs.declared.NodeId.{NodeId}
use Rattle.ng_tree.specs.declared.Step.{Step}
use Rattle.ng_tree.specs.declared.Step.TheVariants as step
use Rattle.ng_meaning.specs.Lists.{Text}
use Rattle.ng_meaning.specs.Template.{Form, Element, Host, NgContainer, Nodes, no_nodes, node}
use Rattle.ng_meaning.specs.Places.{Trail, Outline, Outlines, node_id, outlines}
use Rattle.ng_meaning.specs.Projection.{slot_of}
use Rattle.ng_meaning.specs.Tree.{Tree, view_at, value_of}
use Rattle.ng_meaning.specs.Bindings.{views_shown}
use Rattle.ng_meaning.specs.Passes.{is_page_node}
use Rattle.ng_meaning.specs.Laws.Apart.{In}
use Rattle.ng_meaning.specs.Laws.Shown.{steps}
use Rattle.ng_meaning.specs.Laws.Units.{ShowsSlot}

-- a node with this number and form stands among nodes side by side
abbrev pub Stands : ℕ → Form → Nodes → Type 0
Stands n f no_nodes = ⊥
Stands n f (node m p g rest) = ((n ≡ m) × (f ≡ g)) ⊎ Stands n f rest

module _ (app : App) (tree : Tree) where
  mutual
    -- A view is on the page: that of the root instance, the own view of the instance on a host that is on the page, and a view that a node on the page
    -- shows. A path has at most 63 steps.
    pub data ViewOnPage : Trail → Type 0 where
      of_root : ViewOnPage []
      of_host : {p : Trail} {n : ℕ} {c : Component} {tag : Text} {attrs : List TAttr} {nodes : Nodes} → OnPage p n (Host c tag attrs nodes) → length p + 1 ≤ 63 → ViewOnPage (step.Child n ∷ p)
      of_node : {p : Trail} {n : ℕ} {f : Form} {s : Step} (o : Outline) (outer : Outlines) → OnPage p n f → outlines app p ≡ o ∷ outer
          → In s (steps (views_shown app o outer n f (value_of (view_at p tree.views) n))) → length p + 1 ≤ 63 → ViewOnPage (s ∷ p)

    -- A node of a view is on the page: an outermost one of a view that is; what stands in an element or a container that is; and the content of a host
    -- that is, where an `ng-content` on the page shows the content node's slot of the host's instance.
    pub data OnPage : Trail → ℕ → Form → Type 0 where
      outermost : {p : Trail} {n : ℕ} {f : Form} (o : Outline) (outer : Outlines) → ViewOnPage p → outlines app p ≡ o ∷ outer → Stands n f o.nodes → OnPage p n f
      in_element : {p : Trail} {n m : ℕ} {f : Form} {tag : Text} {attrs : List TAttr} {nodes : Nodes} → OnPage p m (Element tag attrs nodes) → Stands n f nodes → OnPage p n f
      in_container : {p : Trail} {n m : ℕ} {f : Form} {attrs : List TAttr} {nodes : Nodes} → OnPage p m (NgContainer attrs nodes) → Stands n f nodes → OnPage p n f
      in_slot : {p q : Trail} {n m j k : ℕ} {f g : Form} {c : Component} {tag : Text} {attrs : List TAttr} {nodes : Nodes} (o : Outline) (outer : Outlines)
          → OnPage p m (Host c tag attrs nodes) → Stands n f nodes → slot_of app c f ≡ Some k
          → OnPage q j g → outlines app q ≡ o ∷ outer → o.unit ≡ step.Child m ∷ p → ShowsSlot app tree o g k → OnPage p n f

  -- an element, a host or a text that is on the page
  pub record IsOnPage (i : NodeId) : Type 0 where
    pub path : Trail
    pub number : ℕ
    pub form : Form
    pub is : i ≡ node_id path number
    pub page_node : is_page_node form ≡ true
    pub on_page : OnPage path number form
