-- The views that are shown, the `ng-content`s that show slots, and the instances whose templates have them.
use Rattle.std.specs.Prelude.{◌≡◌, ◌⊎◌, ℕ, [], ◌∷◌, Option, Some, None, refl}
use Rattle.std.proofs.Common.{ap}
use Rattle.ng_ast.specs.declared.App.{App}
use Rattle.ng_tree.specs.declared.NodeId.{NodeId}
use Rattle.ng_tree.specs.declared.Step.{Step}
use Rattle.ng_tree.specs.declared.Step.TheVariants as step
use Rattle.ng_meaning.specs.Declared.{root_component}
use Rattle.ng_meaning.specs.Template.{Form, Host, NgContent, Node, node_at, nodes_of}
use Rattle.ng_meaning.specs.Places.{Trail, Outline, Outlines, node_id, inner_view, nodes_in_branch, nodes_in_row, nodes_in_template, host_view, outlet_view, entered, root_view, outlines}
use Rattle.ng_meaning.specs.Projection.{shown_slot}
use Rattle.ng_meaning.specs.Tree.{Tree, view_at, value_of}
use Rattle.ng_meaning.specs.Bindings.{views_shown}
use Rattle.ng_meaning.specs.Laws.Apart.{In}
use Rattle.ng_meaning.specs.Laws.Places.{at_found, number-node_at}
use Rattle.ng_meaning.specs.Laws.Shown.{GoesInto, steps}
use Rattle.ng_meaning.specs.Laws.Growing.{host_steps}

-- ---- what is shown

module _ (app : App) (tree : Tree) where
  -- the steps from a view at one of its nodes: to the instance on a host, and to the views that the node shows
  abbrev pub LeadsFrom : Outline → Outlines → Node → Step → Type 0
  LeadsFrom o outer q s = In s (host_steps q q.form) ⊎ In s (steps (views_shown app o outer q.number q.form (value_of (view_at o.path tree.views) q.number)))

  -- the steps from a view
  abbrev pub Leads : Outlines → Step → Type 0
  Leads [] s = ⊥
  Leads (o ∷ outer) s = (q : Node) × In q (nodes_of o.nodes) × LeadsFrom o outer q s

  -- a view is shown: each step of its path leads to the instance on a host, or to a view that a node shows
  abbrev pub IsShown : Trail → Type 0
  IsShown [] = Unit {0}
  IsShown (s ∷ p) = IsShown p × Leads (outlines app p) s

  -- a node of a view is an `ng-content` that shows this slot of the instance
  abbrev pub ShowsSlot : Outline → Form → ℕ → Type 0
  ShowsSlot o (NgContent attrs nodes) k = shown_slot app o.component attrs ≡ k
  ShowsSlot o f k = ⊥

  -- an `ng-content` that is there in a view that is shown, and shows this slot of the instance at a path
  pub record IsContent (c : NodeId) (u : Trail) (k : ℕ) : Type 0 where
    pub view : Outline
    pub outer : Outlines
    pub node : Node
    pub is_view : outlines app view.path ≡ view ∷ outer
    pub is_shown : IsShown view.path
    pub is_there : In node (nodes_of view.nodes)
    pub unit : view.unit ≡ u
    pub slot : ShowsSlot view node.form k
    pub is : c ≡ node_id view.path node.number

  -- No two `ng-content`s that are there show the same slot of one instance.
  abbrev pub ShowsSlotsOnce : Type 0
  ShowsSlotsOnce = (c d : NodeId) (u : Trail) (k : ℕ) → IsContent c u k → IsContent d u k → c ≡ d

-- ---- the instance of a view

-- the views are of the template of the instance at a path
abbrev pub HasUnit : Trail → Outlines → Type 0
HasUnit u [] = Unit {0}
HasUnit u (o ∷ outer) = (o.unit ≡ u) × HasUnit u outer

outlet_unit : (u p : Trail) (t : ℕ) (os : Outlines) → HasUnit u os → HasUnit u (outlet_view p t os)
outlet_unit u p t [] h = tt
outlet_unit u p t (o ∷ outer) h = declared (node_at t o.nodes) (outlet_unit u p t outer h.1)
  where
    declared : (found : Option Node) → HasUnit u (outlet_view p t outer) → HasUnit u (elim found [ Some q ↦ inner_view p o q (nodes_in_template q.form) ∷ o ∷ outer | None ↦ outlet_view p t outer ])
    declared None rest = rest
    declared (Some q) rest = (h.0, h)

-- A view that a node shows is of the same template.
pub entered-HasUnit : (app : App) (n : ℕ) (s : Step) → GoesInto n s → (u : Trail) (o : Outline) (outer : Outlines) → HasUnit u (o ∷ outer) → HasUnit u (entered app s (o ∷ outer))
entered-HasUnit app n (step.Child m) g u o outer h = absurd g
entered-HasUnit app n (step.Branch m k) g u o outer h = at_found (HasUnit u) (node_at m o.nodes) (λ q. inner_view (step.Branch m k ∷ o.path) o q (nodes_in_branch q.form k) ∷ o ∷ outer) tt (λ q e. (h.0, h))
entered-HasUnit app n (step.Row m w k) g u o outer h = at_found (HasUnit u) (node_at m o.nodes) (λ q. inner_view (step.Row m w k ∷ o.path) o q (nodes_in_row q.form) ∷ o ∷ outer) tt (λ q e. (h.0, h))
entered-HasUnit app n (step.Outlet m t) g u o outer h = outlet_unit u (step.Outlet m t ∷ o.path) t (o ∷ outer) h

-- The own view of the instance on a host is of its template.
pub child-HasUnit : (app : App) (n : ℕ) (o : Outline) (outer : Outlines) → HasUnit (step.Child n ∷ o.path) (entered app (step.Child n) (o ∷ outer))
child-HasUnit app n o outer = at_found (HasUnit (step.Child n ∷ o.path)) (node_at n o.nodes) (λ q. host_view app o q q.form) tt (λ q e. of_host q q.form (number-node_at n o.nodes q e))
  where
    of_host : (q : Node) (f : Form) → q.number ≡ n → HasUnit (step.Child n ∷ o.path) (host_view app o q f)
    of_host q (Host c tag attrs content) e = (ap (λ m. step.Child m ∷ o.path) e, tt)
    of_host q _ e = tt

-- And so is that of the root instance.
pub root-HasUnit : (app : App) → HasUnit [] (root_view app (root_component app))
root-HasUnit app = of_root (root_component app)
  where
    of_root : (c : Option _) → HasUnit [] (root_view app c)
    of_root None = tt
    of_root (Some c) = (refl, tt)
