-- The views whose names are seen in a view: each is the one at its own path, which is a beginning of the view's, and declares the one in front of it.
use Rattle.std.specs.Prelude.{◌≡◌, ℕ, [], ◌∷◌, Option, Some, None, refl}
use Rattle.std.proofs.Common.{ap, sym, ◌∙◌, subst}
use Rattle.ng_ast.specs.declared.App.{App}
use Rattle.ng_ast.specs.declared.Component.{Component}
use Rattle.ng_tree.specs.declared.Step.{Step}
use Rattle.ng_tree.specs.declared.Step.TheVariants as step
use Rattle.ng_meaning.specs.Declared.{root_component}
use Rattle.ng_meaning.specs.Template.{Form, Host, Nodes, no_nodes, Node, node_at}
use Rattle.ng_meaning.specs.Places.{Trail, Outline, Outlines, inner_view, nodes_in_branch, nodes_in_row, nodes_in_template, host_view, outlet_view, entered, root_view, outlines}
use Rattle.ng_meaning.specs.Laws.Growing.{Below}
use Rattle.ng_meaning.specs.Laws.Leads.{StaysAt}
use Rattle.ng_meaning.specs.Laws.Live.{declared_at}
use Rattle.ng_meaning.specs.Laws.Once.{outlines-BeginsAt}
use Rattle.ng_meaning.specs.Laws.Places.{BeginsAt, at_found}

-- the views behind the first
abbrev After : (Outlines → Type 0) → Outlines → Type 0
After P [] = Unit {0}
After P (o ∷ outer) = P outer

-- there is no second view
abbrev pub IsAlone : Outlines → Type 0
IsAlone (o ∷ d ∷ outer) = ⊥
IsAlone os = Unit {0}

-- the views behind the first are these
abbrev pub IsBefore : Outlines → Outlines → Type 0
IsBefore ds [] = Unit {0}
IsBefore ds (o ∷ outer) = outer ≡ ds

-- The second view has the node at which the first one is declared, and in it stand the nodes of the first.
abbrev pub IsDeclared : (Form → Nodes) → Outlines → Type 0
IsDeclared inside [] = Unit {0}
IsDeclared inside (o ∷ []) = ⊥
IsDeclared inside (o ∷ d ∷ outer) = (q : Node) × (node_at (declared_at o.path) d.nodes ≡ Some q) × (o.nodes ≡ inside q.form)

-- what is in a branch or a row
abbrev inside_block : Step → Form → Nodes
inside_block (step.Branch n k) f = nodes_in_branch f k
inside_block (step.Row n w k) f = nodes_in_row f
inside_block s f = no_nodes

-- a node at which the first view is declared, where there is a second
abbrev pub HasNode : Outlines → Type 0
HasNode (o ∷ d ∷ outer) = (q : Node) × (node_at (declared_at o.path) d.nodes ≡ Some q)
HasNode os = Unit {0}

has_node : (inside : Form → Nodes) (os : Outlines) → IsDeclared inside os → HasNode os
has_node inside [] h = tt
has_node inside (o ∷ []) h = absurd h
has_node inside (o ∷ d ∷ outer) h = (h.0, h.1)

none_declared : (os : Outlines) → IsAlone os → HasNode os
none_declared [] h = tt
none_declared (o ∷ []) h = tt
none_declared (o ∷ d ∷ outer) h = absurd h

module _ (app : App) where
  -- each view is the one at its path, and this is a beginning of a path
  abbrev pub AreTails : Trail → Outlines → Type 0
  AreTails p [] = Unit {0}
  AreTails p (o ∷ outer) = (outlines app o.path ≡ o ∷ outer) × Below o.path p × AreTails p outer

  further : (s : Step) (p : Trail) (os : Outlines) → AreTails p os → AreTails (s ∷ p) os
  further s p [] h = tt
  further s p (o ∷ outer) h = (h.0, (s ∷ h.1.0, ap (λ q. s ∷ q) h.1.1), further s p outer h.2)

  host_after : (p : Trail) (o : Outline) (q : Node) (f : Form) → After (AreTails p) (host_view app o q f)
  host_after p o q (Host c tag attrs content) = tt
  host_after p o q _ = tt

  outlet_after : (p at : Trail) (t : ℕ) (os : Outlines) → AreTails p os → After (AreTails p) (outlet_view at t os)
  outlet_after p at t [] h = tt
  outlet_after p at t (o ∷ outer) h = declared (node_at t o.nodes) (outlet_after p at t outer h.2)
    where
      declared : (found : Option Node) → After (AreTails p) (outlet_view at t outer) → After (AreTails p) (elim found [ Some q ↦ inner_view at o q (nodes_in_template q.form) ∷ o ∷ outer | None ↦ outlet_view at t outer ])
      declared None rest = rest
      declared (Some q) rest = h

  entered_after : (p : Trail) (s : Step) (os : Outlines) → AreTails p os → After (AreTails p) (entered app s os)
  entered_after p s [] h = tt
  entered_after p (step.Child n) (o ∷ outer) h = at_found (After (AreTails p)) (node_at n o.nodes) (λ q. host_view app o q q.form) tt (λ q e. host_after p o q q.form)
  entered_after p (step.Branch n k) (o ∷ outer) h = at_found (After (AreTails p)) (node_at n o.nodes) (λ q. inner_view (step.Branch n k ∷ o.path) o q (nodes_in_branch q.form k) ∷ o ∷ outer) tt (λ q e. h)
  entered_after p (step.Row n w k) (o ∷ outer) h = at_found (After (AreTails p)) (node_at n o.nodes) (λ q. inner_view (step.Row n w k ∷ o.path) o q (nodes_in_row q.form) ∷ o ∷ outer) tt (λ q e. h)
  entered_after p (step.Outlet n t) (o ∷ outer) h = outlet_after p (step.Outlet n t ∷ o.path) t (o ∷ outer) h

  root_tails : (c : Option Component) → outlines app [] ≡ root_view app c → AreTails [] (root_view app c)
  root_tails None here = tt
  root_tails (Some c) here = (here, ([], refl), tt)

  step_tails : (s : Step) (p : Trail) (os : Outlines) → outlines app (s ∷ p) ≡ os → BeginsAt (s ∷ p) os → After (AreTails p) os → AreTails (s ∷ p) os
  step_tails s p [] here begins h = tt
  step_tails s p (o ∷ outer) here begins h = (ap (outlines app) begins ∙ here, ([], sym begins), further s p outer h)

  pub outlines-AreTails : (p : Trail) → AreTails p (outlines app p)
  unfolding outlines
  outlines-AreTails [] = root_tails (root_component app) refl
  outlines-AreTails (s ∷ p) = step_tails s p (outlines app (s ∷ p)) refl (outlines-BeginsAt app (s ∷ p)) (entered_after p s (outlines app p) (outlines-AreTails p))

  -- The paths of those behind the first are beginnings of the path without its last step.
  pub behind-AreTails : (s : Step) (p : Trail) (o : Outline) (outer : Outlines) → outlines app (s ∷ p) ≡ o ∷ outer → AreTails p outer
  unfolding outlines
  behind-AreTails s p o outer e = subst (After (AreTails p)) e (entered_after p s (outlines app p) (outlines-AreTails p))

  -- ---- by the step

  -- The own view of an instance sees no other.
  pub child-IsAlone : (n : ℕ) (o : Outline) (outer : Outlines) → IsAlone (entered app (step.Child n) (o ∷ outer))
  child-IsAlone n o outer = at_found IsAlone (node_at n o.nodes) (λ q. host_view app o q q.form) tt (λ q e. of_host q q.form)
    where
      of_host : (q : Node) (f : Form) → IsAlone (host_view app o q f)
      of_host q (Host c tag attrs content) = tt
      of_host q _ = tt

  -- And so does that of the root instance.
  pub root-IsAlone : IsAlone (outlines app [])
  unfolding outlines
  root-IsAlone = of_root (root_component app)
    where
      of_root : (c : Option Component) → IsAlone (root_view app c)
      of_root None = tt
      of_root (Some c) = tt

  -- A branch or a row sees the view that has its block.
  pub block-IsBefore : (n : ℕ) (s : Step) → StaysAt n s → (o : Outline) (outer : Outlines) → IsBefore (o ∷ outer) (entered app s (o ∷ outer))
  block-IsBefore n (step.Child m) g o outer = absurd g
  block-IsBefore n (step.Branch m k) g o outer = at_found (IsBefore (o ∷ outer)) (node_at m o.nodes) (λ q. inner_view (step.Branch m k ∷ o.path) o q (nodes_in_branch q.form k) ∷ o ∷ outer) tt (λ q e. refl)
  block-IsBefore n (step.Row m w k) g o outer = at_found (IsBefore (o ∷ outer)) (node_at m o.nodes) (λ q. inner_view (step.Row m w k ∷ o.path) o q (nodes_in_row q.form) ∷ o ∷ outer) tt (λ q e. refl)
  block-IsBefore n (step.Outlet m t) g o outer = absurd g

  block_declared : (n : ℕ) (s : Step) → StaysAt n s → (o : Outline) (outer : Outlines) → IsDeclared (inside_block s) (entered app s (o ∷ outer))
  block_declared n (step.Child m) g o outer = absurd g
  block_declared n (step.Branch m k) g o outer =
      at_found (IsDeclared (inside_block (step.Branch m k))) (node_at m o.nodes) (λ q. inner_view (step.Branch m k ∷ o.path) o q (nodes_in_branch q.form k) ∷ o ∷ outer) tt (λ q e. (q, e, refl))
  block_declared n (step.Row m w k) g o outer =
      at_found (IsDeclared (inside_block (step.Row m w k))) (node_at m o.nodes) (λ q. inner_view (step.Row m w k ∷ o.path) o q (nodes_in_row q.form) ∷ o ∷ outer) tt (λ q e. (q, e, refl))
  block_declared n (step.Outlet m t) g o outer = absurd g

  -- An outlet's view is declared at an `ng-template`, if it has any nodes.
  outlet_declared : (n t : ℕ) (p : Trail) (os : Outlines) → IsDeclared nodes_in_template (outlet_view (step.Outlet n t ∷ p) t os)
  outlet_declared n t p [] = tt
  outlet_declared n t p (o ∷ outer) = declared (node_at t o.nodes) refl (outlet_declared n t p outer)
    where
      declared : (found : Option Node) → node_at t o.nodes ≡ found → IsDeclared nodes_in_template (outlet_view (step.Outlet n t ∷ p) t outer)
          → IsDeclared nodes_in_template (elim found [ Some q ↦ inner_view (step.Outlet n t ∷ p) o q (nodes_in_template q.form) ∷ o ∷ outer | None ↦ outlet_view (step.Outlet n t ∷ p) t outer ])
      declared None e rest = rest
      declared (Some q) e rest = (q, e, refl)

  pub outlet-IsDeclared : (n t : ℕ) (o : Outline) (outer : Outlines) → IsDeclared nodes_in_template (entered app (step.Outlet n t) (o ∷ outer))
  outlet-IsDeclared n t o outer = outlet_declared n t o.path (o ∷ outer)

  entered_node : (s : Step) (os : Outlines) → HasNode (entered app s os)
  entered_node s [] = tt
  entered_node (step.Child n) (o ∷ outer) = none_declared (entered app (step.Child n) (o ∷ outer)) (child-IsAlone n o outer)
  entered_node (step.Branch n k) (o ∷ outer) = has_node (inside_block (step.Branch n k)) (entered app (step.Branch n k) (o ∷ outer)) (block_declared n (step.Branch n k) refl o outer)
  entered_node (step.Row n w k) (o ∷ outer) = has_node (inside_block (step.Row n w k)) (entered app (step.Row n w k) (o ∷ outer)) (block_declared n (step.Row n w k) refl o outer)
  entered_node (step.Outlet n t) (o ∷ outer) = has_node nodes_in_template (entered app (step.Outlet n t) (o ∷ outer)) (outlet-IsDeclared n t o outer)

  -- The node is there at which a view is declared.
  pub outlines-HasNode : (s : Step) (p : Trail) → HasNode (outlines app (s ∷ p))
  unfolding outlines
  outlines-HasNode s p = entered_node s (outlines app p)
