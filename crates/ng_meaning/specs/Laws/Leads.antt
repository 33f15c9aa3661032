-- What the nodes of a view lead to.
use Rattle.std.specs.Prelude.{◌≡◌, ℕ, suc, ◌≤◌, Bool, true, false, List, [], ◌∷◌, ◌++◌, length, Some, refl}
use Rattle.std.proofs.Common.{inl, inr, ap, sym, subst, arith, length-append}
use Rattle.ng_ast.specs.declared.App.{App}
use Rattle.ng_ast.specs.declared.Component.{Component}
use Rattle.ng_ast.specs.declared.ForHead.{ForHead}
use Rattle.ng_ast.specs.declared.TAttr.{TAttr}
use Rattle.ng_tree.specs.declared.Step.{Step}
use Rattle.ng_tree.specs.declared.Step.TheVariants as step
use Rattle.ng_meaning.specs.Lists.{Text}
use Rattle.ng_meaning.specs.Template.{Form, Host, NgContent, NgContainer, If, For, Switch, Nodes, no_nodes, node, Branches, no_branches, branch, Node}
use Rattle.ng_meaning.specs.Places.{Trail, Outline, Outlines}
use Rattle.ng_meaning.specs.Projection.{is_filled}
use Rattle.ng_meaning.specs.Tree.{Tree, Row, NodeValue, RowList, Choice, view_at, value_of}
use Rattle.ng_meaning.specs.Bindings.{rows_shown, for_shown, fallback_shown, views_shown}
use Rattle.ng_meaning.specs.Laws.Apart.{In}
use Rattle.ng_meaning.specs.Laws.Growing.{Below, host_steps}
use Rattle.ng_meaning.specs.Laws.Members.{IsNode}
use Rattle.ng_meaning.specs.Laws.Shown.{steps}
use Rattle.ng_meaning.specs.Laws.Units.{Leads, IsShown}

-- ---- the steps of one node

module _ (app : App) (tree : Tree) (o : Outline) (outer : Outlines) where
  -- the views that a node of a view shows
  pub leads_to_view : (n : ℕ) (f : Form) → IsNode o.nodes n f → (s : Step) → In s (steps (views_shown app o outer n f (value_of (view_at o.path tree.views) n))) → Leads app tree (o ∷ outer) s
  leads_to_view n f one s i = (
    one.node,
    one.is_there,
    inr (subst (λ g. In s (steps (views_shown app o outer one.node.number g (value_of (view_at o.path tree.views) one.node.number)))) (sym one.form)
        (subst (λ m. In s (steps (views_shown app o outer m f (value_of (view_at o.path tree.views) m)))) (sym one.number) i)),
  )

  -- the instance on a host
  pub leads_to_instance : (n : ℕ) (c : Component) (tag : Text) (attrs : List TAttr) (nodes : Nodes) → IsNode o.nodes n (Host c tag attrs nodes) → Leads app tree (o ∷ outer) (step.Child n)
  leads_to_instance n c tag attrs nodes one = (one.node, one.is_there, inl (subst (λ g. In (step.Child n) (host_steps one.node g)) (sym one.form) (inl (ap (λ m. step.Child m) (sym one.number)))))

-- ---- views that stand where the node stands

-- a step enters a view that is declared at the node with a number
abbrev pub StaysAt : ℕ → Step → Type 0
StaysAt n (step.Child m) = ⊥
StaysAt n (step.Branch m k) = m ≡ n
StaysAt n (step.Row m w k) = m ≡ n
StaysAt n (step.Outlet m t) = ⊥

-- a node isn't a container
abbrev pub IsNoContainer : Form → Type 0
IsNoContainer (NgContainer attrs nodes) = ⊥
IsNoContainer f = Unit {0}

stays_alone : (n : ℕ) (s x : Step) → StaysAt n s → In x (s ∷ []) → StaysAt n x
stays_alone n s x g (inl e) = subst (StaysAt n) (sym e) g
stays_alone n s x g (inr none) = absurd none

rows_stay : (n : ℕ) (head : ForHead) (total i : ℕ) (rows : List Row) (x : Step) → In x (steps (rows_shown n head total i rows)) → StaysAt n x
rows_stay n head total i [] x j = absurd j
rows_stay n head total i (r ∷ rows) x (inl e) = subst (StaysAt n) (sym e) refl
rows_stay n head total i (r ∷ rows) x (inr j) = rows_stay n head total (suc i) rows x j

for_stays : (n : ℕ) (head : ForHead) (empty : Branches) (rows : List Row) (x : Step) → In x (steps (for_shown n head empty rows)) → StaysAt n x
for_stays n head no_branches [] x j = absurd j
for_stays n head (branch test name nodes bs) [] x j = stays_alone n (step.Branch n 0) x refl j
for_stays n head no_branches (r ∷ rows) x j = rows_stay n head _ 0 (r ∷ rows) x j
for_stays n head (branch test name nodes bs) (r ∷ rows) x j = rows_stay n head _ 0 (r ∷ rows) x j

fallback_stays : (n : ℕ) (nodes : Nodes) (filled : Bool) (x : Step) → In x (steps (fallback_shown n nodes filled)) → StaysAt n x
fallback_stays n no_nodes true x j = absurd j
fallback_stays n no_nodes false x j = absurd j
fallback_stays n (node m p f rest) true x j = absurd j
fallback_stays n (node m p f rest) false x j = stays_alone n (step.Branch n 0) x refl j

-- The views that a node shows are declared at that node, unless it is a container.
pub views_shown-StayAt : (app : App) (o : Outline) (outer : Outlines) (n : ℕ) (f : Form) (value : NodeValue) → IsNoContainer f → (x : Step) → In x (steps (views_shown app o outer n f value)) → StaysAt n x
unfolding views_shown
views_shown-StayAt app o outer n (If bs) (Choice (Some c)) h x j = stays_alone n (step.Branch n c.0) x refl j
views_shown-StayAt app o outer n (Switch e bs) (Choice (Some c)) h x j = stays_alone n (step.Branch n c.0) x refl j
views_shown-StayAt app o outer n (For head nodes empty) (RowList rows) h x j = for_stays n head empty rows x j
views_shown-StayAt app o outer n (NgContainer attrs nodes) value h x j = absurd h
views_shown-StayAt app o outer n (NgContent attrs nodes) value h x j = fallback_stays n nodes (is_filled app o attrs) x j
views_shown-StayAt app o outer n f value h x j = absurd j

-- The step to the instance on a host enters no such view.
pub host_not_block : (x : Node) (f : Form) (s : Step) (m : ℕ) → In s (host_steps x f) → StaysAt m s → ⊥
host_not_block x (Host c tag attrs nodes) s m (inl e) g = subst (StaysAt m) e g
host_not_block x (Host c tag attrs nodes) s m (inr none) g = none
host_not_block x _ s m i g = i

-- ---- views round a view

module _ (app : App) (tree : Tree) where
  shown_beginning : (t p : Trail) → IsShown app tree (t ++ p) → IsShown app tree p
  shown_beginning [] p h = h
  shown_beginning (s ∷ t) p h = shown_beginning t p h.0

  -- A view is shown whose path is a beginning of that of a view that is.
  pub IsShown-Below : (p q : Trail) → Below p q → IsShown app tree q → IsShown app tree p
  IsShown-Below p q b h = shown_beginning b.0 p (subst (IsShown app tree) b.1 h)

pub Below-length : (p q : Trail) → Below p q → length p ≤ length q
Below-length p q b = omega (arith, ap length b.1, length-append b.0 p)
