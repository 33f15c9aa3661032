-- Each node of a view stands in some elements and hosts of its template, and what stands in a view is one of its nodes.
use Rattle.std.specs.Prelude.{◌≡◌, ℕ, zero, suc, ◌<◌, nat_eq, List, [], ◌∷◌, length, Some, refl}
use Rattle.std.proofs.Common.{inl, inr, ap, sym, ◌∙◌, subst, arith}
use Rattle.ng_ast.specs.declared.App.{App}
use Rattle.ng_ast.specs.declared.Component.{Component}
use Rattle.ng_tree.specs.declared.NodeId.{NodeId}
use Rattle.ng_meaning.specs.Template.{Form, Element, Host, NgContent, NgContainer, NgTemplate, TextNode, If, For, Switch, Let, Nodes, no_nodes, node, Node, view_nodes, inner_nodes, nodes_of, node_at}
use Rattle.ng_meaning.specs.Places.{Trail, Outline, Outlines, node_id, outlines}
use Rattle.ng_meaning.specs.Laws.Apart.{In, In-append}
use Rattle.ng_meaning.specs.Laws.Leads.{Below-length}
use Rattle.ng_meaning.specs.Laws.Live.{declared_at, ViewStands, NodeStands}
use Rattle.ng_meaning.specs.Laws.Live.ViewStands.{of_instance, of_node}
use Rattle.ng_meaning.specs.Laws.Live.NodeStands.{outermost, in_element, in_host, in_container}
use Rattle.ng_meaning.specs.Laws.Members.{IsNode, outermost_is, inner_is, node_at-is}
use Rattle.ng_meaning.specs.Laws.Numbers.{AreNumbered}
use Rattle.ng_meaning.specs.Laws.OnPage.{Stands}
use Rattle.ng_meaning.specs.Laws.Places.{In-find, number-node_at}
use Rattle.ng_meaning.specs.Laws.Tails.{IsAlone, HasNode, behind-AreTails, root-IsAlone, outlines-HasNode}

-- ---- a node of a view stands in it

-- a node stands in some elements and hosts
abbrev pub StandsSomewhere : Outlines → ℕ → Form → Type 0
StandsSomewhere os n f = (round : List NodeId) × NodeStands os n f round

module _ (o : Outline) (outer : Outlines) where
  mutual
    nodes_stand : (nodes : Nodes) (hosts : List (ℕ × Component)) → ((n : ℕ) (f : Form) → Stands n f nodes → StandsSomewhere (o ∷ outer) n f)
        → (q : Node) → In q (view_nodes hosts nodes) → StandsSomewhere (o ∷ outer) q.number q.form
    nodes_stand no_nodes hosts known q i = absurd i
    nodes_stand (node n p f rest) hosts known q (inl e) = subst (λ (r : Node). StandsSomewhere (o ∷ outer) r.number r.form) (sym e) (known n f (inl (refl, refl)))
    nodes_stand (node n p f rest) hosts known q (inr i) = elim (In-append (inner_nodes hosts n f) (view_nodes hosts rest) q i) [
      | inl j ↦ inner_stand f n hosts (known n f (inl (refl, refl))) q j
      | inr j ↦ nodes_stand rest hosts (λ m g s. known m g (inr s)) q j
    ]

    inner_stand : (f : Form) (n : ℕ) (hosts : List (ℕ × Component)) → StandsSomewhere (o ∷ outer) n f → (q : Node) → In q (inner_nodes hosts n f) → StandsSomewhere (o ∷ outer) q.number q.form
    inner_stand (Element tag attrs nodes) n hosts known q i = nodes_stand nodes hosts (λ m g s. (node_id o.path n ∷ known.0, in_element known.1 s)) q i
    inner_stand (Host c tag attrs nodes) n hosts known q i = nodes_stand nodes ((n, c) ∷ hosts) (λ m g s. (node_id o.path n ∷ known.0, in_host known.1 s)) q i
    inner_stand (NgContainer attrs nodes) n hosts known q i = nodes_stand nodes hosts (λ m g s. (known.0, in_container known.1 s)) q i
    inner_stand (NgContent attrs nodes) n hosts known q i = absurd i
    inner_stand (NgTemplate attrs nodes) n hosts known q i = absurd i
    inner_stand (TextNode ps) n hosts known q i = absurd i
    inner_stand (If bs) n hosts known q i = absurd i
    inner_stand (For head nodes empty) n hosts known q i = absurd i
    inner_stand (Switch e bs) n hosts known q i = absurd i
    inner_stand (Let name e) n hosts known q i = absurd i

  -- Each node of a view that stands somewhere does so too.
  pub nodes_of-Stand : (round : List NodeId) → ViewStands (o ∷ outer) round → (q : Node) → In q (nodes_of o.nodes) → StandsSomewhere (o ∷ outer) q.number q.form
  unfolding nodes_of
  nodes_of-Stand round v q i = nodes_stand o.nodes [] (λ n f s. (round, outermost v s)) q i

-- ---- what stands in a view is one of its nodes

-- the nodes of the first view
abbrev pub first_nodes : Outlines → Nodes
first_nodes [] = no_nodes
first_nodes (o ∷ outer) = o.nodes

pub stands-IsNode : (os : Outlines) (n : ℕ) (f : Form) (round : List NodeId) → NodeStands os n f round → IsNode (first_nodes os) n f
stands-IsNode _ n f _ (outermost {o = o} v s) = outermost_is o.nodes n f s
stands-IsNode _ n f _ (in_element {o = o} {outer = outer} {m = m} {tag = tag} {attrs = attrs} {nodes = nodes} {round = round} h s) =
    inner_is o.nodes nodes m (Element tag attrs nodes) (λ hosts. hosts) (λ hosts. refl) (stands-IsNode (o ∷ outer) m (Element tag attrs nodes) round h) n f s
stands-IsNode _ n f _ (in_host {o = o} {outer = outer} {m = m} {c = c} {tag = tag} {attrs = attrs} {nodes = nodes} {round = round} h s) =
    inner_is o.nodes nodes m (Host c tag attrs nodes) (λ hosts. (m, c) ∷ hosts) (λ hosts. refl) (stands-IsNode (o ∷ outer) m (Host c tag attrs nodes) round h) n f s
stands-IsNode _ n f _ (in_container {o = o} {outer = outer} {m = m} {attrs = attrs} {nodes = nodes} {round = round} h s) =
    inner_is o.nodes nodes m (NgContainer attrs nodes) (λ hosts. hosts) (λ hosts. refl) (stands-IsNode (o ∷ outer) m (NgContainer attrs nodes) round h) n f s

-- The node that is found by a number has the form of what stands in the view with that number.
pub form-node_at : (nodes : Nodes) → AreNumbered nodes → (n : ℕ) (f : Form) → IsNode nodes n f → (q : Node) → node_at n nodes ≡ Some q → q.form ≡ f
form-node_at nodes numbers n f one q e =
    let found : node_at n nodes ≡ Some one.node = subst (λ m. node_at m nodes ≡ Some one.node) one.number (node_at-is nodes numbers one.node one.is_there) in
    let both : Some q ≡ Some one.node = sym e ∙ found in
    let same : q ≡ one.node = cc in
    ap (λ (r : Node). r.form) same ∙ one.form

-- ---- a view stands somewhere

-- where the first view stands
abbrev pub ViewsStand : Outlines → Type 0
ViewsStand [] = Unit {0}
ViewsStand (o ∷ outer) = (round : List NodeId) × ViewStands (o ∷ outer) round

alone_stands : (os : Outlines) → IsAlone os → ViewsStand os
alone_stands [] h = tt
alone_stands (o ∷ []) h = ([], of_instance)
alone_stands (o ∷ d ∷ outer) h = absurd h

module _ (app : App) where
  views_stand : (k : ℕ) (p : Trail) → length p < k → (os : Outlines) → outlines app p ≡ os → ViewsStand os
  views_stand zero p less os e = absurd (omega (arith, less))
  views_stand (suc k) [] less os e = alone_stands os (subst IsAlone e (root-IsAlone app))
  views_stand (suc k) (s ∷ p) less [] e = tt
  views_stand (suc k) (s ∷ p) less (o ∷ []) e = ([], of_instance)
  views_stand (suc k) (s ∷ p) less (o ∷ d ∷ outer) e =
      let tails = behind-AreTails app s p o (d ∷ outer) e in
      let up = views_stand k d.path (omega (arith, less, Below-length d.path p tails.1)) (d ∷ outer) tails.0 in
      let q = subst HasNode e (outlines-HasNode app s p) in
      let n = nodes_of-Stand d outer up.0 up.1 q.0 (In-find (λ r. nat_eq (declared_at o.path) r.number) (nodes_of d.nodes) q.0 q.1) in
      (n.0, of_node (subst (λ m. NodeStands (d ∷ outer) m q.0.form n.0) (number-node_at (declared_at o.path) d.nodes q.0 q.1) n.1))

  -- Each view stands in some elements and hosts of its template.
  pub outlines-Stand : (p : Trail) (o : Outline) (outer : Outlines) → outlines app p ≡ o ∷ outer → (round : List NodeId) × ViewStands (o ∷ outer) round
  outlines-Stand p o outer e = views_stand (suc (length p)) p (omega arith) (o ∷ outer) e
