-- The nodes of a view: what stands in a node of the view is among them, and each is found by its number.
use Rattle.std.specs.Prelude.{◌≡◌, ℕ, ◌+◌, ◌≤◌, nat_eq, Bool, true, false, cond, List, [], ◌∷◌, Some, find, refl}
use Rattle.std.proofs.Common.{inl, inr, sym, subst, arith}
use Rattle.std.proofs.lemmas.Bool.{eq-eqb, eqb-true}
use Rattle.ng_ast.specs.declared.Component.{Component}
use Rattle.ng_meaning.specs.Template.{Form, Element, Host, NgContent, NgContainer, NgTemplate, TextNode, If, For, Switch, Let, Nodes, no_nodes, node, Node, view_nodes, inner_nodes, nodes_of, node_at}
use Rattle.ng_meaning.specs.Laws.Apart.{In, In-append, In-left, In-right}
use Rattle.ng_meaning.specs.Laws.Numbers.{Rising, AreNumbered, nodes_of-Rising}
use Rattle.ng_meaning.specs.Laws.OnPage.{Stands}

mutual
  -- what stands in a node of a view is among the view's nodes
  closed_view : (nodes : Nodes) (hosts : List (ℕ × Component)) (q : Node) → In q (view_nodes hosts nodes) → (x : Node) → In x (inner_nodes q.hosts q.number q.form) → In x (view_nodes hosts nodes)
  closed_view no_nodes hosts q i x j = absurd i
  closed_view (node n p f rest) hosts q (inl e) x j = inr (In-left (inner_nodes hosts n f) (view_nodes hosts rest) x (subst (λ (r : Node). In x (inner_nodes r.hosts r.number r.form)) e j))
  closed_view (node n p f rest) hosts q (inr i) x j = elim (In-append (inner_nodes hosts n f) (view_nodes hosts rest) q i) [
    | inl l ↦ inr (In-left (inner_nodes hosts n f) (view_nodes hosts rest) x (closed_inner f n hosts q l x j))
    | inr r ↦ inr (In-right (inner_nodes hosts n f) (view_nodes hosts rest) x (closed_view rest hosts q r x j))
  ]

  closed_inner : (f : Form) (n : ℕ) (hosts : List (ℕ × Component)) (q : Node) → In q (inner_nodes hosts n f) → (x : Node) → In x (inner_nodes q.hosts q.number q.form) → In x (inner_nodes hosts n f)
  closed_inner (Element tag attrs nodes) n hosts q i x j = closed_view nodes hosts q i x j
  closed_inner (Host c tag attrs nodes) n hosts q i x j = closed_view nodes ((n, c) ∷ hosts) q i x j
  closed_inner (NgContainer attrs nodes) n hosts q i x j = closed_view nodes hosts q i x j
  closed_inner (NgContent attrs nodes) n hosts q i x j = absurd i
  closed_inner (NgTemplate attrs nodes) n hosts q i x j = absurd i
  closed_inner (TextNode ps) n hosts q i x j = absurd i
  closed_inner (If bs) n hosts q i x j = absurd i
  closed_inner (For head nodes empty) n hosts q i x j = absurd i
  closed_inner (Switch e bs) n hosts q i x j = absurd i
  closed_inner (Let name e) n hosts q i x j = absurd i

-- a node of a view with this number and form
pub record IsNode (nodes : Nodes) (n : ℕ) (f : Form) : Type 0 where
  pub node : Node
  pub is_there : In node (nodes_of nodes)
  pub number : node.number ≡ n
  pub form : node.form ≡ f

-- what stands side by side is among the nodes that are listed
pub listed : (nodes : Nodes) (hosts : List (ℕ × Component)) (n : ℕ) (f : Form) → Stands n f nodes → (q : Node) × In q (view_nodes hosts nodes) × (q.number ≡ n) × (q.form ≡ f)
listed no_nodes hosts n f s = absurd s
listed (node m p g rest) hosts n f (inl e) = (record { number = m; place = p; form = g; hosts = hosts }, inl refl, sym e.0, sym e.1)
listed (node m p g rest) hosts n f (inr s) = let r = listed rest hosts n f s in (r.0, inr (In-right (inner_nodes hosts m g) (view_nodes hosts rest) r.0 r.1), r.2, r.3)

-- an outermost node of a view is one of it
pub outermost_is : (nodes : Nodes) (n : ℕ) (f : Form) → Stands n f nodes → IsNode nodes n f
unfolding nodes_of
outermost_is nodes n f s = let r = listed nodes [] n f s in record { node = r.0; is_there = r.1; number = r.2; form = r.3 }

-- and so is what stands in one, where the nodes listed inside are these
pub inner_is : (nodes inner : Nodes) (m : ℕ) (g : Form) (within : List (ℕ × Component) → List (ℕ × Component)) → ((hosts : List (ℕ × Component)) → inner_nodes hosts m g ≡ view_nodes (within hosts) inner)
    → IsNode nodes m g → (n : ℕ) (f : Form) → Stands n f inner → IsNode nodes n f
unfolding nodes_of
inner_is nodes inner m g within lists parent n f s =
    let r = listed inner (within parent.node.hosts) n f s in
    let there : In r.0 (inner_nodes parent.node.hosts m g) = subst (In r.0) (sym (lists parent.node.hosts)) r.1 in
    let of_parent : In r.0 (inner_nodes parent.node.hosts parent.node.number parent.node.form) =
    subst (λ x. In r.0 (inner_nodes parent.node.hosts x parent.node.form)) (sym parent.number) (subst (λ h. In r.0 (inner_nodes parent.node.hosts m h)) (sym parent.form) there) in
    record { node = r.0; is_there = closed_view nodes [] parent.node parent.is_there r.0 of_parent; number = r.2; form = r.3 }

-- ---- nodes by their numbers

later : (qs : List Node) (lo hi : ℕ) → Rising lo hi qs → (q : Node) → In q qs → lo ≤ q.number
later [] lo hi h q i = absurd i
later (r ∷ qs) lo hi h q (inl e) = subst (λ (x : Node). lo ≤ x.number) (sym e) h.0
later (r ∷ qs) lo hi h q (inr i) = omega (arith, h.0, later qs (r.number + 1) hi h.1 q i)

found_by_number : (qs : List Node) (lo hi : ℕ) → Rising lo hi qs → (q : Node) → In q qs → find (λ r. nat_eq q.number r.number) qs ≡ Some q
found_by_number [] lo hi h q i = absurd i
found_by_number (r ∷ qs) lo hi h q (inl e) = this (nat_eq q.number r.number) (eq-eqb q.number r.number (λ i. (e i).number))
  where
    this : (b : Bool) → b ≡ true → cond b (Some r) (find (λ x. nat_eq q.number x.number) qs) ≡ Some q
    this true t = λ i. Some (sym e i)
    this false t = cc
found_by_number (r ∷ qs) lo hi h q (inr i) = other (nat_eq q.number r.number) refl (later qs (r.number + 1) hi h.1 q i) (found_by_number qs (r.number + 1) hi h.1 q i)
  where
    other : (b : Bool) → nat_eq q.number r.number ≡ b → r.number + 1 ≤ q.number → find (λ x. nat_eq q.number x.number) qs ≡ Some q → cond b (Some r) (find (λ x. nat_eq q.number x.number) qs) ≡ Some q
    other true t less more = let same : q.number ≡ r.number = eqb-true q.number r.number t in absurd (omega arith)
    other false t less more = more

-- A node of a view is found by its number.
pub node_at-is : (nodes : Nodes) → AreNumbered nodes → (q : Node) → In q (nodes_of nodes) → node_at q.number nodes ≡ Some q
node_at-is nodes h q i = found_by_number (nodes_of nodes) h.0 h.1 (nodes_of-Rising nodes h) q i
