-- What is on a page by what the views show is drawn.
use Rattle.std.specs.Prelude.{◌≡◌, ℕ, suc, ◌+◌, ◌-◌, ◌≤◌, Bool, true, false, if◌then◌else◌, List, [], ◌∷◌, ◌++◌, length, Option, Some, None, refl}
use Rattle.std.specs.List.{flat_map}
use Rattle.std.proofs.Common.{inl, inr, ap, sym, ◌∙◌, subst, arith}
use Rattle.std.proofs.lemmas.Bool.{eq-eqb}
use Rattle.ng_ast.specs.declared.App.{App}
use Rattle.ng_ast.specs.declared.Component.{Component}
use Rattle.ng_ast.specs.declared.TAttr.{TAttr}
use Rattle.ng_tree.specs.declared.NodeId.{NodeId}
use Rattle.ng_tree.specs.declared.PNode.{PNode}
use Rattle.ng_tree.specs.declared.Step.{Step}
use Rattle.ng_tree.specs.declared.Step.TheVariants as step
use Rattle.ng_meaning.specs.Lists.{Text}
use Rattle.ng_meaning.specs.Template.{Form, Element, Host, NgContent, NgContainer, NgTemplate, TextNode, If, For, Switch, Let, Nodes, no_nodes, node, Node, node_at}
use Rattle.ng_meaning.specs.Places.{Trail, Outline, Outlines, node_id, entered, outlines}
use Rattle.ng_meaning.specs.Projection.{slot_of, shown_slot, is_number}
use Rattle.ng_meaning.specs.Tree.{Tree, view_at, value_of}
use Rattle.ng_meaning.specs.Bindings.{Shown, views_shown}
use Rattle.ng_meaning.specs.Passes.{is_page_node}
use Rattle.ng_meaning.specs.Page.{Handed, handed_to, together, page_nodes, draw_views, draw_outlets, draw_nodes, draw_form, draw, draw_root, page}
use Rattle.ng_meaning.specs.Laws.Apart.{In, In-left, In-right, In-map}
use Rattle.ng_meaning.specs.Laws.Places.{HaveNumbers, BeginsAt, outlines-HaveNumbers}
use Rattle.ng_meaning.specs.Laws.Shown.{GoesInto, steps, views_shown-GoInto}
use Rattle.ng_meaning.specs.Laws.Pages.{all_ids, node_ids, node_ids-Element, node_ids-Host, node_ids-Text}
use Rattle.ng_meaning.specs.Laws.Units.{ShowsSlot, HasUnit, entered-HasUnit, child-HasUnit, root-HasUnit}
use Rattle.ng_meaning.specs.Laws.Once.{all_ids-append, all_ids-flat_map, all_ids-one, outlines-BeginsAt, entered_next}
use Rattle.ng_meaning.specs.Laws.OnPage.{Stands, ViewOnPage, OnPage, IsOnPage}
use Rattle.ng_meaning.specs.Laws.OnPage.ViewOnPage.{of_root, of_host, of_node}
use Rattle.ng_meaning.specs.Laws.OnPage.OnPage.{outermost, in_element, in_container, in_slot}
use Rattle.ng_meaning.specs.Laws.Members.{IsNode, outermost_is, inner_is, node_at-is}

-- ---- the instance of a view

-- the path of the instance whose template has the view at a path
abbrev pub unit_of : Trail → Trail
unit_of [] = []
unit_of (step.Child n ∷ p) = step.Child n ∷ p
unit_of (step.Branch n k ∷ p) = unit_of p
unit_of (step.Row n w k ∷ p) = unit_of p
unit_of (step.Outlet n t ∷ p) = unit_of p

module _ (app : App) where
  child_unit : (n : ℕ) (p : Trail) (os : Outlines) → BeginsAt p os → HasUnit (step.Child n ∷ p) (entered app (step.Child n) os)
  child_unit n p [] b = tt
  child_unit n p (o ∷ outer) b = subst (λ x. HasUnit (step.Child n ∷ x) (entered app (step.Child n) (o ∷ outer))) b (child-HasUnit app n o outer)

  inner_unit : (n : ℕ) (s : Step) → GoesInto n s → (u : Trail) (os : Outlines) → HasUnit u os → HasUnit u (entered app s os)
  inner_unit n s g u [] h = tt
  inner_unit n s g u (o ∷ outer) h = entered-HasUnit app n s g u o outer h

  pub outlines-HasUnit : (p : Trail) → HasUnit (unit_of p) (outlines app p)
  unfolding outlines
  outlines-HasUnit [] = root-HasUnit app
  outlines-HasUnit (step.Child n ∷ p) = child_unit n p (outlines app p) (outlines-BeginsAt app p)
  outlines-HasUnit (step.Branch n k ∷ p) = inner_unit n (step.Branch n k) refl (unit_of p) (outlines app p) (outlines-HasUnit p)
  outlines-HasUnit (step.Row n w k ∷ p) = inner_unit n (step.Row n w k) refl (unit_of p) (outlines app p) (outlines-HasUnit p)
  outlines-HasUnit (step.Outlet n t ∷ p) = inner_unit n (step.Outlet n t) refl (unit_of p) (outlines app p) (outlines-HasUnit p)

module _ (app : App) (tree : Tree) where
  -- ---- what is handed to the slots of the instance of a view

  -- by the form of the node that has the instance
  abbrev handed_by : Form → ℕ → Outline → Outlines → Handed PNode → Handed PNode
  handed_by (Host c tag attrs nodes) level o outer h = handed_to app c (draw_nodes app tree page_nodes (draw app tree page_nodes level) o outer h nodes)
  handed_by _ level o outer h = λ k. []

  -- by the node itself, where it is there
  abbrev handed_at : Option Node → ℕ → Outline → Outlines → Handed PNode → Handed PNode
  handed_at None level o outer h = λ k. []
  handed_at (Some q) level o outer h = handed_by q.form level o outer h

  -- by the view that has the node with a number
  abbrev handed_in : Outlines → ℕ → ℕ → Handed PNode → Handed PNode
  handed_in [] n level h = λ k. []
  handed_in (o ∷ outer) n level h = handed_at (node_at n o.nodes) level o outer h

  abbrev handed_of : Trail → Handed PNode
  handed_of [] = λ k. []
  handed_of (step.Child n ∷ p) = handed_in (outlines app p) n (63 - length p) (handed_of p)
  handed_of (step.Branch n k ∷ p) = handed_of p
  handed_of (step.Row n w k ∷ p) = handed_of p
  handed_of (step.Outlet n t ∷ p) = handed_of p

  -- it is the same for all views of the instance
  handed_of-unit : (p : Trail) → handed_of p ≡ handed_of (unit_of p)
  handed_of-unit [] = refl
  handed_of-unit (step.Child n ∷ p) = refl
  handed_of-unit (step.Branch n k ∷ p) = handed_of-unit p
  handed_of-unit (step.Row n w k ∷ p) = handed_of-unit p
  handed_of-unit (step.Outlet n t ∷ p) = handed_of-unit p

  -- what is made of a node of the view at a path
  abbrev form_at : Trail → Outline → Outlines → ℕ → Form → List PNode
  form_at p o outer n f = draw_form app tree page_nodes (draw app tree page_nodes (63 - length p)) o outer (handed_of p) n f

  -- what is made of nodes of the view at a path
  abbrev nodes_at : Trail → Outline → Outlines → Nodes → List (Form × List PNode)
  nodes_at p o outer nodes = draw_nodes app tree page_nodes (draw app tree page_nodes (63 - length p)) o outer (handed_of p) nodes

  -- ---- nodes that are on the page are nodes of their views

  is_one : (p : Trail) (n : ℕ) (f : Form) → OnPage app tree p n f → (o : Outline) (outer : Outlines) → outlines app p ≡ o ∷ outer → IsNode o.nodes n f
  is_one p n f (outermost view v_outer v e s) o outer d = let same : view ≡ o = cc in outermost_is o.nodes n f (subst (λ (x : Outline). Stands n f x.nodes) same s)
  is_one p n f (in_element {m = m} {tag = tag} {attrs = attrs} {nodes = nodes} on s) o outer d =
      inner_is o.nodes nodes m (Element tag attrs nodes) (λ hosts. hosts) (λ hosts. refl) (is_one p m (Element tag attrs nodes) on o outer d) n f s
  is_one p n f (in_container {m = m} {attrs = attrs} {nodes = nodes} on s) o outer d =
      inner_is o.nodes nodes m (NgContainer attrs nodes) (λ hosts. hosts) (λ hosts. refl) (is_one p m (NgContainer attrs nodes) on o outer d) n f s
  is_one p n f (in_slot {m = m} {c = c} {tag = tag} {attrs = attrs} {nodes = nodes} q_view q_outer on s slot other q_is unit shows) o outer d =
      inner_is o.nodes nodes m (Host c tag attrs nodes) (λ hosts. (m, c) ∷ hosts) (λ hosts. refl) (is_one p m (Host c tag attrs nodes) on o outer d) n f s

  -- what a host on the page hands to its instance
  host_hands : (p : Trail) (m : ℕ) (c : Component) (tag : Text) (attrs : List TAttr) (nodes : Nodes) → OnPage app tree p m (Host c tag attrs nodes) → (o : Outline) (outer : Outlines) → outlines app p ≡ o ∷ outer
      → handed_of (step.Child m ∷ p) ≡ handed_to app c (nodes_at p o outer nodes)
  host_hands p m c tag attrs nodes on o outer d =
      let one = is_one p m (Host c tag attrs nodes) on o outer d in
      let numbers = (subst HaveNumbers d (outlines-HaveNumbers app p)).0 in
      let found : node_at m o.nodes ≡ Some one.node = subst (λ n. node_at n o.nodes ≡ Some one.node) one.number (node_at-is o.nodes numbers one.node one.is_there) in
      ap (λ os. handed_in os m (63 - length p) (handed_of p)) d ∙ ap (λ q. handed_at q (63 - length p) o outer (handed_of p)) found ∙ ap (λ f. handed_by f (63 - length p) o outer (handed_of p)) one.form

  -- ---- parts of what is drawn

  -- what is made of a node is among what is made of those that it stands with
  among_nodes : (p : Trail) (o : Outline) (outer : Outlines) (nodes : Nodes) (n : ℕ) (f : Form) → Stands n f nodes → (i : NodeId) → In i (all_ids (form_at p o outer n f)) → In i (all_ids (together (nodes_at p o outer nodes)))
  among_nodes p o outer no_nodes n f s i j = absurd s
  among_nodes p o outer (node m pl g rest) n f (inl e) i j =
      rw all_ids-append (In-left (all_ids (form_at p o outer m g)) (all_ids (together (nodes_at p o outer rest))) i
      (subst (λ x. In i (all_ids (form_at p o outer x g))) e.0 (subst (λ h. In i (all_ids (form_at p o outer n h))) e.1 j)))
  among_nodes p o outer (node m pl g rest) n f (inr s) i j =
      rw all_ids-append (In-right (all_ids (form_at p o outer m g)) (all_ids (together (nodes_at p o outer rest))) i (among_nodes p o outer rest n f s i j))

  -- and it is in its slot
  in_its_slot : (p : Trail) (o : Outline) (outer : Outlines) (c : Component) (k : ℕ) (nodes : Nodes) (n : ℕ) (f : Form) → Stands n f nodes → slot_of app c f ≡ Some k
      → (i : NodeId) → In i (all_ids (form_at p o outer n f)) → In i (all_ids (handed_to app c (nodes_at p o outer nodes) k))
  in_its_slot p o outer c k no_nodes n f s slot i j = absurd s
  in_its_slot p o outer c k (node m pl g rest) n f (inl e) slot i j =
      of_slot (is_number k (slot_of app c g)) (ap (is_number k) (sym (ap (slot_of app c) e.1) ∙ slot) ∙ eq-eqb k k refl)
      (subst (λ x. In i (all_ids (form_at p o outer x g))) e.0 (subst (λ h. In i (all_ids (form_at p o outer n h))) e.1 j))
    where
      others : List PNode
      others = handed_to app c (nodes_at p o outer rest) k

      of_slot : (b : Bool) → b ≡ true → In i (all_ids (form_at p o outer m g)) → In i (all_ids ((if b then form_at p o outer m g else []) ++ others))
      of_slot true t l = rw all_ids-append (In-left (all_ids (form_at p o outer m g)) (all_ids others) i l)
      of_slot false t l = cc
  in_its_slot p o outer c k (node m pl g rest) n f (inr s) slot i j = behind (is_number k (slot_of app c g)) (in_its_slot p o outer c k rest n f s slot i j)
    where
      others : List PNode
      others = handed_to app c (nodes_at p o outer rest) k

      behind : (b : Bool) → In i (all_ids others) → In i (all_ids ((if b then form_at p o outer m g else []) ++ others))
      behind true r = rw all_ids-append (In-right (all_ids (form_at p o outer m g)) (all_ids others) i r)
      behind false r = r

  -- what is handed to a slot is in an `ng-content` that shows it
  in_content : (p : Trail) (o : Outline) (outer : Outlines) (n : ℕ) (f : Form) (k : ℕ) → ShowsSlot app tree o f k → (i : NodeId) → In i (all_ids (handed_of p k)) → In i (all_ids (form_at p o outer n f))
  in_content p o outer n (NgContent attrs nodes) k shows i j =
      let views = draw_views app tree page_nodes (draw app tree page_nodes (63 - length p)) o outer (handed_of p) n (NgContent attrs nodes) in
      rw all_ids-append (In-left (all_ids (handed_of p (shown_slot app o.component attrs))) (all_ids views) i (subst (λ x. In i (all_ids (handed_of p x))) (sym shows) j))
  in_content p o outer n _ k shows i j = absurd shows

  -- what is made of a view that a node shows is among what is made of all those
  in_views : (p : Trail) (o : Outline) (outer : Outlines) (n : ℕ) (f : Form) (s : Step) → In s (steps (views_shown app o outer n f (value_of (view_at o.path tree.views) n)))
      → (i : NodeId) → In i (all_ids (draw app tree page_nodes (63 - length p) (entered app s (o ∷ outer)) (handed_of p))) → In i (all_ids (draw_views app tree page_nodes (draw app tree page_nodes (63 - length p)) o outer (handed_of p) n f))
  in_views p o outer n f s there i j =
      let made : Shown → List PNode = λ b. draw app tree page_nodes (63 - length p) (entered app b.0 (o ∷ outer)) (handed_of p) in
      let bs = views_shown app o outer n f (value_of (view_at o.path tree.views) n) in
      let b = In-map (λ (x : Shown). x.0) bs s there in
      subst (In i) (sym (all_ids-flat_map made bs)) (in_flat_map (λ x. all_ids (made x)) bs b.0 b.1 i (subst (λ x. In i (all_ids (draw app tree page_nodes (63 - length p) (entered app x (o ∷ outer)) (handed_of p)))) b.2 j))
    where
      in_flat_map : (g : Shown → List NodeId) (xs : List Shown) (x : Shown) → In x xs → (y : NodeId) → In y (g x) → In y (flat_map g xs)
      in_flat_map g [] x h y k = absurd h
      in_flat_map g (z ∷ xs) x (inl e) y k = In-left (g z) (flat_map g xs) y (subst (λ w. In y (g w)) e k)
      in_flat_map g (z ∷ xs) x (inr h) y k = In-right (g z) (flat_map g xs) y (in_flat_map g xs x h y k)

  -- and these are among what is made of the node
  in_node : (p : Trail) (o : Outline) (outer : Outlines) (n : ℕ) (f : Form) (s : Step) → In s (steps (views_shown app o outer n f (value_of (view_at o.path tree.views) n)))
      → (i : NodeId) → In i (all_ids (draw_views app tree page_nodes (draw app tree page_nodes (63 - length p)) o outer (handed_of p) n f)) → In i (all_ids (form_at p o outer n f))
  unfolding views_shown
  in_node p o outer n (Element tag attrs nodes) s there i j = absurd there
  in_node p o outer n (Host c tag attrs nodes) s there i j = absurd there
  in_node p o outer n (TextNode ps) s there i j = absurd there
  in_node p o outer n (NgContent attrs nodes) s there i j =
      let views = draw_views app tree page_nodes (draw app tree page_nodes (63 - length p)) o outer (handed_of p) n (NgContent attrs nodes) in
      rw all_ids-append (In-right (all_ids (handed_of p (shown_slot app o.component attrs))) (all_ids views) i j)
  in_node p o outer n (NgContainer attrs nodes) s there i j =
      let first = draw_outlets app tree page_nodes (draw app tree page_nodes (63 - length p)) o outer n (NgContainer attrs nodes) ++ together (nodes_at p o outer nodes) in
      let views = draw_views app tree page_nodes (draw app tree page_nodes (63 - length p)) o outer (handed_of p) n (NgContainer attrs nodes) in
      subst (In i) (sym (all_ids-append first views)) (In-right (all_ids first) (all_ids views) i j)
  in_node p o outer n (NgTemplate attrs nodes) s there i j = j
  in_node p o outer n (If bs) s there i j = j
  in_node p o outer n (For head nodes empty) s there i j = j
  in_node p o outer n (Switch e bs) s there i j = j
  in_node p o outer n (Let name e) s there i j = j

  -- ---- what is drawn is on the page

  -- the view of a node that is on the page
  pub record Seen (p : Trail) : Type 0 where
    pub view : Outline
    pub outer : Outlines
    pub is : outlines app p ≡ view ∷ outer

  seen : (p : Trail) (n : ℕ) (f : Form) → OnPage app tree p n f → Seen p
  seen p n f (outermost view outer v e s) = record { view = view; outer = outer; is = e }
  seen p n f (in_element {m = m} {tag = tag} {attrs = attrs} {nodes = nodes} on s) = seen p m (Element tag attrs nodes) on
  seen p n f (in_container {m = m} {attrs = attrs} {nodes = nodes} on s) = seen p m (NgContainer attrs nodes) on
  seen p n f (in_slot {m = m} {c = c} {tag = tag} {attrs = attrs} {nodes = nodes} q_view q_outer on s slot other q_is unit shows) = seen p m (Host c tag attrs nodes) on

  handed_on : (n : ℕ) (s : Step) → GoesInto n s → (p : Trail) → handed_of (s ∷ p) ≡ handed_of p
  handed_on n (step.Child m) g p = absurd g
  handed_on n (step.Branch m k) g p = refl
  handed_on n (step.Row m w k) g p = refl
  handed_on n (step.Outlet m t) g p = refl

  -- what is made of the view that a step enters
  entered_by : (p : Trail) (s : Step) (o : Outline) (outer : Outlines) → outlines app p ≡ o ∷ outer → length p + 1 ≤ 63 → (h : Handed PNode) → handed_of (s ∷ p) ≡ h
      → (i : NodeId) → In i (all_ids (draw app tree page_nodes (suc (63 - length (s ∷ p))) (outlines app (s ∷ p)) (handed_of (s ∷ p)))) → In i (all_ids (draw app tree page_nodes (63 - length p) (entered app s (o ∷ outer)) h))
  entered_by p s o outer e short h same i j =
      let levels : suc (63 - length (s ∷ p)) ≡ 63 - length p = omega (arith, short) in
      subst (λ g. In i (all_ids (draw app tree page_nodes (63 - length p) (entered app s (o ∷ outer)) g))) same
      (subst (λ os. In i (all_ids (draw app tree page_nodes (63 - length p) os (handed_of (s ∷ p))))) (entered_next app s p (o ∷ outer) e)
      (subst (λ m. In i (all_ids (draw app tree page_nodes m (outlines app (s ∷ p)) (handed_of (s ∷ p))))) levels j))

  -- what is handed to a slot is so at each view of the instance
  handed_at_unit : (q u : Trail) (o : Outline) (outer : Outlines) → outlines app q ≡ o ∷ outer → o.unit ≡ u → handed_of q ≡ handed_of u
  handed_at_unit q u o outer e d =
      let own : o.unit ≡ unit_of q = (subst (HasUnit (unit_of q)) e (outlines-HasUnit app q)).0 in
      handed_of-unit q ∙ ap handed_of (sym own ∙ d)

  -- Given all nodes of a page, among which is what is drawn of the root.
  module _ (whole : List NodeId) (root : (i : NodeId) → In i (all_ids (draw_root app tree page_nodes)) → In i whole) where
    mutual
      view_each : (p : Trail) → ViewOnPage app tree p → (i : NodeId) → In i (all_ids (draw app tree page_nodes (suc (63 - length p)) (outlines app p) (handed_of p))) → In i whole
      view_each _ of_root i j = root i j
      view_each _ (of_host {p = p} {n = n} {c = c} {tag = tag} {attrs = attrs} {nodes = nodes} on short) i j =
          let v = seen p n (Host c tag attrs nodes) on in
          let inner = entered_by p (step.Child n) v.view v.outer v.is short (handed_to app c (nodes_at p v.view v.outer nodes)) (host_hands p n c tag attrs nodes on v.view v.outer v.is) i j in
          each p n (Host c tag attrs nodes) on v.view v.outer v.is i (rw all_ids-one (rw node_ids-Host (inr inner)))
      view_each _ (of_node {p = p} {n = n} {f = f} {s = s} o outer on e there short) i j =
          let begins : o.path ≡ p = subst (BeginsAt p) e (outlines-BeginsAt app p) in
          let here = subst (λ x. In s (steps (views_shown app o outer n f (value_of (view_at x tree.views) n)))) (sym begins) there in
          let goes = views_shown-GoInto app o outer n f (value_of (view_at p tree.views) n) s there in
          each p n f on o outer e i (in_node p o outer n f s here i (in_views p o outer n f s here i (entered_by p s o outer e short (handed_of p) (handed_on n s goes p) i j)))

      each : (p : Trail) (n : ℕ) (f : Form) → OnPage app tree p n f → (o : Outline) (outer : Outlines) → outlines app p ≡ o ∷ outer → (i : NodeId) → In i (all_ids (form_at p o outer n f)) → In i whole
      each p n f (outermost view v_outer v e s) o outer d i j =
          let same : view ≡ o = cc in
          view_each p v i (subst (λ os. In i (all_ids (draw app tree page_nodes (suc (63 - length p)) os (handed_of p)))) (sym d) (among_nodes p o outer o.nodes n f (subst (λ (x : Outline). Stands n f x.nodes) same s) i j))
      each p n f (in_element {m = m} {tag = tag} {attrs = attrs} {nodes = nodes} on s) o outer d i j =
          each p m (Element tag attrs nodes) on o outer d i (rw all_ids-one (rw node_ids-Element (inr (among_nodes p o outer nodes n f s i j))))
      each p n f (in_container {m = m} {attrs = attrs} {nodes = nodes} on s) o outer d i j =
          let outlets = draw_outlets app tree page_nodes (draw app tree page_nodes (63 - length p)) o outer m (NgContainer attrs nodes) in
          let kids = together (nodes_at p o outer nodes) in
          let views = draw_views app tree page_nodes (draw app tree page_nodes (63 - length p)) o outer (handed_of p) m (NgContainer attrs nodes) in
          let inner = In-right (all_ids outlets) (all_ids kids) i (among_nodes p o outer nodes n f s i j) in
          let first = subst (In i) (sym (all_ids-append outlets kids)) inner in
          each p m (NgContainer attrs nodes) on o outer d i (subst (In i) (sym (all_ids-append (outlets ++ kids) views)) (In-left (all_ids (outlets ++ kids)) (all_ids views) i first))
      each p n f (in_slot {q = q} {m = m} {j = number} {k = k} {g = g} {c = c} {tag = tag} {attrs = attrs} {nodes = nodes} q_view q_outer on s slot other q_is unit shows) o outer d i j =
          let in_slot_k = in_its_slot p o outer c k nodes n f s slot i j in
          let at_host = subst (λ h. In i (all_ids (h k))) (sym (host_hands p m c tag attrs nodes on o outer d)) in_slot_k in
          let at_content = subst (λ h. In i (all_ids (h k))) (sym (handed_at_unit q (step.Child m ∷ p) q_view q_outer q_is unit)) at_host in
          each q number g other q_view q_outer q_is i (in_content q q_view q_outer number g k shows i at_content)

  -- an element, a host or a text is among what is made of it
  own_node : (p : Trail) (o : Outline) (outer : Outlines) (n : ℕ) (f : Form) → is_page_node f ≡ true → In (node_id o.path n) (all_ids (form_at p o outer n f))
  own_node p o outer n (Element tag attrs nodes) e = rw all_ids-one (rw node_ids-Element (inl refl))
  own_node p o outer n (Host c tag attrs nodes) e = rw all_ids-one (rw node_ids-Host (inl refl))
  own_node p o outer n (TextNode ps) e = rw all_ids-one (rw node_ids-Text (inl refl))
  own_node p o outer n (NgContent attrs nodes) e = cc
  own_node p o outer n (NgContainer attrs nodes) e = cc
  own_node p o outer n (NgTemplate attrs nodes) e = cc
  own_node p o outer n (If bs) e = cc
  own_node p o outer n (For head nodes empty) e = cc
  own_node p o outer n (Switch test bs) e = cc
  own_node p o outer n (Let name value) e = cc

-- Each element, host and text that is on the page by what the views show is a node of the page.
pub page-HasEach : (app : App) (tree : Tree) (i : NodeId) → IsOnPage app tree i → In i (node_ids (page app tree))
unfolding page
page-HasEach app tree i on =
    let v = seen app tree on.path on.number on.form on.on_page in
    let begins : v.view.path ≡ on.path = subst (BeginsAt on.path) v.is (outlines-BeginsAt app on.path) in
    let own : i ≡ node_id v.view.path on.number = on.is ∙ ap (λ p. node_id p on.number) (sym begins) in
    let there = subst (λ x. In x (all_ids (form_at app tree on.path v.view v.outer on.number on.form))) (sym own) (own_node app tree on.path v.view v.outer on.number on.form on.page_node) in
    rw node_ids-Host (inr (each app tree (all_ids (draw_root app tree page_nodes)) (λ x j. j) on.path on.number on.form on.on_page v.view v.outer v.is i there))
