-- Each live node is listed: the count of 64 levels is enough.
use Rattle.std.specs.Prelude.{◌≡◌, ◌⊎◌, ℕ, zero, suc, ◌+◌, ◌-◌, ◌<◌, ◌≤◌, Bool, true, false, not, ◌||◌, if◌then◌else◌, cond, List, [], ◌∷◌, ◌++◌, map, length, filter, Some, refl}
use Rattle.std.specs.List.{flat_map, list_any}
use Rattle.std.proofs.Common.{inl, inr, ap, sym, ◌∙◌, subst, arith}
use Rattle.std.proofs.lemmas.Bool.{eq-eqb}
use Rattle.ng_ast.specs.declared.App.{App}
use Rattle.ng_ast.specs.declared.TAttr.{TAttr}
use Rattle.ng_tree.specs.declared.NodeId.{NodeId}
use Rattle.ng_tree.specs.declared.Step.{Step}
use Rattle.ng_tree.specs.declared.Step.TheVariants as step
use Rattle.ng_meaning.specs.Same.{same_path}
use Rattle.ng_meaning.specs.Template.{Form, Element, Host, NgContent, NgContainer, NgTemplate, TextNode, If, For, Switch, Let, Nodes, no_nodes, node, Node}
use Rattle.ng_meaning.specs.Places.{Trail, Outline, Outlines, node_id, nodes_in_template, entered, outlines}
use Rattle.ng_meaning.specs.Tree.{Tree, NodeValue, OutletValue, view_at, value_of}
use Rattle.ng_meaning.specs.Bindings.{Shown, views_shown}
use Rattle.ng_meaning.specs.Page.{outlets_met}
use Rattle.ng_meaning.specs.Queries.{Live, is_outlet_view, outlet_order, declared_in, shows_template, live_itself, live_views, live_nodes, live_form, live_within, all_live}
use Rattle.ng_meaning.specs.Laws.Apart.{In, In-append, In-left, In-right, In-map, In-flat_map}
use Rattle.ng_meaning.specs.Laws.Growing.{host_steps, paths}
use Rattle.ng_meaning.specs.Laws.Leads.{StaysAt, host_not_block, IsShown-Below, Below-length}
use Rattle.ng_meaning.specs.Laws.Live.{declared_at, ViewStands, NodeStands, IsElement, IsLive}
use Rattle.ng_meaning.specs.Laws.Live.ViewStands.{of_instance, of_node}
use Rattle.ng_meaning.specs.Laws.Live.NodeStands.{outermost, in_element, in_host, in_container}
use Rattle.ng_meaning.specs.Laws.Members.{node_at-is}
use Rattle.ng_meaning.specs.Laws.Numbers.{AreNumbered}
use Rattle.ng_meaning.specs.Laws.Once.{outlines-BeginsAt, entered_next}
use Rattle.ng_meaning.specs.Laws.OnPage.{Stands}
use Rattle.ng_meaning.specs.Laws.Places.{HaveNumbers, BeginsAt, outlines-HaveNumbers}
use Rattle.ng_meaning.specs.Laws.Sameness.{same_path_decides}
use Rattle.ng_meaning.specs.Laws.Searches.{In-flat}
use Rattle.ng_meaning.specs.Laws.Shown.{GoesInto, steps, views_shown-GoInto}
use Rattle.ng_meaning.specs.Laws.Standing.{nodes_of-Stand, stands-IsNode, form-node_at, outlines-Stand}
use Rattle.ng_meaning.specs.Laws.Tails.{IsAlone, IsBefore, IsDeclared, behind-AreTails, child-IsAlone, root-IsAlone, block-IsBefore, outlet-IsDeclared}
use Rattle.ng_meaning.specs.Laws.Units.{Leads, IsShown}

-- ---- lists

-- what passes a test is kept
In-filtered : {A : Type 0} (test : A → Bool) (xs : List A) (x : A) → In x xs → test x ≡ true → In x (filter test xs)
In-filtered test [] x i t = absurd i
In-filtered test (y ∷ xs) x i t = by_test (test y) refl i (λ j. In-filtered test xs x j t)
  where
    by_test : (b : Bool) → test y ≡ b → In x (y ∷ xs) → (In x xs → In x (filter test xs)) → In x (cond b (y ∷ filter test xs) (filter test xs))
    by_test true e (inl d) rest = inl d
    by_test true e (inr j) rest = inr (rest j)
    by_test false e (inl d) rest = let h : test x ≡ false = ap test d ∙ e in cc
    by_test false e (inr j) rest = rest j

-- a path that is the same as one of a list is in it
same_in : (p : Trail) (ps : List Trail) → list_any (same_path p) ps ≡ true → In p ps
same_in p [] e = cc
same_in p (q ∷ ps) e = by_test (same_path p q) refl e (same_in p ps)
  where
    by_test : (b : Bool) → same_path p q ≡ b → (b || list_any (same_path p) ps) ≡ true → (list_any (same_path p) ps ≡ true → In p ps) → In p (q ∷ ps)
    by_test true t h rest = inl ((same_path_decides p q).0 t)
    by_test false t h rest = inr (rest h)

-- ---- more is listed where more is listed inside

module _ (app : App) (tree : Tree) where
  -- a node's list is among that of those that it stands with
  among : (inside : Outlines → List NodeId → List Live) (o : Outline) (outer : Outlines) (round : List NodeId) (nodes : Nodes) (n : ℕ) (f : Form) → Stands n f nodes
      → (q : Live) → In q (live_form app tree inside o outer round n f) → In q (live_nodes app tree inside o outer round nodes)
  among inside o outer round no_nodes n f s q i = absurd s
  among inside o outer round (node m pl g rest) n f (inl e) q i =
      In-left (live_form app tree inside o outer round m g) (live_nodes app tree inside o outer round rest) q
      (subst (λ x. In q (live_form app tree inside o outer round x g)) e.0 (subst (λ h. In q (live_form app tree inside o outer round n h)) e.1 i))
  among inside o outer round (node m pl g rest) n f (inr s) q i =
      In-right (live_form app tree inside o outer round m g) (live_nodes app tree inside o outer round rest) q (among inside o outer round rest n f s q i)

  -- Given two lists of what is inside of views, of which the second has all that the first has.
  module _ (less more : Outlines → List NodeId → List Live) (wider : (os : Outlines) (round : List NodeId) (q : Live) → In q (less os round) → In q (more os round)) (o : Outline) (outer : Outlines) where
    flat_wider : {B : Type 0} (f g : B → List Live) → ((b : B) (q : Live) → In q (f b) → In q (g b)) → (bs : List B) (q : Live) → In q (flat_map f bs) → In q (flat_map g bs)
    flat_wider f g h bs q i = let r = In-flat_map f bs q i in In-flat g bs r.0 q r.1 (h r.0 q r.2)

    views_wider : (round : List NodeId) (n : ℕ) (f : Form) (q : Live) → In q (live_views app tree less o outer round n f) → In q (live_views app tree more o outer round n f)
    views_wider round n f q i =
        flat_wider (λ b. less (entered app b.0 (o ∷ outer)) round) (λ b. more (entered app b.0 (o ∷ outer)) round) (λ b x j. wider (entered app b.0 (o ∷ outer)) round x j)
        (views_shown app o outer n f (value_of (view_at o.path tree.views) n)) q i

    mutual
      nodes_wider : (nodes : Nodes) (round : List NodeId) (q : Live) → In q (live_nodes app tree less o outer round nodes) → In q (live_nodes app tree more o outer round nodes)
      nodes_wider no_nodes round q i = absurd i
      nodes_wider (node n p f rest) round q i = elim (In-append (live_form app tree less o outer round n f) (live_nodes app tree less o outer round rest) q i) [
        | inl j ↦ In-left (live_form app tree more o outer round n f) (live_nodes app tree more o outer round rest) q (form_wider f n round q j)
        | inr j ↦ In-right (live_form app tree more o outer round n f) (live_nodes app tree more o outer round rest) q (nodes_wider rest round q j)
      ]

      form_wider : (f : Form) (n : ℕ) (round : List NodeId) (q : Live) → In q (live_form app tree less o outer round n f) → In q (live_form app tree more o outer round n f)
      form_wider (Element tag attrs nodes) n round q (inl e) = inl e
      form_wider (Element tag attrs nodes) n round q (inr j) = inr (nodes_wider nodes (node_id o.path n ∷ round) q j)
      form_wider (Host c tag attrs nodes) n round q (inl e) = inl e
      form_wider (Host c tag attrs nodes) n round q (inr j) =
          inr (elim (In-append (less (entered app (step.Child n) (o ∷ outer)) []) (live_nodes app tree less o outer (node_id o.path n ∷ round) nodes) q j) [
            | inl l ↦ In-left (more (entered app (step.Child n) (o ∷ outer)) []) (live_nodes app tree more o outer (node_id o.path n ∷ round) nodes) q (wider (entered app (step.Child n) (o ∷ outer)) [] q l)
            | inr r ↦ In-right (more (entered app (step.Child n) (o ∷ outer)) []) (live_nodes app tree more o outer (node_id o.path n ∷ round) nodes) q (nodes_wider nodes (node_id o.path n ∷ round) q r)
          ])
      form_wider (NgContainer attrs nodes) n round q i = nodes_wider nodes round q i
      form_wider (NgTemplate attrs nodes) n round q i =
          flat_wider (λ p. less (outlines app p) round) (λ p. more (outlines app p) round) (λ p x j. wider (outlines app p) round x j) (filter (shows_template app o.path n) (outlet_order app tree)) q i
      form_wider (NgContent attrs nodes) n round q i = views_wider round n (NgContent attrs nodes) q i
      form_wider (TextNode ps) n round q i = views_wider round n (TextNode ps) q i
      form_wider (If bs) n round q i = views_wider round n (If bs) q i
      form_wider (For head nodes empty) n round q i = views_wider round n (For head nodes empty) q i
      form_wider (Switch e bs) n round q i = views_wider round n (Switch e bs) q i
      form_wider (Let name e) n round q i = views_wider round n (Let name e) q i

  -- more levels list more
  levels_wider : (m n : ℕ) → m ≤ n → (os : Outlines) (round : List NodeId) (q : Live) → In q (live_within app tree m os round) → In q (live_within app tree n os round)
  levels_wider zero n le os round q i = absurd i
  levels_wider (suc m) zero le os round q i = absurd (omega (arith, le))
  levels_wider (suc m) (suc n) le [] round q i = absurd i
  levels_wider (suc m) (suc n) le (o ∷ outer) round q i =
      nodes_wider (live_within app tree m) (live_within app tree n) (λ os r x j. levels_wider m n (omega (arith, le)) os r x j) o outer o.nodes round q i

-- ---- where a view stands

alone_round : (os : Outlines) (round : List NodeId) → ViewStands os round → IsAlone os → round ≡ []
alone_round _ _ of_instance alone = refl
alone_round _ _ (of_node h) alone = absurd alone

-- where the node stands at which the first view is declared, where there is a second
abbrev DeclaredStands : Outlines → List NodeId → Type 0
DeclaredStands (o ∷ d ∷ outer) round = (f : Form) × NodeStands (d ∷ outer) (declared_at o.path) f round
DeclaredStands os round = Unit {0}

declared_stands : (os : Outlines) (round : List NodeId) → ViewStands os round → DeclaredStands os round
declared_stands _ _ of_instance = tt
declared_stands _ _ (of_node {f = f} h) = (f, h)

stays_declared : (n : ℕ) (s : Step) → StaysAt n s → (p : Trail) → declared_at (s ∷ p) ≡ n
stays_declared n (step.Child m) g p = absurd g
stays_declared n (step.Branch m k) g p = g
stays_declared n (step.Row m w k) g p = g
stays_declared n (step.Outlet m t) g p = absurd g

stays_once : (m n : ℕ) (s : Step) → StaysAt m s → GoesInto n s → m ≡ n
stays_once m n (step.Child k) g h = absurd g
stays_once m n (step.Branch k b) g h = sym g ∙ h
stays_once m n (step.Row k w j) g h = sym g ∙ h
stays_once m n (step.Outlet k t) g h = absurd g

-- ---- the views of one node

module _ (app : App) (tree : Tree) (inside : Outlines → List NodeId → List Live) (o : Outline) (outer : Outlines) (round : List NodeId) where
  -- the view that a node shows by a step is listed with those of the node
  in_views : (n : ℕ) (f : Form) (s : Step) → In s (steps (views_shown app o outer n f (value_of (view_at o.path tree.views) n)))
      → (q : Live) → In q (inside (entered app s (o ∷ outer)) round) → In q (live_views app tree inside o outer round n f)
  in_views n f s there q i =
      let bs = views_shown app o outer n f (value_of (view_at o.path tree.views) n) in
      let b = In-map (λ (x : Shown). x.0) bs s there in
      In-flat (λ (x : Shown). inside (entered app x.0 (o ∷ outer)) round) bs b.0 q b.1 (subst (λ x. In q (inside (entered app x (o ∷ outer)) round)) b.2 i)

  no_stay : (m n : ℕ) (attrs : List TAttr) (nodes : Nodes) (value : NodeValue) (s : Step) → In s (steps (views_shown app o outer n (NgContainer attrs nodes) value)) → StaysAt m s → ⊥
  unfolding views_shown
  no_stay m n attrs nodes (OutletValue (Some t) w) s (inl e) g = subst (StaysAt m) e g
  no_stay m n attrs nodes (OutletValue (Some t) w) s (inr none) g = none
  no_stay m n attrs nodes value s i g = i

  -- a branch or a row
  in_block : (n : ℕ) (f : Form) (s : Step) → In s (steps (views_shown app o outer n f (value_of (view_at o.path tree.views) n))) → (m : ℕ) → StaysAt m s
      → (q : Live) → In q (inside (entered app s (o ∷ outer)) round) → In q (live_form app tree inside o outer round n f)
  unfolding views_shown
  in_block n (Element tag attrs nodes) s there m g q i = absurd there
  in_block n (Host c tag attrs nodes) s there m g q i = absurd there
  in_block n (NgContainer attrs nodes) s there m g q i = absurd (no_stay m n attrs nodes (value_of (view_at o.path tree.views) n) s there g)
  in_block n (NgTemplate attrs nodes) s there m g q i = absurd there
  in_block n (NgContent attrs nodes) s there m g q i = in_views n (NgContent attrs nodes) s there q i
  in_block n (TextNode ps) s there m g q i = absurd there
  in_block n (If bs) s there m g q i = in_views n (If bs) s there q i
  in_block n (For head nodes empty) s there m g q i = in_views n (For head nodes empty) s there q i
  in_block n (Switch e bs) s there m g q i = in_views n (Switch e bs) s there q i
  in_block n (Let name e) s there m g q i = absurd there

  -- the instance on a host
  in_instance : (n : ℕ) (x : Node) (f : Form) → In (step.Child n) (host_steps x f) → (q : Live) → In q (inside (entered app (step.Child n) (o ∷ outer)) []) → In q (live_form app tree inside o outer round x.number f)
  in_instance n x (Host c tag attrs nodes) (inl e) q i =
      let same : n ≡ x.number = cc in
      inr (In-left (inside (entered app (step.Child x.number) (o ∷ outer)) []) (live_nodes app tree inside o outer (node_id o.path x.number ∷ round) nodes) q
      (subst (λ m. In q (inside (entered app (step.Child m) (o ∷ outer)) [])) same i))
  in_instance n x (Host c tag attrs nodes) (inr none) q i = absurd none
  in_instance n x _ there q i = absurd there

  -- an element or a host itself
  in_itself : (n : ℕ) (f : Form) → IsElement f → (q : Live) → q ≡ live_itself app tree inside o round n f → In q (live_form app tree inside o outer round n f)
  in_itself n (Element tag attrs nodes) element q e = inl e
  in_itself n (Host c tag attrs nodes) element q e = inl e
  in_itself n (NgContent attrs nodes) element q e = absurd element
  in_itself n (NgContainer attrs nodes) element q e = absurd element
  in_itself n (NgTemplate attrs nodes) element q e = absurd element
  in_itself n (TextNode ps) element q e = absurd element
  in_itself n (If bs) element q e = absurd element
  in_itself n (For head nodes empty) element q e = absurd element
  in_itself n (Switch test bs) element q e = absurd element
  in_itself n (Let name value) element q e = absurd element

-- ---- all that is live

-- Given that each view that is shown is live, and has at most 63 steps.
module _ (app : App) (tree : Tree)
    (live : (p : Trail) (o : Outline) (outer : Outlines) → IsShown app tree p → outlines app p ≡ o ∷ outer → In p (paths tree.views) × (length p ≤ 63)) where
  -- a live outlet's view is among those that are listed
  outlet_listed : (p : Trail) → In p (paths tree.views) → is_outlet_view p ≡ true → In p (outlet_order app tree)
  unfolding outlet_order
  outlet_listed p i e = by_test (list_any (same_path p) met) refl
    where
      met : List Trail
      met = outlets_met app tree

      other : Trail → Bool
      other x = if is_outlet_view x then not (list_any (same_path x) met) else false

      by_test : (b : Bool) → list_any (same_path p) met ≡ b → In p (met ++ filter other (map (λ v. v.0) tree.views))
      by_test true h = In-left met (filter other (map (λ v. v.0) tree.views)) p (same_in p met h)
      by_test false h =
          In-right met (filter other (map (λ v. v.0) tree.views)) p
          (In-filtered other (map (λ v. v.0) tree.views) p i (ap (λ b. if b then not (list_any (same_path p) met) else false) e ∙ ap not h))

  -- all of a list is live nodes that are listed
  abbrev Listed : List Live → Type 0
  Listed xs = (q : Live) → In q xs → In q (all_live app tree)

  -- what is inside of the view at a path, listed as far as 63 steps go
  abbrev within : Trail → Outlines → List NodeId → List Live
  within p = live_within app tree (63 - length p)

  -- what is listed of a view
  abbrev ViewListed : Trail → Outlines → List NodeId → Type 0
  ViewListed p os round = Listed (live_within app tree (suc (63 - length p)) os round)

  -- what is listed of a node of the first view
  abbrev form_list : Trail → Outlines → List NodeId → ℕ → Form → List Live
  form_list p [] round n f = []
  form_list p (o ∷ outer) round n f = live_form app tree (within p) o outer round n f

  -- a node is listed where its view is
  node_listed : (p : Trail) (os : Outlines) (n : ℕ) (f : Form) (round : List NodeId) → NodeStands os n f round → ((r : List NodeId) → ViewStands os r → ViewListed p os r) → Listed (form_list p os round n f)
  node_listed p _ n f _ (outermost {o = o} {outer = outer} {round = round} v s) view q i = view round v q (among app tree (within p) o outer round o.nodes n f s q i)
  node_listed p _ n f _ (in_element {o = o} {outer = outer} {m = m} {tag = tag} {attrs = attrs} {nodes = nodes} {round = round} h s) view q i =
      node_listed p (o ∷ outer) m (Element tag attrs nodes) round h view q (inr (among app tree (within p) o outer (node_id o.path m ∷ round) nodes n f s q i))
  node_listed p _ n f _ (in_host {o = o} {outer = outer} {m = m} {c = c} {tag = tag} {attrs = attrs} {nodes = nodes} {round = round} h s) view q i =
      node_listed p (o ∷ outer) m (Host c tag attrs nodes) round h view q
      (inr (In-right (within p (entered app (step.Child m) (o ∷ outer)) []) (live_nodes app tree (within p) o outer (node_id o.path m ∷ round) nodes) q
      (among app tree (within p) o outer (node_id o.path m ∷ round) nodes n f s q i)))
  node_listed p _ n f _ (in_container {o = o} {outer = outer} {m = m} {attrs = attrs} {nodes = nodes} {round = round} h s) view q i =
      node_listed p (o ∷ outer) m (NgContainer attrs nodes) round h view q (among app tree (within p) o outer round nodes n f s q i)

  -- what is listed of the root instance's own view
  root_listed : Listed (live_within app tree 64 (outlines app []) [])
  unfolding all_live
  root_listed q i = i

  -- views with fewer steps than a number are listed, wherever they stand
  abbrev ShortListed : ℕ → Type 0
  ShortListed k = (p : Trail) → length p < k → IsShown app tree p → (o : Outline) (outer : Outlines) → outlines app p ≡ o ∷ outer → (round : List NodeId) → ViewStands (o ∷ outer) round → ViewListed p (o ∷ outer) round

  -- Given the view at the path of one more step, and that the shorter ones are listed.
  module _ (k : ℕ) (shorter : ShortListed k) (p : Trail) (less : length p < k) (shown : IsShown app tree p) (o : Outline) (outer : Outlines) (round : List NodeId) (stands : ViewStands (o ∷ outer) round)
      (short : length p + 1 ≤ 63) where
    -- a level less is left inside
    level_is : (s : Step) → suc (63 - length (s ∷ p)) ≡ 63 - length p
    level_is s = omega (arith, short)

    -- what is listed of a view that a step enters
    as_entered : (s : Step) (d : Outline) (ds : Outlines) → outlines app p ≡ d ∷ ds → outlines app (s ∷ p) ≡ o ∷ outer → (q : Live) → In q (live_within app tree (suc (63 - length (s ∷ p))) (o ∷ outer) round)
        → In q (within p (entered app s (d ∷ ds)) round)
    as_entered s d ds up here q i =
        subst (λ os. In q (within p os round)) (sym here ∙ entered_next app s p (d ∷ ds) up) (subst (λ n. In q (live_within app tree n (o ∷ outer) round)) (level_is s) i)

    -- the own view of the instance on a host
    child_listed : (n : ℕ) → outlines app (step.Child n ∷ p) ≡ o ∷ outer → (ds : Outlines) → outlines app p ≡ ds → Leads app tree ds (step.Child n) → ViewListed (step.Child n ∷ p) (o ∷ outer) round
    child_listed n here [] up leads q i = absurd leads
    child_listed n here (d ∷ ds) up leads q i = by_host leads.2
      where
        nothing_round : round ≡ []
        nothing_round = alone_round (o ∷ outer) round stands (subst IsAlone (sym (entered_next app (step.Child n) p (d ∷ ds) up) ∙ here) (child-IsAlone app n d ds))

        at_view : (round : List NodeId) × ViewStands (d ∷ ds) round
        at_view = outlines-Stand app p d ds up

        by_host : In (step.Child n) (host_steps leads.0 leads.0.form) ⊎ In (step.Child n) (steps (views_shown app d ds leads.0.number leads.0.form (value_of (view_at d.path tree.views) leads.0.number)))
            → In q (all_live app tree)
        by_host (inl there) =
            let at_node = nodes_of-Stand d ds at_view.0 at_view.1 leads.0 leads.1 in
            node_listed p (d ∷ ds) leads.0.number leads.0.form at_node.0 at_node.1 (λ r v. shorter p less shown d ds up r v) q
            (in_instance app tree (within p) d ds at_node.0 n leads.0 leads.0.form there q
            (subst (λ r. In q (within p (entered app (step.Child n) (d ∷ ds)) r)) nothing_round (as_entered (step.Child n) d ds up here q i)))
        by_host (inr there) = absurd (views_shown-GoInto app d ds leads.0.number leads.0.form (value_of (view_at d.path tree.views) leads.0.number) (step.Child n) there)

    -- a branch or a row
    block_listed : (n : ℕ) (s : Step) → StaysAt n s → outlines app (s ∷ p) ≡ o ∷ outer → (ds : Outlines) → outlines app p ≡ ds → Leads app tree ds s → ViewListed (s ∷ p) (o ∷ outer) round
    block_listed n s g here [] up leads q i = absurd leads
    block_listed n s g here (d ∷ ds) up leads q i = by_view leads.2
      where
        behind : outer ≡ d ∷ ds
        behind = subst (IsBefore (d ∷ ds)) (sym (entered_next app s p (d ∷ ds) up) ∙ here) (block-IsBefore app n s g d ds)

        at_block : (f : Form) × NodeStands (d ∷ ds) (declared_at o.path) f round
        at_block = declared_stands (o ∷ d ∷ ds) round (subst (λ os. ViewStands (o ∷ os) round) behind stands)

        by_view : In s (host_steps leads.0 leads.0.form) ⊎ In s (steps (views_shown app d ds leads.0.number leads.0.form (value_of (view_at d.path tree.views) leads.0.number))) → In q (all_live app tree)
        by_view (inl there) = absurd (host_not_block leads.0 leads.0.form s n there g)
        by_view (inr there) =
            let value = value_of (view_at d.path tree.views) leads.0.number in
            let begins : o.path ≡ s ∷ p = subst (BeginsAt (s ∷ p)) here (outlines-BeginsAt app (s ∷ p)) in
            let number : declared_at o.path ≡ leads.0.number =
            ap declared_at begins ∙ stays_declared n s g p ∙ stays_once n leads.0.number s g (views_shown-GoInto app d ds leads.0.number leads.0.form value s there) in
            let at_number = subst (λ m. NodeStands (d ∷ ds) m at_block.0 round) number at_block.1 in
            let numbers : AreNumbered d.nodes = (subst HaveNumbers up (outlines-HaveNumbers app p)).0 in
            let same : leads.0.form ≡ at_block.0 =
            form-node_at d.nodes numbers leads.0.number at_block.0 (stands-IsNode (d ∷ ds) leads.0.number at_block.0 round at_number) leads.0 (node_at-is d.nodes numbers leads.0 leads.1) in
            let at_node = subst (λ f. NodeStands (d ∷ ds) leads.0.number f round) (sym same) at_number in
            node_listed p (d ∷ ds) leads.0.number leads.0.form round at_node (λ r v. shorter p less shown d ds up r v) q
            (in_block app tree (within p) d ds round leads.0.number leads.0.form s there n g q (as_entered s d ds up here q i))

    -- an outlet's view
    outlet_view_listed : (n t : ℕ) → outlines app (step.Outlet n t ∷ p) ≡ o ∷ outer → (ds : Outlines) → outer ≡ ds → IsDeclared nodes_in_template (o ∷ ds) → In (step.Outlet n t ∷ p) (paths tree.views)
        → ViewListed (step.Outlet n t ∷ p) (o ∷ outer) round
    outlet_view_listed n t here [] behind declared there q i = absurd declared
    outlet_view_listed n t here (d ∷ ds) behind declared there q i = by_form at_template.0 same at_number
      where
        here_is : outlines app (step.Outlet n t ∷ p) ≡ o ∷ d ∷ ds
        here_is = here ∙ ap (λ os. o ∷ os) behind

        at_template : (f : Form) × NodeStands (d ∷ ds) (declared_at o.path) f round
        at_template = declared_stands (o ∷ d ∷ ds) round (subst (λ os. ViewStands (o ∷ os) round) behind stands)

        begins : o.path ≡ step.Outlet n t ∷ p
        begins = subst (BeginsAt (step.Outlet n t ∷ p)) here (outlines-BeginsAt app (step.Outlet n t ∷ p))

        at_number : NodeStands (d ∷ ds) t at_template.0 round
        at_number = subst (λ m. NodeStands (d ∷ ds) m at_template.0 round) (ap declared_at begins) at_template.1

        tails : (outlines app d.path ≡ d ∷ ds) × (length d.path ≤ length p) × IsShown app tree d.path
        tails = let h = behind-AreTails app (step.Outlet n t) p o (d ∷ ds) here_is in (h.0, Below-length d.path p h.1, IsShown-Below app tree d.path p h.1 shown)

        same : o.nodes ≡ nodes_in_template at_template.0
        same =
            let numbers : AreNumbered d.nodes = (subst HaveNumbers tails.0 (outlines-HaveNumbers app d.path)).0 in
            let one = stands-IsNode (d ∷ ds) (declared_at o.path) at_template.0 round at_template.1 in
            declared.2 ∙ ap nodes_in_template (form-node_at d.nodes numbers (declared_at o.path) at_template.0 one declared.0 declared.1)

        shows : shows_template app d.path t (step.Outlet n t ∷ p) ≡ true
        shows =
            ap (λ b. if b then declared_in (outlines app (step.Outlet n t ∷ p)) d.path else false) (eq-eqb t t refl)
            ∙ ap (λ os. declared_in os d.path) here_is ∙ (same_path_decides d.path d.path).1 refl

        listed : In (step.Outlet n t ∷ p) (filter (shows_template app d.path t) (outlet_order app tree))
        listed = In-filtered (shows_template app d.path t) (outlet_order app tree) (step.Outlet n t ∷ p) (outlet_listed (step.Outlet n t ∷ p) there refl) shows

        deeper : In q (within d.path (outlines app (step.Outlet n t ∷ p)) round)
        deeper =
            levels_wider app tree (suc (63 - length (step.Outlet n t ∷ p))) (63 - length d.path) (omega (arith, short, tails.1)) (outlines app (step.Outlet n t ∷ p)) round q
            (subst (λ os. In q (live_within app tree (suc (63 - length (step.Outlet n t ∷ p))) os round)) (sym here) i)

        in_none : (nodes : Nodes) → o.nodes ≡ nodes → nodes ≡ no_nodes → ⊥
        in_none nodes e d = subst (λ (x : Nodes). In q (live_nodes app tree (within (step.Outlet n t ∷ p)) o outer round x)) (e ∙ d) i

        by_form : (f : Form) → o.nodes ≡ nodes_in_template f → NodeStands (d ∷ ds) t f round → In q (all_live app tree)
        by_form (NgTemplate attrs nodes) e h =
            node_listed d.path (d ∷ ds) t (NgTemplate attrs nodes) round h (λ r v. shorter d.path (omega (arith, less, tails.1)) tails.2 d ds tails.0 r v) q
            (In-flat (λ x. within d.path (outlines app x) round) (filter (shows_template app d.path t) (outlet_order app tree)) (step.Outlet n t ∷ p) q listed deeper)
        by_form (Element tag attrs nodes) e h = absurd (in_none no_nodes e refl)
        by_form (Host c tag attrs nodes) e h = absurd (in_none no_nodes e refl)
        by_form (NgContent attrs nodes) e h = absurd (in_none no_nodes e refl)
        by_form (NgContainer attrs nodes) e h = absurd (in_none no_nodes e refl)
        by_form (TextNode ps) e h = absurd (in_none no_nodes e refl)
        by_form (If bs) e h = absurd (in_none no_nodes e refl)
        by_form (For head nodes empty) e h = absurd (in_none no_nodes e refl)
        by_form (Switch test bs) e h = absurd (in_none no_nodes e refl)
        by_form (Let name value) e h = absurd (in_none no_nodes e refl)

  step_listed : (k : ℕ) → ShortListed k → (s : Step) (p : Trail) → length p < k → IsShown app tree (s ∷ p) → (o : Outline) (outer : Outlines) → outlines app (s ∷ p) ≡ o ∷ outer
      → (round : List NodeId) → ViewStands (o ∷ outer) round → In (s ∷ p) (paths tree.views) × (length (s ∷ p) ≤ 63) → ViewListed (s ∷ p) (o ∷ outer) round
  step_listed k shorter (step.Child n) p less shown o outer here round stands l q i =
      child_listed k shorter p less shown.0 o outer round stands (omega (arith, l.1)) n here (outlines app p) refl shown.1 q i
  step_listed k shorter (step.Branch n b) p less shown o outer here round stands l q i =
      block_listed k shorter p less shown.0 o outer round stands (omega (arith, l.1)) n (step.Branch n b) refl here (outlines app p) refl shown.1 q i
  step_listed k shorter (step.Row n w b) p less shown o outer here round stands l q i =
      block_listed k shorter p less shown.0 o outer round stands (omega (arith, l.1)) n (step.Row n w b) refl here (outlines app p) refl shown.1 q i
  step_listed k shorter (step.Outlet n t) p less shown o outer here round stands l q i =
      outlet_view_listed k shorter p less shown.0 o outer round stands (omega (arith, l.1)) n t here outer refl (of_views (outlines app p) refl shown.1) l.0 q i
    where
      of_views : (ds : Outlines) → outlines app p ≡ ds → Leads app tree ds (step.Outlet n t) → IsDeclared nodes_in_template (o ∷ outer)
      of_views [] up leads = absurd leads
      of_views (d ∷ ds) up leads = subst (IsDeclared nodes_in_template) (sym (entered_next app (step.Outlet n t) p (d ∷ ds) up) ∙ here) (outlet-IsDeclared app n t d ds)

  all_listed : (k : ℕ) → ShortListed k
  all_listed zero p less shown o outer here round stands q i = absurd (omega (arith, less))
  all_listed (suc k) [] less shown o outer here round stands q i =
      let nothing = alone_round (o ∷ outer) round stands (subst IsAlone here (root-IsAlone app)) in
      root_listed q (subst (λ os. In q (live_within app tree 64 os [])) (sym here) (subst (λ r. In q (live_within app tree 64 (o ∷ outer) r)) nothing i))
  all_listed (suc k) (s ∷ p) less shown o outer here round stands q i =
      step_listed k (all_listed k) s p (omega (arith, less)) shown o outer here round stands (live (s ∷ p) o outer shown here) q i

  -- Each live element and host is in the list.
  pub all_live-ListsEach : (q : Live) → IsLive app tree q → In q (all_live app tree)
  all_live-ListsEach q h =
      let begins : h.view.path ≡ q.view = subst (BeginsAt q.view) h.is_view (outlines-BeginsAt app q.view) in
      node_listed q.view (h.view ∷ h.outer) q.number q.form q.enclosing h.stands (λ r v. all_listed (suc (length q.view)) q.view (omega arith) h.is_shown h.view h.outer h.is_view r v) q
      (in_itself app tree (within q.view) h.view h.outer q.enclosing q.number q.form h.is_element q
      (λ i. record { view = sym begins i; unit = h.unit i; number = q.number; form = q.form; enclosing = q.enclosing }))
