-- What the list of live nodes has is live.
use Rattle.std.specs.Prelude.{◌≡◌, ℕ, zero, suc, Bool, true, false, nat_eq, ◌+◌, ◌≤◌, if◌then◌else◌, cond, List, [], ◌∷◌, length, filter, Option, Some, None, refl}
use Rattle.std.specs.List.{flat_map}
use Rattle.std.proofs.Common.{inl, inr, ap, sym, ◌∙◌, subst, arith}
use Rattle.std.proofs.lemmas.Bool.{eqb-true}
use Rattle.ng_ast.specs.declared.App.{App}
use Rattle.ng_ast.specs.declared.Component.{Component}
use Rattle.ng_tree.specs.declared.NodeId.{NodeId}
use Rattle.ng_tree.specs.declared.Step.{Step}
use Rattle.ng_tree.specs.declared.Step.TheVariants as step
use Rattle.ng_meaning.specs.Declared.{root_component}
use Rattle.ng_meaning.specs.Template.{Form, Element, Host, NgContent, NgContainer, NgTemplate, TextNode, If, For, Switch, Let, Nodes, no_nodes, node, Node, node_at}
use Rattle.ng_meaning.specs.Places.{Trail, Outline, Outlines, node_id, inner_view, nodes_in_branch, nodes_in_row, host_view, entered, root_view, outlines}
use Rattle.ng_meaning.specs.Tree.{Tree, view_at, value_of}
use Rattle.ng_meaning.specs.Bindings.{views_shown}
use Rattle.ng_meaning.specs.Queries.{Live, outlet_order, declared_in, shows_template, live_itself, live_views, live_nodes, live_form, live_within, all_live}
use Rattle.ng_meaning.specs.Laws.Apart.{In, In-append, In-flat_map}
use Rattle.ng_meaning.specs.Laws.Leads.{leads_to_view, leads_to_instance, StaysAt, IsNoContainer, views_shown-StayAt, Below-length}
use Rattle.ng_meaning.specs.Laws.Live.{declared_at, ViewStands, NodeStands, IsElement, IsLive}
use Rattle.ng_meaning.specs.Laws.Live.ViewStands.{of_instance, of_node}
use Rattle.ng_meaning.specs.Laws.Live.NodeStands.{outermost, in_element, in_host, in_container}
use Rattle.ng_meaning.specs.Laws.Once.{outlines-BeginsAt, entered_next}
use Rattle.ng_meaning.specs.Laws.OnPage.{Stands}
use Rattle.ng_meaning.specs.Laws.Only.{step_in}
use Rattle.ng_meaning.specs.Laws.Places.{BeginsAt, at_found}
use Rattle.ng_meaning.specs.Laws.Sameness.{same_path_decides}
use Rattle.ng_meaning.specs.Laws.Standing.{stands-IsNode}
use Rattle.ng_meaning.specs.Laws.Tails.{behind-AreTails}
use Rattle.ng_meaning.specs.Laws.Units.{Leads, IsShown}

-- what passes a test is in the list, and passes it
pub In-filter : {A : Type 0} (test : A → Bool) (xs : List A) (x : A) → In x (filter test xs) → In x xs × (test x ≡ true)
In-filter test [] x i = absurd i
In-filter test (y ∷ xs) x i = by_test (test y) refl (In-filter test xs x) i
  where
    by_test : (b : Bool) → test y ≡ b → (In x (filter test xs) → In x xs × (test x ≡ true)) → In x (cond b (y ∷ filter test xs) (filter test xs)) → In x (y ∷ xs) × (test x ≡ true)
    by_test true t rest (inl e) = (inl e, ap test e ∙ t)
    by_test true t rest (inr j) = let r = rest j in (inr r.0, r.1)
    by_test false t rest j = let r = rest j in (inr r.0, r.1)

-- A view in an outlet has more steps than the view that declares its `ng-template`.
pub template_above : (app : App) (at : Trail) (n : ℕ) (p : Trail) → shows_template app at n p ≡ true → length at + 1 ≤ length p
template_above app at n [] e = cc
template_above app at n (step.Child m ∷ p) e = cc
template_above app at n (step.Branch m k ∷ p) e = cc
template_above app at n (step.Row m w k ∷ p) e = cc
template_above app at n (step.Outlet m t ∷ p) e = by_number (nat_eq n t) e
  where
    of_views : (os : Outlines) → outlines app (step.Outlet m t ∷ p) ≡ os → declared_in os at ≡ true → length at + 1 ≤ length (step.Outlet m t ∷ p)
    of_views [] d h = cc
    of_views (v ∷ []) d h = cc
    of_views (v ∷ x ∷ xs) d h =
        let path : at ≡ x.path = (same_path_decides at x.path).0 h in
        omega (arith, ap length path, Below-length x.path p (behind-AreTails app (step.Outlet m t) p v (x ∷ xs) d).1)

    by_number : (b : Bool) → (if b then declared_in (outlines app (step.Outlet m t ∷ p)) at else false) ≡ true → length at + 1 ≤ length (step.Outlet m t ∷ p)
    by_number true h = of_views (outlines app (step.Outlet m t ∷ p)) refl h
    by_number false h = cc

-- a view stands in these elements and hosts, if it is there
abbrev StandsIfThere : Outlines → List NodeId → Type 0
StandsIfThere [] round = Unit {0}
StandsIfThere (o ∷ outer) round = ViewStands (o ∷ outer) round

module _ (app : App) (tree : Tree) where
  -- what is listed of a view that is shown is live
  abbrev ListsLive : (Outlines → List NodeId → List Live) → Type 0
  ListsLive inside = (p : Trail) → IsShown app tree p → (round : List NodeId) → StandsIfThere (outlines app p) round → (q : Live) → In q (inside (outlines app p) round) → IsLive app tree q

  -- Given that what is listed of the views inside is live, and that the views in outlets are shown.
  module _ (outlets : (p : Trail) → In p (outlet_order app tree) → IsShown app tree p) (inside : Outlines → List NodeId → List Live) (deeper : ListsLive inside)
      (o : Outline) (outer : Outlines) (here : outlines app o.path ≡ o ∷ outer) (shown : IsShown app tree o.path) where
    -- a node itself
    itself_only : (n : ℕ) (f : Form) (round : List NodeId) → NodeStands (o ∷ outer) n f round → IsElement f → (q : Live) → q ≡ live_itself app tree inside o round n f → IsLive app tree q
    itself_only n f round stands element q e =
        subst (IsLive app tree) (sym e) (record { view = o; outer = outer; is_view = here; is_shown = shown; unit = refl; stands = stands; is_element = element })

    -- a view to which a step leads
    step_only : (s : Step) → Leads app tree (o ∷ outer) s → (round : List NodeId) → StandsIfThere (entered app s (o ∷ outer)) round
        → (q : Live) → In q (inside (entered app s (o ∷ outer)) round) → IsLive app tree q
    step_only s leads round stands q i =
        let next = entered_next app s o.path (o ∷ outer) here in
        deeper (s ∷ o.path) (shown, subst (λ os. Leads app tree os s) (sym here) leads) round
        (subst (λ os. StandsIfThere os round) (sym next) stands) q (subst (λ os. In q (inside os round)) (sym next) i)

    -- the own view of an instance stands in no elements
    child_stands : (n : ℕ) → StandsIfThere (entered app (step.Child n) (o ∷ outer)) []
    child_stands n = at_found (λ os. StandsIfThere os []) (node_at n o.nodes) (λ q. host_view app o q q.form) tt (λ q e. of_host q q.form)
      where
        of_host : (q : Node) (f : Form) → StandsIfThere (host_view app o q f) []
        of_host q (Host c tag attrs content) = of_instance
        of_host q _ = tt

    -- a branch or a row in those of its block
    block_stands : (n : ℕ) (f : Form) (round : List NodeId) → NodeStands (o ∷ outer) n f round → (s : Step) → StaysAt n s → StandsIfThere (entered app s (o ∷ outer)) round
    block_stands n f round stands (step.Child m) g = absurd g
    block_stands n f round stands (step.Branch m k) g =
        at_found (λ os. StandsIfThere os round) (node_at m o.nodes) (λ q. inner_view (step.Branch m k ∷ o.path) o q (nodes_in_branch q.form k) ∷ o ∷ outer) tt
        (λ q e. of_node (subst (λ x. NodeStands (o ∷ outer) x f round) (sym g) stands))
    block_stands n f round stands (step.Row m w k) g =
        at_found (λ os. StandsIfThere os round) (node_at m o.nodes) (λ q. inner_view (step.Row m w k ∷ o.path) o q (nodes_in_row q.form) ∷ o ∷ outer) tt
        (λ q e. of_node (subst (λ x. NodeStands (o ∷ outer) x f round) (sym g) stands))
    block_stands n f round stands (step.Outlet m t) g = absurd g

    -- the views that a block shows
    views_only : (n : ℕ) (f : Form) → IsNoContainer f → (round : List NodeId) → NodeStands (o ∷ outer) n f round → (q : Live) → In q (live_views app tree inside o outer round n f) → IsLive app tree q
    views_only n f no_container round stands q i =
        let value = value_of (view_at o.path tree.views) n in
        let bs = views_shown app o outer n f value in
        let r = In-flat_map (λ b. inside (entered app b.0 (o ∷ outer)) round) bs q i in
        let there = step_in bs r.0 r.1 in
        step_only r.0.0 (leads_to_view app tree o outer n f (stands-IsNode (o ∷ outer) n f round stands) r.0.0 there) round
        (block_stands n f round stands r.0.0 (views_shown-StayAt app o outer n f value no_container r.0.0 there)) q r.2

    -- an outlet's view in those of its `ng-template`
    template_stands : (n : ℕ) (f : Form) (round : List NodeId) → NodeStands (o ∷ outer) n f round → (p : Trail) → shows_template app o.path n p ≡ true → StandsIfThere (outlines app p) round
    template_stands n f round stands [] e = cc
    template_stands n f round stands (step.Child m ∷ p) e = cc
    template_stands n f round stands (step.Branch m k ∷ p) e = cc
    template_stands n f round stands (step.Row m w k ∷ p) e = cc
    template_stands n f round stands (step.Outlet m t ∷ p) e = by_number (nat_eq n t) refl e
      where
        of_views : n ≡ t → (os : Outlines) → outlines app (step.Outlet m t ∷ p) ≡ os → declared_in os o.path ≡ true → StandsIfThere os round
        of_views same [] d h = tt
        of_views same (v ∷ []) d h = cc
        of_views same (v ∷ x ∷ xs) d h =
            let path : o.path ≡ x.path = (same_path_decides o.path x.path).0 h in
            let views : o ∷ outer ≡ x ∷ xs = sym here ∙ ap (outlines app) path ∙ (behind-AreTails app (step.Outlet m t) p v (x ∷ xs) d).0 in
            let begins : v.path ≡ step.Outlet m t ∷ p = subst (BeginsAt (step.Outlet m t ∷ p)) d (outlines-BeginsAt app (step.Outlet m t ∷ p)) in
            let number : n ≡ declared_at v.path = same ∙ sym (ap declared_at begins) in
            of_node (subst (λ os. NodeStands os (declared_at v.path) f round) views (subst (λ k. NodeStands (o ∷ outer) k f round) number stands))

        by_number : (b : Bool) → nat_eq n t ≡ b → (if b then declared_in (outlines app (step.Outlet m t ∷ p)) o.path else false) ≡ true → StandsIfThere (outlines app (step.Outlet m t ∷ p)) round
        by_number true same h = of_views (eqb-true n t same) (outlines app (step.Outlet m t ∷ p)) refl h
        by_number false same h = cc

    template_only : (n : ℕ) (f : Form) (round : List NodeId) → NodeStands (o ∷ outer) n f round
        → (q : Live) → In q (flat_map (λ p. inside (outlines app p) round) (filter (shows_template app o.path n) (outlet_order app tree))) → IsLive app tree q
    template_only n f round stands q i =
        let r = In-flat_map (λ p. inside (outlines app p) round) (filter (shows_template app o.path n) (outlet_order app tree)) q i in
        let passes = In-filter (shows_template app o.path n) (outlet_order app tree) r.0 r.1 in
        deeper r.0 (outlets r.0 passes.0) round (template_stands n f round stands r.0 passes.1) q r.2

    mutual
      -- nodes side by side
      nodes_only : (nodes : Nodes) (round : List NodeId) → ((n : ℕ) (f : Form) → Stands n f nodes → NodeStands (o ∷ outer) n f round)
          → (q : Live) → In q (live_nodes app tree inside o outer round nodes) → IsLive app tree q
      nodes_only no_nodes round stand q i = absurd i
      nodes_only (node n p f rest) round stand q i = elim (In-append (live_form app tree inside o outer round n f) (live_nodes app tree inside o outer round rest) q i) [
        | inl j ↦ form_only f n round (stand n f (inl (refl, refl))) q j
        | inr j ↦ nodes_only rest round (λ m g s. stand m g (inr s)) q j
      ]

      -- one node and those inside it
      form_only : (f : Form) (n : ℕ) (round : List NodeId) → NodeStands (o ∷ outer) n f round → (q : Live) → In q (live_form app tree inside o outer round n f) → IsLive app tree q
      form_only (Element tag attrs nodes) n round stands q (inl e) = itself_only n (Element tag attrs nodes) round stands tt q e
      form_only (Element tag attrs nodes) n round stands q (inr j) = nodes_only nodes (node_id o.path n ∷ round) (λ m g s. in_element stands s) q j
      form_only (Host c tag attrs nodes) n round stands q (inl e) = itself_only n (Host c tag attrs nodes) round stands tt q e
      form_only (Host c tag attrs nodes) n round stands q (inr j) =
          elim (In-append (inside (entered app (step.Child n) (o ∷ outer)) []) (live_nodes app tree inside o outer (node_id o.path n ∷ round) nodes) q j) [
            | inl l ↦ step_only (step.Child n) (leads_to_instance app tree o outer n c tag attrs nodes (stands-IsNode (o ∷ outer) n (Host c tag attrs nodes) round stands)) [] (child_stands n) q l
            | inr r ↦ nodes_only nodes (node_id o.path n ∷ round) (λ m g s. in_host stands s) q r
          ]
      form_only (NgContainer attrs nodes) n round stands q i = nodes_only nodes round (λ m g s. in_container stands s) q i
      form_only (NgTemplate attrs nodes) n round stands q i = template_only n (NgTemplate attrs nodes) round stands q i
      form_only (NgContent attrs nodes) n round stands q i = views_only n (NgContent attrs nodes) tt round stands q i
      form_only (TextNode ps) n round stands q i = views_only n (TextNode ps) tt round stands q i
      form_only (If bs) n round stands q i = views_only n (If bs) tt round stands q i
      form_only (For head nodes empty) n round stands q i = views_only n (For head nodes empty) tt round stands q i
      form_only (Switch test bs) n round stands q i = views_only n (Switch test bs) tt round stands q i
      form_only (Let name value) n round stands q i = views_only n (Let name value) tt round stands q i

  module _ (outlets : (p : Trail) → In p (outlet_order app tree) → IsShown app tree p) where
    level_only : (n : ℕ) → ListsLive (live_within app tree n) → (p : Trail) (os : Outlines) → outlines app p ≡ os → BeginsAt p os → IsShown app tree p → (round : List NodeId) → StandsIfThere os round
        → (q : Live) → In q (live_within app tree (suc n) os round) → IsLive app tree q
    level_only n more p [] e begins shown round stands q i = absurd i
    level_only n more p (o ∷ outer) e begins shown round stands q i =
        nodes_only outlets (live_within app tree n) more o outer (ap (outlines app) begins ∙ e) (subst (IsShown app tree) (sym begins) shown) o.nodes round (λ m f s. outermost stands s) q i

    lists_live : (n : ℕ) → ListsLive (live_within app tree n)
    lists_live zero p shown round stands q i = absurd i
    lists_live (suc n) p shown round stands q i = level_only n (lists_live n) p (outlines app p) refl (outlines-BeginsAt app p) shown round stands q i

    root_stands : StandsIfThere (outlines app []) []
    unfolding outlines
    root_stands = of_root (root_component app)
      where
        of_root : (c : Option Component) → StandsIfThere (root_view app c) []
        of_root None = tt
        of_root (Some c) = of_instance

    -- Each member of the list is a live element or host, where the views in outlets are shown.
    pub all_live-ListsOnly : (q : Live) → In q (all_live app tree) → IsLive app tree q
    unfolding all_live
    all_live-ListsOnly q i = lists_live 64 [] tt [] root_stands q i
