-- More levels than 64 draw and list nothing more.
use Rattle.std.specs.Prelude.{◌≡◌, ℕ, zero, suc, ◌+◌, ◌≤◌, Bool, true, List, [], ◌∷◌, ◌++◌, length, filter, Ok, refl}
use Rattle.std.specs.List.{flat_map}
use Rattle.std.proofs.Common.{inl, inr, ap, sym, ◌∙◌, subst, arith}
use Rattle.ng_ast.specs.declared.App.{App}
use Rattle.ng_tree.specs.declared.NodeId.{NodeId}
use Rattle.ng_tree.specs.declared.Step.{Step}
use Rattle.ng_tree.specs.declared.Step.TheVariants as step
use Rattle.ng_meaning.specs.Template.{Form, Element, Host, NgContent, NgContainer, NgTemplate, TextNode, If, For, Switch, Let, Nodes, no_nodes, node}
use Rattle.ng_meaning.specs.Places.{Trail, Outline, Outlines, node_id, entered, outlines}
use Rattle.ng_meaning.specs.Projection.{shown_slot}
use Rattle.ng_meaning.specs.Tree.{Marks, Tree, State, view_at, value_of}
use Rattle.ng_meaning.specs.Bindings.{views_shown}
use Rattle.ng_meaning.specs.Passes.{Passed, pass}
use Rattle.ng_meaning.specs.Page.{Drawing, Handed, handed_to, together, element_attributes, host_attributes, outlet_views, draw_views, draw_outlets, draw_nodes, draw_form, draw, draw_root, outlets_met}
use Rattle.ng_meaning.specs.Queries.{Live, outlet_order, shows_template, live_itself, live_views, live_nodes, live_form, live_within, all_live}
use Rattle.ng_meaning.specs.Laws.Apart.{In}
use Rattle.ng_meaning.specs.Laws.Growing.{ViewsCounted}
use Rattle.ng_meaning.specs.Laws.Leads.{leads_to_view, leads_to_instance}
use Rattle.ng_meaning.specs.Laws.Listed.{outlets-AreShown}
use Rattle.ng_meaning.specs.Laws.LiveOnly.{In-filter, template_above}
use Rattle.ng_meaning.specs.Laws.Members.{IsNode, outermost_is, inner_is}
use Rattle.ng_meaning.specs.Laws.Once.{outlines-BeginsAt, entered_next}
use Rattle.ng_meaning.specs.Laws.OnPage.{Stands}
use Rattle.ng_meaning.specs.Laws.Only.{step_in}
use Rattle.ng_meaning.specs.Laws.Places.{BeginsAt}
use Rattle.ng_meaning.specs.Laws.Units.{Leads, IsShown}
use Rattle.ng_meaning.specs.Laws.Visited.{pass-ShowsLive, pass-LivesShown}

-- what each item of a list gives alike
flat_map_alike : {A B : Type 0} (f g : B → List A) (bs : List B) → ((b : B) → In b bs → f b ≡ g b) → flat_map f bs ≡ flat_map g bs
flat_map_alike f g [] h = refl
flat_map_alike f g (b ∷ bs) h = λ i. h b (inl refl) i ++ flat_map_alike f g bs (λ c j. h c (inr j)) i

-- ---- what is drawn

module _ {A : Type 0} (app : App) (tree : Tree) (d : Drawing A) where
  -- Given two drawings of what is inside of views, which are alike for the views to which a view leads.
  module _ (less more : Outlines → Handed A → List A) (o : Outline) (outer : Outlines)
      (alike : (s : Step) → Leads app tree (o ∷ outer) s → (h : Handed A) → less (entered app s (o ∷ outer)) h ≡ more (entered app s (o ∷ outer)) h) (handed : Handed A) where
    views_alike : (n : ℕ) (f : Form) → IsNode o.nodes n f → draw_views app tree d less o outer handed n f ≡ draw_views app tree d more o outer handed n f
    views_alike n f one =
        let bs = views_shown app o outer n f (value_of (view_at o.path tree.views) n) in
        flat_map_alike (λ b. less (entered app b.0 (o ∷ outer)) handed) (λ b. more (entered app b.0 (o ∷ outer)) handed) bs
        (λ b j. alike b.0 (leads_to_view app tree o outer n f one b.0 (step_in bs b j)) handed)

    mutual
      nodes_alike : (nodes : Nodes) → ((n : ℕ) (f : Form) → Stands n f nodes → IsNode o.nodes n f) → draw_nodes app tree d less o outer handed nodes ≡ draw_nodes app tree d more o outer handed nodes
      nodes_alike no_nodes there = refl
      nodes_alike (node n p f rest) there = λ i. (f, form_alike f n (there n f (inl (refl, refl))) i) ∷ nodes_alike rest (λ m g s. there m g (inr s)) i

      form_alike : (f : Form) (n : ℕ) → IsNode o.nodes n f → draw_form app tree d less o outer handed n f ≡ draw_form app tree d more o outer handed n f
      form_alike (Element tag attrs nodes) n one =
          let kids = nodes_alike nodes (λ m g s. inner_is o.nodes nodes n (Element tag attrs nodes) (λ hosts. hosts) (λ hosts. refl) one m g s) in
          ap (λ drawn. d.element (node_id o.path n) tag (element_attributes attrs (value_of (view_at o.path tree.views) n)) (together drawn)) kids
      form_alike (Host c tag attrs nodes) n one =
          let kids = nodes_alike nodes (λ m g s. inner_is o.nodes nodes n (Host c tag attrs nodes) (λ hosts. (n, c) ∷ hosts) (λ hosts. refl) one m g s) in
          let view = entered app (step.Child n) (o ∷ outer) in
          ap (λ inner. d.host (node_id o.path n) tag (host_attributes c attrs (value_of (view_at o.path tree.views) n)) inner)
          (ap (λ drawn. less view (handed_to app c drawn)) kids
          ∙ alike (step.Child n) (leads_to_instance app tree o outer n c tag attrs nodes one) (handed_to app c (draw_nodes app tree d more o outer handed nodes)))
      form_alike (TextNode ps) n one = refl
      form_alike (NgContent attrs nodes) n one = ap (λ views. handed (shown_slot app o.component attrs) ++ views) (views_alike n (NgContent attrs nodes) one)
      form_alike (NgContainer attrs nodes) n one =
          let kids = nodes_alike nodes (λ m g s. inner_is o.nodes nodes n (NgContainer attrs nodes) (λ hosts. hosts) (λ hosts. refl) one m g s) in
          let views = views_alike n (NgContainer attrs nodes) one in
          λ i. draw_outlets app tree d less o outer n (NgContainer attrs nodes) ++ together (kids i) ++ views i
      form_alike (NgTemplate attrs nodes) n one = views_alike n (NgTemplate attrs nodes) one
      form_alike (If bs) n one = views_alike n (If bs) one
      form_alike (For head nodes empty) n one = views_alike n (For head nodes empty) one
      form_alike (Switch e bs) n one = views_alike n (Switch e bs) one
      form_alike (Let name e) n one = views_alike n (Let name e) one

  draws_nothing : (n : ℕ) (h : Handed A) → draw app tree d n [] h ≡ []
  draws_nothing zero h = refl
  draws_nothing (suc n) h = refl

  -- Given that each view that is shown has at most 63 steps.
  module _ (short : (p : Trail) (o : Outline) (outer : Outlines) → IsShown app tree p → outlines app p ≡ o ∷ outer → length p ≤ 63) where
    -- a path with 64 steps has no view
    too_long : (p : Trail) → IsShown app tree p → 64 ≤ length p → (os : Outlines) → outlines app p ≡ os → os ≡ []
    too_long p shown long [] e = refl
    too_long p shown long (o ∷ outer) e = absurd (omega (arith, long, short p o outer shown e))

    -- so many levels draw the same of the view at a path
    abbrev DrawsAlike : ℕ → ℕ → Type 0
    DrawsAlike m n = (p : Trail) → IsShown app tree p → 64 ≤ m + length p → 64 ≤ n + length p → (h : Handed A) → draw app tree d m (outlines app p) h ≡ draw app tree d n (outlines app p) h

    level_alike : (m n : ℕ) → DrawsAlike m n → (p : Trail) (os : Outlines) → outlines app p ≡ os → BeginsAt p os → IsShown app tree p → 64 ≤ suc m + length p → 64 ≤ suc n + length p → (h : Handed A)
        → draw app tree d (suc m) os h ≡ draw app tree d (suc n) os h
    level_alike m n inner p [] e begins shown a b h = refl
    level_alike m n inner p (o ∷ outer) e begins shown a b h =
        let here : outlines app o.path ≡ o ∷ outer = ap (outlines app) begins ∙ e in
        ap (λ drawn. together drawn)
        (nodes_alike (draw app tree d m) (draw app tree d n) o outer
        (λ s leads g. subst (λ os. draw app tree d m os g ≡ draw app tree d n os g) (entered_next app s o.path (o ∷ outer) here)
        (inner (s ∷ o.path) (subst (IsShown app tree) (sym begins) shown, subst (λ os. Leads app tree os s) (sym here) leads) (omega (arith, a, ap length begins)) (omega (arith, b, ap length begins)) g))
        h o.nodes (λ k f s. outermost_is o.nodes k f s))

    draws_alike : (m n : ℕ) → DrawsAlike m n
    draws_alike zero n p shown a b h =
        let none = too_long p shown (omega (arith, a)) (outlines app p) refl in
        ap (λ os. draw app tree d zero os h) none ∙ sym (ap (λ os. draw app tree d n os h) none ∙ draws_nothing n h)
    draws_alike (suc m) zero p shown a b h =
        let none = too_long p shown (omega (arith, b)) (outlines app p) refl in
        ap (λ os. draw app tree d (suc m) os h) none ∙ sym (ap (λ os. draw app tree d zero os h) none)
    draws_alike (suc m) (suc n) p shown a b h = level_alike m n (draws_alike m n) p (outlines app p) refl (outlines-BeginsAt app p) shown a b h

-- ---- what is listed

module _ (app : App) (tree : Tree) where
  -- Given two lists of what is inside of views, which are alike for the views to which a view leads, and for those in outlets that stand in it.
  module _ (less more : Outlines → List NodeId → List Live) (o : Outline) (outer : Outlines)
      (alike : (s : Step) → Leads app tree (o ∷ outer) s → (round : List NodeId) → less (entered app s (o ∷ outer)) round ≡ more (entered app s (o ∷ outer)) round)
      (templates : (p : Trail) → In p (outlet_order app tree) → (n : ℕ) → shows_template app o.path n p ≡ true → (round : List NodeId) → less (outlines app p) round ≡ more (outlines app p) round) where
    views_listed_alike : (n : ℕ) (f : Form) → IsNode o.nodes n f → (round : List NodeId) → live_views app tree less o outer round n f ≡ live_views app tree more o outer round n f
    views_listed_alike n f one round =
        let bs = views_shown app o outer n f (value_of (view_at o.path tree.views) n) in
        flat_map_alike (λ b. less (entered app b.0 (o ∷ outer)) round) (λ b. more (entered app b.0 (o ∷ outer)) round) bs
        (λ b j. alike b.0 (leads_to_view app tree o outer n f one b.0 (step_in bs b j)) round)

    mutual
      nodes_listed_alike : (nodes : Nodes) → ((n : ℕ) (f : Form) → Stands n f nodes → IsNode o.nodes n f) → (round : List NodeId)
          → live_nodes app tree less o outer round nodes ≡ live_nodes app tree more o outer round nodes
      nodes_listed_alike no_nodes there round = refl
      nodes_listed_alike (node n p f rest) there round = λ i. form_listed_alike f n (there n f (inl (refl, refl))) round i ++ nodes_listed_alike rest (λ m g s. there m g (inr s)) round i

      form_listed_alike : (f : Form) (n : ℕ) → IsNode o.nodes n f → (round : List NodeId) → live_form app tree less o outer round n f ≡ live_form app tree more o outer round n f
      form_listed_alike (Element tag attrs nodes) n one round =
          let kids = nodes_listed_alike nodes (λ m g s. inner_is o.nodes nodes n (Element tag attrs nodes) (λ hosts. hosts) (λ hosts. refl) one m g s) (node_id o.path n ∷ round) in
          λ i. live_itself app tree less o round n (Element tag attrs nodes) ∷ kids i
      form_listed_alike (Host c tag attrs nodes) n one round =
          let kids = nodes_listed_alike nodes (λ m g s. inner_is o.nodes nodes n (Host c tag attrs nodes) (λ hosts. (n, c) ∷ hosts) (λ hosts. refl) one m g s) (node_id o.path n ∷ round) in
          let view = alike (step.Child n) (leads_to_instance app tree o outer n c tag attrs nodes one) [] in
          λ i. live_itself app tree less o round n (Host c tag attrs nodes) ∷ view i ++ kids i
      form_listed_alike (NgContainer attrs nodes) n one round =
          nodes_listed_alike nodes (λ m g s. inner_is o.nodes nodes n (NgContainer attrs nodes) (λ hosts. hosts) (λ hosts. refl) one m g s) round
      form_listed_alike (NgTemplate attrs nodes) n one round =
          let shows = shows_template app o.path n in
          flat_map_alike (λ p. less (outlines app p) round) (λ p. more (outlines app p) round) (filter shows (outlet_order app tree))
          (λ p j. let h = In-filter shows (outlet_order app tree) p j in templates p h.0 n h.1 round)
      form_listed_alike (NgContent attrs nodes) n one round = views_listed_alike n (NgContent attrs nodes) one round
      form_listed_alike (TextNode ps) n one round = views_listed_alike n (TextNode ps) one round
      form_listed_alike (If bs) n one round = views_listed_alike n (If bs) one round
      form_listed_alike (For head nodes empty) n one round = views_listed_alike n (For head nodes empty) one round
      form_listed_alike (Switch e bs) n one round = views_listed_alike n (Switch e bs) one round
      form_listed_alike (Let name e) n one round = views_listed_alike n (Let name e) one round

  lists_nothing : (n : ℕ) (round : List NodeId) → live_within app tree n [] round ≡ []
  lists_nothing zero round = refl
  lists_nothing (suc n) round = refl

  -- Given that each view that is shown has at most 63 steps, and that the views in outlets are shown.
  module _ (short : (p : Trail) (o : Outline) (outer : Outlines) → IsShown app tree p → outlines app p ≡ o ∷ outer → length p ≤ 63)
      (outlets : (p : Trail) → In p (outlet_order app tree) → IsShown app tree p) where
    no_view : (p : Trail) → IsShown app tree p → 64 ≤ length p → (os : Outlines) → outlines app p ≡ os → os ≡ []
    no_view p shown long [] e = refl
    no_view p shown long (o ∷ outer) e = absurd (omega (arith, long, short p o outer shown e))

    -- so many levels list the same of the view at a path
    abbrev ListsAlike : ℕ → ℕ → Type 0
    ListsAlike m n = (p : Trail) → IsShown app tree p → 64 ≤ m + length p → 64 ≤ n + length p → (round : List NodeId)
        → live_within app tree m (outlines app p) round ≡ live_within app tree n (outlines app p) round

    level_listed_alike : (m n : ℕ) → ListsAlike m n → (p : Trail) (os : Outlines) → outlines app p ≡ os → BeginsAt p os → IsShown app tree p → 64 ≤ suc m + length p → 64 ≤ suc n + length p → (round : List NodeId)
        → live_within app tree (suc m) os round ≡ live_within app tree (suc n) os round
    level_listed_alike m n inner p [] e begins shown a b round = refl
    level_listed_alike m n inner p (o ∷ outer) e begins shown a b round =
        let here : outlines app o.path ≡ o ∷ outer = ap (outlines app) begins ∙ e in
        nodes_listed_alike (live_within app tree m) (live_within app tree n) o outer
        (λ s leads r. subst (λ os. live_within app tree m os r ≡ live_within app tree n os r) (entered_next app s o.path (o ∷ outer) here)
        (inner (s ∷ o.path) (subst (IsShown app tree) (sym begins) shown, subst (λ os. Leads app tree os s) (sym here) leads) (omega (arith, a, ap length begins)) (omega (arith, b, ap length begins)) r))
        (λ x j k passes r. by_place x j k passes r (template_above app o.path k x passes))
        o.nodes (λ k f s. outermost_is o.nodes k f s) round
      where
        by_place : (x : Trail) → In x (outlet_order app tree) → (k : ℕ) → shows_template app o.path k x ≡ true → (r : List NodeId) → length o.path + 1 ≤ length x
            → live_within app tree m (outlines app x) r ≡ live_within app tree n (outlines app x) r
        by_place x j k passes r longer = inner x (outlets x j) (omega (arith, a, longer, ap length begins)) (omega (arith, b, longer, ap length begins)) r

    lists_alike : (m n : ℕ) → ListsAlike m n
    lists_alike zero n p shown a b round =
        let none = no_view p shown (omega (arith, a)) (outlines app p) refl in
        ap (λ os. live_within app tree zero os round) none ∙ sym (ap (λ os. live_within app tree n os round) none ∙ lists_nothing n round)
    lists_alike (suc m) zero p shown a b round =
        let none = no_view p shown (omega (arith, b)) (outlines app p) refl in
        ap (λ os. live_within app tree (suc m) os round) none ∙ sym (ap (λ os. live_within app tree zero os round) none)
    lists_alike (suc m) (suc n) p shown a b round = level_listed_alike m n (lists_alike m n) p (outlines app p) refl (outlines-BeginsAt app p) shown a b round

-- ---- after a pass

module _ (app : App) (every : Bool) (marks : Marks) (z : State) (r : Passed) (e : pass app every marks z ≡ Ok r) where
  -- However many levels more are drawn, nothing else is made of a page.
  pub pass-DrawsAlike : {A : Type 0} (d : Drawing A) (k : ℕ) → draw app r.state.tree d (64 + k) (outlines app []) (λ n. []) ≡ draw_root app r.state.tree d
  pass-DrawsAlike d k =
      draws_alike app r.state.tree d (λ p o outer shown here. (pass-ShowsLive app every marks z r e p o outer shown here).1) (64 + k) 64 [] tt (omega arith) (omega arith) (λ n. [])

  -- And no other outlets' views are met.
  pub pass-MeetsAlike : (k : ℕ) → draw app r.state.tree outlet_views (64 + k) (outlines app []) (λ n. []) ≡ outlets_met app r.state.tree
  unfolding outlets_met
  pass-MeetsAlike k = pass-DrawsAlike outlet_views k

  -- And however many levels more are listed, it is the same list.
  pub pass-ListsAlike : ViewsCounted z.tree.views → (k : ℕ) → live_within app r.state.tree (64 + k) (outlines app []) [] ≡ all_live app r.state.tree
  unfolding all_live
  pass-ListsAlike counted k =
      lists_alike app r.state.tree (λ p o outer shown here. (pass-ShowsLive app every marks z r e p o outer shown here).1)
      (outlets-AreShown app r.state.tree (pass-LivesShown app every marks z r counted e)) (64 + k) 64 [] tt (omega arith) (omega arith) []
