-- The way of each instance on a way goes along the same instances.
use Rattle.std.specs.Prelude.{◌≡◌, ◌⊎◌, ℕ, false, List, [], ◌∷◌, map, Option, Some, None, nat_eq, refl}
use Rattle.std.proofs.Common.{inl, inr, ap, sym, ◌∙◌, subst}
use Rattle.std.proofs.lemmas.List.{map-append}
use Rattle.ng_ast.specs.declared.App.{App}
use Rattle.ng_ast.specs.declared.Component.{Component}
use Rattle.ng_ast.specs.declared.Place.{Place}
use Rattle.ng_tree.specs.declared.Step.{Step}
use Rattle.ng_tree.specs.declared.Step.TheVariants as step
use Rattle.ng_meaning.specs.Declared.{root_component}
use Rattle.ng_meaning.specs.Template.{Form, Element, Host, NgContent, NgContainer, NgTemplate, TextNode, If, For, Switch, Let, Nodes, no_nodes, node, Node, view_nodes, inner_nodes, nodes_of, node_at}
use Rattle.ng_meaning.specs.Places.{Trail, Entry, Outline, Outlines, entries_at, inner_view, nodes_in_branch, nodes_in_row, nodes_in_template, host_view, outlet_view, entered, root_view, outlines, entries_of, way}
use Rattle.ng_meaning.specs.Laws.Apart.{In, In-append, In-left, In-right}
use Rattle.ng_meaning.specs.Laws.Members.{node_at-is}
use Rattle.ng_meaning.specs.Laws.Numbers.{AreNumbered}
use Rattle.ng_meaning.specs.Laws.Once.{entered_next}
use Rattle.ng_meaning.specs.Laws.Places.{HaveNumbers, In-find, outlines-HaveNumbers, number-node_at}

-- the paths of entries
abbrev pub trails : List Entry → List Trail
trails = map (λ e. e.path)

-- ---- the hosts that enclose a node are nodes of the view, and enclosed by no others

-- a host that encloses a node is a node of a list, and the hosts that enclose it enclose the node too
abbrev HostIn : List Node → Node → ℕ × Component → Type 0
HostIn qs q h = (r : Node) × In r qs × (r.number ≡ h.0) × ((k : ℕ × Component) → In k r.hosts → In k q.hosts)

-- the hosts of a node are some that are given, or nodes of a list
abbrev Nests : List (ℕ × Component) → List Node → Node → Type 0
Nests hosts qs q = ((k : ℕ × Component) → In k hosts → In k q.hosts) × ((h : ℕ × Component) → In h q.hosts → In h hosts ⊎ HostIn qs q h)

more_nodes : (hosts : List (ℕ × Component)) (xs ys : List Node) (q : Node) → ((r : Node) → In r xs → In r ys) → Nests hosts xs q → Nests hosts ys q
more_nodes hosts xs ys q more n = (n.0, λ h i. elim (n.1 h i) [ inl j ↦ inl j | inr r ↦ inr (r.0, more r.0 r.1, r.2, r.3) ])

mutual
  nests_view : (nodes : Nodes) (hosts : List (ℕ × Component)) (q : Node) → In q (view_nodes hosts nodes) → Nests hosts (view_nodes hosts nodes) q
  nests_view no_nodes hosts q i = absurd i
  nests_view (node n p f rest) hosts q (inl e) = subst (Nests hosts (view_nodes hosts (node n p f rest))) (sym e) ((λ k j. j), (λ h j. inl j))
  nests_view (node n p f rest) hosts q (inr i) = elim (In-append (inner_nodes hosts n f) (view_nodes hosts rest) q i) [
    | inl j ↦ nests_inner f n p rest hosts q j
    | inr j ↦ more_nodes hosts (view_nodes hosts rest) (view_nodes hosts (node n p f rest)) q (λ r l. inr (In-right (inner_nodes hosts n f) (view_nodes hosts rest) r l)) (nests_view rest hosts q j)
  ]

  nests_inner : (f : Form) (n : ℕ) (p : Place) (rest : Nodes) (hosts : List (ℕ × Component)) (q : Node) → In q (inner_nodes hosts n f) → Nests hosts (view_nodes hosts (node n p f rest)) q
  nests_inner (Element tag attrs nodes) n p rest hosts q i =
      more_nodes hosts (view_nodes hosts nodes) (view_nodes hosts (node n p (Element tag attrs nodes) rest)) q (λ r l. inr (In-left (view_nodes hosts nodes) (view_nodes hosts rest) r l)) (nests_view nodes hosts q i)
  nests_inner (NgContainer attrs nodes) n p rest hosts q i =
      more_nodes hosts (view_nodes hosts nodes) (view_nodes hosts (node n p (NgContainer attrs nodes) rest)) q (λ r l. inr (In-left (view_nodes hosts nodes) (view_nodes hosts rest) r l)) (nests_view nodes hosts q i)
  nests_inner (Host c tag attrs nodes) n p rest hosts q i = within (nests_view nodes ((n, c) ∷ hosts) q i)
    where
      this : Node
      this = record { number = n; place = p; form = Host c tag attrs nodes; hosts = hosts }

      all : List Node
      all = view_nodes hosts (node n p (Host c tag attrs nodes) rest)

      within : Nests ((n, c) ∷ hosts) (view_nodes ((n, c) ∷ hosts) nodes) q → Nests hosts all q
      within m = (
        (λ k j. m.0 k (inr j)),
        (λ h j. elim (m.1 h j) [
          | inl l ↦ of_host h l
          | inr r ↦ inr (r.0, inr (In-left (view_nodes ((n, c) ∷ hosts) nodes) (view_nodes hosts rest) r.0 r.1), r.2, r.3)
        ]),
      )
        where
          of_host : (h : ℕ × Component) → In h ((n, c) ∷ hosts) → In h hosts ⊎ HostIn all q h
          of_host h (inl e) = inr (this, inl refl, ap (λ (x : ℕ × Component). x.0) (sym e), λ k j. m.0 k (inr j))
          of_host h (inr j) = inl j
  nests_inner (NgContent attrs nodes) n p rest hosts q i = absurd i
  nests_inner (NgTemplate attrs nodes) n p rest hosts q i = absurd i
  nests_inner (TextNode ps) n p rest hosts q i = absurd i
  nests_inner (If bs) n p rest hosts q i = absurd i
  nests_inner (For head nodes empty) n p rest hosts q i = absurd i
  nests_inner (Switch e bs) n p rest hosts q i = absurd i
  nests_inner (Let name e) n p rest hosts q i = absurd i

-- a host that encloses a node of a view is found by its number, and the hosts that enclose it enclose the node too
hosts_found : (nodes : Nodes) → AreNumbered nodes → (q : Node) → In q (nodes_of nodes) → (h : ℕ × Component) → In h q.hosts
    → (r : Node) × (node_at h.0 nodes ≡ Some r) × ((k : ℕ × Component) → In k r.hosts → In k q.hosts)
unfolding nodes_of
hosts_found nodes numbers q i h j = elim ((nests_view nodes [] q i).1 h j) [
  | inl none ↦ absurd none
  | inr r ↦ (r.0, subst (λ n. node_at n nodes ≡ Some r.0) r.2 (node_at-is nodes numbers r.0 r.1), r.3)
]

-- ---- the ways of the entries of a view

module _ (app : App) where
  -- the way of each entry goes along the paths of these entries
  abbrev Closed : List Entry → Type 0
  Closed es = (p : Trail) → In p (trails es) → (x : Trail) → In x (trails (way app p)) → In x (trails es)

  -- each view is the one at its path, and its entries are closed
  abbrev AreClosed : Outlines → Type 0
  AreClosed [] = Unit {0}
  AreClosed (o ∷ outer) = (outlines app o.path ≡ o ∷ outer) × AreNumbered o.nodes × Closed o.entries × AreClosed outer

  -- the path of the instance on a host of a view
  abbrev at_host : Outline → ℕ × Component → Trail
  at_host o h = step.Child h.0 ∷ o.path

  -- the paths of the entries at a node of a view
  trails_at : (o : Outline) (q : Node) (x : Trail) → In x (trails (entries_at o q)) → ((h : ℕ × Component) × In h q.hosts × (x ≡ at_host o h)) ⊎ In x (trails o.entries)
  trails_at o q x i =
      let made : List Entry = map (λ h. record { path = step.Child h.0 ∷ o.path; component = h.1; inside = false }) q.hosts in
      elim (In-append (trails made) (trails o.entries) x (subst (In x) (map-append (λ (e : Entry). e.path) made o.entries) i)) [
        | inl j ↦ inl (of_hosts q.hosts j)
        | inr j ↦ inr j
      ]
    where
      of_hosts : (hs : List (ℕ × Component)) → In x (trails (map (λ h. record { path = step.Child h.0 ∷ o.path; component = h.1; inside = false }) hs)) → (h : ℕ × Component) × In h hs × (x ≡ at_host o h)
      of_hosts [] j = absurd j
      of_hosts (h ∷ hs) (inl e) = (h, inl refl, e)
      of_hosts (h ∷ hs) (inr j) = let r = of_hosts hs j in (r.0, inr r.1, r.2)

  -- and back
  trail_of_host : (o : Outline) (q : Node) (h : ℕ × Component) → In h q.hosts → In (at_host o h) (trails (entries_at o q))
  trail_of_host o q h i =
      let made : List Entry = map (λ k. record { path = step.Child k.0 ∷ o.path; component = k.1; inside = false }) q.hosts in
      rw map-append (In-left (trails made) (trails o.entries) (at_host o h) (of_hosts q.hosts i))
    where
      of_hosts : (hs : List (ℕ × Component)) → In h hs → In (at_host o h) (trails (map (λ k. record { path = step.Child k.0 ∷ o.path; component = k.1; inside = false }) hs))
      of_hosts [] j = absurd j
      of_hosts (k ∷ hs) (inl e) = inl (ap (at_host o) e)
      of_hosts (k ∷ hs) (inr j) = inr (of_hosts hs j)

  trail_beyond : (o : Outline) (q : Node) (x : Trail) → In x (trails o.entries) → In x (trails (entries_at o q))
  trail_beyond o q x i =
      let made : List Entry = map (λ h. record { path = step.Child h.0 ∷ o.path; component = h.1; inside = false }) q.hosts in
      rw map-append (In-right (trails made) (trails o.entries) x i)

  -- the way of the instance on a host of a view
  host_way : (o : Outline) (outer : Outlines) (h : ℕ × Component) (r : Node) → outlines app o.path ≡ o ∷ outer → node_at h.0 o.nodes ≡ Some r
      → (x : Trail) → In x (trails (way app (at_host o h))) → (x ≡ at_host o h) ⊎ In x (trails (entries_at o r))
  unfolding way
  host_way o outer h r here found x i =
      let next = entered_next app (step.Child h.0) o.path (o ∷ outer) here ∙ ap (λ (f : Option Node). elim f as (λ _. Outlines) [ None ↦ [] | Some q ↦ host_view app o q q.form ]) found in
      of_form r.form (subst (λ os. In x (trails (entries_of os))) next i)
    where
      of_form : (f : Form) → In x (trails (entries_of (host_view app o r f))) → (x ≡ at_host o h) ⊎ In x (trails (entries_at o r))
      of_form (Host c tag attrs content) (inl e) = inl (e ∙ ap (λ n. step.Child n ∷ o.path) (number-node_at h.0 o.nodes r found))
      of_form (Host c tag attrs content) (inr j) = inr j
      of_form _ j = absurd j

  -- the entries at a node of a view are closed
  closed_at : (o : Outline) (outer : Outlines) (q : Node) → In q (nodes_of o.nodes) → AreClosed (o ∷ outer) → Closed (entries_at o q)
  closed_at o outer q there c p i x j = of_entry (trails_at o q p i)
    where
      of_way : (h : ℕ × Component) → p ≡ at_host o h → (r : Node) → ((k : ℕ × Component) → In k r.hosts → In k q.hosts) → (x ≡ at_host o h) ⊎ In x (trails (entries_at o r)) → In x (trails (entries_at o q))
      of_way h e r more (inl d) = subst (λ y. In y (trails (entries_at o q))) (e ∙ sym d) i
      of_way h e r more (inr k) = elim (trails_at o r x k) [
        | inl l ↦ subst (λ y. In y (trails (entries_at o q))) (sym l.2) (trail_of_host o q l.0 (more l.0 l.1))
        | inr l ↦ trail_beyond o q x l
      ]

      of_entry : ((h : ℕ × Component) × In h q.hosts × (p ≡ at_host o h)) ⊎ In p (trails o.entries) → In x (trails (entries_at o q))
      of_entry (inl h) =
          let r = hosts_found o.nodes c.1 q there h.0 h.1 in
          of_way h.0 h.2 r.0 r.2 (host_way o outer h.0 r.0 c.0 r.1 x (subst (λ y. In x (trails (way app y))) h.2 j))
      of_entry (inr k) = trail_beyond o q x (c.2 p k x j)

  -- a view inside the same template
  inner_closed : (p : Trail) (o : Outline) (outer : Outlines) (q : Node) (nodes : Nodes) → outlines app p ≡ inner_view p o q nodes ∷ o ∷ outer → AreNumbered nodes → In q (nodes_of o.nodes)
      → AreClosed (o ∷ outer) → AreClosed (inner_view p o q nodes ∷ o ∷ outer)
  inner_closed p o outer q nodes here numbers there c = (here, numbers, closed_at o outer q there c, c)

  -- the own view of the instance on a host
  host_closed : (o : Outline) (outer : Outlines) (q : Node) (f : Form) → outlines app (step.Child q.number ∷ o.path) ≡ host_view app o q f → HaveNumbers (host_view app o q f) → In q (nodes_of o.nodes)
      → AreClosed (o ∷ outer) → AreClosed (host_view app o q f)
  unfolding way
  host_closed o outer q (Host c tag attrs content) here numbers there a = (here, numbers.0, own, tt)
    where
      own : Closed (entries_of (host_view app o q (Host c tag attrs content)))
      own p (inl e) x j = subst (λ os. In x (trails (entries_of os))) here (subst (λ y. In x (trails (way app y))) e j)
      own p (inr i) x j = inr (closed_at o outer q there a p i x j)
  host_closed o outer q _ here numbers there a = tt

  -- what a node of a view leads to, where the node is there
  at_closed : (found : Option Node) (f : Node → Outlines) → ((q : Node) → found ≡ Some q → AreClosed (f q)) → AreClosed (elim found [ None ↦ [] | Some q ↦ f q ])
  at_closed None f some = tt
  at_closed (Some q) f some = some q refl

  outlet_closed : (p : Trail) (t : ℕ) (os : Outlines) → outlines app p ≡ outlet_view p t os → HaveNumbers (outlet_view p t os) → AreClosed os → AreClosed (outlet_view p t os)
  outlet_closed p t [] here numbers c = tt
  outlet_closed p t (o ∷ outer) here numbers c = declared (node_at t o.nodes) refl here numbers (λ h n. outlet_closed p t outer h n c.3)
    where
      declared : (found : Option Node) → node_at t o.nodes ≡ found
          → outlines app p ≡ elim found as (λ _. Outlines) [ Some q ↦ inner_view p o q (nodes_in_template q.form) ∷ o ∷ outer | None ↦ outlet_view p t outer ]
          → HaveNumbers (elim found as (λ _. Outlines) [ Some q ↦ inner_view p o q (nodes_in_template q.form) ∷ o ∷ outer | None ↦ outlet_view p t outer ])
          → (outlines app p ≡ outlet_view p t outer → HaveNumbers (outlet_view p t outer) → AreClosed (outlet_view p t outer))
          → AreClosed (elim found as (λ _. Outlines) [ Some q ↦ inner_view p o q (nodes_in_template q.form) ∷ o ∷ outer | None ↦ outlet_view p t outer ])
      declared None e h n rest = rest h n
      declared (Some q) e h n rest = inner_closed p o outer q (nodes_in_template q.form) h n.0 (In-find (λ r. nat_eq t r.number) (nodes_of o.nodes) q e) c

  -- The view that a step enters.
  entered_closed : (s : Step) (p : Trail) (os : Outlines) → outlines app p ≡ os → AreClosed os → HaveNumbers (entered app s os) → AreClosed (entered app s os)
  entered_closed s p [] e c n = tt
  entered_closed (step.Child m) p (o ∷ outer) e c n = found (node_at m o.nodes) refl (entered_next app (step.Child m) o.path (o ∷ outer) c.0) n
    where
      found : (f : Option Node) → node_at m o.nodes ≡ f → outlines app (step.Child m ∷ o.path) ≡ elim f as (λ _. Outlines) [ None ↦ [] | Some q ↦ host_view app o q q.form ]
          → HaveNumbers (elim f as (λ _. Outlines) [ None ↦ [] | Some q ↦ host_view app o q q.form ]) → AreClosed (elim f as (λ _. Outlines) [ None ↦ [] | Some q ↦ host_view app o q q.form ])
      found None d here numbers = tt
      found (Some q) d here numbers =
          host_closed o outer q q.form (subst (λ k. outlines app (step.Child k ∷ o.path) ≡ host_view app o q q.form) (sym (number-node_at m o.nodes q d)) here) numbers
          (In-find (λ r. nat_eq m r.number) (nodes_of o.nodes) q d) c
  entered_closed (step.Branch m k) p (o ∷ outer) e c n = found (node_at m o.nodes) refl (entered_next app (step.Branch m k) o.path (o ∷ outer) c.0) n
    where
      view : Node → Outlines
      view q = inner_view (step.Branch m k ∷ o.path) o q (nodes_in_branch q.form k) ∷ o ∷ outer

      found : (f : Option Node) → node_at m o.nodes ≡ f → outlines app (step.Branch m k ∷ o.path) ≡ elim f as (λ _. Outlines) [ None ↦ [] | Some q ↦ view q ]
          → HaveNumbers (elim f as (λ _. Outlines) [ None ↦ [] | Some q ↦ view q ]) → AreClosed (elim f as (λ _. Outlines) [ None ↦ [] | Some q ↦ view q ])
      found None d here numbers = tt
      found (Some q) d here numbers = inner_closed (step.Branch m k ∷ o.path) o outer q (nodes_in_branch q.form k) here numbers.0 (In-find (λ r. nat_eq m r.number) (nodes_of o.nodes) q d) c
  entered_closed (step.Row m w k) p (o ∷ outer) e c n = found (node_at m o.nodes) refl (entered_next app (step.Row m w k) o.path (o ∷ outer) c.0) n
    where
      view : Node → Outlines
      view q = inner_view (step.Row m w k ∷ o.path) o q (nodes_in_row q.form) ∷ o ∷ outer

      found : (f : Option Node) → node_at m o.nodes ≡ f → outlines app (step.Row m w k ∷ o.path) ≡ elim f as (λ _. Outlines) [ None ↦ [] | Some q ↦ view q ]
          → HaveNumbers (elim f as (λ _. Outlines) [ None ↦ [] | Some q ↦ view q ]) → AreClosed (elim f as (λ _. Outlines) [ None ↦ [] | Some q ↦ view q ])
      found None d here numbers = tt
      found (Some q) d here numbers = inner_closed (step.Row m w k ∷ o.path) o outer q (nodes_in_row q.form) here numbers.0 (In-find (λ r. nat_eq m r.number) (nodes_of o.nodes) q d) c
  entered_closed (step.Outlet m t) p (o ∷ outer) e c n =
      outlet_closed (step.Outlet m t ∷ o.path) t (o ∷ outer) (entered_next app (step.Outlet m t) o.path (o ∷ outer) c.0) n c

  root_closed : (c : Option Component) → outlines app [] ≡ root_view app c → HaveNumbers (root_view app c) → AreClosed (root_view app c)
  unfolding way
  root_closed None here numbers = tt
  root_closed (Some c) here numbers = (here, numbers.0, (λ p i x j. elim i [ inl e ↦ subst (λ os. In x (trails (entries_of os))) here (subst (λ y. In x (trails (way app y))) e j) | inr none ↦ absurd none ]), tt)

  outlines_closed : (p : Trail) → AreClosed (outlines app p)
  unfolding outlines
  outlines_closed [] = root_closed (root_component app) refl (outlines-HaveNumbers app [])
  outlines_closed (s ∷ p) = entered_closed s p (outlines app p) refl (outlines_closed p) (outlines-HaveNumbers app (s ∷ p))

  -- The way of each instance on a way goes along the same instances.
  pub way-Closed : (q p : Trail) → In p (trails (way app q)) → (x : Trail) → In x (trails (way app p)) → In x (trails (way app q))
  unfolding way
  way-Closed q p i x j = of_views (outlines app q) (outlines_closed q) i
    where
      of_views : (os : Outlines) → AreClosed os → In p (trails (entries_of os)) → In x (trails (entries_of os))
      of_views [] c k = absurd k
      of_views (o ∷ outer) c k = c.2 p k x j
