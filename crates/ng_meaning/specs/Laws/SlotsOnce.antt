-- Where each slot is shown by one `ng-content` at most in the templates, it is so among the views that are shown.
use Rattle.std.specs.Prelude.{◌≡◌, ◌⊎◌, ℕ, zero, suc, ◌+◌, ◌<◌, ◌≤◌, Bool, true, false, not, ◌||◌, nat_eq, cond, bytes_eq, List, [], ◌∷◌, ◌++◌, length, Option, Some, None, refl}
use Rattle.std.specs.List.{position_or_len}
use Rattle.std.proofs.Common.{inl, inr, ap, sym, ◌∙◌, subst, arith, length-append}
use Rattle.ng_ast.specs.declared.App.{App}
use Rattle.ng_ast.specs.declared.Component.{Component}
use Rattle.ng_ast.specs.declared.TAttr.{TAttr}
use Rattle.ng_tree.specs.declared.Step.{Step}
use Rattle.ng_tree.specs.declared.Step.TheVariants as step
use Rattle.ng_meaning.specs.Lists.{Text, has_text, distinct_onto}
use Rattle.ng_meaning.specs.Declared.{bootstrap, components, root_component}
use Rattle.ng_meaning.specs.Template.{Form, Element, Host, NgContent, NgContainer, NgTemplate, TextNode, If, For, Switch, Let, Nodes, no_nodes, node, Branches, no_branches, branch, branch_nodes, template_nodes, Node, view_nodes, inner_nodes, nodes_of, node_at}
use Rattle.ng_meaning.specs.Places.{Trail, Outline, Outlines, node_id, inner_view, nodes_in_branch, nodes_in_row, nodes_in_template, host_view, outlet_view, entered, root_view, outlines}
use Rattle.ng_meaning.specs.Projection.{select, selects, selects_in, selects_of, slots, shown_slot, is_filled}
use Rattle.ng_meaning.specs.Tree.{Tree, NodeValue, Choice, view_at, value_of}
use Rattle.ng_meaning.specs.Bindings.{views_shown, fallback_shown}
use Rattle.ng_meaning.specs.Laws.Apart.{In, In-append, In-left, In-right}
use Rattle.ng_meaning.specs.Laws.Growing.{Below, host_steps}
use Rattle.ng_meaning.specs.Laws.Hosts.{HostsKnown, HostsKnownIn, template-HostsKnown, nodes_of-HostsKnown, in_branch-HostsKnown, in_row-HostsKnown, in_template-HostsKnown}
use Rattle.ng_meaning.specs.Laws.Each.{unit_of, outlines-HasUnit}
use Rattle.ng_meaning.specs.Laws.Leads.{Below-length, host_not_block}
use Rattle.ng_meaning.specs.Laws.Members.{node_at-is}
use Rattle.ng_meaning.specs.Laws.Numbers.{AreNumbered}
use Rattle.ng_meaning.specs.Laws.Once.{entered_next}
use Rattle.ng_meaning.specs.Laws.Places.{HaveNumbers, In-find, at_found, outlines-HaveNumbers}
use Rattle.ng_meaning.specs.Laws.Sameness.{same_text_decides}
use Rattle.ng_meaning.specs.Laws.Shown.{steps, views_shown-GoInto}
use Rattle.ng_meaning.specs.Laws.Slots.{HaveSlotsOnce, HasSlotsOnce, BranchesHaveSlotsOnce, TemplatesHaveSlotsOnce}
use Rattle.ng_meaning.specs.Laws.Units.{Leads, IsShown, ShowsSlot, ShowsSlotsOnce, HasUnit}

-- ---- slots by their texts

any_text : (t : Text) (seen : List Text) → has_text t seen ≡ true → In t seen
any_text t [] e = cc
any_text t (x ∷ seen) e = by_test (bytes_eq t x) refl e (any_text t seen)
  where
    by_test : (b : Bool) → bytes_eq t x ≡ b → (b || has_text t seen) ≡ true → (has_text t seen ≡ true → In t seen) → In t (x ∷ seen)
    by_test true h d rest = inl ((same_text_decides t x).0 h)
    by_test false h d rest = inr (rest d)

-- each text is among those without repeats
kept_once : (seen xs : List Text) (t : Text) → In t seen ⊎ In t xs → In t (distinct_onto seen xs)
kept_once seen [] t (inl i) = i
kept_once seen [] t (inr none) = absurd none
kept_once seen (x ∷ xs) t i = by_test (has_text x seen) refl (λ more j. kept_once more xs t j) i
  where
    by_test : (b : Bool) → has_text x seen ≡ b → ((more : List Text) → In t more ⊎ In t xs → In t (distinct_onto more xs)) → In t seen ⊎ In t (x ∷ xs)
        → In t (elim b as (λ _. List Text) [ true ↦ distinct_onto seen xs | false ↦ distinct_onto (seen ++ x ∷ []) xs ])
    by_test true e rest (inl j) = rest seen (inl j)
    by_test true e rest (inr (inl d)) = rest seen (inl (subst (λ y. In y seen) (sym d) (any_text x seen e)))
    by_test true e rest (inr (inr j)) = rest seen (inr j)
    by_test false e rest (inl j) = rest (seen ++ x ∷ []) (inl (In-left seen (x ∷ []) t j))
    by_test false e rest (inr (inl d)) = rest (seen ++ x ∷ []) (inl (In-right seen (x ∷ []) t (inl d)))
    by_test false e rest (inr (inr j)) = rest (seen ++ x ∷ []) (inr j)

-- a text is told by where it stands
same_place : (s t : Text) (xs : List Text) → In s xs → position_or_len (bytes_eq s) xs ≡ position_or_len (bytes_eq t) xs → s ≡ t
same_place s t [] i e = absurd i
same_place s t (x ∷ xs) i e = by_tests (bytes_eq s x) (bytes_eq t x) refl refl i e (same_place s t xs)
  where
    by_tests : (a b : Bool) → bytes_eq s x ≡ a → bytes_eq t x ≡ b → In s (x ∷ xs)
        → cond (not a) (1 + position_or_len (bytes_eq s) xs) 0 ≡ cond (not b) (1 + position_or_len (bytes_eq t) xs) 0
        → (In s xs → position_or_len (bytes_eq s) xs ≡ position_or_len (bytes_eq t) xs → s ≡ t) → s ≡ t
    by_tests true true f g j d rest = (same_text_decides s x).0 f ∙ sym ((same_text_decides t x).0 g)
    by_tests true false f g j d rest = absurd (omega (arith, d))
    by_tests false true f g j d rest = absurd (omega (arith, d))
    by_tests false false f g (inl h) d rest = let k : bytes_eq s x ≡ true = (same_text_decides s x).1 h in cc
    by_tests false false f g (inr j) d rest = rest j (omega (arith, d))

-- ---- what a node shows of slots

-- the `select` texts of a node itself, and of those in the views that are declared at it
abbrev own_selects : Form → List Text
own_selects (Element tag attrs nodes) = []
own_selects (Host c tag attrs nodes) = []
own_selects (NgContainer attrs nodes) = []
own_selects f = selects_in f

own_in : (f : Form) (t : Text) → In t (own_selects f) → In t (selects_in f)
own_in (Element tag attrs nodes) t i = absurd i
own_in (Host c tag attrs nodes) t i = absurd i
own_in (NgContainer attrs nodes) t i = absurd i
own_in (NgContent attrs nodes) t i = i
own_in (NgTemplate attrs nodes) t i = i
own_in (TextNode ps) t i = i
own_in (If bs) t i = i
own_in (For head nodes empty) t i = i
own_in (Switch e bs) t i = i
own_in (Let name e) t i = i

mutual
  view_in : (nodes : Nodes) (hosts : List (ℕ × Component)) (y : Node) → In y (view_nodes hosts nodes) → (t : Text) → In t (own_selects y.form) → In t (selects nodes)
  view_in no_nodes hosts y j t i = absurd j
  view_in (node n p f rest) hosts y (inl e) t i = In-left (selects_in f) (selects rest) t (own_in f t (subst (λ (r : Node). In t (own_selects r.form)) e i))
  view_in (node n p f rest) hosts y (inr j) t i = elim (In-append (inner_nodes hosts n f) (view_nodes hosts rest) y j) [
    | inl k ↦ In-left (selects_in f) (selects rest) t (inner_in f n hosts y k t i)
    | inr k ↦ In-right (selects_in f) (selects rest) t (view_in rest hosts y k t i)
  ]

  inner_in : (f : Form) (n : ℕ) (hosts : List (ℕ × Component)) (y : Node) → In y (inner_nodes hosts n f) → (t : Text) → In t (own_selects y.form) → In t (selects_in f)
  inner_in (Element tag attrs nodes) n hosts y j t i = view_in nodes hosts y j t i
  inner_in (Host c tag attrs nodes) n hosts y j t i = view_in nodes ((n, c) ∷ hosts) y j t i
  inner_in (NgContainer attrs nodes) n hosts y j t i = view_in nodes hosts y j t i
  inner_in (NgContent attrs nodes) n hosts y j t i = absurd j
  inner_in (NgTemplate attrs nodes) n hosts y j t i = absurd j
  inner_in (TextNode ps) n hosts y j t i = absurd j
  inner_in (If bs) n hosts y j t i = absurd j
  inner_in (For head nodes empty) n hosts y j t i = absurd j
  inner_in (Switch e bs) n hosts y j t i = absurd j
  inner_in (Let name e) n hosts y j t i = absurd j

-- a node that others stand in has none of its own
none_own : (f : Form) (n : ℕ) (hosts : List (ℕ × Component)) (y : Node) → In y (inner_nodes hosts n f) → (t : Text) → In t (own_selects f) → ⊥
none_own (Element tag attrs nodes) n hosts y j t i = i
none_own (Host c tag attrs nodes) n hosts y j t i = i
none_own (NgContainer attrs nodes) n hosts y j t i = i
none_own (NgContent attrs nodes) n hosts y j t i = j
none_own (NgTemplate attrs nodes) n hosts y j t i = j
none_own (TextNode ps) n hosts y j t i = j
none_own (If bs) n hosts y j t i = j
none_own (For head nodes empty) n hosts y j t i = j
none_own (Switch e bs) n hosts y j t i = j
none_own (Let name e) n hosts y j t i = j

mutual
  -- one node of a view has the text
  one_view : (nodes : Nodes) (hosts : List (ℕ × Component)) → HaveSlotsOnce nodes → (x y : Node) → In x (view_nodes hosts nodes) → In y (view_nodes hosts nodes)
      → (t : Text) → In t (own_selects x.form) → In t (own_selects y.form) → x ≡ y
  one_view no_nodes hosts h x y j k t a b = absurd j
  one_view (node n p f rest) hosts h x y (inl d) (inl e) t a b = d ∙ sym e
  one_view (node n p f rest) hosts h x y (inl d) (inr k) t a b =
      let own : In t (own_selects f) = subst (λ (r : Node). In t (own_selects r.form)) d a in
      absurd (elim (In-append (inner_nodes hosts n f) (view_nodes hosts rest) y k) [ inl l ↦ none_own f n hosts y l t own | inr r ↦ h.2 t (own_in f t own) (view_in rest hosts y r t b) ])
  one_view (node n p f rest) hosts h x y (inr j) (inl e) t a b =
      let own : In t (own_selects f) = subst (λ (r : Node). In t (own_selects r.form)) e b in
      absurd (elim (In-append (inner_nodes hosts n f) (view_nodes hosts rest) x j) [ inl l ↦ none_own f n hosts x l t own | inr r ↦ h.2 t (own_in f t own) (view_in rest hosts x r t a) ])
  one_view (node n p f rest) hosts h x y (inr j) (inr k) t a b = elim (In-append (inner_nodes hosts n f) (view_nodes hosts rest) x j) [
    | inl l ↦ elim (In-append (inner_nodes hosts n f) (view_nodes hosts rest) y k) [
      | inl m ↦ one_inner f n hosts h.0 x y l m t a b
      | inr m ↦ absurd (h.2 t (inner_in f n hosts x l t a) (view_in rest hosts y m t b))
    ]
    | inr l ↦ elim (In-append (inner_nodes hosts n f) (view_nodes hosts rest) y k) [
      | inl m ↦ absurd (h.2 t (inner_in f n hosts y m t b) (view_in rest hosts x l t a))
      | inr m ↦ one_view rest hosts h.1 x y l m t a b
    ]
  ]

  one_inner : (f : Form) (n : ℕ) (hosts : List (ℕ × Component)) → HasSlotsOnce f → (x y : Node) → In x (inner_nodes hosts n f) → In y (inner_nodes hosts n f)
      → (t : Text) → In t (own_selects x.form) → In t (own_selects y.form) → x ≡ y
  one_inner (Element tag attrs nodes) n hosts h x y j k t a b = one_view nodes hosts h x y j k t a b
  one_inner (Host c tag attrs nodes) n hosts h x y j k t a b = one_view nodes ((n, c) ∷ hosts) h x y j k t a b
  one_inner (NgContainer attrs nodes) n hosts h x y j k t a b = one_view nodes hosts h x y j k t a b
  one_inner (NgContent attrs nodes) n hosts h x y j k t a b = absurd j
  one_inner (NgTemplate attrs nodes) n hosts h x y j k t a b = absurd j
  one_inner (TextNode ps) n hosts h x y j k t a b = absurd j
  one_inner (If bs) n hosts h x y j k t a b = absurd j
  one_inner (For head nodes empty) n hosts h x y j k t a b = absurd j
  one_inner (Switch e bs) n hosts h x y j k t a b = absurd j
  one_inner (Let name e) n hosts h x y j k t a b = absurd j

mutual
  -- each node of a view has slots once
  view_once : (nodes : Nodes) (hosts : List (ℕ × Component)) → HaveSlotsOnce nodes → (y : Node) → In y (view_nodes hosts nodes) → HasSlotsOnce y.form
  view_once no_nodes hosts h y j = absurd j
  view_once (node n p f rest) hosts h y (inl e) = subst (λ (r : Node). HasSlotsOnce r.form) (sym e) h.0
  view_once (node n p f rest) hosts h y (inr j) = elim (In-append (inner_nodes hosts n f) (view_nodes hosts rest) y j) [ inl k ↦ inner_once f n hosts h.0 y k | inr k ↦ view_once rest hosts h.1 y k ]

  inner_once : (f : Form) (n : ℕ) (hosts : List (ℕ × Component)) → HasSlotsOnce f → (y : Node) → In y (inner_nodes hosts n f) → HasSlotsOnce y.form
  inner_once (Element tag attrs nodes) n hosts h y j = view_once nodes hosts h y j
  inner_once (Host c tag attrs nodes) n hosts h y j = view_once nodes ((n, c) ∷ hosts) h y j
  inner_once (NgContainer attrs nodes) n hosts h y j = view_once nodes hosts h y j
  inner_once (NgContent attrs nodes) n hosts h y j = absurd j
  inner_once (NgTemplate attrs nodes) n hosts h y j = absurd j
  inner_once (TextNode ps) n hosts h y j = absurd j
  inner_once (If bs) n hosts h y j = absurd j
  inner_once (For head nodes empty) n hosts h y j = absurd j
  inner_once (Switch e bs) n hosts h y j = absurd j
  inner_once (Let name e) n hosts h y j = absurd j

-- ---- the parts of a node

-- nodes have each slot once, or none at all
abbrev AreRight : Nodes → Type 0
AreRight nodes = HaveSlotsOnce nodes ⊎ ((t : Text) → In t (selects nodes) → ⊥)

branch_once : (bs : Branches) (k : ℕ) → BranchesHaveSlotsOnce bs → HaveSlotsOnce (branch_nodes bs k)
branch_once no_branches k h = tt
branch_once (branch test name nodes bs) zero h = h.0
branch_once (branch test name nodes bs) (suc k) h = branch_once bs k h.1

branch_own : (bs : Branches) (k : ℕ) (t : Text) → In t (selects (branch_nodes bs k)) → In t (selects_of bs)
branch_own no_branches k t i = absurd i
branch_own (branch test name nodes bs) zero t i = In-left (selects nodes) (selects_of bs) t i
branch_own (branch test name nodes bs) (suc k) t i = In-right (selects nodes) (selects_of bs) t (branch_own bs k t i)

in_branch_right : (f : Form) (k : ℕ) → HasSlotsOnce f → AreRight (nodes_in_branch f k)
in_branch_right (If bs) k h = inl (branch_once bs k h)
in_branch_right (Switch e bs) k h = inl (branch_once bs k h)
in_branch_right (For head nodes empty) k h = inr (λ t i. subst (In t) h (In-right (selects nodes) (selects_of empty) t (branch_own empty k t i)))
in_branch_right (NgContent attrs nodes) k h = inl h.0
in_branch_right _ k h = inl tt

in_branch_own : (f : Form) (k : ℕ) (t : Text) → In t (selects (nodes_in_branch f k)) → In t (own_selects f)
in_branch_own (If bs) k t i = branch_own bs k t i
in_branch_own (Switch e bs) k t i = branch_own bs k t i
in_branch_own (For head nodes empty) k t i = In-right (selects nodes) (selects_of empty) t (branch_own empty k t i)
in_branch_own (NgContent attrs nodes) k t i = inr i
in_branch_own _ k t i = absurd i

in_row_none : (f : Form) → HasSlotsOnce f → (t : Text) → In t (selects (nodes_in_row f)) → ⊥
in_row_none (For head nodes empty) h t i = subst (In t) h (In-left (selects nodes) (selects_of empty) t i)
in_row_none _ h t i = i

in_row_own : (f : Form) (t : Text) → In t (selects (nodes_in_row f)) → In t (own_selects f)
in_row_own (For head nodes empty) t i = In-left (selects nodes) (selects_of empty) t i
in_row_own _ t i = absurd i

in_template_none : (f : Form) → HasSlotsOnce f → (t : Text) → In t (selects (nodes_in_template f)) → ⊥
in_template_none (NgTemplate attrs nodes) h t i = subst (In t) h i
in_template_none _ h t i = i

in_template_own : (f : Form) (t : Text) → In t (selects (nodes_in_template f)) → In t (own_selects f)
in_template_own (NgTemplate attrs nodes) t i = i
in_template_own _ t i = absurd i

-- a part of a node of nodes that are right
part_right : (nodes : Nodes) (q : Node) → In q (nodes_of nodes) → (inner : Nodes) → (HasSlotsOnce q.form → AreRight inner) → ((t : Text) → In t (selects inner) → In t (own_selects q.form)) → AreRight nodes → AreRight inner
unfolding nodes_of
part_right nodes q j inner once own (inl h) = once (view_once nodes [] h q j)
part_right nodes q j inner once own (inr none) = inr (λ t i. none t (view_in nodes [] q j t (own t i)))

-- a part in which a node has none
no_part : (nodes : Nodes) (q : Node) → In q (nodes_of nodes) → (inner : Nodes) → (HasSlotsOnce q.form → (t : Text) → In t (selects inner) → ⊥) → ((t : Text) → In t (selects inner) → In t (own_selects q.form)) → AreRight nodes
    → (t : Text) → In t (selects inner) → ⊥
unfolding nodes_of
no_part nodes q j inner once own (inl h) t i = once (view_once nodes [] h q j) t i
no_part nodes q j inner once own (inr none) t i = none t (view_in nodes [] q j t (own t i))

-- ---- all views

module _ (app : App) (templates : TemplatesHaveSlotsOnce app) where
  -- the nodes of each view have slots once or none, and their hosts are known
  abbrev AllRight : Outlines → Type 0
  AllRight [] = Unit {0}
  AllRight (o ∷ outer) = AreRight o.nodes × HostsKnown app o.nodes × AllRight outer

  host_right : (o : Outline) (q : Node) (f : Form) → HostsKnownIn app f → AllRight (host_view app o q f)
  host_right o q (Host c tag attrs content) h = (inl (templates c h.0), template-HostsKnown app c, tt)
  host_right o q _ h = tt

  outlet_right : (p : Trail) (t : ℕ) (os : Outlines) → AllRight os → AllRight (outlet_view p t os)
  outlet_right p t [] h = tt
  outlet_right p t (o ∷ outer) h = declared (node_at t o.nodes) refl (outlet_right p t outer h.2)
    where
      declared : (found : Option Node) → node_at t o.nodes ≡ found → AllRight (outlet_view p t outer)
          → AllRight (elim found [ Some q ↦ inner_view p o q (nodes_in_template q.form) ∷ o ∷ outer | None ↦ outlet_view p t outer ])
      declared None e rest = rest
      declared (Some q) e rest =
          let there = In-find (λ r. nat_eq t r.number) (nodes_of o.nodes) q e in (
            part_right o.nodes q there (nodes_in_template q.form) (λ k. inr (in_template_none q.form k)) (in_template_own q.form) h.0,
            in_template-HostsKnown app q.form (nodes_of-HostsKnown app o.nodes h.1 q there),
            h,
          )

  entered_right : (s : Step) (os : Outlines) → AllRight os → AllRight (entered app s os)
  entered_right s [] h = tt
  entered_right (step.Child n) (o ∷ outer) h =
      at_found AllRight (node_at n o.nodes) (λ q. host_view app o q q.form) tt
      (λ q e. host_right o q q.form (nodes_of-HostsKnown app o.nodes h.1 q (In-find (λ r. nat_eq n r.number) (nodes_of o.nodes) q e)))
  entered_right (step.Branch n k) (o ∷ outer) h =
      at_found AllRight (node_at n o.nodes) (λ q. inner_view (step.Branch n k ∷ o.path) o q (nodes_in_branch q.form k) ∷ o ∷ outer) tt
      (λ q e. let there = In-find (λ r. nat_eq n r.number) (nodes_of o.nodes) q e in
      (part_right o.nodes q there (nodes_in_branch q.form k) (in_branch_right q.form k) (in_branch_own q.form k) h.0, in_branch-HostsKnown app q.form k (nodes_of-HostsKnown app o.nodes h.1 q there), h))
  entered_right (step.Row n w k) (o ∷ outer) h =
      at_found AllRight (node_at n o.nodes) (λ q. inner_view (step.Row n w k ∷ o.path) o q (nodes_in_row q.form) ∷ o ∷ outer) tt
      (λ q e. let there = In-find (λ r. nat_eq n r.number) (nodes_of o.nodes) q e in
      (part_right o.nodes q there (nodes_in_row q.form) (λ x. inr (in_row_none q.form x)) (in_row_own q.form) h.0, in_row-HostsKnown app q.form (nodes_of-HostsKnown app o.nodes h.1 q there), h))
  entered_right (step.Outlet n t) (o ∷ outer) h = outlet_right (step.Outlet n t ∷ o.path) t (o ∷ outer) h

  root_right : (c : Option Component) → root_component app ≡ c → AllRight (root_view app c)
  root_right None e = tt
  root_right (Some c) e = (inl (templates c (In-find (λ d. bytes_eq (bootstrap app).0 d.name) (components app) c e)), template-HostsKnown app c, tt)

  outlines_right : (p : Trail) → AllRight (outlines app p)
  unfolding outlines
  outlines_right [] = root_right (root_component app) refl
  outlines_right (s ∷ p) = entered_right s (outlines app p) (outlines_right p)

-- ---- paths

-- a path is that of an instance, or goes on from it
unit_below : (p : Trail) → Below (unit_of p) p
unit_below [] = ([], refl)
unit_below (step.Child n ∷ p) = ([], refl)
unit_below (step.Branch n k ∷ p) = let b = unit_below p in (step.Branch n k ∷ b.0, ap (λ q. step.Branch n k ∷ q) b.1)
unit_below (step.Row n w k ∷ p) = let b = unit_below p in (step.Row n w k ∷ b.0, ap (λ q. step.Row n w k ∷ q) b.1)
unit_below (step.Outlet n t ∷ p) = let b = unit_below p in (step.Outlet n t ∷ b.0, ap (λ q. step.Outlet n t ∷ q) b.1)

-- a path that goes on from another is it, or goes on by a step
goes_on : (q t : Trail) → (t ++ q ≡ q) ⊎ ((r : Trail) × (s : Step) × (t ++ q ≡ r ++ s ∷ q))
goes_on q [] = inl refl
goes_on q (a ∷ t) = either (goes_on q t)
  where
    either : (t ++ q ≡ q) ⊎ ((r : Trail) × (s : Step) × (t ++ q ≡ r ++ s ∷ q)) → (a ∷ (t ++ q) ≡ q) ⊎ ((r : Trail) × (s : Step) × (a ∷ (t ++ q) ≡ r ++ s ∷ q))
    either (inl e) = inr ([], a, ap (λ x. a ∷ x) e)
    either (inr h) = inr (a ∷ h.0, h.1, ap (λ x. a ∷ x) h.2)

-- ---- which views have a text

-- what a step enters of a node, where it may have a slot
abbrev part : Step → Form → Nodes
part (step.Branch n k) f = nodes_in_branch f k
part s f = no_nodes

part_own : (s : Step) (f : Form) (t : Text) → In t (selects (part s f)) → In t (own_selects f)
part_own (step.Branch n k) f t i = in_branch_own f k t i
part_own (step.Child n) f t i = absurd i
part_own (step.Row n w k) f t i = absurd i
part_own (step.Outlet n u) f t i = absurd i

-- a step isn't one to an instance
abbrev IsInner : Step → Type 0
IsInner (step.Child n) = ⊥
IsInner s = Unit {0}

-- the own view of an instance has the nodes of its template
abbrev IsOwn : App → Outlines → Type 0
IsOwn app [] = Unit {0}
IsOwn app (o ∷ outer) = o.nodes ≡ template_nodes app o.component

module _ (app : App) (tree : Tree) (templates : TemplatesHaveSlotsOnce app) (t : Text) where
  -- the first view has the text, among its nodes or further inside
  abbrev HasIn : Outlines → Type 0
  HasIn [] = ⊥
  HasIn (o ∷ outer) = In t (selects o.nodes)

  abbrev Has : Trail → Type 0
  Has p = HasIn (outlines app p)

  -- the first view shows one that has the text, by a step
  abbrev ShowsIn : Outlines → Step → Type 0
  ShowsIn [] s = ⊥
  ShowsIn (d ∷ ds) s = (y : Node) × In y (nodes_of d.nodes) × In t (selects (part s y.form)) × In s (steps (views_shown app d ds y.number y.form (value_of (view_at d.path tree.views) y.number)))

  no_outlet : (p : Trail) (u : ℕ) (os : Outlines) → AllRight app templates os → HasIn (outlet_view p u os) → ⊥
  no_outlet p u [] right h = h
  no_outlet p u (o ∷ outer) right h = declared (node_at u o.nodes) refl h (no_outlet p u outer right.2)
    where
      declared : (found : Option Node) → node_at u o.nodes ≡ found
          → HasIn (elim found as (λ _. Outlines) [ Some q ↦ inner_view p o q (nodes_in_template q.form) ∷ o ∷ outer | None ↦ outlet_view p u outer ]) → (HasIn (outlet_view p u outer) → ⊥) → ⊥
      declared None e i rest = rest i
      declared (Some q) e i rest = no_part o.nodes q (In-find (λ r. nat_eq u r.number) (nodes_of o.nodes) q e) (nodes_in_template q.form) (in_template_none q.form) (in_template_own q.form) right.0 t i

  no_row : (n : ℕ) (s : Step) (o : Outline) (outer : Outlines) → AllRight app templates (o ∷ outer)
      → HasIn (elim (node_at n o.nodes) as (λ _. Outlines) [ None ↦ [] | Some q ↦ inner_view (s ∷ o.path) o q (nodes_in_row q.form) ∷ o ∷ outer ]) → ⊥
  no_row n s o outer right h = declared (node_at n o.nodes) refl h
    where
      declared : (found : Option Node) → node_at n o.nodes ≡ found → HasIn (elim found as (λ _. Outlines) [ None ↦ [] | Some q ↦ inner_view (s ∷ o.path) o q (nodes_in_row q.form) ∷ o ∷ outer ]) → ⊥
      declared None e i = i
      declared (Some q) e i = no_part o.nodes q (In-find (λ r. nat_eq n r.number) (nodes_of o.nodes) q e) (nodes_in_row q.form) (in_row_none q.form) (in_row_own q.form) right.0 t i

  -- a view that has the text is shown by one that has it
  shows_branch : (n k : ℕ) (d : Outline) (ds : Outlines) → AreNumbered d.nodes → Leads app tree (d ∷ ds) (step.Branch n k) → HasIn (entered app (step.Branch n k) (d ∷ ds)) → ShowsIn (d ∷ ds) (step.Branch n k)
  shows_branch n k d ds numbers leads h = by_view leads.2
    where
      of_node : (y : Node) → In y (nodes_of d.nodes) → y.number ≡ n → In t (selects (nodes_in_branch y.form k))
      of_node y there e =
          subst (λ (f : Option Node). HasIn (elim f as (λ _. Outlines) [ None ↦ [] | Some q ↦ inner_view (step.Branch n k ∷ d.path) d q (nodes_in_branch q.form k) ∷ d ∷ ds ]))
          (subst (λ m. node_at m d.nodes ≡ Some y) e (node_at-is d.nodes numbers y there)) h

      by_view : In (step.Branch n k) (host_steps leads.0 leads.0.form) ⊎ In (step.Branch n k) (steps (views_shown app d ds leads.0.number leads.0.form (value_of (view_at d.path tree.views) leads.0.number)))
          → ShowsIn (d ∷ ds) (step.Branch n k)
      by_view (inl i) = absurd (host_not_block leads.0 leads.0.form (step.Branch n k) n i refl)
      by_view (inr i) =
          let number = views_shown-GoInto app d ds leads.0.number leads.0.form (value_of (view_at d.path tree.views) leads.0.number) (step.Branch n k) i in
          (leads.0, leads.1, of_node leads.0 leads.1 (sym number), i)

  shows_in : (s : Step) → IsInner s → (os : Outlines) → AllRight app templates os → HaveNumbers os → Leads app tree os s → HasIn (entered app s os) → ShowsIn os s
  shows_in s inner [] right numbers leads h = leads
  shows_in (step.Child n) inner (d ∷ ds) right numbers leads h = absurd inner
  shows_in (step.Branch n k) inner (d ∷ ds) right numbers leads h = shows_branch n k d ds numbers.0 leads h
  shows_in (step.Row n w k) inner (d ∷ ds) right numbers leads h = absurd (no_row n (step.Row n w k) d ds right h)
  shows_in (step.Outlet n u) inner (d ∷ ds) right numbers leads h = absurd (no_outlet (step.Outlet n u ∷ d.path) u (d ∷ ds) right h)

  shows_at : (s : Step) → IsInner s → (p : Trail) → IsShown app tree (s ∷ p) → Has (s ∷ p) → ShowsIn (outlines app p) s
  shows_at s inner p shown h = shows_in s inner (outlines app p) (outlines_right app templates p) (outlines-HaveNumbers app p) shown.1 (subst HasIn (entered_next app s p (outlines app p) refl) h)

  has_shown : (os : Outlines) (s : Step) → ShowsIn os s → HasIn os
  unfolding nodes_of
  has_shown [] s h = h
  has_shown (d ∷ ds) s h = view_in d.nodes [] h.0 h.1 t (part_own s h.0.form t h.2)

  has_before : (s : Step) → IsInner s → (p : Trail) → IsShown app tree (s ∷ p) → Has (s ∷ p) → Has p
  has_before s inner p shown h = has_shown (outlines app p) s (shows_at s inner p shown h)

  -- ---- a view shows one that has the text at most

  one_step : (o : Outline) (outer : Outlines) (n : ℕ) (f : Form) (value : NodeValue) → HasSlotsOnce f → In t (own_selects f) → (s r : Step)
      → In s (steps (views_shown app o outer n f value)) → In r (steps (views_shown app o outer n f value)) → s ≡ r
  unfolding views_shown
  one_step o outer n (If bs) (Choice (Some c)) h own s r (inl d) (inl e) = d ∙ sym e
  one_step o outer n (If bs) (Choice (Some c)) h own s r (inl d) (inr none) = absurd none
  one_step o outer n (If bs) (Choice (Some c)) h own s r (inr none) j = absurd none
  one_step o outer n (Switch test bs) (Choice (Some c)) h own s r (inl d) (inl e) = d ∙ sym e
  one_step o outer n (Switch test bs) (Choice (Some c)) h own s r (inl d) (inr none) = absurd none
  one_step o outer n (Switch test bs) (Choice (Some c)) h own s r (inr none) j = absurd none
  one_step o outer n (For head nodes empty) value h own s r i j = absurd (subst (In t) h own)
  one_step o outer n (NgContainer attrs nodes) value h own s r i j = absurd own
  one_step o outer n (NgContent attrs nodes) value h own s r i j = of_fallback nodes (is_filled app o attrs) i j
    where
      of_fallback : (inner : Nodes) (filled : Bool) → In s (steps (fallback_shown n inner filled)) → In r (steps (fallback_shown n inner filled)) → s ≡ r
      of_fallback no_nodes true a b = absurd a
      of_fallback no_nodes false a b = absurd a
      of_fallback (node m p f rest) true a b = absurd a
      of_fallback (node m p f rest) false (inl d) (inl e) = d ∙ sym e
      of_fallback (node m p f rest) false (inl d) (inr none) = absurd none
      of_fallback (node m p f rest) false (inr none) b = absurd none
  one_step o outer n f value h own s r i j = absurd i

  same_step : (os : Outlines) → AllRight app templates os → (s r : Step) → ShowsIn os s → ShowsIn os r → s ≡ r
  unfolding nodes_of
  same_step [] right s r a b = absurd a
  same_step (d ∷ ds) right s r a b = of_right right.0
    where
      of_right : AreRight d.nodes → s ≡ r
      of_right (inr none) = absurd (none t (view_in d.nodes [] a.0 a.1 t (part_own s a.0.form t a.2)))
      of_right (inl h) =
          let same : b.0 ≡ a.0 = one_view d.nodes [] h b.0 a.0 b.1 a.1 t (part_own r b.0.form t b.2) (part_own s a.0.form t a.2) in
          one_step d ds a.0.number a.0.form (value_of (view_at d.path tree.views) a.0.number) (view_once d.nodes [] h a.0 a.1) (part_own s a.0.form t a.2) s r a.3
          (subst (λ (y : Node). In r (steps (views_shown app d ds y.number y.form (value_of (view_at d.path tree.views) y.number)))) same b.3)

  -- ---- a view that has the text, and another further on

  inner_or_child : (s : Step) → IsInner s ⊎ ((n : ℕ) × (s ≡ step.Child n))
  inner_or_child (step.Child n) = inr (n, refl)
  inner_or_child (step.Branch n k) = inl tt
  inner_or_child (step.Row n w k) = inl tt
  inner_or_child (step.Outlet n u) = inl tt

  inner_unit_of : (s : Step) → IsInner s → (p : Trail) → unit_of (s ∷ p) ≡ unit_of p
  inner_unit_of (step.Child n) inner p = absurd inner
  inner_unit_of (step.Branch n k) inner p = refl
  inner_unit_of (step.Row n w k) inner p = refl
  inner_unit_of (step.Outlet n u) inner p = refl

  too_far : (s : Step) (p : Trail) → ((n : ℕ) × (s ≡ step.Child n)) → (k : ℕ) → k < length (s ∷ p) → length (unit_of (s ∷ p)) ≤ k → ⊥
  too_far s p child k less short = let e : unit_of (s ∷ p) ≡ step.Child child.0 ∷ p = ap (λ x. unit_of (x ∷ p)) child.1 in omega (arith, less, short, ap length e)

  -- a view shows the next one on the way to one of the same unit that has the text
  shows_next : (r : Trail) (s : Step) (q : Trail) → IsShown app tree (r ++ s ∷ q) → Has (r ++ s ∷ q) → length (unit_of (r ++ s ∷ q)) ≤ length q → ShowsIn (outlines app q) s
  shows_next [] s q shown h short = either (inner_or_child s)
    where
      either : IsInner s ⊎ ((n : ℕ) × (s ≡ step.Child n)) → ShowsIn (outlines app q) s
      either (inl inner) = shows_at s inner q shown h
      either (inr child) = absurd (too_far s q child (length q) (omega arith) short)
  shows_next (a ∷ r) s q shown h short = either (inner_or_child a) (shows_next r s q shown.0)
    where
      either : IsInner a ⊎ ((n : ℕ) × (a ≡ step.Child n)) → (Has (r ++ s ∷ q) → length (unit_of (r ++ s ∷ q)) ≤ length q → ShowsIn (outlines app q) s) → ShowsIn (outlines app q) s
      either (inl inner) rest = rest (has_before a inner (r ++ s ∷ q) shown h) (subst (λ u. length u ≤ length q) (inner_unit_of a inner (r ++ s ∷ q)) short)
      either (inr child) rest = absurd (too_far a (r ++ s ∷ q) child (length q) (omega (arith, length-append r (s ∷ q))) short)

  unit_short : (p q : Trail) → unit_of q ≡ unit_of p → length (unit_of p) ≤ length q
  unit_short p q e = omega (arith, Below-length (unit_of q) q (unit_below q), ap length e)

  -- Two views of one unit that have the text stand one inside of the other.
  one_inside : (p : Trail) → IsShown app tree p → Has p → (q : Trail) → IsShown app tree q → Has q → unit_of p ≡ unit_of q → Below p q ⊎ Below q p
  one_inside [] shown h q shown_q h_q same = inl (subst (λ u. Below u q) (sym same) (unit_below q))
  one_inside (s ∷ p) shown h q shown_q h_q same = either (inner_or_child s) (λ before unit. one_inside p shown.0 before q shown_q h_q unit)
    where
      next : ShowsIn (outlines app p) s → unit_of p ≡ unit_of q → Below p q ⊎ Below q p → Below (s ∷ p) q ⊎ Below q (s ∷ p)
      next shows unit (inr b) = inr (s ∷ b.0, ap (λ x. s ∷ x) b.1)
      next shows unit (inl b) = by_step (goes_on p b.0)
        where
          by_step : (b.0 ++ p ≡ p) ⊎ ((r : Trail) × (a : Step) × (b.0 ++ p ≡ r ++ a ∷ p)) → Below (s ∷ p) q ⊎ Below q (s ∷ p)
          by_step (inl e) = inr (s ∷ [], ap (λ x. s ∷ x) (sym (b.1 ∙ e)))
          by_step (inr g) =
              let path : q ≡ g.0 ++ g.1 ∷ p = b.1 ∙ g.2 in
              let other = shows_next g.0 g.1 p (subst (IsShown app tree) path shown_q) (subst Has path h_q) (subst (λ x. length (unit_of x) ≤ length p) path (unit_short q p unit)) in
              let one : g.1 ≡ s = same_step (outlines app p) (outlines_right app templates p) g.1 s other shows in
              inl (g.0, path ∙ ap (λ x. g.0 ++ x ∷ p) one)

      either : IsInner s ⊎ ((n : ℕ) × (s ≡ step.Child n)) → (Has p → unit_of p ≡ unit_of q → Below p q ⊎ Below q p) → Below (s ∷ p) q ⊎ Below q (s ∷ p)
      either (inl inner) rest =
          let unit : unit_of p ≡ unit_of q = sym (inner_unit_of s inner p) ∙ same in
          let shows = shows_at s inner p shown h in
          next shows unit (rest (has_shown (outlines app p) s shows) unit)
      either (inr child) rest =
          let own : unit_of (s ∷ p) ≡ s ∷ p = subst (λ x. unit_of (x ∷ p) ≡ x ∷ p) (sym child.1) refl in
          inl (subst (λ u. Below u q) (sym same ∙ own) (unit_below q))

  -- ---- the `ng-content`

  -- an `ng-content` of the first view that shows the text's slot
  abbrev IsDirect : Outlines → Node → Type 0
  IsDirect [] x = ⊥
  IsDirect (o ∷ outer) x = In x (nodes_of o.nodes) × ((attrs : List TAttr) × (nodes : Nodes) × (x.form ≡ NgContent attrs nodes) × (t ≡ select attrs))

  direct_own : (x : Node) → ((attrs : List TAttr) × (nodes : Nodes) × (x.form ≡ NgContent attrs nodes) × (t ≡ select attrs)) → In t (own_selects x.form)
  direct_own x h = subst (λ f. In t (own_selects f)) (sym h.2) (inl h.3)

  has_direct : (os : Outlines) (x : Node) → IsDirect os x → HasIn os
  unfolding nodes_of
  has_direct [] x h = h
  has_direct (o ∷ outer) x h = view_in o.nodes [] x h.0 t (direct_own x h.1)

  -- no view with the text is shown beside it
  none_beside : (os : Outlines) → AllRight app templates os → (x : Node) → IsDirect os x → (s : Step) → ShowsIn os s → ⊥
  unfolding nodes_of
  none_beside [] right x h s shows = h
  none_beside (o ∷ outer) right x h s shows = of_right right.0
    where
      inside_it : (r : Step) (attrs : List TAttr) (nodes : Nodes) → HasSlotsOnce (NgContent attrs nodes) → t ≡ select attrs → In t (selects (part r (NgContent attrs nodes))) → ⊥
      inside_it (step.Branch n k) attrs nodes once e i = once.1 (subst (λ y. In y (selects nodes)) e i)
      inside_it (step.Child n) attrs nodes once e i = i
      inside_it (step.Row n w k) attrs nodes once e i = i
      inside_it (step.Outlet n u) attrs nodes once e i = i

      of_right : AreRight o.nodes → ⊥
      of_right (inr none) = none t (view_in o.nodes [] x h.0 t (direct_own x h.1))
      of_right (inl right_nodes) =
          let same : shows.0 ≡ x = one_view o.nodes [] right_nodes shows.0 x shows.1 h.0 t (part_own s shows.0.form t shows.2) (direct_own x h.1) in
          let form : shows.0.form ≡ NgContent h.1.0 h.1.1 = ap (λ (y : Node). y.form) same ∙ h.1.2 in
          inside_it s h.1.0 h.1.1 (subst HasSlotsOnce h.1.2 (view_once o.nodes [] right_nodes x h.0)) h.1.3 (subst (λ f. In t (selects (part s f))) form shows.2)

  -- two of one view are one
  one_direct : (os : Outlines) → AllRight app templates os → (x y : Node) → IsDirect os x → IsDirect os y → x ≡ y
  unfolding nodes_of
  one_direct [] right x y h k = absurd h
  one_direct (o ∷ outer) right x y h k = of_right right.0
    where
      of_right : AreRight o.nodes → x ≡ y
      of_right (inr none) = absurd (none t (view_in o.nodes [] x h.0 t (direct_own x h.1)))
      of_right (inl right_nodes) = one_view o.nodes [] right_nodes x y h.0 k.0 t (direct_own x h.1) (direct_own y k.1)

  -- no view further on in the unit has the text
  none_further : (p : Trail) (x : Node) → IsDirect (outlines app p) x → (q : Trail) → IsShown app tree q → Has q → unit_of p ≡ unit_of q → Below p q → q ≡ p
  none_further p x direct q shown h unit b = by_step (goes_on p b.0)
    where
      by_step : (b.0 ++ p ≡ p) ⊎ ((r : Trail) × (a : Step) × (b.0 ++ p ≡ r ++ a ∷ p)) → q ≡ p
      by_step (inl e) = b.1 ∙ e
      by_step (inr g) =
          let path : q ≡ g.0 ++ g.1 ∷ p = b.1 ∙ g.2 in
          let shows = shows_next g.0 g.1 p (subst (IsShown app tree) path shown) (subst Has path h) (subst (λ z. length (unit_of z) ≤ length p) path (unit_short q p unit)) in
          absurd (none_beside (outlines app p) (outlines_right app templates p) x direct g.1 shows)

  -- Two of one unit are one.
  one_content : (p q : Trail) (x y : Node) → IsShown app tree p → IsShown app tree q → IsDirect (outlines app p) x → IsDirect (outlines app q) y → unit_of p ≡ unit_of q → (p ≡ q) × (x ≡ y)
  one_content p q x y shown_p shown_q dx dy unit =
      let has_p = has_direct (outlines app p) x dx in
      let has_q = has_direct (outlines app q) y dy in
      let path : p ≡ q = elim (one_inside p shown_p has_p q shown_q has_q unit) [
        | inl b ↦ sym (none_further p x dx q shown_q has_q unit b)
        | inr b ↦ none_further q y dy p shown_p has_p (sym unit) b
      ] in
      (path, one_direct (outlines app q) (outlines_right app templates q) x y (subst (λ r. IsDirect (outlines app r) x) path dx) dy)

  -- ---- the slot in the template

  child_own : (n : ℕ) (os : Outlines) → IsOwn app (entered app (step.Child n) os)
  child_own n [] = tt
  child_own n (o ∷ outer) = at_found (IsOwn app) (node_at n o.nodes) (λ q. host_view app o q q.form) tt (λ q e. of_host q q.form)
    where
      of_host : (q : Node) (f : Form) → IsOwn app (host_view app o q f)
      of_host q (Host c tag attrs content) = refl
      of_host q _ = tt

  root_own : (c : Option Component) → IsOwn app (root_view app c)
  root_own None = tt
  root_own (Some c) = refl

  -- the instance's component, and that its template has the text
  record InTemplate (p : Trail) (c : Component) : Type 0 where
    own : Outline
    further : Outlines
    is : outlines app (unit_of p) ≡ own ∷ further
    component : own.component ≡ c
    there : In t (selects (template_nodes app c))

  own_in_template : (p : Trail) (o : Outline) (outer : Outlines) → unit_of p ≡ p → outlines app p ≡ o ∷ outer → IsOwn app (o ∷ outer) → In t (selects o.nodes) → InTemplate p o.component
  own_in_template p o outer unit here own i = record { own = o; further = outer; is = ap (outlines app) unit ∙ here; component = refl; there = subst (λ ns. In t (selects ns)) own i }

  branch_component : (n k : ℕ) (d : Outline) (ds : Outlines) (o : Outline) (outer : Outlines) → entered app (step.Branch n k) (d ∷ ds) ≡ o ∷ outer → d.component ≡ o.component
  branch_component n k d ds o outer e = of_found (node_at n d.nodes) e
    where
      of_found : (f : Option Node) → elim f as (λ _. Outlines) [ None ↦ [] | Some q ↦ inner_view (step.Branch n k ∷ d.path) d q (nodes_in_branch q.form k) ∷ d ∷ ds ] ≡ o ∷ outer → d.component ≡ o.component
      of_found None h = cc
      of_found (Some q) h = let same : inner_view (step.Branch n k ∷ d.path) d q (nodes_in_branch q.form k) ≡ o = cc in ap (λ (x : Outline). x.component) same

  in_template : (p : Trail) → IsShown app tree p → (o : Outline) (outer : Outlines) → outlines app p ≡ o ∷ outer → In t (selects o.nodes) → InTemplate p o.component
  unfolding outlines
  in_template [] shown o outer here i = own_in_template [] o outer refl here (subst (IsOwn app) here (root_own (root_component app))) i
  in_template (step.Child n ∷ p) shown o outer here i = own_in_template (step.Child n ∷ p) o outer refl here (subst (IsOwn app) here (child_own n (outlines app p))) i
  in_template (step.Branch n k ∷ p) shown o outer here i =
      of_views (outlines app p) refl (has_before (step.Branch n k) tt p shown (subst HasIn (sym here) i)) (λ d ds e j. in_template p shown.0 d ds e j)
    where
      of_views : (ds : Outlines) → outlines app p ≡ ds → HasIn ds → ((d : Outline) (ds : Outlines) → outlines app p ≡ d ∷ ds → In t (selects d.nodes) → InTemplate p d.component) → InTemplate (step.Branch n k ∷ p) o.component
      of_views [] up j rest = absurd j
      of_views (d ∷ ds) up j rest =
          let r = rest d ds up j in
          let same : d.component ≡ o.component = branch_component n k d ds o outer (sym (entered_next app (step.Branch n k) p (d ∷ ds) up) ∙ here) in
          record { own = r.own; further = r.further; is = r.is; component = r.component ∙ same; there = subst (λ c. In t (selects (template_nodes app c))) same r.there }
  in_template (step.Row n w k ∷ p) shown o outer here i = absurd (no_inside (outlines app p) (outlines_right app templates p) (subst HasIn (sym here) i))
    where
      no_inside : (os : Outlines) → AllRight app templates os → HasIn (entered app (step.Row n w k) os) → ⊥
      no_inside [] right h = h
      no_inside (d ∷ ds) right h = no_row n (step.Row n w k) d ds right h
  in_template (step.Outlet n u ∷ p) shown o outer here i = absurd (no_inside (outlines app p) (outlines_right app templates p) (subst HasIn (sym here) i))
    where
      no_inside : (os : Outlines) → AllRight app templates os → HasIn (entered app (step.Outlet n u) os) → ⊥
      no_inside [] right h = h
      no_inside (d ∷ ds) right h = no_outlet (step.Outlet n u ∷ d.path) u (d ∷ ds) right h

-- ---- all slots

slot_direct : (app : App) (tree : Tree) (o : Outline) (f : Form) (k : ℕ) → ShowsSlot app tree o f k
    → (attrs : List TAttr) × (nodes : Nodes) × (f ≡ NgContent attrs nodes) × (shown_slot app o.component attrs ≡ k)
slot_direct app tree o (NgContent attrs nodes) k h = (attrs, nodes, refl, h)
slot_direct app tree o _ k h = absurd h

in_slots : (app : App) (c : Component) (t : Text) → In t (selects (template_nodes app c)) → In t (slots app c)
unfolding slots
in_slots app c t i = kept_once [] (selects (template_nodes app c)) t (inr i)

-- Where the templates have slots once, no two `ng-content`s that are live show the same slot of one instance.
pub templates-ShowOnce : (app : App) (tree : Tree) → TemplatesHaveSlotsOnce app → ShowsSlotsOnce app tree
templates-ShowOnce app tree templates c d u k x y =
    let a = slot_direct app tree x.view x.node.form k x.slot in
    let b = slot_direct app tree y.view y.node.form k y.slot in
    let unit_x : x.view.unit ≡ unit_of x.view.path = (subst (HasUnit (unit_of x.view.path)) x.is_view (outlines-HasUnit app x.view.path)).0 in
    let unit_y : y.view.unit ≡ unit_of y.view.path = (subst (HasUnit (unit_of y.view.path)) y.is_view (outlines-HasUnit app y.view.path)).0 in
    let unit : unit_of x.view.path ≡ unit_of y.view.path = sym unit_x ∙ x.unit ∙ sym y.unit ∙ unit_y in
    let t : Text = select a.0 in
    let s : Text = select b.0 in
    let dx : IsDirect app tree templates t (x.view ∷ x.outer) x.node = (x.is_there, (a.0, a.1, a.2, refl)) in
    let dy : IsDirect app tree templates s (y.view ∷ y.outer) y.node = (y.is_there, (b.0, b.1, b.2, refl)) in
    let in_x = in_template app tree templates t x.view.path x.is_shown x.view x.outer x.is_view (has_direct app tree templates t (x.view ∷ x.outer) x.node dx) in
    let in_y = in_template app tree templates s y.view.path y.is_shown y.view y.outer y.is_view (has_direct app tree templates s (y.view ∷ y.outer) y.node dy) in
    let views : in_x.own ∷ in_x.further ≡ in_y.own ∷ in_y.further = sym in_x.is ∙ ap (outlines app) unit ∙ in_y.is in
    let owns : in_x.own ≡ in_y.own = cc in
    let component : y.view.component ≡ x.view.component = sym in_y.component ∙ ap (λ (o : Outline). o.component) (sym owns) ∙ in_x.component in
    let place : position_or_len (bytes_eq t) (slots app x.view.component) ≡ position_or_len (bytes_eq s) (slots app x.view.component) =
    a.3 ∙ sym b.3 ∙ ap (λ e. position_or_len (bytes_eq s) (slots app e)) component in
    let text : t ≡ s = same_place t s (slots app x.view.component) (in_slots app x.view.component t in_x.there) place in
    let dy_too : IsDirect app tree templates t (y.view ∷ y.outer) y.node = (y.is_there, (b.0, b.1, b.2, text)) in
    let one = one_content app tree templates t x.view.path y.view.path x.node y.node x.is_shown y.is_shown
    (subst (λ os. IsDirect app tree templates t os x.node) (sym x.is_view) dx) (subst (λ os. IsDirect app tree templates t os y.node) (sym y.is_view) dy_too) unit in
    x.is ∙ (λ i. node_id (one.0 i) (one.1 i).number) ∙ sym y.is
