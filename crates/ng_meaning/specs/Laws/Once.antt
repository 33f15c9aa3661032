-- The page has each node once.
use Rattle.std.specs.Prelude.{◌≡◌, ◌⊎◌, ℕ, zero, suc, ◌+◌, ◌<◌, ◌≤◌, Bool, true, false, if◌then◌else◌, List, [], ◌∷◌, ◌++◌, Option, Some, None, refl}
use Rattle.std.specs.List.{flat_map}
use Rattle.std.proofs.Common.{inl, inr, ap, sym, ◌∙◌, subst, arith}
use Rattle.std.proofs.lemmas.Bool.{eqb-true}
use Rattle.std.proofs.lemmas.List.{append-nil}
use Rattle.std.proofs.lemmas.Grind.{flat_map-append}
use Rattle.ng_ast.specs.declared.App.{App}
use Rattle.ng_ast.specs.declared.Component.{Component}
use Rattle.ng_ast.specs.declared.Place.{Place}
use Rattle.ng_tree.specs.declared.NodeId.{NodeId}
use Rattle.ng_tree.specs.declared.NodeId.TheVariants as id
use Rattle.ng_tree.specs.declared.PNode.{PNode}
use Rattle.ng_tree.specs.declared.Step.{Step}
use Rattle.ng_tree.specs.declared.Step.TheVariants as step
use Rattle.ng_meaning.specs.Declared.{root_component}
use Rattle.ng_meaning.specs.Template.{Form, Element, Host, NgContent, NgContainer, NgTemplate, TextNode, If, For, Switch, Let, Nodes, no_nodes, node, Node, view_nodes, inner_nodes, nodes_of}
use Rattle.ng_meaning.specs.Places.{Trail, Outline, Outlines, node_id, entered, outlines}
use Rattle.ng_meaning.specs.Projection.{slot_of, shown_slot, is_number}
use Rattle.ng_meaning.specs.Tree.{Tree, View, view_at, value_of}
use Rattle.ng_meaning.specs.Bindings.{Shown, views_shown}
use Rattle.ng_meaning.specs.Page.{Handed, handed_to, together, page_nodes, draw_views, draw_outlets, draw_nodes, draw_form, draw, draw_root, page}
use Rattle.ng_turns.specs.declared.Event.{Event}
use Rattle.ng_meaning.specs.Runs.{Turn, run_with}
use Rattle.ng_meaning.specs.Laws.Turns.{turns-AreRight}
use Rattle.ng_meaning.specs.Laws.Apart.{In, Apart, In-append, In-left, In-right, Apart-append, Apart-left, Apart-right, Apart-cross}
use Rattle.ng_meaning.specs.Laws.Numbers.{Numbered, NumberedForm, Numbered-le, NumberedForm-le}
use Rattle.ng_meaning.specs.Laws.Places.{HaveNumbers, BeginsAt, outlines-HaveNumbers, entered-BeginsAt}
use Rattle.ng_meaning.specs.Laws.Rows.{IsCounted, value_of-IsCounted}
use Rattle.ng_meaning.specs.Laws.Shown.{GoesInto, steps, views_shown-AreSteps}
use Rattle.ng_meaning.specs.Laws.Growing.{ViewsCounted, WasCounted, found_counted, root_begins}
use Rattle.ng_meaning.specs.Laws.Pages.{all_ids, node_ids, node_ids-Element, node_ids-Host, node_ids-Text}
use Rattle.ng_meaning.specs.Laws.Pieces.{Given, Takers, Fair, Taken, Piece, Among, widened, no_items, one_item, taken_items, joined_pieces, many_pieces}
use Rattle.ng_meaning.specs.Laws.Regions.{number_of, InView, BehindNode, Between, InView-step, InView-once, Between-InView, Between-wider, Between-apart, AtNode-Between, AtNode-not_Between, own_not_behind}
use Rattle.ng_meaning.specs.Laws.Units.{Leads, IsShown, ShowsSlot, IsContent, ShowsSlotsOnce, HasUnit, entered-HasUnit, child-HasUnit, root-HasUnit}

-- ---- nodes of pages side by side

pub all_ids-append : (xs ys : List PNode) → all_ids (xs ++ ys) ≡ all_ids xs ++ all_ids ys
all_ids-append xs ys = flat_map-append node_ids xs ys

pub all_ids-flat_map : {B : Type 0} (f : B → List PNode) (xs : List B) → all_ids (flat_map f xs) ≡ flat_map (λ x. all_ids (f x)) xs
all_ids-flat_map f [] = refl
all_ids-flat_map f (x ∷ xs) = all_ids-append (f x) (flat_map f xs) ∙ ap (λ ys. all_ids (f x) ++ ys) (all_ids-flat_map f xs)

pub all_ids-one : (p : PNode) → all_ids (p ∷ []) ≡ node_ids p
all_ids-one p = append-nil (node_ids p)

pub nothing_of : {B : Type 0} (xs : List B) → all_ids (flat_map (λ x. []) xs) ≡ []
nothing_of [] = refl
nothing_of (x ∷ xs) = nothing_of xs

-- ---- content that is handed to slots

-- a number is one number
is_one_number : (j k : ℕ) (o : Option ℕ) → is_number j o ≡ true → is_number k o ≡ true → j ≡ k
is_one_number j k None e d = cc
is_one_number j k (Some m) e d = eqb-true j m e ∙ sym (eqb-true k m d)

-- what is in front, where it is kept, or what follows
pub kept_or_after : (b : Bool) (xs ys : List PNode) (i : NodeId) → In i (all_ids ((if b then xs else []) ++ ys)) → ((b ≡ true) × In i (all_ids xs)) ⊎ In i (all_ids ys)
kept_or_after true xs ys i h = elim (In-append (all_ids xs) (all_ids ys) i (subst (In i) (all_ids-append xs ys) h)) [ inl l ↦ inl (refl, l) | inr r ↦ inr r ]
kept_or_after false xs ys i h = inr h

module _ (app : App) (c : Component) where
  -- what stands in a slot is among what is handed
  handed_within : (drawn : List (Form × List PNode)) (k : ℕ) (i : NodeId) → In i (all_ids (handed_to app c drawn k)) → In i (all_ids (together drawn))
  handed_within [] k i j = absurd j
  handed_within (q ∷ drawn) k i j = rw all_ids-append (elim (kept_or_after (is_number k (slot_of app c q.0)) q.1 (handed_to app c drawn k) i j) [
    | inl l ↦ In-left (all_ids q.1) (all_ids (together drawn)) i l.1
    | inr r ↦ In-right (all_ids q.1) (all_ids (together drawn)) i (handed_within drawn k i r)
  ])

  -- what stands in a slot does so once
  handed_apart : (drawn : List (Form × List PNode)) (k : ℕ) → Apart (all_ids (together drawn)) → Apart (all_ids (handed_to app c drawn k))
  handed_apart [] k a = tt
  handed_apart (q ∷ drawn) k a =
      let both : Apart (all_ids q.1 ++ all_ids (together drawn)) = subst Apart (all_ids-append q.1 (together drawn)) a in
      kept (is_number k (slot_of app c q.0)) both (handed_apart drawn k (Apart-right (all_ids q.1) (all_ids (together drawn)) both))
    where
      kept : (b : Bool) → Apart (all_ids q.1 ++ all_ids (together drawn)) → Apart (all_ids (handed_to app c drawn k)) → Apart (all_ids ((if b then q.1 else []) ++ handed_to app c drawn k))
      kept true both rest = rw all_ids-append (Apart-append (all_ids q.1) (all_ids (handed_to app c drawn k)) (Apart-left (all_ids q.1) (all_ids (together drawn)) both) rest
          (λ i l r. Apart-cross (all_ids q.1) (all_ids (together drawn)) both i l (handed_within drawn k i r)))
      kept false both rest = rest

  -- what is handed stands in one slot at most
  handed_once : (drawn : List (Form × List PNode)) → Apart (all_ids (together drawn)) → (j k : ℕ) (i : NodeId) → In i (all_ids (handed_to app c drawn j)) → In i (all_ids (handed_to app c drawn k)) → j ≡ k
  handed_once [] a j k i l r = absurd l
  handed_once (q ∷ drawn) a j k i l r =
      let both : Apart (all_ids q.1 ++ all_ids (together drawn)) = subst Apart (all_ids-append q.1 (together drawn)) a in
      either both (handed_once drawn (Apart-right (all_ids q.1) (all_ids (together drawn)) both) j k i)
      (kept_or_after (is_number j (slot_of app c q.0)) q.1 (handed_to app c drawn j) i l) (kept_or_after (is_number k (slot_of app c q.0)) q.1 (handed_to app c drawn k) i r)
    where
      either : Apart (all_ids q.1 ++ all_ids (together drawn)) → (In i (all_ids (handed_to app c drawn j)) → In i (all_ids (handed_to app c drawn k)) → j ≡ k)
          → ((is_number j (slot_of app c q.0) ≡ true) × In i (all_ids q.1)) ⊎ In i (all_ids (handed_to app c drawn j))
          → ((is_number k (slot_of app c q.0) ≡ true) × In i (all_ids q.1)) ⊎ In i (all_ids (handed_to app c drawn k)) → j ≡ k
      either both rest (inl x) (inl y) = is_one_number j k (slot_of app c q.0) x.0 y.0
      either both rest (inl x) (inr y) = absurd (Apart-cross (all_ids q.1) (all_ids (together drawn)) both i x.1 (handed_within drawn k i y))
      either both rest (inr x) (inl y) = absurd (Apart-cross (all_ids q.1) (all_ids (together drawn)) both i y.1 (handed_within drawn j i x))
      either both rest (inr x) (inr y) = rest x y

-- ---- one view

-- what a view evaluated for a node is counted, where the rows of all views are
shown_counted : (p : Trail) (views : List (Trail × View)) → ViewsCounted views → (n : ℕ) → IsCounted (value_of (view_at p views) n)
shown_counted p views counted n = of_view (view_at p views) (found_counted p views counted)
  where
    of_view : (v : Option View) → WasCounted v → IsCounted (value_of v n)
    of_view None h = tt
    of_view (Some w) h = value_of-IsCounted w n h

goes_at : (n : ℕ) (s : Step) → GoesInto n s → number_of s ≡ n
goes_at n (step.Child m) g = absurd g
goes_at n (step.Branch m k) g = g
goes_at n (step.Row m w k) g = g
goes_at n (step.Outlet m t) g = g

-- Given what is made of the views to which steps lead, as pieces, where something fair is handed to their slots.
module _ (app : App) (tree : Tree) (counted : ViewsCounted tree.views) (once : ShowsSlotsOnce app tree) (inside : Outlines → Handed PNode → List PNode) (o : Outline) (outer : Outlines)
    (here : outlines app o.path ≡ o ∷ outer) (shown : IsShown app tree o.path) (units : HasUnit o.unit (o ∷ outer))
    (deeper : (s : Step) → Leads app tree (o ∷ outer) s → (u : Trail) → HasUnit u (entered app s (o ∷ outer)) → (h : Handed PNode)
    → Fair (λ k. all_ids (h k)) (λ k c. IsContent app tree c u k) (InView (s ∷ o.path))
    → Piece (λ k. all_ids (h k)) (λ k c. IsContent app tree c u k) (InView (s ∷ o.path)) (all_ids (inside (entered app s (o ∷ outer)) h)))
    (handed : Handed PNode) (fair : Fair (λ k. all_ids (handed k)) (λ k c. IsContent app tree c o.unit k) (InView o.path)) where
  abbrev given : Given NodeId
  given = λ k. all_ids (handed k)

  abbrev takes : Takers NodeId
  takes = λ k c. IsContent app tree c o.unit k

  abbrev IsPiece : (NodeId → Type 0) → List NodeId → Type 0
  IsPiece = Piece given takes

  -- the identity of a node
  abbrev Own : ℕ → NodeId → Type 0
  Own n i = i ≡ node_id o.path n

  -- what is fair for a view is so for one inside
  fair_inside : (s : Step) → Fair given takes (InView (s ∷ o.path))
  fair_inside s = record { apart = fair.apart; one = fair.one; beyond = λ k i j v. fair.beyond k i j (InView-step o.path s i v); once = fair.once }

  -- the views that a node shows
  views_piece : (q : Node) → In q (nodes_of o.nodes) → IsPiece (BehindNode o.path q.number) (all_ids (draw_views app tree page_nodes inside o outer handed q.number q.form))
  views_piece q there =
      let bs = views_shown app o outer q.number q.form (value_of (view_at o.path tree.views) q.number) in
      let right = views_shown-AreSteps app o outer q.number q.form (value_of (view_at o.path tree.views) q.number) (shown_counted o.path tree.views counted q.number) in
      let region : Shown → NodeId → Type 0 = λ b. InView (b.0 ∷ o.path) in
      rw all_ids-flat_map (widened given takes (InView o.path) fair (Among region bs) (BehindNode o.path q.number) _
      (λ i a. (a.0.0, goes_at q.number a.0.0 (right.0 a.0.0 (step_in bs a.0 a.1)), a.2))
      (many_pieces given takes (InView o.path) fair (λ b. b.0) (λ b. all_ids (inside (entered app b.0 (o ∷ outer)) handed)) region
      (λ b i v. InView-step o.path b.0 i v) (λ b d i v w. InView-once o.path b.0 d.0 i v w) bs right.1
      (λ b j. deeper b.0 (q, there, inr (step_in bs b j)) o.unit (entered-HasUnit app q.number b.0 (right.0 b.0 (step_in bs b j)) o.unit o outer units) handed (fair_inside b.0))))
    where
      step_in : (bs : List Shown) (b : Shown) → In b bs → In b.0 (steps bs)
      step_in [] b j = absurd j
      step_in (d ∷ bs) b (inl e) = inl (λ i. (e i).0)
      step_in (d ∷ bs) b (inr j) = inr (step_in bs b j)

  -- the views that a node shows, among the nodes from its own on
  shown_piece : (q : Node) → In q (nodes_of o.nodes) → (hi : ℕ) → q.number < hi → IsPiece (Between o.path q.number hi) (all_ids (draw_views app tree page_nodes inside o outer handed q.number q.form))
  shown_piece q there hi less = widened given takes (InView o.path) fair (BehindNode o.path q.number) (Between o.path q.number hi) _ (λ i b. AtNode-Between o.path q.number q.number hi (omega arith) less i (inr b)) (views_piece q there)

  -- a node, and what stands in it
  with_kids : (n hi : ℕ) (S : NodeId → Type 0) (kids : List NodeId) → n < hi → ((i : NodeId) → S i → Between o.path n hi i) → ((i : NodeId) → Own n i → S i → ⊥) → IsPiece S kids → IsPiece (Between o.path n hi) (node_id o.path n ∷ kids)
  with_kids n hi S kids less wider differ p =
      joined_pieces given takes (InView o.path) fair (Own n) S (Between o.path n hi) (node_id o.path n ∷ []) kids
      (λ i e. AtNode-Between o.path n n hi (omega arith) less i (inl e)) wider (λ i b. Between-InView o.path n hi i b) differ
      (one_item given takes (InView o.path) fair (Own n) (node_id o.path n) refl) p

  -- a host: its instance's own view, in which stands what was handed to its slots
  host_piece : (n hi : ℕ) (c : Component) (drawn : List (Form × List PNode)) → n < hi → Leads app tree (o ∷ outer) (step.Child n) → IsPiece (Between o.path (n + 1) hi) (all_ids (together drawn))
      → IsPiece (Between o.path n hi) (node_id o.path n ∷ all_ids (inside (entered app (step.Child n) (o ∷ outer)) (handed_to app c drawn)))
  host_piece n hi c drawn less leads content =
      with_kids n hi Inner (all_ids (inside (entered app (step.Child n) (o ∷ outer)) (handed_to app c drawn))) less wider differ (record { apart = own.apart; from = λ i j. of_inner i (own.from i j) })
    where
      -- a node behind the host, or one of its content
      Inner : NodeId → Type 0
      Inner i = BehindNode o.path n i ⊎ Between o.path (n + 1) hi i

      wider : (i : NodeId) → Inner i → Between o.path n hi i
      wider i (inl b) = AtNode-Between o.path n n hi (omega arith) less i (inr b)
      wider i (inr b) = Between-wider o.path n (n + 1) hi hi (omega arith) (omega arith) i b

      differ : (i : NodeId) → Own n i → Inner i → ⊥
      differ i e (inl b) = own_not_behind o.path n b.0 i e b.2
      differ i e (inr b) = AtNode-not_Between o.path n hi i (inl e) b

      not_behind : (i : NodeId) → InView (step.Child n ∷ o.path) i → Between o.path (n + 1) hi i ⊎ Taken given takes (Between o.path (n + 1) hi) i → ⊥
      not_behind i v (inl b) = AtNode-not_Between o.path n hi i (inr (step.Child n, refl, v)) b
      not_behind i v (inr t) = fair.beyond t.0 i t.4 (InView-step o.path (step.Child n) i v)

      own : Piece (λ k. all_ids (handed_to app c drawn k)) (λ k d. IsContent app tree d (step.Child n ∷ o.path) k) (InView (step.Child n ∷ o.path)) (all_ids (inside (entered app (step.Child n) (o ∷ outer)) (handed_to app c drawn)))
      own = deeper (step.Child n) leads (step.Child n ∷ o.path) (child-HasUnit app n o outer) (handed_to app c drawn) (record {
        apart = λ k. handed_apart app c drawn k content.apart;
        one = λ j k i. handed_once app c drawn content.apart j k i;
        beyond = λ k i j v. not_behind i v (content.from i (handed_within app c drawn k i j));
        once = λ k d e x y. once d e (step.Child n ∷ o.path) k x y;
      })

      of_content : (i : NodeId) → Between o.path (n + 1) hi i ⊎ Taken given takes (Between o.path (n + 1) hi) i → Inner i ⊎ Taken given takes Inner i
      of_content i (inl b) = inl (inr b)
      of_content i (inr t) = inr (t.0, t.1, t.2, inr t.3, t.4)

      of_inner : (i : NodeId) → InView (step.Child n ∷ o.path) i ⊎ Taken (λ k. all_ids (handed_to app c drawn k)) (λ k d. IsContent app tree d (step.Child n ∷ o.path) k) (InView (step.Child n ∷ o.path)) i
          → Inner i ⊎ Taken given takes Inner i
      of_inner i (inl v) = inl (inl (step.Child n, refl, v))
      of_inner i (inr t) = of_content i (content.from i (handed_within app c drawn t.0 i t.4))

  -- an `ng-content`: what its slot is handed, or its fallback
  slot_piece : (q : Node) → In q (nodes_of o.nodes) → (hi k : ℕ) → q.number < hi → ShowsSlot app tree o q.form k
      → IsPiece (Between o.path q.number hi) (all_ids (handed k ++ draw_views app tree page_nodes inside o outer handed q.number q.form))
  slot_piece q there hi k less slot =
      rw all_ids-append (joined_pieces given takes (InView o.path) fair (Own q.number) (BehindNode o.path q.number) (Between o.path q.number hi) (all_ids (handed k)) _
      (λ i e. AtNode-Between o.path q.number q.number hi (omega arith) less i (inl e)) (λ i b. AtNode-Between o.path q.number q.number hi (omega arith) less i (inr b))
      (λ i b. Between-InView o.path q.number hi i b) (λ i e b. own_not_behind o.path q.number b.0 i e b.2)
      (taken_items given takes (InView o.path) fair (Own q.number) k (node_id o.path q.number)
      (record { view = o; outer = outer; node = q; is_view = here; is_shown = shown; is_there = there; unit = refl; slot = slot; is = refl }) refl)
      (views_piece q there))

  -- a container: what is in it, and then the view of its outlet
  container_piece : (q : Node) → In q (nodes_of o.nodes) → (hi : ℕ) → q.number < hi → (kids : List PNode) → IsPiece (Between o.path (q.number + 1) hi) (all_ids kids)
      → IsPiece (Between o.path q.number hi) (all_ids (draw_outlets app tree page_nodes inside o outer q.number q.form ++ kids ++ draw_views app tree page_nodes inside o outer handed q.number q.form))
  container_piece q there hi less kids p =
      let shown = views_shown app o outer q.number q.form (value_of (view_at o.path tree.views) q.number) in
      let outlets = draw_outlets app tree page_nodes inside o outer q.number q.form in
      let views = draw_views app tree page_nodes inside o outer handed q.number q.form in
      subst (IsPiece (Between o.path q.number hi))
      (sym (all_ids-append (outlets ++ kids) views ∙ ap (λ xs. xs ++ all_ids views) (all_ids-append outlets kids ∙ ap (λ xs. xs ++ all_ids kids) (nothing_of shown))))
      (joined_pieces given takes (InView o.path) fair (Between o.path (q.number + 1) hi) (BehindNode o.path q.number) (Between o.path q.number hi) (all_ids kids) (all_ids views)
      (λ i b. Between-wider o.path q.number (q.number + 1) hi hi (omega arith) (omega arith) i b) (λ i b. AtNode-Between o.path q.number q.number hi (omega arith) less i (inr b))
      (λ i b. Between-InView o.path q.number hi i b) (λ i b h. AtNode-not_Between o.path q.number hi i (inr h) b)
      p (views_piece q there))

  room : (n hi : ℕ) → n + 1 ≤ hi → n < hi
  room n hi h = omega arith

  mutual
    -- nodes side by side
    nodes_piece : (hosts : List (ℕ × Component)) (nodes : Nodes) (lo hi : ℕ) → Numbered lo hi nodes → ((q : Node) → In q (view_nodes hosts nodes) → In q (nodes_of o.nodes))
        → IsPiece (Between o.path lo hi) (all_ids (together (draw_nodes app tree page_nodes inside o outer handed nodes)))
    nodes_piece hosts no_nodes lo hi h there = no_items given takes (InView o.path) fair (Between o.path lo hi)
    nodes_piece hosts (node n p f rest) lo hi h there =
        let from : lo ≤ n = h.1 in
        let behind : n + 1 ≤ h.0 = NumberedForm-le f (n + 1) h.0 h.2 in
        let before : h.0 ≤ hi = Numbered-le rest h.0 hi h.3 in
        rw all_ids-append (joined_pieces given takes (InView o.path) fair (Between o.path n h.0) (Between o.path h.0 hi) (Between o.path lo hi) _ _
        (λ i b. Between-wider o.path lo n h.0 hi from before i b) (λ i b. Between-wider o.path lo h.0 hi hi (omega arith) (omega arith) i b)
        (λ i b. Between-InView o.path lo hi i b) (λ i b c. Between-apart o.path n h.0 hi i b c)
        (form_piece hosts n p f h.0 h.2 (there (record { number = n; place = p; form = f; hosts = hosts }) (inl refl)) (λ q j. there q (inr (In-left (inner_nodes hosts n f) (view_nodes hosts rest) q j))))
        (nodes_piece hosts rest h.0 hi h.3 (λ q j. there q (inr (In-right (inner_nodes hosts n f) (view_nodes hosts rest) q j)))))

    -- one node
    form_piece : (hosts : List (ℕ × Component)) (n : ℕ) (p : Place) (f : Form) (hi : ℕ) → NumberedForm (n + 1) hi f → In (record { number = n; place = p; form = f; hosts = hosts }) (nodes_of o.nodes)
        → ((q : Node) → In q (inner_nodes hosts n f) → In q (nodes_of o.nodes)) → IsPiece (Between o.path n hi) (all_ids (draw_form app tree page_nodes inside o outer handed n f))
    form_piece hosts n p (Element tag attrs nodes) hi h here_it there =
        let kids = together (draw_nodes app tree page_nodes inside o outer handed nodes) in
        rw all_ids-one (rw node_ids-Element (with_kids n hi (Between o.path (n + 1) hi) (all_ids kids) (room n hi (NumberedForm-le (Element tag attrs nodes) (n + 1) hi h))
        (λ i b. Between-wider o.path n (n + 1) hi hi (omega arith) (omega arith) i b) (λ i e b. AtNode-not_Between o.path n hi i (inl e) b)
        (nodes_piece hosts nodes (n + 1) hi h there)))
    form_piece hosts n p (Host c tag attrs nodes) hi h here_it there =
        rw all_ids-one (rw node_ids-Host (host_piece n hi c (draw_nodes app tree page_nodes inside o outer handed nodes) (room n hi (NumberedForm-le (Host c tag attrs nodes) (n + 1) hi h))
        (record { number = n; place = p; form = Host c tag attrs nodes; hosts = hosts }, here_it, inl (inl refl)) (nodes_piece ((n, c) ∷ hosts) nodes (n + 1) hi h there)))
    form_piece hosts n p (TextNode ps) hi h here_it there =
        rw all_ids-one (rw node_ids-Text (one_item given takes (InView o.path) fair (Between o.path n hi) (node_id o.path n) (AtNode-Between o.path n n hi (omega arith) (room n hi h) (node_id o.path n) (inl refl))))
    form_piece hosts n p (NgContent attrs nodes) hi h here_it there =
        slot_piece (record { number = n; place = p; form = NgContent attrs nodes; hosts = hosts }) here_it hi (shown_slot app o.component attrs) (room n hi (NumberedForm-le (NgContent attrs nodes) (n + 1) hi h)) refl
    form_piece hosts n p (NgContainer attrs nodes) hi h here_it there =
        container_piece (record { number = n; place = p; form = NgContainer attrs nodes; hosts = hosts }) here_it hi (room n hi (NumberedForm-le (NgContainer attrs nodes) (n + 1) hi h))
        (together (draw_nodes app tree page_nodes inside o outer handed nodes)) (nodes_piece hosts nodes (n + 1) hi h there)
    form_piece hosts n p (NgTemplate attrs nodes) hi h here_it there =
        shown_piece (record { number = n; place = p; form = NgTemplate attrs nodes; hosts = hosts }) here_it hi (room n hi (NumberedForm-le (NgTemplate attrs nodes) (n + 1) hi h))
    form_piece hosts n p (If bs) hi h here_it there = shown_piece (record { number = n; place = p; form = If bs; hosts = hosts }) here_it hi (room n hi (NumberedForm-le (If bs) (n + 1) hi h))
    form_piece hosts n p (For head nodes empty) hi h here_it there =
        shown_piece (record { number = n; place = p; form = For head nodes empty; hosts = hosts }) here_it hi (room n hi (NumberedForm-le (For head nodes empty) (n + 1) hi h))
    form_piece hosts n p (Switch e bs) hi h here_it there = shown_piece (record { number = n; place = p; form = Switch e bs; hosts = hosts }) here_it hi (room n hi (NumberedForm-le (Switch e bs) (n + 1) hi h))
    form_piece hosts n p (Let name e) hi h here_it there = shown_piece (record { number = n; place = p; form = Let name e; hosts = hosts }) here_it hi (room n hi h)

-- ---- all views

-- The view at a path has that path.
pub outlines-BeginsAt : (app : App) (p : Trail) → BeginsAt p (outlines app p)
unfolding outlines
outlines-BeginsAt app [] = root_begins app (root_component app)
outlines-BeginsAt app (s ∷ p) = step_begins (outlines app p) (outlines-BeginsAt app p)
  where
    step_begins : (os : Outlines) → BeginsAt p os → BeginsAt (s ∷ p) (entered app s os)
    step_begins [] b = tt
    step_begins (o ∷ outer) b = subst (λ x. BeginsAt (s ∷ x) (entered app s (o ∷ outer))) b (entered-BeginsAt app s o outer)

pub entered_next : (app : App) (s : Step) (p : Trail) (os : Outlines) → outlines app p ≡ os → outlines app (s ∷ p) ≡ entered app s os
unfolding outlines
entered_next app s p os e = ap (entered app s) e

module _ (app : App) (tree : Tree) (counted : ViewsCounted tree.views) (once : ShowsSlotsOnce app tree) where
  -- what is handed to the slots of the instance at a path is fair for a view
  abbrev FairFor : Trail → Trail → Handed PNode → Type 0
  FairFor u p h = Fair (λ k. all_ids (h k)) (λ k c. IsContent app tree c u k) (InView p)

  -- what is made of a view of the instance at a path is a piece
  abbrev PieceOf : Trail → Trail → Handed PNode → List NodeId → Type 0
  PieceOf u p h = Piece (λ k. all_ids (h k)) (λ k c. IsContent app tree c u k) (InView p)

  -- each view that is shown is a piece, where so many levels are drawn
  abbrev DrawsPieces : ℕ → Type 0
  DrawsPieces n = (p : Trail) → IsShown app tree p → (u : Trail) → HasUnit u (outlines app p) → (h : Handed PNode) → FairFor u p h → PieceOf u p h (all_ids (draw app tree page_nodes n (outlines app p) h))

  view_piece : (n : ℕ) → DrawsPieces n → (o : Outline) (outer : Outlines) → outlines app o.path ≡ o ∷ outer → IsShown app tree o.path → HasUnit o.unit (o ∷ outer) → (h : Handed PNode) → FairFor o.unit o.path h
      → PieceOf o.unit o.path h (all_ids (draw app tree page_nodes (suc n) (o ∷ outer) h))
  unfolding nodes_of
  view_piece n more o outer here shown units h fair =
      let numbers = (subst HaveNumbers here (outlines-HaveNumbers app o.path)).0 in
      widened (λ k. all_ids (h k)) (λ k c. IsContent app tree c o.unit k) (InView o.path) fair (Between o.path numbers.0 numbers.1) (InView o.path) _ (λ i b. Between-InView o.path numbers.0 numbers.1 i b)
      (nodes_piece app tree counted once (draw app tree page_nodes n) o outer here shown units
      (λ s leads u inner g f. let next = entered_next app s o.path (o ∷ outer) here in
      subst (λ os. PieceOf u (s ∷ o.path) g (all_ids (draw app tree page_nodes n os g))) next
      (more (s ∷ o.path) (shown, subst (λ os. Leads app tree os s) (sym here) leads) u (subst (HasUnit u) (sym next) inner) g f))
      h fair [] o.nodes numbers.0 numbers.1 numbers.2 (λ q i. i))

  level_piece : (n : ℕ) → DrawsPieces n → (p u : Trail) (os : Outlines) → outlines app p ≡ os → BeginsAt p os → IsShown app tree p → HasUnit u os → (h : Handed PNode) → FairFor u p h
      → PieceOf u p h (all_ids (draw app tree page_nodes (suc n) os h))
  level_piece n more p u [] e begins shown units h fair = no_items (λ k. all_ids (h k)) (λ k c. IsContent app tree c u k) (InView p) fair (InView p)
  level_piece n more p u (o ∷ outer) e begins shown units h fair =
      let Goal : Trail → Trail → Type 0 = λ q v. outlines app q ≡ o ∷ outer → IsShown app tree q → HasUnit v (o ∷ outer) → FairFor v q h → PieceOf v q h (all_ids (draw app tree page_nodes (suc n) (o ∷ outer) h)) in
      subst (λ q. Goal q u) begins (subst (λ v. Goal o.path v) units.0 (λ here there own f. view_piece n more o outer here there own h f)) e shown units fair

  draws_pieces : (n : ℕ) → DrawsPieces n
  draws_pieces zero p shown u units h fair = no_items (λ k. all_ids (h k)) (λ k c. IsContent app tree c u k) (InView p) fair (InView p)
  draws_pieces (suc n) p shown u units h fair = level_piece n (draws_pieces n) p u (outlines app p) refl (outlines-BeginsAt app p) shown units h fair

-- No node stands twice on a page.
pub page-HasOnce : (app : App) (tree : Tree) → ViewsCounted tree.views → ShowsSlotsOnce app tree → Apart (node_ids (page app tree))
unfolding page outlines
page-HasOnce app tree counted once = rw node_ids-Host ((λ j. not_root (drawn.from id.Root j)), drawn.apart)
  where
    drawn : Piece (λ k. []) (λ k c. IsContent app tree c [] k) (InView []) (all_ids (draw_root app tree page_nodes))
    drawn = draws_pieces app tree counted once 64 [] tt [] (root-HasUnit app) (λ k. []) (record {
      apart = λ k. tt;
      one = λ j k i a. absurd a;
      beyond = λ k i a. absurd a;
      once = λ k c d x y. once c d [] k x y;
    })

    not_root : InView [] id.Root ⊎ Taken (λ k. []) (λ k c. IsContent app tree c [] k) (InView []) id.Root → ⊥
    not_root (inl v) = let e : id.Root ≡ node_id v.0 v.1 = v.3 in cc
    not_root (inr t) = absurd t.4

-- And on none that a run shows.
pub turns-HaveOnce : (app : App) (every : Bool) (es : List Event) (t : Turn) → In t (run_with app every es).turns → ShowsSlotsOnce app t.state.tree → Apart (node_ids t.page)
turns-HaveOnce app every es t i once = let r = turns-AreRight app every es t i in subst (λ p. Apart (node_ids p)) (sym r.1) (page-HasOnce app t.state.tree r.0.1 once)
