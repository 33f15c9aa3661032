-- Each view that a tree shows is live in it, and has at most 63 steps; and the tree shows each view that is live in it.
use Rattle.std.specs.Prelude.{◌≡◌, ◌⊎◌, ℕ, zero, suc, ◌+◌, ◌≤◌, Bool, true, false, cond, if◌then◌else◌, List, [], ◌∷◌, ◌++◌, length, Option, Some, None, Result, Ok, Err, is_none, refl}
use Rattle.std.specs.List.{flat_map}
use Rattle.std.specs.Map.{lookup}
use Rattle.std.proofs.Common.{inl, inr, ap, sym, ◌∙◌, subst, arith, append_assoc}
use Rattle.std.proofs.lemmas.List.{map-append}
use Rattle.ng_values.specs.declared.value.Value.{Value}
use Rattle.ng_ast.specs.declared.App.{App}
use Rattle.ng_ast.specs.declared.Component.{Component}
use Rattle.ng_tree.specs.declared.Item.{Item}
use Rattle.ng_tree.specs.declared.Step.{Step}
use Rattle.ng_tree.specs.declared.Step.TheVariants as step
use Rattle.ng_meaning.specs.Lists.{Text}
use Rattle.ng_meaning.specs.Steps.{and_then, ◌>>=◌, ◌>>◌, pure, get, change, each}
use Rattle.ng_meaning.specs.Same.{same_path}
use Rattle.ng_meaning.specs.Declared.{root_component}
use Rattle.ng_meaning.specs.Template.{Form, Host, Node, node_at, nodes_of}
use Rattle.ng_meaning.specs.Places.{Trail, Outline, Outlines, instance_at, host_view, entered, root_view, outlines}
use Rattle.ng_meaning.specs.Tree.{Marks, Tree, State, View, view_at, value_of}
use Rattle.ng_turns.specs.declared.Spot.{Spot}
use Rattle.ng_turns.specs.declared.PassFault.{PassFault}
use Rattle.ng_meaning.specs.Bindings.{Pass, Passing, spot, Visit, Shown, views_shown}
use Rattle.ng_meaning.specs.Passes.{make, own_spot, bear_instance, grow_root, begun, Passed, passed, ended, pass, make_node, start, set_inputs, inputs, is_due, enter, turn, turn_in, turn_host, visit_in, visit_node, view_of, visit_view, grow}
use Rattle.ng_meaning.specs.Laws.Apart.{In, Apart, In-append, In-left, In-right, In-map, In-flat_map}
use Rattle.ng_meaning.specs.Laws.Growing.{paths, host_steps, root_begins, ViewsCounted, pass-IsInOrder}
use Rattle.ng_meaning.specs.Laws.Keeping.{Keeps, make_nodes-Keeps, make_root-Keeps, view_of-Keeps, set_inputs-Keeps, start-Keeps, enter-Keeps}
use Rattle.ng_meaning.specs.Laws.Living.{left_by}
use Rattle.ng_meaning.specs.Laws.Once.{outlines-BeginsAt, entered_next}
use Rattle.ng_meaning.specs.Laws.Places.{BeginsAt, entered-BeginsAt}
use Rattle.ng_meaning.specs.Laws.Sameness.{same_path_decides}
use Rattle.ng_meaning.specs.Laws.Searches.{In-flat}
use Rattle.ng_meaning.specs.Laws.Shown.{steps}
use Rattle.ng_meaning.specs.Laws.Units.{Leads, IsShown}

-- there is a view
abbrev IsThere : Outlines → Type 0
IsThere [] = ⊥
IsThere (o ∷ outer) = Unit {0}

-- the paths have at most 63 steps
abbrev AreShort : List (Trail × View) → Type 0
AreShort [] = Unit {0}
AreShort (v ∷ vs) = (length v.0 ≤ 63) × AreShort vs

short-append : (xs ys : List (Trail × View)) → AreShort xs → AreShort ys → AreShort (xs ++ ys)
short-append [] ys h k = k
short-append (x ∷ xs) ys h k = (h.0, short-append xs ys h.1 k)

short-In : (vs : List (Trail × View)) → AreShort vs → (p : Trail) → In p (paths vs) → length p ≤ 63
short-In [] h p i = absurd i
short-In (v ∷ vs) h p (inl e) = subst (λ q. length q ≤ 63) (sym e) h.0
short-In (v ∷ vs) h p (inr i) = short-In vs h.1 p i

module _ (app : App) where
  -- a view shows a step by what it evaluated: to the instance on a host, or to a view that a node shows
  abbrev ShowsStep : View → Outline → Outlines → Step → Type 0
  ShowsStep w o outer s = (q : Node) × In q (nodes_of o.nodes) × (In s (host_steps q q.form) ⊎ In s (steps (views_shown app o outer q.number q.form (value_of (Some w) q.number))))

  -- a view is one that another of some views shows
  abbrev ComesFrom : List (Trail × View) → Trail → Type 0
  ComesFrom vs [] = ⊥
  ComesFrom vs (s ∷ p) = (w : View) × (o : Outline) × (outer : Outlines) × In (p, w) vs × (outlines app p ≡ o ∷ outer) × ShowsStep w o outer s

  comes-wider : (vs ws : List (Trail × View)) → ((v : Trail × View) → In v vs → In v ws) → (q : Trail) → ComesFrom vs q → ComesFrom ws q
  comes-wider vs ws h [] c = absurd c
  comes-wider vs ws h (s ∷ p) c = (c.0, c.1, c.2, h (p, c.0) c.3, c.4, c.5)

  -- each view that a view shows is among some
  abbrev ShowsAmong : List Trail → Trail × View → Type 0
  ShowsAmong known v = (o : Outline) (outer : Outlines) → outlines app v.0 ≡ o ∷ outer → (s : Step) → ShowsStep v.1 o outer s → IsThere (entered app s (o ∷ outer)) → In (s ∷ v.0) known

  abbrev AllShow : List Trail → List (Trail × View) → Type 0
  AllShow known [] = Unit {0}
  AllShow known (v ∷ vs) = ShowsAmong known v × AllShow known vs

  show-wider : (vs : List (Trail × View)) (known more : List Trail) → ((x : Trail) → In x known → In x more) → AllShow known vs → AllShow more vs
  show-wider [] known more h a = tt
  show-wider (v ∷ vs) known more h a = ((λ o outer e s shows there. h (s ∷ v.0) (a.0 o outer e s shows there)), show-wider vs known more h a.1)

  show-append : (xs ys : List (Trail × View)) (known : List Trail) → AllShow known xs → AllShow known ys → AllShow known (xs ++ ys)
  show-append [] ys known h k = k
  show-append (x ∷ xs) ys known h k = (h.0, show-append xs ys known h.1 k)

  show-both : (xs ys : List (Trail × View)) → AllShow (paths xs) xs → AllShow (paths ys) ys → AllShow (paths (xs ++ ys)) (xs ++ ys)
  show-both xs ys h k =
      let same = map-append (λ (v : Trail × View). v.0) xs ys in
      show-append xs ys (paths (xs ++ ys))
      (show-wider xs (paths xs) (paths (xs ++ ys)) (λ x i. subst (In x) (sym same) (In-left (paths xs) (paths ys) x i)) h)
      (show-wider ys (paths ys) (paths (xs ++ ys)) (λ x i. subst (In x) (sym same) (In-right (paths xs) (paths ys) x i)) k)

  show-In : (vs : List (Trail × View)) (known : List Trail) → AllShow known vs → (v : Trail × View) → In v vs → ShowsAmong known v
  show-In [] known a v i = absurd i
  show-In (x ∷ vs) known a v (inl e) = subst (ShowsAmong known) (sym e) a.0
  show-In (x ∷ vs) known a v (inr i) = show-In vs known a.1 v i

  -- ---- views that are added

  -- Views are added, each with all that it shows, and among them those to which some steps from a view lead. Each is one of these, or one that another shows.
  record Led (p : Trail) (os : Outlines) (ss : List Step) (before after : List (Trail × View)) : Type 0 where
    more : List (Trail × View)
    is : after ≡ before ++ more
    shows : AllShow (paths more) more
    short : AreShort more
    leads : (s : Step) → In s ss → IsThere (entered app s os) → In (s ∷ p) (paths more)
    comes : (q : Trail) → In q (paths more) → ((s : Step) × In s ss × (q ≡ s ∷ p)) ⊎ ComesFrom more q

  -- Views are added, each with all that it shows, and the one at a path among them. Each other one is one that another shows.
  record Whole (p : Trail) (before after : List (Trail × View)) : Type 0 where
    more : List (Trail × View)
    is : after ≡ before ++ more
    shows : AllShow (paths more) more
    short : AreShort more
    itself : In p (paths more)
    comes : (q : Trail) → In q (paths more) → (q ≡ p) ⊎ ComesFrom more q

  none-added : (xs : List (Trail × View)) → xs ≡ xs ++ []
  none-added [] = refl
  none-added (x ∷ xs) = ap (λ ys. x ∷ ys) (none-added xs)

  nothing_led : (p : Trail) (os : Outlines) (ss : List Step) (views : List (Trail × View)) → ((s : Step) → In s ss → IsThere (entered app s os) → ⊥) → Led p os ss views views
  nothing_led p os ss views h = record { more = []; is = none-added views; shows = tt; short = tt; leads = λ s i there. absurd (h s i there); comes = λ q i. absurd i }

  led_then : (p : Trail) (os : Outlines) (ss rs : List Step) (x y z : List (Trail × View)) → Led p os ss x y → Led p os rs y z → Led p os (ss ++ rs) x z
  led_then p os ss rs x y z a b =
      let same = map-append (λ (v : Trail × View). v.0) a.more b.more in
      record {
        more = a.more ++ b.more;
        is = b.is ∙ ap (λ v. v ++ b.more) a.is ∙ append_assoc x a.more b.more;
        shows = show-both a.more b.more a.shows b.shows;
        short = short-append a.more b.more a.short b.short;
        leads = λ s i there. elim (In-append ss rs s i) [
          | inl j ↦ subst (In (s ∷ p)) (sym same) (In-left (paths a.more) (paths b.more) (s ∷ p) (a.leads s j there))
          | inr j ↦ subst (In (s ∷ p)) (sym same) (In-right (paths a.more) (paths b.more) (s ∷ p) (b.leads s j there))
        ];
        comes = λ q i. elim (In-append (paths a.more) (paths b.more) q (subst (In q) same i)) [
          | inl j ↦ first q (a.comes q j)
          | inr j ↦ second q (b.comes q j)
        ];
      }
    where
      first : (q : Trail) → ((s : Step) × In s ss × (q ≡ s ∷ p)) ⊎ ComesFrom a.more q → ((s : Step) × In s (ss ++ rs) × (q ≡ s ∷ p)) ⊎ ComesFrom (a.more ++ b.more) q
      first q (inl h) = inl (h.0, In-left ss rs h.0 h.1, h.2)
      first q (inr c) = inr (comes-wider a.more (a.more ++ b.more) (λ v i. In-left a.more b.more v i) q c)

      second : (q : Trail) → ((s : Step) × In s rs × (q ≡ s ∷ p)) ⊎ ComesFrom b.more q → ((s : Step) × In s (ss ++ rs) × (q ≡ s ∷ p)) ⊎ ComesFrom (a.more ++ b.more) q
      second q (inl h) = inl (h.0, In-right ss rs h.0 h.1, h.2)
      second q (inr c) = inr (comes-wider b.more (a.more ++ b.more) (λ v i. In-right a.more b.more v i) q c)

  whole_led : (p : Trail) (os : Outlines) (s : Step) (x y : List (Trail × View)) → Whole (s ∷ p) x y → Led p os (s ∷ []) x y
  whole_led p os s x y g = record {
    more = g.more;
    is = g.is;
    shows = g.shows;
    short = g.short;
    leads = λ r i there. elim i [ inl e ↦ subst (λ z. In (z ∷ p) (paths g.more)) (sym e) g.itself | inr none ↦ absurd none ];
    comes = λ q i. elim (g.comes q i) [ inl e ↦ inl (s, inl refl, e) | inr c ↦ inr c ];
  }

  -- a step of a pass that ends well adds such views
  abbrev Leading : Trail → Outlines → List Step → Passing (Unit {0}) → Type 0
  Leading p os ss m = (s : Pass) (u : Unit {0}) → (m s).0 ≡ Ok u → Led p os ss s.views (m s).1.views

  abbrev Wholes : Trail → Passing (Unit {0}) → Type 0
  Wholes p m = (s : Pass) (u : Unit {0}) → (m s).0 ≡ Ok u → Whole p s.views (m s).1.views

  each_leads : {A : Type 0} (p : Trail) (os : Outlines) (f : A → Passing (Unit {0})) (steps_of : A → List Step) → ((x : A) → Leading p os (steps_of x) (f x)) → (xs : List A) → Leading p os (flat_map steps_of xs) (each f xs)
  each_leads p os f steps_of h [] s u e = nothing_led p os [] s.views (λ r i there. i)
  each_leads p os f steps_of h (x ∷ xs) s u e = after (f x s).0 (f x s).1 (λ a d. h x s a d) (λ t d. each_leads p os f steps_of h xs t u d) e
    where
      after : (r : Result (Unit {0}) PassFault) (t : Pass) → ((a : Unit {0}) → r ≡ Ok a → Led p os (steps_of x) s.views t.views)
          → ((y : Pass) → (each f xs y).0 ≡ Ok u → Led p os (flat_map steps_of xs) y.views (each f xs y).1.views)
          → (and_then r t (λ _. each f xs)).0 ≡ Ok u → Led p os (flat_map steps_of (x ∷ xs)) s.views (and_then r t (λ _. each f xs)).1.views
      after (Ok a) t first rest d = led_then p os (steps_of x) (flat_map steps_of xs) s.views t.views (each f xs t).1.views (first a refl) (rest t d)
      after (Err x) t first rest d = cc

  -- what is kept first, and then adds
  keeps_whole : {A : Type 0} (p : Trail) (m : Passing A) (f : A → Passing (Unit {0})) → Keeps m → ((a : A) → Wholes p (f a)) → Wholes p (m >>= f)
  keeps_whole p m f k h s u e = after (m s).0 (m s).1 (k s) e
    where
      after : (r : Result _ PassFault) (t : Pass) → t.views ≡ s.views → (and_then r t f).0 ≡ Ok u → Whole p s.views (and_then r t f).1.views
      after (Ok a) t v d = subst (λ x. Whole p x (f a t).1.views) v (h a t u d)
      after (Err x) t v d = cc

  -- ---- a visit

  -- the own view of an instance sees no other views' names
  host_alone : (o : Outline) (q : Node) (f : Form) (x : Outline) (xs : Outlines) → host_view app o q f ≡ x ∷ xs → xs ≡ []
  host_alone o q (Host c tag attrs content) x xs e = sym (cc)
  host_alone o q _ x xs e = cc

  child_alone : (n : ℕ) (o : Outline) (outer : Outlines) (x : Outline) (xs : Outlines) → entered app (step.Child n) (o ∷ outer) ≡ x ∷ xs → xs ≡ []
  child_alone n o outer x xs e = found (node_at n o.nodes) e
    where
      found : (r : Option Node) → elim r as (λ _. Outlines) [ None ↦ [] | Some q ↦ host_view app o q q.form ] ≡ x ∷ xs → xs ≡ []
      found None d = cc
      found (Some q) d = host_alone o q q.form x xs d

  root_alone : (c : Option Component) (x : Outline) (xs : Outlines) → root_view app c ≡ x ∷ xs → xs ≡ []
  root_alone None x xs e = cc
  root_alone (Some c) x xs e = sym (cc)

  -- Given a visit of views inside, of so many levels.
  module _ (old : Tree) (every : Bool) (marks : Marks) (n : ℕ) (visit : Visit → Passing (Unit {0}))
      (wholes : (v : Visit) → outlines app v.at.path ≡ v.at ∷ v.outer → length v.at.path + n ≡ 64 → Wholes v.at.path (visit v)) where
    turn_wholes : (o : Outline) (is : List (Text × Value)) (parent : Bool) (from : Spot) → outlines app o.path ≡ o ∷ [] → length o.path + n ≡ 64 → Wholes o.path (turn app old every marks visit o is parent from)
    turn_wholes o is parent from here depth =
        let was = lookup (same_path o.path) old.instances in
        let visited : Bool → Passing (Unit {0}) = λ due. visit (record { at = o; outer = []; names = []; due = due; enter = from }) in
        let due : Pass → Bool → Bool = λ s differs. is_due app old every marks s.world was o.path o.component differs parent in
        keeps_whole o.path (set_inputs (instance_at o.path) is false)
        (λ differs. (if is_none was then start app o.path o.component else pure tt) >> (get >>= (λ s. enter app old every marks o.path was (due s differs) >> visited (due s differs))))
        (set_inputs-Keeps (instance_at o.path) is false)
        (λ differs. keeps_whole o.path (if is_none was then start app o.path o.component else pure tt) (λ _. get >>= (λ s. enter app old every marks o.path was (due s differs) >> visited (due s differs)))
        (start-Keeps app (is_none was) o.path o.component)
        (λ _. keeps_whole o.path get (λ s. enter app old every marks o.path was (due s differs) >> visited (due s differs)) (λ t. refl)
        (λ s. keeps_whole o.path (enter app old every marks o.path was (due s differs)) (λ _. visited (due s differs)) (enter-Keeps app old every marks o.path was (due s differs))
        (λ _. wholes (record { at = o; outer = []; names = []; due = due s differs; enter = from }) here depth))))

    -- Given the view that is visited.
    module _ (v : Visit) (here : outlines app v.at.path ≡ v.at ∷ v.outer) (depth : length v.at.path + suc n ≡ 64) where
      -- the view that a step enters is the one at its path
      inner_is : (s : Step) (o : Outline) (outer : Outlines) → entered app s (v.at ∷ v.outer) ≡ o ∷ outer → (o.path ≡ s ∷ v.at.path) × (outlines app o.path ≡ o ∷ outer)
      inner_is s o outer e =
          let path : o.path ≡ s ∷ v.at.path = subst (BeginsAt (s ∷ v.at.path)) e (entered-BeginsAt app s v.at v.outer) in
          (path, ap (outlines app) path ∙ entered_next app s v.at.path (v.at ∷ v.outer) here ∙ e)

      in_leads : (s : Step) (es : Outlines) → entered app s (v.at ∷ v.outer) ≡ es → (names : List (Text × Item)) (due : Bool) (from : Spot)
          → Leading v.at.path (v.at ∷ v.outer) (s ∷ []) (visit_in app old every marks visit es names due from)
      in_leads s [] e names due from t u d = nothing_led v.at.path (v.at ∷ v.outer) (s ∷ []) t.views (λ r i there. elim i [ inl k ↦ subst IsThere (ap (λ x. entered app x (v.at ∷ v.outer)) k ∙ e) there | inr none ↦ none ])
      in_leads s (o ∷ outer) e names due from t u d =
          let inner = inner_is s o outer e in
          let w : Visit = record { at = o; outer = outer; names = names; due = due; enter = from } in
          whole_led v.at.path (v.at ∷ v.outer) s t.views (visit w t).1.views
          (subst (λ p. Whole p t.views (visit w t).1.views) inner.0 (wholes w inner.1 (omega (arith, depth, ap length inner.0)) t u d))

      node_leads : (w : View) (q : Node)
          → Leading v.at.path (v.at ∷ v.outer) (flat_map (λ b. b.0 ∷ []) (views_shown app v.at v.outer q.number q.form (value_of (Some w) q.number))) (visit_node app old every marks visit v w q)
      node_leads w q =
          each_leads v.at.path (v.at ∷ v.outer) (λ b. visit_in app old every marks visit (entered app b.0 (v.at ∷ v.outer)) b.1 v.due (spot v q.place)) (λ b. b.0 ∷ [])
          (λ b. in_leads b.0 (entered app b.0 (v.at ∷ v.outer)) refl b.1 v.due (spot v q.place)) (views_shown app v.at v.outer q.number q.form (value_of (Some w) q.number))

      turn_in_leads : (m : ℕ) (es : Outlines) → entered app (step.Child m) (v.at ∷ v.outer) ≡ es → (is : List (Text × Value)) (parent : Bool) (from : Spot)
          → Leading v.at.path (v.at ∷ v.outer) (step.Child m ∷ []) (turn_in app old every marks visit es is parent from)
      turn_in_leads m [] e is parent from t u d =
          nothing_led v.at.path (v.at ∷ v.outer) (step.Child m ∷ []) t.views (λ r i there. elim i [ inl k ↦ subst IsThere (ap (λ x. entered app x (v.at ∷ v.outer)) k ∙ e) there | inr none ↦ none ])
      turn_in_leads m (o ∷ outer) e is parent from t u d =
          let inner = inner_is (step.Child m) o outer e in
          let alone : outer ≡ [] = child_alone m v.at v.outer o outer e in
          whole_led v.at.path (v.at ∷ v.outer) (step.Child m) t.views (turn app old every marks visit o is parent from t).1.views
          (subst (λ p. Whole p t.views (turn app old every marks visit o is parent from t).1.views) inner.0
          (turn_wholes o is parent from (inner.1 ∙ ap (λ xs. o ∷ xs) alone) (omega (arith, depth, ap length inner.0)) t u d))

      turn_leads : (w : View) (q : Node) (f : Form) → Leading v.at.path (v.at ∷ v.outer) (host_steps q f) (turn_host app old every marks visit v w q f)
      turn_leads w q (Host c tag attrs nodes) =
          turn_in_leads q.number (entered app (step.Child q.number) (v.at ∷ v.outer)) refl (if v.due then inputs c.members attrs (value_of (Some w) q.number) else []) v.due (spot v q.place)
      turn_leads w q _ = λ t u d. nothing_led v.at.path (v.at ∷ v.outer) [] t.views (λ r i there. i)

      -- the steps to the views of nodes, and to the instances on hosts
      abbrev view_steps : View → Node → List Step
      view_steps w q = flat_map (λ b. b.0 ∷ []) (views_shown app v.at v.outer q.number q.form (value_of (Some w) q.number))

      abbrev all_steps : View → List Step
      all_steps w = flat_map (view_steps w) (nodes_of v.at.nodes) ++ flat_map (λ q. host_steps q q.form) (nodes_of v.at.nodes)

      inside_leads : (w : View) → Leading v.at.path (v.at ∷ v.outer) (all_steps w) (each (visit_node app old every marks visit v w) (nodes_of v.at.nodes) >> each (λ q. turn_host app old every marks visit v w q q.form) (nodes_of v.at.nodes))
      inside_leads w s u e = after (each blocks qs s).0 (each blocks qs s).1 (λ a d. each_leads v.at.path (v.at ∷ v.outer) blocks (view_steps w) (node_leads w) qs s a d) e
        where
          qs : List Node
          qs = nodes_of v.at.nodes

          blocks : Node → Passing (Unit {0})
          blocks = visit_node app old every marks visit v w

          hosts : Node → Passing (Unit {0})
          hosts q = turn_host app old every marks visit v w q q.form

          after : (r : Result (Unit {0}) PassFault) (t : Pass) → ((a : Unit {0}) → r ≡ Ok a → Led v.at.path (v.at ∷ v.outer) (flat_map (view_steps w) qs) s.views t.views)
              → (and_then r t (λ _. each hosts qs)).0 ≡ Ok u → Led v.at.path (v.at ∷ v.outer) (all_steps w) s.views (and_then r t (λ _. each hosts qs)).1.views
          after (Ok a) t first d =
              led_then v.at.path (v.at ∷ v.outer) (flat_map (view_steps w) qs) (flat_map (λ q. host_steps q q.form) qs) s.views t.views (each hosts qs t).1.views (first a refl)
              (each_leads v.at.path (v.at ∷ v.outer) hosts (λ q. host_steps q q.form) (λ q. turn_leads w q q.form) qs t u d)
          after (Err x) t first d = cc

      -- a step that the view shows is one of all
      shown_step : (w : View) (s : Step) → ShowsStep w v.at v.outer s → In s (all_steps w)
      shown_step w s shows = either shows.2
        where
          qs : List Node
          qs = nodes_of v.at.nodes

          either : In s (host_steps shows.0 shows.0.form) ⊎ In s (steps (views_shown app v.at v.outer shows.0.number shows.0.form (value_of (Some w) shows.0.number))) → In s (all_steps w)
          either (inl i) = In-right (flat_map (view_steps w) qs) (flat_map (λ q. host_steps q q.form) qs) s (In-flat (λ q. host_steps q q.form) qs shows.0 s shows.1 i)
          either (inr i) =
              let bs = views_shown app v.at v.outer shows.0.number shows.0.form (value_of (Some w) shows.0.number) in
              let b = In-map (λ (x : Shown). x.0) bs s i in
              In-left (flat_map (view_steps w) qs) (flat_map (λ q. host_steps q q.form) qs) s
              (In-flat (view_steps w) qs shows.0 s shows.1 (In-flat (λ x. x.0 ∷ []) bs b.0 s b.1 (inl b.2)))

      -- and each of all is one that the view shows
      step_shown : (w : View) (s : Step) → In s (all_steps w) → ShowsStep w v.at v.outer s
      step_shown w s i = either (In-append (flat_map (view_steps w) qs) (flat_map (λ q. host_steps q q.form) qs) s i)
        where
          qs : List Node
          qs = nodes_of v.at.nodes

          one_of : (bs : List Shown) → In s (flat_map (λ b. b.0 ∷ []) bs) → In s (steps bs)
          one_of [] j = absurd j
          one_of (b ∷ bs) (inl e) = inl e
          one_of (b ∷ bs) (inr j) = inr (one_of bs j)

          either : In s (flat_map (view_steps w) qs) ⊎ In s (flat_map (λ q. host_steps q q.form) qs) → ShowsStep w v.at v.outer s
          either (inl j) = let r = In-flat_map (view_steps w) qs s j in (r.0, r.1, inr (one_of (views_shown app v.at v.outer r.0.number r.0.form (value_of (Some w) r.0.number)) r.2))
          either (inr j) = let r = In-flat_map (λ q. host_steps q q.form) qs s j in (r.0, r.1, inl r.2)

      -- the view with those inside of it
      with_itself : (w : View) (before after : List (Trail × View)) → Led v.at.path (v.at ∷ v.outer) (all_steps w) (before ++ (v.at.path, w) ∷ []) after → Whole v.at.path before after
      with_itself w before after a = record {
        more = (v.at.path, w) ∷ a.more;
        is = a.is ∙ append_assoc before ((v.at.path, w) ∷ []) a.more;
        shows = (own, show-wider a.more (paths a.more) (v.at.path ∷ paths a.more) (λ x i. inr i) a.shows);
        short = (omega (arith, depth), a.short);
        itself = inl refl;
        comes = λ q i. elim i [ inl e ↦ inl e | inr j ↦ inr (inside q (a.comes q j)) ];
      }
        where
          inside : (q : Trail) → ((s : Step) × In s (all_steps w) × (q ≡ s ∷ v.at.path)) ⊎ ComesFrom a.more q → ComesFrom ((v.at.path, w) ∷ a.more) q
          inside q (inl h) = subst (ComesFrom ((v.at.path, w) ∷ a.more)) (sym h.2) (w, v.at, v.outer, inl refl, here, step_shown w h.0 h.1)
          inside q (inr c) = comes-wider a.more ((v.at.path, w) ∷ a.more) (λ x i. inr i) q c

          own : ShowsAmong (v.at.path ∷ paths a.more) (v.at.path, w)
          own o outer e s shows there =
              let same : v.at ∷ v.outer ≡ o ∷ outer = sym here ∙ e in
              let first : o ≡ v.at = cc in
              let rest : outer ≡ v.outer = cc in
              inr (a.leads s (shown_step w s (subst (λ xs. ShowsStep w v.at xs s) rest (subst (λ x. ShowsStep w x outer s) first shows))) (subst (λ os. IsThere (entered app s os)) (sym same) there))

      visit_wholes : Wholes v.at.path (visit_view app old every marks visit v)
      visit_wholes =
          let was = view_at v.at.path old.views in
          let rest : View → Passing (Unit {0}) = λ w. each (visit_node app old every marks visit v w) (nodes_of v.at.nodes) >> each (λ q. turn_host app old every marks visit v w q q.form) (nodes_of v.at.nodes) in
          let push : View → Passing (Unit {0}) = λ w. change (λ s. record s { views = s.views ++ (v.at.path, w) ∷ [] }) in
          keeps_whole v.at.path (if is_none was then each (make_node app v) (nodes_of v.at.nodes) else pure tt) (λ _. view_of app old every marks v was >>= (λ w. push w >> rest w))
          (make_nodes-Keeps app v (is_none was) (nodes_of v.at.nodes))
          (λ _. keeps_whole v.at.path (view_of app old every marks v was) (λ w. push w >> rest w) (view_of-Keeps app old every marks v was)
          (λ w s u e. with_itself w s.views (rest w (record s { views = s.views ++ (v.at.path, w) ∷ [] })).1.views (inside_leads w (record s { views = s.views ++ (v.at.path, w) ∷ [] }) u e)))

  -- ---- a pass

  grow_wholes : (old : Tree) (every : Bool) (marks : Marks) (n : ℕ) (v : Visit) → outlines app v.at.path ≡ v.at ∷ v.outer → length v.at.path + n ≡ 64 → Wholes v.at.path (grow app old every marks n v)
  unfolding grow
  grow_wholes old every marks zero v here depth s u e = cc
  grow_wholes old every marks (suc n) v here depth s u e = visit_wholes old every marks n (grow app old every marks n) (grow_wholes old every marks n) v here depth s u e

  root_wholes : (old : Tree) (every : Bool) (marks : Marks) (o : Outline) (outer : Outlines) → outlines app [] ≡ o ∷ outer → outer ≡ [] → o.path ≡ [] → Wholes [] (grow_root app old every marks (o ∷ outer))
  root_wholes old every marks o outer here alone begins =
      let spot_of = own_spot [] o.component o.component.place in
      let own : outlines app o.path ≡ o ∷ [] = ap (outlines app) begins ∙ here ∙ ap (λ xs. o ∷ xs) alone in
      keeps_whole [] (if is_none (view_at [] old.views) then make spot_of >> bear_instance app [] o.component else pure tt) (λ _. turn app old every marks (grow app old every marks 64) o [] true spot_of)
      (make_root-Keeps app (is_none (view_at [] old.views)) spot_of o.component)
      (λ _ t u e. subst (λ p. Whole p t.views (turn app old every marks (grow app old every marks 64) o [] true spot_of t).1.views) begins
      (turn_wholes old every marks 64 (grow app old every marks 64) (grow_wholes old every marks 64) o [] true spot_of own (omega (arith, ap length begins)) t u e))

  ended_well : (r : Result (Unit {0}) PassFault) (s : Pass) (p : Passed) → ended (r, s) ≡ Ok p → (u : Unit {0}) × (r ≡ Ok u)
  ended_well (Ok u) s p e = (u, refl)
  ended_well (Err f) s p e = cc

  -- ---- what is shown is live

  found_or : (b : Bool) (p q : Trail) (w : View) (vs : List (Trail × View)) → same_path p q ≡ b → (In p (paths vs) → (x : View) × In (p, x) vs × (view_at p vs ≡ Some x)) → In p (q ∷ paths vs)
      → (x : View) × In (p, x) ((q, w) ∷ vs) × (cond b (Some w) (view_at p vs) ≡ Some x)
  found_or true p q w vs e rest i = let same : p ≡ q = (same_path_decides p q).0 e in (w, inl (ap (λ y. (y, w)) same), refl)
  found_or false p q w vs e rest (inl d) = let t : same_path p q ≡ true = (same_path_decides p q).1 d in cc
  found_or false p q w vs e rest (inr i) = let r = rest i in (r.0, inr r.1, r.2)

  -- the view that is found at a path is one of those
  view_found : (p : Trail) (vs : List (Trail × View)) → In p (paths vs) → (x : View) × In (p, x) vs × (view_at p vs ≡ Some x)
  view_found p [] i = absurd i
  view_found p (v ∷ vs) i = found_or (same_path p v.0) p v.0 v.1 vs refl (view_found p vs) i

  module _ (tree : Tree) (shows : AllShow (paths tree.views) tree.views) (root : IsThere (outlines app []) → In [] (paths tree.views)) where
    shown_live : (p : Trail) → IsShown app tree p → IsThere (outlines app p) → In p (paths tree.views)
    unfolding outlines
    shown_live [] shown there = root there
    shown_live (s ∷ p) shown there = of_views (outlines app p) refl shown.1 there (λ t. shown_live p shown.0 t)
      where
        of_views : (os : Outlines) → outlines app p ≡ os → Leads app tree os s → IsThere (entered app s os) → (IsThere os → In p (paths tree.views)) → In (s ∷ p) (paths tree.views)
        of_views [] e leads t parent = absurd leads
        of_views (o ∷ outer) e leads t parent =
            let begins : o.path ≡ p = subst (BeginsAt p) e (outlines-BeginsAt app p) in
            let v = view_found p tree.views (parent tt) in
            let value : view_at o.path tree.views ≡ Some v.0 = ap (λ q. view_at q tree.views) begins ∙ v.2 in
            show-In tree.views (paths tree.views) shows (p, v.0) v.1 o outer e s
            (leads.0, leads.1, subst (λ w. In s (host_steps leads.0 leads.0.form) ⊎ In s (steps (views_shown app o outer leads.0.number leads.0.form (value_of w leads.0.number)))) value leads.2) t

  -- A pass leaves no views, where there is no root instance, or the root instance's with all that is shown.
  pass_whole : (every : Bool) (marks : Marks) (z : State) (r : Passed) → pass app every marks z ≡ Ok r
      → ((outlines app [] ≡ []) × (r.state.tree.views ≡ [])) ⊎ Whole [] [] r.state.tree.views
  unfolding pass outlines
  pass_whole every marks z r e =
      let os = root_view app (root_component app) in
      let g = grow_root app z.tree every marks os (begun z.world) in
      of_root os refl (ended_well g.0 g.1 r e) (left_by g.0 g.1 r e)
    where
      of_root : (vs : Outlines) → root_view app (root_component app) ≡ vs → ((u : Unit {0}) × ((grow_root app z.tree every marks (root_view app (root_component app)) (begun z.world)).0 ≡ Ok u))
          → r ≡ passed (grow_root app z.tree every marks (root_view app (root_component app)) (begun z.world)).1
          → ((root_view app (root_component app) ≡ []) × (r.state.tree.views ≡ [])) ⊎ Whole [] [] r.state.tree.views
      of_root [] d well left = inl (d, ap (λ (t : Passed). t.state.tree.views) left ∙ ap (λ vs. (grow_root app z.tree every marks vs (begun z.world)).1.views) d)
      of_root (x ∷ xs) d well left =
          let begins : x.path ≡ [] = subst (BeginsAt []) d (root_begins app (root_component app)) in
          let ended_so = subst (λ vs. (grow_root app z.tree every marks vs (begun z.world)).0 ≡ Ok well.0) d well.1 in
          let whole = root_wholes z.tree every marks x xs d (root_alone (root_component app) x xs d) begins (begun z.world) well.0 ended_so in
          inr (subst (λ vs. Whole [] [] vs) (sym (ap (λ (t : Passed). t.state.tree.views) left ∙ ap (λ vs. (grow_root app z.tree every marks vs (begun z.world)).1.views) d)) whole)

  -- Each view that the tree of a pass shows is live in it, and has at most 63 steps.
  pub pass-ShowsLive : (every : Bool) (marks : Marks) (z : State) (r : Passed) → pass app every marks z ≡ Ok r → (p : Trail) (o : Outline) (outer : Outlines) → IsShown app r.state.tree p → outlines app p ≡ o ∷ outer
      → In p (paths r.state.tree.views) × (length p ≤ 63)
  pass-ShowsLive every marks z r e p o outer shown here = elim (pass_whole every marks z r e) [ inl h ↦ absurd (no_root p h.0 shown there) | inr g ↦ of_whole g ]
    where
      there : IsThere (outlines app p)
      there = subst IsThere (sym here) tt

      of_whole : Whole [] [] r.state.tree.views → In p (paths r.state.tree.views) × (length p ≤ 63)
      of_whole g =
          let whole : g.more ≡ r.state.tree.views = sym g.is in
          let shows = subst (λ vs. AllShow (paths vs) vs) whole g.shows in
          let live = shown_live r.state.tree shows (λ t. subst (λ vs. In [] (paths vs)) whole g.itself) p shown there in
          (live, short-In r.state.tree.views (subst AreShort whole g.short) p live)

      no_root : (q : Trail) → outlines app [] ≡ [] → IsShown app r.state.tree q → IsThere (outlines app q) → ⊥
      no_root [] none s t = subst IsThere none t
      no_root (x ∷ q) none s t = of_views (outlines app q) s.1 (λ u. no_root q none s.0 u)
        where
          of_views : (vs : Outlines) → Leads app r.state.tree vs x → (IsThere vs → ⊥) → ⊥
          of_views [] leads h = leads
          of_views (y ∷ ys) leads h = h tt

  -- ---- what is live is shown

  path_in : (vs : List (Trail × View)) (p : Trail) (w : View) → In (p, w) vs → In p (paths vs)
  path_in [] p w i = absurd i
  path_in (v ∷ vs) p w (inl e) = inl (λ i. (e i).0)
  path_in (v ∷ vs) p w (inr i) = inr (path_in vs p w i)

  -- where no path stands twice, each view is found at its path
  found_apart : (vs : List (Trail × View)) → Apart (paths vs) → (p : Trail) (w : View) → In (p, w) vs → view_at p vs ≡ Some w
  found_apart [] apart p w i = absurd i
  found_apart (v ∷ vs) apart p w i = by_test (same_path p v.0) refl i (λ j. found_apart vs apart.1 p w j)
    where
      by_test : (b : Bool) → same_path p v.0 ≡ b → In (p, w) (v ∷ vs) → (In (p, w) vs → view_at p vs ≡ Some w) → cond b (Some v.1) (view_at p vs) ≡ Some w
      by_test true e (inl d) rest = λ i. Some (sym d i).1
      by_test true e (inr j) rest = absurd (apart.0 (subst (λ q. In q (paths vs)) ((same_path_decides p v.0).0 e) (path_in vs p w j)))
      by_test false e (inl d) rest = let t : same_path p v.0 ≡ true = (same_path_decides p v.0).1 (λ i. (d i).0) in cc
      by_test false e (inr j) rest = rest j

  -- a view that comes from another is shown where the other is
  live_shown : (tree : Tree) → Apart (paths tree.views) → ((q : Trail) → In q (paths tree.views) → (q ≡ []) ⊎ ComesFrom tree.views q) → (p : Trail) → In p (paths tree.views) → IsShown app tree p
  live_shown tree apart comes [] i = tt
  live_shown tree apart comes (s ∷ p) i = of_view (comes (s ∷ p) i) (λ j. live_shown tree apart comes p j)
    where
      of_view : (s ∷ p ≡ []) ⊎ ComesFrom tree.views (s ∷ p) → (In p (paths tree.views) → IsShown app tree p) → IsShown app tree (s ∷ p)
      of_view (inl e) parent = cc
      of_view (inr c) parent =
          let o : Outline = c.1 in
          let begins : o.path ≡ p = subst (BeginsAt p) c.4 (outlines-BeginsAt app p) in
          let value : view_at o.path tree.views ≡ Some c.0 = ap (λ q. view_at q tree.views) begins ∙ found_apart tree.views apart p c.0 c.3 in
          let leads : Leads app tree (o ∷ c.2) s =
          (c.5.0, c.5.1, subst (λ w. In s (host_steps c.5.0 c.5.0.form) ⊎ In s (steps (views_shown app o c.2 c.5.0.number c.5.0.form (value_of w c.5.0.number)))) (sym value) c.5.2) in
          (parent (path_in tree.views p c.0 c.3), subst (λ os. Leads app tree os s) (sym c.4) leads)

  -- Each view that is live in the tree of a pass is one that the tree shows.
  pub pass-LivesShown : (every : Bool) (marks : Marks) (z : State) (r : Passed) → ViewsCounted z.tree.views → pass app every marks z ≡ Ok r → (p : Trail) → In p (paths r.state.tree.views) → IsShown app r.state.tree p
  pass-LivesShown every marks z r counted e p i = elim (pass_whole every marks z r e) [
    | inl h ↦ absurd (subst (λ vs. In p (paths vs)) h.1 i)
    | inr g ↦ live_shown r.state.tree (pass-IsInOrder app every marks z r counted e).0.apart (subst (λ vs. (q : Trail) → In q (paths vs) → (q ≡ []) ⊎ ComesFrom vs q) (sym g.is) g.comes) p i
  ]
