-- The views that a pass visits: no path twice, and each behind the view that it stands in.
use Rattle.std.specs.Prelude.{◌≡◌, ℕ, zero, suc, ◌+◌, ◌≤◌, Bool, true, false, cond, if◌then◌else◌, List, [], ◌∷◌, ◌++◌, map, length, drop, Option, Some, None, Result, Ok, Err, is_none, unwrap_or, refl}
use Rattle.std.specs.List.{flat_map}
use Rattle.std.specs.Map.{lookup}
use Rattle.std.proofs.Common.{inl, inr, ap, sym, ◌∙◌, subst, arith, length-append, append_assoc}
use Rattle.std.proofs.lemmas.List.{map-append}
use Rattle.ng_values.specs.declared.value.Value.{Value}
use Rattle.ng_ast.specs.declared.App.{App}
use Rattle.ng_ast.specs.declared.Component.{Component}
use Rattle.ng_tree.specs.declared.Item.{Item}
use Rattle.ng_tree.specs.declared.Step.{Step}
use Rattle.ng_tree.specs.declared.Step.TheVariants as step
use Rattle.ng_meaning.specs.Lists.{Text}
use Rattle.ng_meaning.specs.Steps.{and_then, ◌>>=◌, ◌>>◌, pure, get, change, each}
use Rattle.ng_meaning.specs.Same.{same_path}
use Rattle.ng_meaning.specs.Template.{Form, Host, Node, nodes_of}
use Rattle.ng_meaning.specs.Places.{Trail, Outline, Outlines, instance_at, entered, root_view}
use Rattle.ng_meaning.specs.Tree.{Marks, Tree, State, View, empty_view, view_at, value_of, names_seen}
use Rattle.ng_turns.specs.declared.Spot.{Spot}
use Rattle.ng_turns.specs.declared.PassFault.{PassFault}
use Rattle.ng_meaning.specs.Bindings.{Pass, Passing, spot, Visit, evaluate, Shown, views_shown}
use Rattle.ng_meaning.specs.Declared.{root_component}
use Rattle.ng_meaning.specs.Laws.Living.{left_by}
use Rattle.ng_meaning.specs.Passes.{make, own_spot, bear_instance, grow_root, begun, Passed, passed, pass, make_node, start, set_inputs, inputs, is_due, enter, turn, turn_in, turn_host, visit_in, visit_node, view_of, visit_view, grow}
use Rattle.ng_meaning.specs.Laws.Apart.{In, Apart, In-append, In-left, In-right, Apart-append, Apart-right, Apart-cross, In-flat_map}
use Rattle.ng_meaning.specs.Laws.Keeping.{Keeps, make_nodes-Keeps, make_root-Keeps, view_of-Keeps, set_inputs-Keeps, start-Keeps, enter-Keeps}
use Rattle.ng_meaning.specs.Laws.Numbers.{Rising, nodes_of-Rising}
use Rattle.ng_meaning.specs.Laws.Places.{HaveNumbers, BeginsAt, entered-HaveNumbers, entered-BeginsAt, root_view-HaveNumbers}
use Rattle.ng_meaning.specs.Laws.Rows.{AllCounted, value_of-IsCounted, evaluate-AllCounted}
use Rattle.ng_meaning.specs.Laws.Shown.{GoesInto, steps, views_shown-AreSteps}

-- ---- paths

-- a path goes on from another one, or is it
abbrev pub Below : Trail → Trail → Type 0
Below p q = (t : Trail) × (q ≡ t ++ p)

cancel : (t u : Trail) (x y : Trail) → length x ≡ length y → t ++ x ≡ u ++ y → x ≡ y
cancel [] [] x y l e = e
cancel [] (b ∷ u) x y l e = absurd (omega (arith, ap length e, length-append u y))
cancel (a ∷ t) [] x y l e = absurd (omega (arith, ap length e, length-append t x))
cancel (a ∷ t) (b ∷ u) x y l e = cancel t u x y l (ap (drop 1) e)

-- a path goes on from one view inside of a view at most
pub same_step_below : (p q : Trail) (s r : Step) → Below (s ∷ p) q → Below (r ∷ p) q → s ≡ r
same_step_below p q s r a b = let e : s ∷ p ≡ r ∷ p = cancel a.0 b.0 (s ∷ p) (r ∷ p) refl (sym a.1 ∙ b.1) in cc

pub never_itself : (p : Trail) (s : Step) → Below (s ∷ p) p → ⊥
never_itself p s a = omega (arith, ap length a.1, length-append a.0 (s ∷ p))

-- the path of the view in which a view stands is among some
abbrev pub HasParent : Trail → List Trail → Type 0
HasParent [] known = Unit {0}
HasParent (s ∷ p) known = In p known

-- each path stands behind that of the view in which its view stands, where some are known before
abbrev pub Follows : List Trail → List Trail → Type 0
Follows known [] = Unit {0}
Follows known (q ∷ qs) = HasParent q known × Follows (q ∷ known) qs

parent_weaker : (q : Trail) (known more : List Trail) → ((x : Trail) → In x known → In x more) → HasParent q known → HasParent q more
parent_weaker [] known more h k = tt
parent_weaker (s ∷ p) known more h k = h p k

follows_weaker : (qs known more : List Trail) → ((x : Trail) → In x known → In x more) → Follows known qs → Follows more qs
follows_weaker [] known more h f = tt
follows_weaker (q ∷ qs) known more h f =
    (parent_weaker q known more h f.0, follows_weaker qs (q ∷ known) (q ∷ more) (λ x i. elim i [ inl e ↦ inl e | inr j ↦ inr (h x j) ]) f.1)

follows_append : (xs ys known : List Trail) → Follows known xs → Follows known ys → Follows known (xs ++ ys)
follows_append [] ys known f g = g
follows_append (x ∷ xs) ys known f g = (f.0, follows_append xs ys (x ∷ known) f.1 (follows_weaker ys known (x ∷ known) (λ z i. inr i) g))

-- the paths of views
abbrev pub paths : List (Trail × View) → List Trail
paths = map (λ v. v.0)

-- the rows of all views are counted
abbrev pub ViewsCounted : List (Trail × View) → Type 0
ViewsCounted [] = Unit {0}
ViewsCounted (v ∷ views) = AllCounted v.1.values × ViewsCounted views

views_counted_append : (xs ys : List (Trail × View)) → ViewsCounted xs → ViewsCounted ys → ViewsCounted (xs ++ ys)
views_counted_append [] ys h k = k
views_counted_append (x ∷ xs) ys h k = (h.0, views_counted_append xs ys h.1 k)

-- ---- views that are added

-- views are added inside of the view at a path, by some steps from it
pub record Added (p : Trail) (ss : List Step) (before after : List (Trail × View)) : Type 0 where
  pub more : List (Trail × View)
  pub is : after ≡ before ++ more
  pub apart : Apart (paths more)
  pub through : (q : Trail) → In q (paths more) → (s : Step) × In s ss × Below (s ∷ p) q
  pub counted : ViewsCounted more
  pub follows : (known : List Trail) → In p known → Follows known (paths more)

-- the view at a path and those inside of it are added
pub record Grown (p : Trail) (before after : List (Trail × View)) : Type 0 where
  pub more : List (Trail × View)
  pub is : after ≡ before ++ more
  pub apart : Apart (paths more)
  pub below : (q : Trail) → In q (paths more) → Below p q
  pub counted : ViewsCounted more
  pub follows : (known : List Trail) → HasParent p known → Follows known (paths more)

append-none : (xs : List (Trail × View)) → xs ≡ xs ++ []
append-none [] = refl
append-none (x ∷ xs) = ap (λ ys. x ∷ ys) (append-none xs)

nothing_added : (p : Trail) (ss : List Step) (views : List (Trail × View)) → Added p ss views views
nothing_added p ss views = record { more = []; is = append-none views; apart = tt; through = λ q i. absurd i; counted = tt; follows = λ known i. tt }

nothing_grown : (p : Trail) (views : List (Trail × View)) → Grown p views views
nothing_grown p views = record { more = []; is = append-none views; apart = tt; below = λ q i. absurd i; counted = tt; follows = λ known i. tt }

more_steps : (p : Trail) (ss rs : List Step) (x y : List (Trail × View)) → ((s : Step) → In s ss → In s rs) → Added p ss x y → Added p rs x y
more_steps p ss rs x y h a = record {
  more = a.more;
  is = a.is;
  apart = a.apart;
  through = λ q i. let r = a.through q i in (r.0, h r.0 r.1, r.2);
  counted = a.counted;
  follows = a.follows;
}

added_then : (p : Trail) (ss rs : List Step) (x y z : List (Trail × View)) → Apart (ss ++ rs) → Added p ss x y → Added p rs y z → Added p (ss ++ rs) x z
added_then p ss rs x y z h a b = record {
  more = a.more ++ b.more;
  is = b.is ∙ ap (λ v. v ++ b.more) a.is ∙ append_assoc x a.more b.more;
  apart = rw map-append (Apart-append (paths a.more) (paths b.more) a.apart b.apart (λ q i j. meet q (a.through q i) (b.through q j)));
  through = λ q i. elim (In-append (paths a.more) (paths b.more) q (subst (λ l. In q l) (map-append (λ (v : Trail × View). v.0) a.more b.more) i)) [
    | inl j ↦ let r = a.through q j in (r.0, In-left ss rs r.0 r.1, r.2)
    | inr j ↦ let r = b.through q j in (r.0, In-right ss rs r.0 r.1, r.2)
  ];
  counted = views_counted_append a.more b.more a.counted b.counted;
  follows = λ known i. rw map-append (follows_append (paths a.more) (paths b.more) known (a.follows known i) (b.follows known i));
}
  where
    meet : (q : Trail) → ((s : Step) × In s ss × Below (s ∷ p) q) → ((s : Step) × In s rs × Below (s ∷ p) q) → ⊥
    meet q m n = Apart-cross ss rs h m.0 m.1 (subst (λ s. In s rs) (sym (same_step_below p q m.0 n.0 m.2 n.2)) n.1)

grown_added : (p : Trail) (s : Step) (x y : List (Trail × View)) → Grown (s ∷ p) x y → Added p (s ∷ []) x y
grown_added p s x y g = record {
  more = g.more;
  is = g.is;
  apart = g.apart;
  through = λ q i. (s, inl refl, g.below q i);
  counted = g.counted;
  follows = g.follows;
}

-- ---- steps of a pass

-- a step adds views inside of the view at a path
abbrev pub Adds : {A : Type 0} → Trail → List Step → Passing A → Type 0
Adds p ss m = (s : Pass) → Added p ss s.views (m s).1.views

-- a step adds the view at a path and those inside of it
abbrev pub Grows : {A : Type 0} → Trail → Passing A → Type 0
Grows p m = (s : Pass) → Grown p s.views (m s).1.views

each_added : {A : Type 0} (p : Trail) (f : A → Passing (Unit {0})) (steps_of : A → List Step) → ((x : A) → Adds p (steps_of x) (f x)) → (xs : List A) → Apart (flat_map steps_of xs) → Adds p (flat_map steps_of xs) (each f xs)
each_added p f steps_of h [] apart s = nothing_added p [] s.views
each_added p f steps_of h (x ∷ xs) apart s =
    first_then (f x s).0 (f x s).1 (h x s) (λ t. each_added p f steps_of h xs (Apart-right (steps_of x) (flat_map steps_of xs) apart) t)
  where
    first_then : (r : Result (Unit {0}) PassFault) (t : Pass) → Added p (steps_of x) s.views t.views → Adds p (flat_map steps_of xs) (each f xs)
        → Added p (flat_map steps_of (x ∷ xs)) s.views (and_then r t (λ _. each f xs)).1.views
    first_then (Ok u) t a rest = added_then p (steps_of x) (flat_map steps_of xs) s.views t.views (each f xs t).1.views apart a (rest t)
    first_then (Err e) t a rest = more_steps p (steps_of x) (flat_map steps_of (x ∷ xs)) s.views t.views (λ z i. In-left (steps_of x) (flat_map steps_of xs) z i) a

-- what is kept first, and then grows
keeps_grows : {A B : Type 0} (p : Trail) (m : Passing A) (f : A → Passing B) → Keeps m → ((a : A) → Grows p (f a)) → Grows p (m >>= f)
keeps_grows p m f k h s = kept_then (m s).0 (m s).1 (k s)
  where
    kept_then : (r : Result _ PassFault) (t : Pass) → t.views ≡ s.views → Grown p s.views (and_then r t f).1.views
    kept_then (Ok a) t e = subst (λ v. Grown p v (f a t).1.views) e (h a t)
    kept_then (Err x) t e = subst (λ v. Grown p s.views v) (sym e) (nothing_grown p s.views)

-- what is kept first, with an answer that has a property, and then grows
found_grows : {A B : Type 0} (P : A → Type 0) (p : Trail) (m : Passing A) (f : A → Passing B) → Keeps m → ((s : Pass) (a : A) → (m s).0 ≡ Ok a → P a) → ((a : A) → P a → Grows p (f a)) → Grows p (m >>= f)
found_grows P p m f k found h s = found_then (m s).0 (m s).1 (k s) (found s)
  where
    found_then : (r : Result _ PassFault) (t : Pass) → t.views ≡ s.views → ((a : _) → r ≡ Ok a → P a) → Grown p s.views (and_then r t f).1.views
    found_then (Ok a) t e q = subst (λ v. Grown p v (f a t).1.views) e (h a (q a refl) t)
    found_then (Err x) t e q = subst (λ v. Grown p s.views v) (sym e) (nothing_grown p s.views)

-- ---- different nodes have different steps

-- Given which steps belong to a node's number, where each belongs to one number at most.
module _ (Of : ℕ → Step → Type 0) (once : (m n : ℕ) (x : Step) → Of m x → Of n x → m ≡ n) (steps_of : Node → List Step) where
  from_on : (qs : List Node) (lo hi : ℕ) → Rising lo hi qs → (q : Node) → In q qs → lo ≤ q.number
  from_on [] lo hi h q i = absurd i
  from_on (r ∷ qs) lo hi h q (inl e) = subst (λ (x : Node). lo ≤ x.number) (sym e) h.0
  from_on (r ∷ qs) lo hi h q (inr i) = omega (arith, h.0, from_on qs (r.number + 1) hi h.1 q i)

  nodes_apart : ((q : Node) → ((x : Step) → In x (steps_of q) → Of q.number x) × Apart (steps_of q)) → (qs : List Node) (lo hi : ℕ) → Rising lo hi qs → Apart (flat_map steps_of qs)
  nodes_apart h [] lo hi rising = tt
  nodes_apart h (q ∷ qs) lo hi rising =
      Apart-append (steps_of q) (flat_map steps_of qs) (h q).1 (nodes_apart h qs (q.number + 1) hi rising.1)
      (λ x i j. let r = In-flat_map steps_of qs x j in let e : q.number ≡ r.0.number = once q.number r.0.number x ((h q).0 x i) ((h r.0).0 x r.2) in let less : q.number + 1 ≤ r.0.number = from_on qs (q.number + 1) hi rising.1 r.0 r.1 in omega arith)

goes_once : (m n : ℕ) (x : Step) → GoesInto m x → GoesInto n x → m ≡ n
goes_once m n (step.Child k) g h = absurd g
goes_once m n (step.Branch k b) g h = sym g ∙ h
goes_once m n (step.Row k w j) g h = sym g ∙ h
goes_once m n (step.Outlet k t) g h = sym g ∙ h

-- the step to the instance on a host
abbrev pub host_steps : Node → Form → List Step
host_steps q (Host c tag attrs nodes) = step.Child q.number ∷ []
host_steps q f = []

-- a step to the instance on the node with a number
abbrev IsChild : ℕ → Step → Type 0
IsChild n x = x ≡ step.Child n

child_once : (m n : ℕ) (x : Step) → IsChild m x → IsChild n x → m ≡ n
child_once m n x e d = let both : step.Child m ≡ step.Child n = sym e ∙ d in cc

are_children : (q : Node) (f : Form) → ((x : Step) → In x (host_steps q f) → IsChild q.number x) × Apart (host_steps q f)
are_children q (Host c tag attrs nodes) = (λ x i. elim i [ inl e ↦ e | inr none ↦ absurd none ], (λ i. i, tt))
are_children q _ = (λ x i. absurd i, tt)

no_child : (n m : ℕ) (x : Step) → GoesInto n x → IsChild m x → ⊥
no_child n m x g e = subst (GoesInto n) e g

-- what a view was is counted, if it was anything
abbrev pub WasCounted : Option View → Type 0
WasCounted None = Unit {0}
WasCounted (Some w) = AllCounted w.values

found_here : (b : Bool) (w : View) (further : Option View) → AllCounted w.values → WasCounted further → WasCounted (cond b (Some w) further)
found_here true w further h k = h
found_here false w further h k = k

-- a view that is found among views whose rows are counted
pub found_counted : (p : Trail) (views : List (Trail × View)) → ViewsCounted views → WasCounted (view_at p views)
found_counted p [] h = tt
found_counted p (v ∷ views) h = found_here (same_path p v.0) v.1 (view_at p views) h.0 (found_counted p views h.1)

-- ---- a visit

single : (bs : List Shown) → flat_map (λ b. b.0 ∷ []) bs ≡ steps bs
single [] = refl
single (b ∷ bs) = ap (λ ss. b.0 ∷ ss) (single bs)

-- Given the tree that was shown before, of which the rows are counted, and a visit of views inside that grows them.
module _ (app : App) (old : Tree) (every : Bool) (marks : Marks) (visit : Visit → Passing (Unit {0})) (grows : (v : Visit) → HaveNumbers (v.at ∷ v.outer) → Grows v.at.path (visit v)) where
  visit_in_adds : (p : Trail) (s : Step) (os : Outlines) (names : List (Text × Item)) (due : Bool) (from : Spot) → HaveNumbers os → BeginsAt (s ∷ p) os → Adds p (s ∷ []) (visit_in app old every marks visit os names due from)
  visit_in_adds p s [] names due from h b t = nothing_added p (s ∷ []) t.views
  visit_in_adds p s (o ∷ outer) names due from h b t =
      let v : Visit = record { at = o; outer = outer; names = names; due = due; enter = from } in
      grown_added p s t.views (visit v t).1.views (subst (λ (x : Trail). Grown x t.views (visit v t).1.views) b (grows v h t))

  visit_node_adds : (v : Visit) (w : View) (q : Node) → HaveNumbers (v.at ∷ v.outer) → AllCounted w.values
      → Adds v.at.path (steps (views_shown app v.at v.outer q.number q.form (value_of (Some w) q.number))) (visit_node app old every marks visit v w q)
  visit_node_adds v w q h counted =
      let shown = views_shown app v.at v.outer q.number q.form (value_of (Some w) q.number) in
      let right = views_shown-AreSteps app v.at v.outer q.number q.form (value_of (Some w) q.number) (value_of-IsCounted w q.number counted) in
      subst (λ ss. Adds v.at.path ss (visit_node app old every marks visit v w q)) (single shown)
      (each_added v.at.path (λ b. visit_in app old every marks visit (entered app b.0 (v.at ∷ v.outer)) b.1 v.due (spot v q.place)) (λ b. b.0 ∷ [])
      (λ b. visit_in_adds v.at.path b.0 (entered app b.0 (v.at ∷ v.outer)) b.1 v.due (spot v q.place) (entered-HaveNumbers app b.0 (v.at ∷ v.outer) h) (entered-BeginsAt app b.0 v.at v.outer))
      shown (subst Apart (sym (single shown)) right.1))

  turn_grows : (o : Outline) (is : List (Text × Value)) (parent : Bool) (from : Spot) → HaveNumbers (o ∷ []) → Grows o.path (turn app old every marks visit o is parent from)
  turn_grows o is parent from h =
      let was = lookup (same_path o.path) old.instances in
      let visited : Bool → Passing (Unit {0}) = λ due. visit (record { at = o; outer = []; names = []; due = due; enter = from }) in
      let due : Pass → Bool → Bool = λ s differs. is_due app old every marks s.world was o.path o.component differs parent in
      keeps_grows o.path (set_inputs (instance_at o.path) is false)
      (λ differs. (if is_none was then start app o.path o.component else pure tt) >> (get >>= (λ s. enter app old every marks o.path was (due s differs) >> visited (due s differs))))
      (set_inputs-Keeps (instance_at o.path) is false)
      (λ differs. keeps_grows o.path (if is_none was then start app o.path o.component else pure tt) (λ _. get >>= (λ s. enter app old every marks o.path was (due s differs) >> visited (due s differs)))
      (start-Keeps app (is_none was) o.path o.component)
      (λ _. keeps_grows o.path get (λ s. enter app old every marks o.path was (due s differs) >> visited (due s differs)) (λ t. refl)
      (λ s. keeps_grows o.path (enter app old every marks o.path was (due s differs)) (λ _. visited (due s differs)) (enter-Keeps app old every marks o.path was (due s differs))
      (λ _. grows (record { at = o; outer = []; names = []; due = due s differs; enter = from }) h))))

  turn_in_adds : (p : Trail) (s : Step) (os : Outlines) (is : List (Text × Value)) (parent : Bool) (from : Spot) → HaveNumbers os → BeginsAt (s ∷ p) os → Adds p (s ∷ []) (turn_in app old every marks visit os is parent from)
  turn_in_adds p s [] is parent from h b t = nothing_added p (s ∷ []) t.views
  turn_in_adds p s (o ∷ outer) is parent from h b t =
      grown_added p s t.views (turn app old every marks visit o is parent from t).1.views
      (subst (λ (x : Trail). Grown x t.views (turn app old every marks visit o is parent from t).1.views) b (turn_grows o is parent from (h.0, tt) t))

  turn_host_adds : (v : Visit) (w : View) (q : Node) (f : Form) → HaveNumbers (v.at ∷ v.outer) → Adds v.at.path (host_steps q f) (turn_host app old every marks visit v w q f)
  turn_host_adds v w q (Host c tag attrs nodes) h =
      turn_in_adds v.at.path (step.Child q.number) (entered app (step.Child q.number) (v.at ∷ v.outer)) (if v.due then inputs c.members attrs (value_of (Some w) q.number) else []) v.due (spot v q.place)
      (entered-HaveNumbers app (step.Child q.number) (v.at ∷ v.outer) h) (entered-BeginsAt app (step.Child q.number) v.at v.outer)
  turn_host_adds v w q _ h = λ s. nothing_added v.at.path [] s.views

  -- the steps into all views that a view shows, and to all instances on its hosts
  abbrev inner_steps : Visit → View → Node → List Step
  inner_steps v w q = steps (views_shown app v.at v.outer q.number q.form (value_of (Some w) q.number))

  abbrev all_steps : Visit → View → List Step
  all_steps v w = flat_map (inner_steps v w) (nodes_of v.at.nodes) ++ flat_map (λ q. host_steps q q.form) (nodes_of v.at.nodes)

  inner_apart : (v : Visit) (w : View) → HaveNumbers (v.at ∷ v.outer) → AllCounted w.values → Apart (flat_map (inner_steps v w) (nodes_of v.at.nodes))
  inner_apart v w h counted =
      nodes_apart GoesInto goes_once (inner_steps v w) (λ q. views_shown-AreSteps app v.at v.outer q.number q.form (value_of (Some w) q.number) (value_of-IsCounted w q.number counted))
      (nodes_of v.at.nodes) h.0.0 h.0.1 (nodes_of-Rising v.at.nodes h.0)

  hosts_apart : (v : Visit) → HaveNumbers (v.at ∷ v.outer) → Apart (flat_map (λ q. host_steps q q.form) (nodes_of v.at.nodes))
  hosts_apart v h = nodes_apart IsChild child_once (λ q. host_steps q q.form) (λ q. are_children q q.form) (nodes_of v.at.nodes) h.0.0 h.0.1 (nodes_of-Rising v.at.nodes h.0)

  all_apart : (v : Visit) (w : View) → HaveNumbers (v.at ∷ v.outer) → AllCounted w.values → Apart (all_steps v w)
  all_apart v w h counted =
      Apart-append (flat_map (inner_steps v w) (nodes_of v.at.nodes)) (flat_map (λ q. host_steps q q.form) (nodes_of v.at.nodes)) (inner_apart v w h counted) (hosts_apart v h)
      (λ x i j. let a = In-flat_map (inner_steps v w) (nodes_of v.at.nodes) x i in let b = In-flat_map (λ q. host_steps q q.form) (nodes_of v.at.nodes) x j in
      no_child a.0.number b.0.number x
      ((views_shown-AreSteps app v.at v.outer a.0.number a.0.form (value_of (Some w) a.0.number) (value_of-IsCounted w a.0.number counted)).0 x a.2)
      ((are_children b.0 b.0.form).0 x b.2))

  -- the visits of the views inside, and then the turns of the instances
  inside_adds : (v : Visit) (w : View) → HaveNumbers (v.at ∷ v.outer) → AllCounted w.values
      → Adds v.at.path (all_steps v w) (each (visit_node app old every marks visit v w) (nodes_of v.at.nodes) >> each (λ q. turn_host app old every marks visit v w q q.form) (nodes_of v.at.nodes))
  inside_adds v w h counted s = hosts_after (each blocks qs s).0 (each blocks qs s).1
      (each_added v.at.path blocks (inner_steps v w) (λ q. visit_node_adds v w q h counted) qs (inner_apart v w h counted) s)
    where
      qs : List Node
      qs = nodes_of v.at.nodes

      blocks : Node → Passing (Unit {0})
      blocks = visit_node app old every marks visit v w

      hosts : Node → Passing (Unit {0})
      hosts q = turn_host app old every marks visit v w q q.form

      hosts_after : (r : Result (Unit {0}) PassFault) (t : Pass) → Added v.at.path (flat_map (inner_steps v w) qs) s.views t.views → Added v.at.path (all_steps v w) s.views (and_then r t (λ _. each hosts qs)).1.views
      hosts_after (Ok u) t a =
          added_then v.at.path (flat_map (inner_steps v w) qs) (flat_map (λ q. host_steps q q.form) qs) s.views t.views (each hosts qs t).1.views (all_apart v w h counted) a
          (each_added v.at.path hosts (λ q. host_steps q q.form) (λ q. turn_host_adds v w q q.form h) qs (hosts_apart v h) t)
      hosts_after (Err e) t a = more_steps v.at.path (flat_map (inner_steps v w) qs) (all_steps v w) s.views t.views (λ x i. In-left (flat_map (inner_steps v w) qs) (flat_map (λ q. host_steps q q.form) qs) x i) a

  -- a view with those inside of it
  with_itself : (p : Trail) (w : View) (ss : List Step) (before after : List (Trail × View)) → AllCounted w.values → Added p ss (before ++ (p, w) ∷ []) after → Grown p before after
  with_itself p w ss before after counted a = record {
    more = (p, w) ∷ a.more;
    is = a.is ∙ append_assoc before ((p, w) ∷ []) a.more;
    apart = (λ i. let r = a.through p i in never_itself p r.0 r.2, a.apart);
    below = λ q i. elim i [
      | inl e ↦ ([], e)
      | inr j ↦ let r = a.through q j in (r.2.0 ++ r.0 ∷ [], r.2.1 ∙ sym (append_assoc r.2.0 (r.0 ∷ []) p))
    ];
    counted = (counted, a.counted);
    follows = λ known h. (h, a.follows (p ∷ known) (inl refl));
  }

  kept_counted : (was : Option View) (names : List (Text × Item)) → WasCounted was → AllCounted (unwrap_or was (empty_view names)).values
  kept_counted None names h = tt
  kept_counted (Some w) names h = h

  -- what a view is found to be is counted
  view_of_counted : (v : Visit) (was : Option View) → WasCounted was → (s : Pass) (w : View) → (view_of app old every marks v was s).0 ≡ Ok w → AllCounted w.values
  view_of_counted v was h s w e = by_due v.due e
    where
      by_due : (due : Bool)
          → (elim due as (λ _. Result View PassFault × Pass) [ true ↦ evaluate app v (names_seen s.views v.outer) (empty_view v.names) (nodes_of v.at.nodes) s | false ↦ (Ok (unwrap_or was (empty_view v.names)), s) ]).0 ≡ Ok w
          → AllCounted w.values
      by_due true d = evaluate-AllCounted app v (names_seen s.views v.outer) (nodes_of v.at.nodes) (empty_view v.names) s w tt d
      by_due false d = subst (λ (u : View). AllCounted u.values) (let k : unwrap_or was (empty_view v.names) ≡ w = cc in k) (kept_counted was v.names h)

  -- A visit grows the view and those inside of it.
  visit_grows : (v : Visit) → HaveNumbers (v.at ∷ v.outer) → WasCounted (view_at v.at.path old.views) → Grows v.at.path (visit_view app old every marks visit v)
  visit_grows v h was_counted =
      let was = view_at v.at.path old.views in
      let rest : View → Passing (Unit {0}) = λ w. each (visit_node app old every marks visit v w) (nodes_of v.at.nodes) >> each (λ q. turn_host app old every marks visit v w q q.form) (nodes_of v.at.nodes) in
      let push : View → Passing (Unit {0}) = λ w. change (λ s. record s { views = s.views ++ (v.at.path, w) ∷ [] }) in
      keeps_grows v.at.path (if is_none was then each (make_node app v) (nodes_of v.at.nodes) else pure tt) (λ _. view_of app old every marks v was >>= (λ w. push w >> rest w))
      (make_nodes-Keeps app v (is_none was) (nodes_of v.at.nodes))
      (λ _. found_grows (λ w. AllCounted w.values) v.at.path (view_of app old every marks v was) (λ w. push w >> rest w) (view_of-Keeps app old every marks v was) (view_of_counted v was was_counted)
      (λ w counted s. with_itself v.at.path w (all_steps v w) s.views (rest w (record s { views = s.views ++ (v.at.path, w) ∷ [] })).1.views counted
      (inside_adds v w h counted (record s { views = s.views ++ (v.at.path, w) ∷ [] }))))

-- ---- a pass

-- The tree grows, from a tree whose rows are counted.
pub grow-Grows : (app : App) (old : Tree) (every : Bool) (marks : Marks) → ViewsCounted old.views → (n : ℕ) (v : Visit) → HaveNumbers (v.at ∷ v.outer) → Grows v.at.path (grow app old every marks n v)
unfolding grow
grow-Grows app old every marks counted zero v h s = nothing_grown v.at.path s.views
grow-Grows app old every marks counted (suc n) v h s =
    visit_grows app old every marks (grow app old every marks n) (grow-Grows app old every marks counted n) v h (found_counted v.at.path old.views counted) s

root_grows : (app : App) (old : Tree) (every : Bool) (marks : Marks) → ViewsCounted old.views → (os : Outlines) → HaveNumbers os → BeginsAt [] os → Grows [] (grow_root app old every marks os)
root_grows app old every marks counted [] h b s = nothing_grown [] s.views
root_grows app old every marks counted (o ∷ outer) h b s =
    let here = own_spot [] o.component o.component.place in
    keeps_grows [] (if is_none (view_at [] old.views) then make here >> bear_instance app [] o.component else pure tt) (λ _. turn app old every marks (grow app old every marks 64) o [] true here)
    (make_root-Keeps app (is_none (view_at [] old.views)) here o.component)
    (λ _ t. subst (λ (x : Trail). Grown x t.views (turn app old every marks (grow app old every marks 64) o [] true here t).1.views) b
    (turn_grows app old every marks (grow app old every marks 64) (grow-Grows app old every marks counted 64) o [] true here (h.0, tt) t)) s

-- No path of a view stands twice, and each stands behind that of the view in which the view stands.
pub record IsInOrder (views : List (Trail × View)) : Type 0 where
  pub apart : Apart (paths views)
  pub follows : Follows [] (paths views)

in_order : (views : List (Trail × View)) → Grown [] [] views → IsInOrder views × ViewsCounted views
in_order views g =
    let whole : g.more ≡ views = sym g.is in
    subst (λ v. IsInOrder v × ViewsCounted v) whole (record { apart = g.apart; follows = g.follows [] tt }, g.counted)

pub root_begins : (app : App) (c : Option Component) → BeginsAt [] (root_view app c)
root_begins app None = tt
root_begins app (Some c) = refl

-- A pass over a tree whose rows are counted leaves a tree that is in order, and whose rows are counted.
pub pass-IsInOrder : (app : App) (every : Bool) (marks : Marks) (z : State) (p : Passed) → ViewsCounted z.tree.views → pass app every marks z ≡ Ok p → IsInOrder p.state.tree.views × ViewsCounted p.state.tree.views
unfolding pass
pass-IsInOrder app every marks z p counted e =
    let os = root_view app (root_component app) in
    let r = grow_root app z.tree every marks os (begun z.world) in
    let q : p ≡ passed r.1 = left_by r.0 r.1 p e in
    subst (λ (t : Passed). IsInOrder t.state.tree.views × ViewsCounted t.state.tree.views) (sym q)
    (in_order r.1.views (root_grows app z.tree every marks counted os (root_view-HaveNumbers app (root_component app)) (root_begins app (root_component app)) (begun z.world)))
