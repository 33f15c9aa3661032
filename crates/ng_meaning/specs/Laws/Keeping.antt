-- The steps of a pass that leave the views as they are.
use Rattle.std.specs.Prelude.{◌≡◌, ℕ, ◌+◌, nat_lt, Bool, true, false, if◌then◌else◌, List, [], ◌∷◌, ◌++◌, length, unwrap_or, Option, Some, None, Result, Ok, Err, refl}
use Rattle.std.specs.List.{filter_map}
use Rattle.std.proofs.Common.{◌∙◌}
use Rattle.ng_values.specs.declared.value.Value.{Value}
use Rattle.ng_values.specs.declared.value.Value.TheVariants as val
use Rattle.ng_values.specs.View.{value_of as item_value}
use Rattle.ng_ast.specs.declared.App.{App}
use Rattle.ng_ast.specs.declared.AttrForm.{AttrForm}
use Rattle.ng_ast.specs.declared.AttrForm.TheVariants as form
use Rattle.ng_ast.specs.declared.Component.{Component}
use Rattle.ng_ast.specs.declared.ForHead.{ForHead}
use Rattle.ng_ast.specs.declared.Member.{Member}
use Rattle.ng_ast.specs.declared.MemberKind.{MemberKind}
use Rattle.ng_ast.specs.declared.MemberKind.TheVariants as kind
use Rattle.ng_ast.specs.declared.Place.{Place}
use Rattle.ng_ast.specs.declared.TAttr.{TAttr}
use Rattle.ng_values.specs.declared.plain.Plain.{Plain}
use Rattle.ng_tree.specs.declared.Item.{Item}
use Rattle.ng_tree.specs.declared.Site.{Site}
use Rattle.ng_tree.specs.declared.Step.TheVariants as step
use Rattle.ng_meaning.specs.Steps.{and_then, ◌>>=◌, ◌>>◌, pure, change, each, all}
use Rattle.ng_meaning.specs.Lists.{Text}
use Rattle.ng_meaning.specs.World.{Read, value_or_null, written, given, born}
use Rattle.ng_meaning.specs.Template.{Form, Element, Host, NgContent, NgContainer, NgTemplate, TextNode, If, For, Switch, Let, Node, nodes_of}
use Rattle.ng_meaning.specs.Expressions.{Scope, Meaning, mean_value, most_calls, interpolated}
use Rattle.ng_meaning.specs.Injection.{resolved}
use Rattle.ng_meaning.specs.Same.{same_value}
use Rattle.ng_meaning.specs.Places.{Trail, instance_at}
use Rattle.ng_meaning.specs.Tree.{Marks, BoundValues, TextValue, Choice, RowList, LetValue, View, empty_view, Row, Tree, names_seen}
use Rattle.ng_turns.specs.declared.Spot.{Spot}
use Rattle.ng_turns.specs.declared.PassFault.{PassFault}
use Rattle.ng_turns.specs.declared.PassFault.TheVariants.{TooManyNodes}
use Rattle.ng_meaning.specs.Bindings.{Pass, Passing, spot, Visit, binding, bound_to, first_place, with_attribute, having, if_head, default_branch, switch_head, items_of, outlet_shown, context_value, bound_value, bound_values, track_value, rows_from, outlet_part, outlet_value, evaluated, with_node, evaluate}
use Rattle.ng_meaning.specs.Passes.{is_page_node, make, own_spot, setting, inject, bear_instance, make_instance, make_node, set_inputs, start, enter, view_of}

-- a step leaves the views as they are, whether it ends in a fault or not
abbrev pub Keeps : {A : Type 0} → Passing A → Type 0
Keeps m = (s : Pass) → (m s).1.views ≡ s.views

module _ {A B : Type 0} where
  keeps_then : (r : Result A PassFault) (s : Pass) (f : A → Passing B) → ((a : A) → Keeps (f a)) → (and_then r s f).1.views ≡ s.views
  keeps_then (Ok a) s f h = h a s
  keeps_then (Err e) s f h = refl

  pub keeps_bind : (m : Passing A) (f : A → Passing B) → Keeps m → ((a : A) → Keeps (f a)) → Keeps (m >>= f)
  keeps_bind m f k h s = keeps_then (m s).0 (m s).1 f h ∙ k s

pub keeps_if : {A : Type 0} (b : Bool) (m n : Passing A) → Keeps m → Keeps n → Keeps (if b then m else n)
keeps_if true m n h k = h
keeps_if false m n h k = k

pub keeps_each : {A : Type 0} (f : A → Passing (Unit {0})) → ((a : A) → Keeps (f a)) → (xs : List A) → Keeps (each f xs)
keeps_each f h [] s = refl
keeps_each f h (x ∷ xs) s = keeps_bind (f x) (λ _. each f xs) (h x) (λ _. keeps_each f h xs) s

pub keeps_all : {A B : Type 0} (f : A → Passing B) → ((a : A) → Keeps (f a)) → (xs : List A) → Keeps (all f xs)
keeps_all f h [] s = refl
keeps_all f h (x ∷ xs) s = keeps_bind (f x) (λ b. all f xs >>= (λ bs. pure (b ∷ bs))) (h x) (λ b. keeps_bind (all f xs) (λ bs. pure (b ∷ bs)) (keeps_all f h xs) (λ bs t. refl)) s

-- either of two ends
either_end : {A : Type 0} (b : Bool) (x y : Result A PassFault × Pass) (views : List (Trail × View)) → x.1.views ≡ views → y.1.views ≡ views → (elim b as (λ _. Result A PassFault × Pass) [ true ↦ x | false ↦ y ]).1.views ≡ views
either_end true x y views h k = h
either_end false x y views h k = k

-- ---- the nodes of a new view

make_keeps : (w : Spot) → Keeps (make w)
make_keeps w s = either_end (nat_lt s.made 50000) (Ok tt, record s { made = s.made + 1 }) (Err (TooManyNodes w), record s { made = s.made + 1 }) s.views refl refl

inject_keeps : (app : App) (p : Trail) (c : Component) (m : Member) (k : MemberKind) → Keeps (inject app p c m k)
inject_keeps app p c m (kind.Inject token flags) =
    keeps_bind (setting (own_spot p c m.place) (resolved app (Some (instance_at p)) token flags)) (λ i. change (λ s. record s { world = given (instance_at p) m.name i s.world })) (λ s. refl) (λ i s. refl)
inject_keeps app p c m _ = λ s. refl

bear_keeps : (app : App) (p : Trail) (c : Component) → Keeps (bear_instance app p c)
bear_keeps app p c = keeps_bind (change (λ s. record s { world = born (instance_at p) c.members [] s.world })) (λ _. each (λ m. inject app p c m m.kind) c.members) (λ s. refl)
    (λ _. keeps_each (λ m. inject app p c m m.kind) (λ m. inject_keeps app p c m m.kind) c.members)

instance_keeps : (app : App) (p : Trail) (n : ℕ) (f : Form) → Keeps (make_instance app p n f)
instance_keeps app p n (Host c tag attrs nodes) = bear_keeps app (step.Child n ∷ p) c
instance_keeps app p n _ = λ s. refl

node_keeps : (app : App) (v : Visit) (q : Node) → Keeps (make_node app v q)
node_keeps app v q =
    keeps_bind (if is_page_node q.form then make (spot v q.place) else pure tt) (λ _. make_instance app v.at.path q.number q.form)
    (keeps_if (is_page_node q.form) (make (spot v q.place)) (pure tt) (make_keeps (spot v q.place)) (λ s. refl)) (λ _. instance_keeps app v.at.path q.number q.form)

-- The making of a new view's nodes keeps the views.
pub make_nodes-Keeps : (app : App) (v : Visit) (b : Bool) (qs : List Node) → Keeps (if b then each (make_node app v) qs else pure tt)
make_nodes-Keeps app v b qs = keeps_if b (each (make_node app v) qs) (pure tt) (keeps_each (make_node app v) (node_keeps app v) qs) (λ s. refl)

-- The making of the root's host keeps the views.
pub make_root-Keeps : (app : App) (b : Bool) (w : Spot) (c : Component) → Keeps (if b then make w >> bear_instance app [] c else pure tt)
make_root-Keeps app b w c =
    keeps_if b (make w >> bear_instance app [] c) (pure tt) (keeps_bind (make w) (λ _. bear_instance app [] c) (make_keeps w) (λ _. bear_keeps app [] c)) (λ s. refl)

-- ---- what nodes evaluate

module _ (app : App) (v : Visit) (names : List (Text × Item)) where
  binding_keeps : {A : Type 0} (p : Place) (m : Scope → Meaning A) → Keeps (binding app v names p m)
  binding_keeps p m s = refl

  bound_keeps : (a : TAttr) (f : AttrForm) → Keeps (bound_value app v names a f)
  bound_keeps a (form.Joined ps) = keeps_bind (binding app v names (first_place a.place ps) (λ s. interpolated s ps)) (λ t. with_attribute a (val.Text t)) (λ s. refl) (λ t s. refl)
  bound_keeps a (form.Property e) = keeps_bind (bound_to app v names a.place e) (with_attribute a) (λ s. refl) (λ t s. refl)
  bound_keeps a (form.Attribute e) = keeps_bind (bound_to app v names a.place e) (with_attribute a) (λ s. refl) (λ t s. refl)
  bound_keeps a (form.Class e) = keeps_bind (bound_to app v names a.place e) (with_attribute a) (λ s. refl) (λ t s. refl)
  bound_keeps a (form.Style unit e) = keeps_bind (bound_to app v names a.place e) (with_attribute a) (λ s. refl) (λ t s. refl)
  bound_keeps a _ = λ s. refl

  all_bound_keep : (attrs : List TAttr) → Keeps (bound_values app v names attrs)
  all_bound_keep attrs =
      keeps_bind (all (λ a. bound_value app v names a a.form) attrs) (λ bs. pure (BoundValues (filter_map (λ b. b) bs))) (keeps_all (λ a. bound_value app v names a a.form) (λ a. bound_keeps a a.form) attrs) (λ bs s. refl)

  rows_keep : (p : Place) (head : ForHead) (ds : List Plain) (rows : List Row) → Keeps (rows_from app v p head rows ds)
  rows_keep p head [] rows s = refl
  rows_keep p head (d ∷ ds) rows s =
      keeps_bind (track_value app v p head (length rows) (item_value d)) (λ k. rows_from app v p head (rows ++ record { key = k; nth = having k rows; item = item_value d } ∷ []) ds) (λ t. refl)
      (λ k. rows_keep p head ds (rows ++ record { key = k; nth = having k rows; item = item_value d } ∷ [])) s

  part_keeps : (a : TAttr) (f : AttrForm) (t : Option ℕ) (w : Value) → Keeps (outlet_part app v names a f t w)
  part_keeps a (form.Outlet o) t w = keeps_bind (binding app v names a.place (outlet_shown (v.at ∷ v.outer) o)) (λ u. pure (u, w)) (λ s. refl) (λ u s. refl)
  part_keeps a (form.Context e) t w = keeps_bind (binding app v names a.place (λ s. mean_value most_calls s e >>= context_value)) (λ x. pure (t, x)) (λ s. refl) (λ u s. refl)
  part_keeps a _ t w = λ s. refl

  outlet_keeps : (attrs : List TAttr) (t : Option ℕ) (w : Value) → Keeps (outlet_value app v names attrs t w)
  outlet_keeps [] t w s = refl
  outlet_keeps (a ∷ attrs) t w s = keeps_bind (outlet_part app v names a a.form t w) (λ r. outlet_value app v names attrs r.0 r.1) (part_keeps a a.form t w) (λ r. outlet_keeps attrs r.0 r.1) s

  evaluated_keeps : (p : Place) (f : Form) → Keeps (evaluated app v names p f)
  evaluated_keeps p (TextNode ps) = keeps_bind (binding app v names (first_place p ps) (λ s. interpolated s ps)) (λ t. pure (TextValue t)) (λ s. refl) (λ t s. refl)
  evaluated_keeps p (Element tag attrs nodes) = all_bound_keep attrs
  evaluated_keeps p (Host c tag attrs nodes) = all_bound_keep attrs
  evaluated_keeps p (If bs) = keeps_bind (binding app v names p (if_head 0 bs)) (λ c. pure (Choice c)) (λ s. refl) (λ t s. refl)
  evaluated_keeps p (Switch e bs) = keeps_bind (binding app v names p (switch_head e (default_branch 0 bs) 0 bs)) (λ c. pure (Choice c)) (λ s. refl) (λ t s. refl)
  evaluated_keeps p (For head nodes empty) =
      keeps_bind (binding app v names p (λ s. mean_value most_calls s head.list >>= items_of)) (λ ds. rows_from app v p head [] ds >>= (λ rows. pure (RowList rows))) (λ s. refl)
      (λ ds. keeps_bind (rows_from app v p head [] ds) (λ rows. pure (RowList rows)) (rows_keep p head ds []) (λ rows s. refl))
  evaluated_keeps p (Let name e) = keeps_bind (bound_to app v names p e) (λ w. pure (LetValue w)) (λ s. refl) (λ t s. refl)
  evaluated_keeps p (NgContainer attrs nodes) = outlet_keeps attrs None val.Null
  evaluated_keeps p (NgContent attrs nodes) = λ s. refl
  evaluated_keeps p (NgTemplate attrs nodes) = λ s. refl

evaluate_keeps : (app : App) (v : Visit) (outer : List (Text × Item)) (qs : List Node) (sofar : View) → Keeps (evaluate app v outer sofar qs)
evaluate_keeps app v outer [] sofar s = refl
evaluate_keeps app v outer (q ∷ qs) sofar s =
    keeps_bind (evaluated app v (sofar.names ++ outer) q.place q.form) (λ value. evaluate app v outer (with_node v.at.path q value sofar) qs) (evaluated_keeps app v (sofar.names ++ outer) q.place q.form)
    (λ value. evaluate_keeps app v outer qs (with_node v.at.path q value sofar)) s

-- What a view is found to be keeps the views.
pub view_of-Keeps : (app : App) (old : Tree) (every : Bool) (marks : Marks) (v : Visit) (was : Option View) → Keeps (view_of app old every marks v was)
view_of-Keeps app old every marks v was s =
    either_end v.due (evaluate app v (names_seen s.views v.outer) (empty_view v.names) (nodes_of v.at.nodes) s) (Ok (unwrap_or was (empty_view v.names)), s) s.views
    (evaluate_keeps app v (names_seen s.views v.outer) (nodes_of v.at.nodes) (empty_view v.names) s) refl

-- ---- the turn of an instance

-- The setting of inputs keeps the views.
pub set_inputs-Keeps : (at : Site) (is : List (Text × Value)) (differs : Bool) → Keeps (set_inputs at is differs)
set_inputs-Keeps at [] differs s = refl
set_inputs-Keeps at (i ∷ is) differs s =
    either_end (same_value (value_or_null s.world at i.0) i.1) (set_inputs at is differs s) (set_inputs at is true (record s { world = written at i.0 i.1 s.world })) s.views
    (set_inputs-Keeps at is differs s) (set_inputs-Keeps at is true (record s { world = written at i.0 i.1 s.world }))

-- The `init` of a new instance keeps the views.
pub start-Keeps : (app : App) (b : Bool) (p : Trail) (c : Component) → Keeps (if b then start app p c else pure tt)
start-Keeps app b p c = keeps_if b (start app p c) (pure tt) (λ s. refl) (λ s. refl)

-- The entry of an instance keeps the views.
pub enter-Keeps : (app : App) (old : Tree) (every : Bool) (marks : Marks) (p : Trail) (was : Option (List Read)) (due : Bool) → Keeps (enter app old every marks p was due)
enter-Keeps app old every marks p was true s = refl
enter-Keeps app old every marks p was false s = refl
