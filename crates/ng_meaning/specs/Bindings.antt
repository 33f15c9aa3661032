-- What the nodes of a view evaluate in a pass, and the views that they show.
use Rattle.std.specs.Prelude.{ℕ, suc, ◌+◌, ◌%◌, pos, Bool, true, false, nat_eq, if◌then◌else◌, List, [], ◌∷◌, ◌++◌, map, length, Option, Some, None, Result, Ok, Err, codes, bytes_eq, filter, find, unwrap_or}
use Rattle.std.specs.List.{filter_map, list_any}
use Rattle.std.specs.Map.{lookup}
use Rattle.ng_values.specs.declared.plain.Plain.{Plain}
use Rattle.ng_values.specs.declared.value.Value.{Value}
use Rattle.ng_values.specs.declared.value.Value.TheVariants as val
use Rattle.ng_values.specs.declared.fault.Fault.{Fault}
use Rattle.ng_values.specs.declared.fault.Fault.TheVariants.{WrongKind}
use Rattle.ng_values.specs.Kinds.{truth}
use Rattle.ng_values.specs.Parts.{value_at as member_at}
use Rattle.ng_values.specs.View.{value_of as item_value}
use Rattle.ng_ast.specs.declared.App.{App}
use Rattle.ng_ast.specs.declared.Place.{Place}
use Rattle.ng_ast.specs.declared.Binary.TheVariants as binary
use Rattle.ng_ast.specs.declared.Expr.{Expr}
use Rattle.ng_ast.specs.declared.Piece.{Piece}
use Rattle.ng_ast.specs.declared.Piece.TheVariants as piece
use Rattle.ng_ast.specs.declared.OutletForm.{OutletForm, out-OutletForm, size-OutletForm}
use Rattle.ng_ast.specs.declared.OutletForm.TheOpen.{OutletForm-F}
use Rattle.ng_ast.specs.declared.AttrForm.{AttrForm}
use Rattle.ng_ast.specs.declared.AttrForm.TheVariants as form
use Rattle.ng_ast.specs.declared.TAttr.{TAttr}
use Rattle.ng_ast.specs.declared.ForHead.{ForHead}
use Rattle.ng_tree.specs.declared.Step.{Step}
use Rattle.ng_tree.specs.declared.Step.TheVariants as step
use Rattle.ng_tree.specs.declared.Item.{Item}
use Rattle.ng_tree.specs.declared.Item.TheVariants as item
use Rattle.ng_turns.specs.declared.Spot.{Spot}
use Rattle.ng_turns.specs.declared.PassFault.{PassFault}
use Rattle.ng_turns.specs.declared.PassFault.TheVariants.{InView}
use Rattle.ng_meaning.specs.Steps.{Steps, ◌>>=◌, pure, fail, get, all}
use Rattle.ng_meaning.specs.Levels.{whole}
use Rattle.ng_meaning.specs.Lists.{Text, look, change_at}
use Rattle.ng_meaning.specs.Same.{same_value, same_path}
use Rattle.ng_meaning.specs.World.{World, Read, value_or_null}
use Rattle.ng_meaning.specs.Expressions.{Scope, Meaning, need, combined, mean, mean_value, interpolated, only, most_calls}
use Rattle.ng_meaning.specs.Template.{Form, Element, Host, NgContent, NgContainer, NgTemplate, TextNode, If, For, Switch, Let, Nodes, node, Branches, no_branches, branch, Node, nodes_of, node_at, branch_name, attributes}
use Rattle.ng_meaning.specs.Places.{Trail, path_of, Outline, Outlines, instance_at, node_site}
use Rattle.ng_meaning.specs.Projection.{is_filled}
use Rattle.ng_meaning.specs.Tree.{Row, NodeValue, BoundValues, TextValue, Choice, RowList, LetValue, OutletValue, NoValue, View}

-- ---- a pass

-- A pass so far: what the application holds, how many page nodes were made, the views and the instances that were visited, and the instances that
-- were checked.
pub record Pass : Type 0 where
  pub world : World
  pub made : ℕ
  pub views : List (Trail × View)
  pub instances : List (Trail × List Read)
  pub checked : List Trail

-- a step of a pass
abbrev pub Passing : Type 0 → Type 0
Passing = Steps Pass PassFault

-- a view that is visited: what the templates say of it and of the views whose names it sees, the names of its head, whether its unit is checked, and
-- the spot at which it is entered
pub record Visit : Type 0 where
  pub at : Outline
  pub outer : Outlines
  pub names : List (Text × Item)
  pub due : Bool
  pub enter : Spot

-- a place in a view
abbrev pub spot : Visit → Place → Spot
spot v p = record { place = p; component = v.at.component.name; path = path_of v.at.path }

-- a fault with its spot
abbrev pub at_spot : {A : Type 0} → Result A Fault → Spot → Result A PassFault
at_spot (Ok a) w = Ok a
at_spot (Err f) w = Err (InView f w)

-- the signals that an instance read
abbrev pub reads_of : Trail → List (Trail × List Read) → List Read
reads_of p is = unwrap_or (lookup (same_path p) is) []

-- the signals that an instance read noted
abbrev pub with_reads : Trail → List Read → Pass → Pass
with_reads p rs s = record s { instances = change_at (same_path p) (λ _. rs) s.instances }

-- ---- bindings

-- the scope of a binding of a view, where it sees these names
abbrev pub binding_scope : App → Visit → List (Text × Item) → World → Scope
binding_scope app v names world = record { app = app; world = world; names = names; own = Some (instance_at v.at.unit); found = λ _ _. [] }

-- A binding. Its calls are counted from 0, what it reads is added to what its instance read, and its fault has the place of the binding.
abbrev pub binding : {A : Type 0} → App → Visit → List (Text × Item) → Place → (Scope → Meaning A) → Passing A
binding app v names p m = λ s.
    let r = m (binding_scope app v names s.world) (record { calls = 0; reads = reads_of v.at.unit s.instances }) in
    (at_spot r.0 (spot v p), with_reads v.at.unit r.1.reads s)

-- the same for an expression whose value is needed
abbrev pub bound_to : App → Visit → List (Text × Item) → Place → Expr → Passing Value
bound_to app v names p e = binding app v names p (λ s. mean_value most_calls s e)

-- the place of the first interpolation, by which a text or an attribute is found
abbrev pub first_place : Place → List Piece → Place
first_place p [] = p
first_place p (piece.Text t ∷ ps) = first_place p ps
first_place p (piece.Value q e ∷ ps) = q

-- a bound attribute with its value
abbrev pub with_attribute : TAttr → Value → Passing (Option (TAttr × Value))
with_attribute a w = pure (Some (a, w))

-- The value of a bound attribute. `[(x)]="y"` binds the field y.
abbrev pub bound_value : App → Visit → List (Text × Item) → TAttr → AttrForm → Passing (Option (TAttr × Value))
bound_value app v names a (form.Joined ps) = binding app v names (first_place a.place ps) (λ s. interpolated s ps) >>= (λ t. with_attribute a (val.Text t))
bound_value app v names a (form.Property e) = bound_to app v names a.place e >>= with_attribute a
bound_value app v names a (form.Attribute e) = bound_to app v names a.place e >>= with_attribute a
bound_value app v names a (form.Class e) = bound_to app v names a.place e >>= with_attribute a
bound_value app v names a (form.Style unit e) = bound_to app v names a.place e >>= with_attribute a
bound_value app v names a (form.Both y) = get >>= (λ s. with_attribute a (value_or_null s.world (instance_at v.at.unit) y))
bound_value app v names a _ = pure None

-- the values of all bound attributes, in attribute order
abbrev pub bound_values : App → Visit → List (Text × Item) → List TAttr → Passing NodeValue
bound_values app v names attrs = all (λ a. bound_value app v names a a.form) attrs >>= (λ bs. pure (BoundValues (filter_map (λ b. b) bs)))

-- ---- heads of blocks, each of which is one binding

-- the first branch whose condition is truthy, with the condition's value; a branch without a condition is the `@else`
abbrev pub if_head : ℕ → Branches → Scope → Meaning (Option (ℕ × Value))
if_head n no_branches s = pure None
if_head n (branch None name nodes bs) s = pure (Some (n, val.Null))
if_head n (branch (Some e) name nodes bs) s = mean_value most_calls s e >>= (λ w. if truth w then pure (Some (n, w)) else if_head (suc n) bs s)

-- the branch without a case, which is the `@default`
abbrev pub default_branch : ℕ → Branches → Option (ℕ × Value)
default_branch n no_branches = None
default_branch n (branch None name nodes bs) = Some (n, val.Null)
default_branch n (branch (Some e) name nodes bs) = default_branch (suc n) bs

-- whether `e == c`, both evaluated anew
abbrev pub is_case : Scope → Expr → Expr → Meaning Bool
is_case s e c = combined binary.Eq (mean most_calls s e) (mean most_calls s c) >>= need >>= (λ w. pure (truth w))

-- the first case that is equal to the value, else the one that is given
abbrev pub switch_head : Expr → Option (ℕ × Value) → ℕ → Branches → Scope → Meaning (Option (ℕ × Value))
switch_head e default n no_branches s = pure default
switch_head e default n (branch None name nodes bs) s = switch_head e default (suc n) bs s
switch_head e default n (branch (Some c) name nodes bs) s = is_case s e c >>= (λ t. if t then pure (Some (n, val.Null)) else switch_head e default (suc n) bs s)

-- the items of a list; null has none
abbrev pub items_of : Value → Meaning (List Plain)
items_of val.Null = pure []
items_of (val.List ds) = pure ds
items_of _ = fail WrongKind

-- a number as an item
abbrev pub number_item : ℕ → Item
number_item n = item.Value (val.Int (pos n))

-- a truth value as an item
abbrev pub truth_item : Bool → Item
truth_item b = item.Value (val.Bool b)

-- the names that a track expression sees: the row variable and `$index`
abbrev pub track_names : ForHead → ℕ → Value → List (Text × Item)
track_names head i w = (head.row, item.Value w) ∷ (codes "$index", number_item i) ∷ []

-- the track value of a row, which is a binding of its own; the rules refuse a `@for` without a track expression
abbrev pub track_value : App → Visit → Place → ForHead → ℕ → Value → Passing Value
track_value app v p head i w = binding app v [] p (λ s. mean_value most_calls (only s (track_names head i w)) (unwrap_or head.track head.list))

-- how many rows have a track value
abbrev pub having : Value → List Row → ℕ
having k rows = length (filter (λ r. same_value k r.key) rows)

-- the rows of a list, of which some are there already
abbrev pub rows_from : App → Visit → Place → ForHead → List Row → List Plain → Passing (List Row)
rows_from app v p head rows [] = pure rows
rows_from app v p head rows (d ∷ ds) = do
  k ← track_value app v p head (length rows) (item_value d)
  rows_from app v p head (rows ++ record { key = k; nth = having k rows; item = item_value d } ∷ []) ds

-- ---- outlets

-- whether an attribute is a reference
abbrev pub is_reference : AttrForm → Bool
is_reference form.Reference = true
is_reference _ = false

-- whether there is a reference of this name
abbrev pub has_reference : Text → List TAttr → Bool
has_reference name = list_any (λ a. if is_reference a.form then bytes_eq name a.name else false)

-- whether a node is the `ng-template` with this reference
abbrev pub is_template_named : Text → Form → Bool
is_template_named name (NgTemplate attrs nodes) = has_reference name attrs
is_template_named name _ = false

-- the number of the nearest `ng-template` with this reference
abbrev pub template_named : Text → Outlines → Option ℕ
template_named name [] = None
template_named name (o ∷ outer) = elim (find (λ q. is_template_named name q.form) (nodes_of o.nodes)) [ Some q ↦ Some q.number | None ↦ template_named name outer ]

-- one level of what an outlet shows
abbrev pub outlet_layer : Outlines → (OutletForm → Scope → Meaning (Option ℕ)) → OutletForm-F OutletForm → Scope → Meaning (Option ℕ)
outlet_layer os inner OutletForm-F.Null s = pure None
outlet_layer os inner (OutletForm-F.Name p name) s = pure (template_named name os)
outlet_layer os inner (OutletForm-F.Choose p c a b) s = mean_value most_calls s c >>= (λ w. if truth w then inner a s else inner b s)

-- the `ng-template` that an outlet shows, by its number
abbrev pub outlet_shown : Outlines → OutletForm → Scope → Meaning (Option ℕ)
outlet_shown os = whole out-OutletForm size-OutletForm (λ s. pure None) (outlet_layer os)

-- a context is null or a record
abbrev pub context_value : Value → Meaning Value
context_value val.Null = pure val.Null
context_value (val.Rec ps) = pure (val.Rec ps)
context_value _ = fail WrongKind

-- what an attribute of an `ng-container` adds to the template and the context
abbrev pub outlet_part : App → Visit → List (Text × Item) → TAttr → AttrForm → Option ℕ → Value → Passing (Option ℕ × Value)
outlet_part app v names a (form.Outlet o) t w = binding app v names a.place (outlet_shown (v.at ∷ v.outer) o) >>= (λ u. pure (u, w))
outlet_part app v names a (form.Context e) t w = binding app v names a.place (λ s. mean_value most_calls s e >>= context_value) >>= (λ x. pure (t, x))
outlet_part app v names a _ t w = pure (t, w)

-- the template and the context of an `ng-container`, in attribute order
abbrev pub outlet_value : App → Visit → List (Text × Item) → List TAttr → Option ℕ → Value → Passing NodeValue
outlet_value app v names [] t w = pure (OutletValue t w)
outlet_value app v names (a ∷ rest) t w = outlet_part app v names a a.form t w >>= (λ r. outlet_value app v names rest r.0 r.1)

-- ---- the nodes of a view

-- what a node evaluates, where its bindings see these names
abbrev pub evaluated : App → Visit → List (Text × Item) → Place → Form → Passing NodeValue
evaluated app v names p (TextNode ps) = binding app v names (first_place p ps) (λ s. interpolated s ps) >>= (λ t. pure (TextValue t))
evaluated app v names p (Element tag attrs nodes) = bound_values app v names attrs
evaluated app v names p (Host c tag attrs nodes) = bound_values app v names attrs
evaluated app v names p (If bs) = binding app v names p (if_head 0 bs) >>= (λ c. pure (Choice c))
evaluated app v names p (Switch e bs) = binding app v names p (switch_head e (default_branch 0 bs) 0 bs) >>= (λ c. pure (Choice c))
evaluated app v names p (For head nodes empty) = do
  ds ← binding app v names p (λ s. mean_value most_calls s head.list >>= items_of)
  rows ← rows_from app v p head [] ds
  pure (RowList rows)
evaluated app v names p (Let name e) = bound_to app v names p e >>= (λ w. pure (LetValue w))
evaluated app v names p (NgContainer attrs nodes) = outlet_value app v names attrs None val.Null
evaluated app v names p _ = pure NoValue

-- the name of a reference, which gives the site of its node
abbrev pub reference_name : Item → TAttr → AttrForm → Option (Text × Item)
reference_name i a form.Reference = Some (a.name, i)
reference_name i a _ = None

-- the names that a node adds to its view: its references, or that of an `@let`
abbrev pub names_of_node : Trail → ℕ → Form → NodeValue → List (Text × Item)
names_of_node p n (Let name e) (LetValue w) = (name, item.Value w) ∷ []
names_of_node p n f value = filter_map (λ a. reference_name (item.Site (node_site p n f)) a a.form) (attributes f)

-- a view with one more node
abbrev pub with_node : Trail → Node → NodeValue → View → View
with_node p q value w = record { names = w.names ++ names_of_node p q.number q.form value; values = w.values ++ (q.number, value) ∷ [] }

-- the nodes of a view evaluated in template order, where some are done; each sees the names that are there by then, and those from outside
abbrev pub evaluate : App → Visit → List (Text × Item) → View → List Node → Passing View
evaluate app v outer sofar [] = pure sofar
evaluate app v outer sofar (q ∷ qs) = evaluated app v (sofar.names ++ outer) q.place q.form >>= (λ value. evaluate app v outer (with_node v.at.path q value sofar) qs)

-- ---- the views that a node shows

-- a view that a node shows: the step into it, and the names of its head
abbrev pub Shown : Type 0
Shown = Step × List (Text × Item)

-- the name after `as` with the condition's value
abbrev pub as_name : Option Text → Value → List (Text × Item)
as_name None w = []
as_name (Some name) w = (name, item.Value w) ∷ []

-- the variables that a row has of itself: `$index` counts from 0, and the others follow from it and the number of rows
abbrev pub row_variables : ℕ → ℕ → List (Text × Item)
row_variables i total =
    (codes "$index", number_item i) ∷ (codes "$count", number_item total) ∷ (codes "$first", truth_item (nat_eq i 0)) ∷ (codes "$last", truth_item (nat_eq (i + 1) total))
    ∷ (codes "$even", truth_item (nat_eq (i % 2) 0)) ∷ (codes "$odd", truth_item (nat_eq (i % 2) 1)) ∷ []

-- the names of a row: its variable, those that `let` gives to the row's own variables, and these themselves
abbrev pub row_names : ForHead → ℕ → ℕ → Value → List (Text × Item)
row_names head i total w =
    let own = row_variables i total in
    (head.row, item.Value w) ∷ map (λ q. (q.0, unwrap_or (look q.1 own) (item.Value val.Null))) head.vars ++ own

-- rows from one on, of a number in all
abbrev pub rows_shown : ℕ → ForHead → ℕ → ℕ → List Row → List Shown
rows_shown n head total i [] = []
rows_shown n head total i (r ∷ rs) = (step.Row n r.key r.nth, row_names head i total r.item) ∷ rows_shown n head total (suc i) rs

-- the rows, or the `@empty` where there are none
abbrev pub for_shown : ℕ → ForHead → Branches → List Row → List Shown
for_shown n head no_branches [] = []
for_shown n head (branch test name nodes bs) [] = (step.Branch n 0, []) ∷ []
for_shown n head empty rows = rows_shown n head (length rows) 0 rows

-- the member of a context, and null where there is none
abbrev pub context_member : Value → Text → Value
context_member (val.Rec ps) name = member_at ps name
context_member _ name = val.Null

-- the variable that a `let-` attribute makes of a context; without a member's name it is `$implicit`
abbrev pub context_variable : Value → TAttr → AttrForm → Option (Text × Item)
context_variable w a (form.Variable member) = Some (a.name, item.Value (context_member w (unwrap_or member (codes "$implicit"))))
context_variable w a _ = None

-- the names of an outlet's view: the `let-` variables of the template with this number, in the nearest view that has it
abbrev pub template_names : Outlines → ℕ → Value → List (Text × Item)
template_names [] t w = []
template_names (o ∷ outer) t w = elim (node_at t o.nodes) [ Some q ↦ filter_map (λ a. context_variable w a a.form) (attributes q.form) | None ↦ template_names outer t w ]

-- the fallback of an `ng-content`, where it has one and its slot is given no node
abbrev pub fallback_shown : ℕ → Nodes → Bool → List Shown
fallback_shown n (node m p f rest) false = (step.Branch n 0, []) ∷ []
fallback_shown n nodes filled = []

-- The views that a node shows, by what its view evaluated for it: the chosen branch, the rows, the template of an outlet, the fallback.
unfoldable pub views_shown : App → Outline → Outlines → ℕ → Form → NodeValue → List Shown
views_shown app o outer n (If bs) (Choice (Some c)) = (step.Branch n c.0, as_name (branch_name bs c.0) c.1) ∷ []
views_shown app o outer n (Switch e bs) (Choice (Some c)) = (step.Branch n c.0, []) ∷ []
views_shown app o outer n (For head nodes empty) (RowList rows) = for_shown n head empty rows
views_shown app o outer n (NgContainer attrs nodes) (OutletValue (Some t) w) = (step.Outlet n t, template_names (o ∷ outer) t w) ∷ []
views_shown app o outer n (NgContent attrs nodes) value = fallback_shown n nodes (is_filled app o attrs)
views_shown app o outer n f value = []
