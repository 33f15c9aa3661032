-- A pass: the tree grows anew from the root, and what is held follows it.
use Rattle.std.specs.Prelude.{ℕ, zero, suc, ◌+◌, Bool, true, false, not, ◌&&◌, ◌||◌, nat_lt, if◌then◌else◌, List, [], ◌∷◌, ◌++◌, reverse, Option, Some, None, Result, Ok, Err, filter, is_none, unwrap_or}
use Rattle.std.specs.List.{filter_map, list_any}
use Rattle.std.specs.Map.{lookup}
use Rattle.ng_values.specs.declared.value.Value.{Value}
use Rattle.ng_values.specs.declared.value.Value.TheVariants as val
use Rattle.ng_ast.specs.declared.App.{App}
use Rattle.ng_ast.specs.declared.Place.{Place}
use Rattle.ng_ast.specs.declared.AttrForm.{AttrForm}
use Rattle.ng_ast.specs.declared.AttrForm.TheVariants as form
use Rattle.ng_ast.specs.declared.TAttr.{TAttr}
use Rattle.ng_ast.specs.declared.Component.{Component}
use Rattle.ng_ast.specs.declared.Member.{Member}
use Rattle.ng_ast.specs.declared.MemberKind.{MemberKind}
use Rattle.ng_ast.specs.declared.MemberKind.TheVariants as kind
use Rattle.ng_tree.specs.declared.Item.{Item}
use Rattle.ng_tree.specs.declared.Site.{Site}
use Rattle.ng_tree.specs.declared.Site.TheVariants as site
use Rattle.ng_tree.specs.declared.Step.TheVariants as step
use Rattle.ng_turns.specs.declared.Spot.{Spot}
use Rattle.ng_turns.specs.declared.PassFault.{PassFault}
use Rattle.ng_turns.specs.declared.PassFault.TheVariants.{TooManyNodes, TooDeep}
use Rattle.ng_meaning.specs.Steps.{◌>>=◌, ◌>>◌, pure, fail, change, get, each}
use Rattle.ng_meaning.specs.Lists.{Text}
use Rattle.ng_meaning.specs.Declared.{root_component, is_input}
use Rattle.ng_meaning.specs.Same.{same_value, same_path}
use Rattle.ng_meaning.specs.World.{World, Read, value_or_null, written, given, born}
use Rattle.ng_meaning.specs.Template.{Form, Element, Host, TextNode, Node, nodes_of}
use Rattle.ng_meaning.specs.Places.{Trail, path_of, Outline, Outlines, instance_at, entered, root_view}
use Rattle.ng_meaning.specs.Init.{Setting, run_init}
use Rattle.ng_meaning.specs.Injection.{resolved}
use Rattle.ng_meaning.specs.Tree.{NodeValue, BoundValues, View, empty_view, Tree, Marks, none_marked, State, view_at, value_of, names_seen}
use Rattle.ng_meaning.specs.Bindings.{Pass, Passing, Visit, spot, at_spot, evaluate, views_shown}

-- ---- step 1: the nodes of a new view are made, and the instances on its hosts

-- page nodes are elements, hosts and texts
abbrev pub is_page_node : Form → Bool
is_page_node (Element tag attrs nodes) = true
is_page_node (Host c tag attrs nodes) = true
is_page_node (TextNode ps) = true
is_page_node _ = false

-- A page node is made. The 50,001st of a pass is too many.
abbrev pub make : Spot → Passing (Unit {0})
make w = λ s. let more = record s { made = s.made + 1 } in elim (nat_lt s.made 50000) [ true ↦ (Ok tt, more) | false ↦ (Err (TooManyNodes w), more) ]

-- in a pass, something done to what is held, of which a fault has this spot
abbrev pub setting : {A : Type 0} → Spot → Setting A → Passing A
setting w m = λ s. let r = m s.world in (at_spot r.0 w, record s { world = r.1 })

-- a spot of an instance: a place in its declaration, and the path of its own view
abbrev pub own_spot : Trail → Component → Place → Spot
own_spot p c place = record { place = place; component = c.name; path = path_of p }

-- an `inject` member of an instance is resolved, and gets what the token gives
abbrev pub inject : App → Trail → Component → Member → MemberKind → Passing (Unit {0})
inject app p c m (kind.Inject token flags) =
    setting (own_spot p c m.place) (resolved app (Some (instance_at p)) token flags) >>= (λ i. change (λ s. record s { world = given (instance_at p) m.name i s.world }))
inject app p c m _ = pure tt

-- an instance is born with initial values, and its `inject` members are resolved in order
abbrev pub bear_instance : App → Trail → Component → Passing (Unit {0})
bear_instance app p c =
    change (λ s. record s { world = born (instance_at p) c.members [] s.world }) >> each (λ m. inject app p c m m.kind) c.members

-- the instance on a host
abbrev pub make_instance : App → Trail → ℕ → Form → Passing (Unit {0})
make_instance app p n (Host c tag attrs nodes) = bear_instance app (step.Child n ∷ p) c
make_instance app p n _ = pure tt

-- a node of a new view
abbrev pub make_node : App → Visit → Node → Passing (Unit {0})
make_node app v q = (if is_page_node q.form then make (spot v q.place) else pure tt) >> make_instance app v.at.path q.number q.form

-- ---- step 4: the instance on a host has its turn

-- the input that a static attribute sets
abbrev pub static_input : List Member → Text → AttrForm → Option (Text × Value)
static_input ms name (form.Static w) = if is_input ms name then Some (name, val.Text w) else None
static_input ms name _ = None

-- whether a bound attribute may be one of an input
abbrev pub binds_input : AttrForm → Bool
binds_input (form.Joined ps) = true
binds_input (form.Property e) = true
binds_input (form.Both y) = true
binds_input _ = false

-- whether a bound attribute sets an input
abbrev pub is_bound_input : List Member → TAttr → Bool
is_bound_input ms a = if binds_input a.form then is_input ms a.name else false

-- the input that a bound attribute sets
abbrev pub bound_input : List Member → TAttr → Value → Option (Text × Value)
bound_input ms a w = if is_bound_input ms a then Some (a.name, w) else None

-- the inputs that the bound attributes of a host set
abbrev pub bound_inputs : List Member → NodeValue → List (Text × Value)
bound_inputs ms (BoundValues bs) = filter_map (λ b. bound_input ms b.0 b.1) bs
bound_inputs ms _ = []

-- all inputs that a host sets
abbrev pub inputs : List Member → List TAttr → NodeValue → List (Text × Value)
inputs ms attrs value = filter_map (λ a. static_input ms a.name a.form) attrs ++ bound_inputs ms value

-- inputs set, and whether one got a different value
abbrev pub set_inputs : Site → List (Text × Value) → Bool → Passing Bool
set_inputs at [] differs = pure differs
set_inputs at (i ∷ is) differs = λ s. elim (same_value (value_or_null s.world at i.0) i.1) [
  | true ↦ set_inputs at is differs s
  | false ↦ set_inputs at is true (record s { world = written at i.0 i.1 s.world })
]

-- the place of the `init` among members, and else the one given
abbrev pub init_place : Place → List Member → Place
init_place place [] = place
init_place place (m ∷ ms) = elim m.kind [ kind.Init body ↦ m.place | _ ↦ init_place place ms ]

-- the `init` of a new instance
abbrev pub start : App → Trail → Component → Passing (Unit {0})
start app p c = setting (own_spot p c (init_place c.place c.members)) (run_init app (instance_at p) c.members)

-- whether a signal has another value than the one that was read
abbrev pub is_stale : World → List Read → Bool
is_stale world = list_any (λ r. not (same_value (value_or_null world r.at r.signal) r.value))

-- Given the tree that was shown before, whether every instance is checked, and which are marked.
module _ (app : App) (old : Tree) (every : Bool) (marks : Marks) where
  -- Whether an instance is checked, given what its last check read and whether its parent is checked: it is new, it is marked, an input got a different
  -- value, a signal that it read has another value, or it is not `onpush` and its parent is checked.
  abbrev pub is_due : World → Option (List Read) → Trail → Component → Bool → Bool → Bool
  is_due world None p c differs parent = true
  is_due world (Some reads) p c differs parent = every || marks p || differs || is_stale world reads || (not c.onpush && parent)

  -- the instance that is visited; one that is checked has read nothing yet, and another one keeps what it read
  abbrev pub enter : Trail → Option (List Read) → Bool → Passing (Unit {0})
  enter p was true = change (λ s. record s { instances = s.instances ++ (p, []) ∷ []; checked = s.checked ++ p ∷ [] })
  enter p was false = change (λ s. record s { instances = s.instances ++ (p, unwrap_or was []) ∷ [] })

  -- The turn of an instance: its inputs are set and compared, its `init` runs where it is new, and its view is visited.
  abbrev pub turn : (Visit → Passing (Unit {0})) → Outline → List (Text × Value) → Bool → Spot → Passing (Unit {0})
  turn visit o is parent from = do
    let was = lookup (same_path o.path) old.instances
    differs ← set_inputs (instance_at o.path) is false
    if is_none was then start app o.path o.component else pure tt
    s ← get
    let due = is_due s.world was o.path o.component differs parent
    enter o.path was due
    visit (record { at = o; outer = []; names = []; due = due; enter = from })

  -- the same, where the host's own view is there
  abbrev pub turn_in : (Visit → Passing (Unit {0})) → Outlines → List (Text × Value) → Bool → Spot → Passing (Unit {0})
  turn_in visit [] is parent from = pure tt
  turn_in visit (o ∷ outer) is parent from = turn visit o is parent from

  -- the turn of the instance on a host; where the declaring instance isn't checked, the inputs stay as they are
  abbrev pub turn_host : (Visit → Passing (Unit {0})) → Visit → View → Node → Form → Passing (Unit {0})
  turn_host visit v w q (Host c tag attrs nodes) =
      turn_in visit (entered app (step.Child q.number) (v.at ∷ v.outer)) (if v.due then inputs c.members attrs (value_of (Some w) q.number) else []) v.due (spot v q.place)
  turn_host visit v w q _ = pure tt

  -- ---- step 3: the views that nodes show

  -- a view of the same unit, which has the names of its head
  abbrev pub visit_in : (Visit → Passing (Unit {0})) → Outlines → List (Text × Item) → Bool → Spot → Passing (Unit {0})
  visit_in visit [] names due from = pure tt
  visit_in visit (o ∷ outer) names due from = visit (record { at = o; outer = outer; names = names; due = due; enter = from })

  -- the views that a node shows, in their order
  abbrev pub visit_node : (Visit → Passing (Unit {0})) → Visit → View → Node → Passing (Unit {0})
  visit_node visit v w q =
      each (λ b. visit_in visit (entered app b.0 (v.at ∷ v.outer)) b.1 v.due (spot v q.place)) (views_shown app v.at v.outer q.number q.form (value_of (Some w) q.number))

  -- ---- step 2: what the view shows, and the four steps

  -- the nodes of a view evaluated anew where its unit is checked, and else kept as they are
  abbrev pub view_of : Visit → Option View → Passing View
  view_of v was = λ s. elim v.due [
    | true ↦ evaluate app v (names_seen s.views v.outer) (empty_view v.names) (nodes_of v.at.nodes) s
    | false ↦ (Ok (unwrap_or was (empty_view v.names)), s)
  ]

  -- A view is visited, given how one inside is: where it is new its nodes are made; its nodes are evaluated; the views that they show are visited in
  -- template order, rows in list order; and the instances on its hosts have their turn, content included.
  abbrev pub visit_view : (Visit → Passing (Unit {0})) → Visit → Passing (Unit {0})
  visit_view visit v = do
    let was = view_at v.at.path old.views
    if is_none was then each (make_node app v) (nodes_of v.at.nodes) else pure tt
    w ← view_of v was
    change (λ s. record s { views = s.views ++ (v.at.path, w) ∷ [] })
    each (visit_node visit v w) (nodes_of v.at.nodes)
    each (λ q. turn_host visit v w q q.form) (nodes_of v.at.nodes)

  -- A view grows, where the paths of those inside may have n steps more, less one. A view that would have more is TooDeep, where it is entered.
  unfoldable pub grow : ℕ → Visit → Passing (Unit {0})
  grow zero v = fail (TooDeep v.enter)
  grow (suc n) v = visit_view (grow n) v

  -- the root: its host is made where it is new, and the root instance has its turn; its parent counts as checked, and a path has at most 63 steps
  abbrev pub grow_root : Outlines → Passing (Unit {0})
  grow_root [] = pure tt
  grow_root (o ∷ outer) = do
    let here = own_spot [] o.component o.component.place
    if is_none (view_at [] old.views) then make here >> bear_instance app [] o.component else pure tt
    turn (grow 64) o [] true here

-- ---- what a pass leaves

-- whether an instance is among some
abbrev pub is_instance : Trail → List (Trail × List Read) → Bool
is_instance p = list_any (λ i. same_path p i.0)

-- Whether a site lives on: an instance, and a service at an instance, exactly as long as the instance's path is live; a service in an environment for
-- the whole run.
abbrev pub lives : List (Trail × List Read) → Site → Bool
lives is (site.Component p) = is_instance (reverse p) is
lives is (site.Service p view t) = is_instance (reverse p) is
lives is (site.Env e t) = true
lives is (site.Element i) = false

-- what is held of the sites that live on
abbrev pub living : List (Trail × List Read) → World → World
living is = filter (λ h. lives is h.0)

-- what a pass leaves: the state, the instances that it checked, in the order of its visits, and how many page nodes it made
pub record Passed : Type 0 where
  pub state : State
  pub checked : List Trail
  pub made : ℕ

-- what is left at the end of a pass
abbrev pub passed : Pass → Passed
passed s = record { state = record { world = living s.instances s.world; tree = record { views = s.views; instances = s.instances } }; checked = s.checked; made = s.made }

-- the end of a pass, or its first fault
abbrev pub ended : Result (Unit {0}) PassFault × Pass → Result Passed PassFault
ended r = elim r.0 [ Ok _ ↦ Ok (passed r.1) | Err f ↦ Err f ]

-- the beginning of a pass
abbrev pub begun : World → Pass
begun world = record { world = world; made = 0; views = []; instances = []; checked = [] }

-- a pass over a state, where every instance is checked, or those alone that are due with some marked
unfoldable pub pass : App → Bool → Marks → State → Result Passed PassFault
pass app every marks z = ended (grow_root app z.tree every marks (root_view app (root_component app)) (begun z.world))

-- a pass in which every instance is checked
abbrev pub settle : App → State → Result Passed PassFault
settle app z = pass app true none_marked z

-- A pass in which the instances alone are checked that are due, some of them being marked. Another one keeps its shown values, choices and rows; the
-- content handed to it is new, and its children are visited with the inputs that they have.
abbrev pub keep : App → Marks → State → Result Passed PassFault
keep app marks z = pass app false marks z
