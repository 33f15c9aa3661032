-- What an event does.
use Rattle.std.specs.Prelude.{ℕ, zero, suc, true, false, List, [], ◌∷◌, Option, Some, None, Ok, Err, option_and_then}
use Rattle.std.specs.List.{flat_map, filter_map}
use Rattle.std.specs.Str.{bytes_eq}
use Rattle.ng_values.specs.declared.value.Value.{Value}
use Rattle.ng_values.specs.declared.fault.Fault.{Fault}
use Rattle.ng_ast.specs.declared.Component.{Component}
use Rattle.ng_ast.specs.declared.TAttr.{TAttr}
use Rattle.ng_ast.specs.declared.AttrForm.{AttrForm}
use Rattle.ng_ast.specs.declared.AttrForm.TheVariants as form
use Rattle.ng_ast.specs.declared.Stmt.{Stmt, out-Stmt}
use Rattle.ng_ast.specs.declared.Stmt.TheOpen.{Stmt-F}
use Rattle.ng_ast.specs.declared.TNode.{TNode, out-TNode}
use Rattle.ng_ast.specs.declared.TNode.TheOpen.{TNode-F}
use Rattle.ng_ast.specs.declared.Branch.{Branch}
use Rattle.ng_tree.specs.declared.NodeId.{NodeId}
use Rattle.ng_tree.specs.declared.NodeId.TheVariants as id
use Rattle.ng_tree.specs.declared.PNode.{PNode}
use Rattle.ng_tree.specs.declared.PNode.TheFolds.{fold-PNode}
use Rattle.ng_tree.specs.declared.PNode.TheOpen.{PNode-F}
use Rattle.ng_semantics.specs.Text.{Text, put_at, head_of}
use Rattle.ng_semantics.specs.Meaning.{World, Answer, mean}
use Rattle.ng_semantics.specs.Template.{node_at}
use Rattle.ng_semantics.specs.Tree.{State, page}

-- An event on an element: the event's name, the element's tag, which of the elements of that tag (from 1), and the value of `$event`.
pub data Event : Type 0 where
  On : Text → Text → ℕ → Value → Event

-- What came of an event.
pub data Outcome : Type 0 where
  Ran : Outcome
  Faulted : Fault → Outcome
  NoTarget : Outcome
  NoListener : Outcome

-- ---- the target

-- One level of a page, with the elements inside each child in its place.
abbrev pub elements_step : PNode-F (List (Text × NodeId)) → List (Text × NodeId)
elements_step (PNode-F.Element node tag attrs children) = (tag, node) ∷ flat_map (λ es. es) children
elements_step (PNode-F.Host node tag attrs children) = (tag, node) ∷ flat_map (λ es. es) children
elements_step (PNode-F.Text node t) = []

-- The elements and hosts of a page in document order, each with its tag.
abbrev pub elements : PNode → List (Text × NodeId)
elements = fold-PNode (List (Text × NodeId)) elements_step

abbrev pub of_tag : Text → Text × NodeId → Option NodeId
of_tag tag e = elim (bytes_eq tag e.0) [ true ↦ Some e.1 | false ↦ None ]

-- The nth, from 1.
abbrev pub nth : {A : Type 0} → ℕ → List A → Option A
nth zero found = None
nth (suc n) [] = None
nth (suc zero) (a ∷ rest) = Some a
nth (suc (suc n)) (a ∷ rest) = nth (suc n) rest

-- The node that an event names: the nth element of the tag in document order.
abbrev pub target : PNode → Text → ℕ → Option NodeId
target shown tag n = nth n (filter_map (of_tag tag) (elements shown))

-- ---- the listener

abbrev pub listener_in : Text → TAttr → AttrForm → Option (List Stmt)
listener_in name attr (form.Listener statements) = elim (bytes_eq name attr.name) [ true ↦ Some statements | false ↦ None ]
listener_in name attr _ = None

-- The statements with which an element listens for an event.
abbrev pub listener_of : Text → TNode-F TNode Branch → Option (List Stmt)
listener_of name (TNode-F.Element place tag attrs nodes) = head_of (filter_map (λ a. listener_in name a a.form) attrs)
listener_of name _ = None

-- The root's host has no listener.
abbrev pub listener_at : Component → Text → NodeId → Option (List Stmt)
listener_at c name id.Root = None
listener_at c name (id.At path n) = option_and_then (λ node. listener_of name (out-TNode node)) (node_at c.template.nodes n)

-- ---- statements

-- What an assignment of an answer to a field leaves: a fault, or nothing, and what the fields then hold.
abbrev pub assigned : Text → Answer → World → Option Fault × World
assigned name (Ok value) world = (None, put_at name value world)
assigned name (Err fault) world = (Some fault, world)

abbrev pub statement : World → Stmt-F Stmt → Option Fault × World
statement world (Stmt-F.Set place name e) = assigned name (mean world e) world
statement world _ = (None, world)

abbrev pub go_on : Option Fault × World → (World → Option Fault × World) → Option Fault × World
go_on (None, world) rest = rest world
go_on (Some fault, world) rest = (Some fault, world)

-- Statements act one after another. The first fault ends them, and what was written stays.
abbrev pub statements : List Stmt → World → Option Fault × World
statements [] world = (None, world)
statements (s ∷ rest) world = go_on (statement world (out-Stmt s)) (statements rest)

-- ---- the event

-- What came of an event, and what the fields hold after it.
pub record Handled : Type 0 where
  pub outcome : Outcome
  pub world : World

abbrev pub outcome_of : Option Fault → Outcome
outcome_of None = Ran
outcome_of (Some fault) = Faulted fault

abbrev pub ran : Option Fault × World → Handled
ran r = record { outcome = outcome_of r.0; world = r.1 }

abbrev pub listened : World → Option (List Stmt) → Handled
listened world None = record { outcome = NoListener; world = world }
listened world (Some body) = ran (statements body world)

abbrev pub reached : Component → Text → World → Option NodeId → Handled
reached c name world None = record { outcome = NoTarget; world = world }
reached c name world (Some node) = listened world (listener_at c name node)

-- An event changes what the application holds. The tree stays until the next pass.
abbrev pub handle : Component → State → Event → Handled
handle c z (On name tag n value) = reached c name z.world (target (page c z) tag n)
