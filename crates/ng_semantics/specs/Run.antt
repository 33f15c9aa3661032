-- A run: the first pass, and then each event with the pass that follows it.
use Rattle.std.specs.Prelude.{Bool, true, false, List, [], ◌∷◌, Option, Some, None}
use Rattle.ng_ast.specs.declared.Component.{Component}
use Rattle.ng_tree.specs.declared.PNode.{PNode}
use Rattle.ng_semantics.specs.Tree.{State, initial, settle, page}
use Rattle.ng_semantics.specs.Events.{Event, Outcome, Ran, Faulted, NoTarget, NoListener, Handled, handle}

-- What came of the first pass or of an event: the outcome of the event, and the page that is shown after it.
pub record Turn : Type 0 where
  pub outcome : Option Outcome
  pub page : PNode

-- A pass follows an event whose listener was started.
abbrev pub starts : Outcome → Bool
starts Ran = true
starts (Faulted fault) = true
starts NoTarget = false
starts NoListener = false

-- The state after an event and the pass that follows it, if one does.
abbrev pub after : Component → State → Handled → State
after c z h = elim (starts h.outcome) [ true ↦ settle c (record { world = h.world; tree = z.tree }) | false ↦ z ]

abbrev pub turn : Component → Option Outcome → State → Turn
turn c outcome z = record { outcome = outcome; page = page c z }

-- The turns of events from a state on.
abbrev pub turns : Component → State → List Event → List Turn
turns c z [] = []
turns c z (e ∷ rest) = let h = handle c z e in let next = after c z h in turn c (Some h.outcome) next ∷ turns c next rest

-- The run of an application whose root is this component.
abbrev pub run : Component → List Event → List Turn
run c events = let first = settle c (initial c) in turn c None first ∷ turns c first events
