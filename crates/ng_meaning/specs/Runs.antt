-- A run: the first pass, and then each event with the pass that follows it. Between `hold` and `flush` passes are held back.
use Rattle.std.specs.Prelude.{ℕ, Bool, true, false, not, ◌&&◌, ◌||◌, List, [], ◌∷◌, Option, Some, None, Ok, Err}
use Rattle.ng_ast.specs.declared.App.{App}
use Rattle.ng_tree.specs.declared.PNode.{PNode}
use Rattle.ng_turns.specs.declared.Event.{Event}
use Rattle.ng_turns.specs.declared.Event.TheVariants as event
use Rattle.ng_turns.specs.declared.Outcome.{Outcome}
use Rattle.ng_turns.specs.declared.PassFault.{PassFault}
use Rattle.ng_meaning.specs.Places.{Trail}
use Rattle.ng_meaning.specs.Tree.{Marks, none_marked, either, State, empty}
use Rattle.ng_meaning.specs.Passes.{pass, Passed}
use Rattle.ng_meaning.specs.Page.{page}
use Rattle.ng_meaning.specs.Events.{Handled, handle, asks_pass}

-- the first pass, or an event with the pass that followed it, if one did: what came of the event, the instances that the pass checked, how many page
-- nodes it made, the state that is left, and its page
pub record Turn : Type 0 where
  pub outcome : Option Outcome
  pub checked : Option (List Trail)
  pub made : ℕ
  pub state : State
  pub page : PNode

-- what came of an event, if it was one, and the fault of the pass that followed
pub record Ending : Type 0 where
  pub outcome : Option Outcome
  pub fault : PassFault

-- the turns of a run, and the fault of a pass that ended it, if one did
pub record Run : Type 0 where
  pub turns : List Turn
  pub ended : Option Ending

-- a turn, and then those that follow
abbrev pub onto : Turn → Run → Run
onto t r = record r { turns = t ∷ r.turns }

-- A run between two events: the state, the instances that were marked since the last pass, whether passes are held back, and whether one is asked for.
pub record Running : Type 0 where
  pub state : State
  pub marks : Marks
  pub holds : Bool
  pub asked : Bool

-- before the first pass, which nothing holds back
abbrev pub beginning : Running
beginning = record { state = empty; marks = none_marked; holds = false; asked = true }

-- after a pass: its marks are forgotten
abbrev pub settled : State → Running
settled z = record { state = z; marks = none_marked; holds = false; asked = false }

-- whether a pass follows
abbrev pub wants_pass : Running → Bool
wants_pass r = r.asked && not r.holds

-- whether passes are held back after an event
abbrev pub holds_after : Event → Bool → Bool
holds_after event.Hold holds = true
holds_after event.Flush holds = false
holds_after _ holds = holds

-- what an event leaves, before the pass that may follow it
abbrev pub after_event : Running → Event → Handled → Running
after_event r e h = record {
  state = record { world = h.world; tree = r.state.tree };
  marks = either r.marks h.marks;
  holds = holds_after e r.holds;
  asked = r.asked || asks_pass h.outcome;
}

module _ (app : App) (every : Bool) where
  -- an event that no pass followed: the tree and the page stay
  abbrev pub without_pass : Outcome → State → Turn
  without_pass came z = record { outcome = Some came; checked = None; made = 0; state = z; page = page app z.tree }

  -- what a pass leaves
  abbrev pub with_pass : Option Outcome → Passed → Turn
  with_pass came p = record { outcome = came; checked = Some p.checked; made = p.made; state = p.state; page = page app p.state.tree }

  -- a run that a pass ended
  abbrev pub stopped : Option Outcome → PassFault → Run
  stopped came f = record { turns = []; ended = Some (record { outcome = came; fault = f }) }

  -- The pass of a run, with the instances that were marked since the last one, and then what follows from the state that it leaves.
  abbrev pub then_pass : (Running → Run) → Option Outcome → Running → Run
  then_pass more came r = elim (pass app every r.marks r.state) [ Ok p ↦ onto (with_pass came p) (more (settled p.state)) | Err f ↦ stopped came f ]

  -- an event was taken: a pass follows where one is asked for and isn't held back
  abbrev pub go_on : (Running → Run) → Outcome → Running → Run
  go_on more came r = elim (wants_pass r) [ false ↦ onto (without_pass came r.state) (more r) | true ↦ then_pass more (Some came) r ]

  -- The events from a moment of a run on. The end of the list lets no pass follow.
  abbrev pub run_from : List Event → Running → Run
  run_from [] r = record { turns = []; ended = None }
  run_from (e ∷ es) r = let h = handle app r.state e in go_on (run_from es) h.outcome (after_event r e h)

  -- the first pass, and then the events
  unfoldable pub run_with : List Event → Run
  run_with es = then_pass (run_from es) None beginning

-- a run in which every pass checks every instance
abbrev pub run : App → List Event → Run
run app = run_with app true

-- a run in which a pass checks the instances alone that are due
abbrev pub run_due : App → List Event → Run
run_due app = run_with app false
