-- Listeners one after another: where there is one alone, the event is what that listener does.
use Rattle.std.specs.Prelude.{◌≡◌, ℕ, Bool, true, false, if◌then◌else◌, List, [], ◌∷◌, Some, Result, Ok, Err, refl}
use Rattle.std.proofs.Common.{ap, sym, ◌∙◌}
use Rattle.ng_values.specs.declared.value.Value.{Value}
use Rattle.ng_values.specs.declared.fault.Fault.{Fault}
use Rattle.ng_ast.specs.declared.App.{App}
use Rattle.ng_tree.specs.declared.NodeId.{NodeId}
use Rattle.ng_turns.specs.declared.Event.TheVariants as event
use Rattle.ng_meaning.specs.Steps.{pure, and_then}
use Rattle.ng_meaning.specs.Lists.{Text}
use Rattle.ng_meaning.specs.Expressions.{most_calls}
use Rattle.ng_meaning.specs.Tree.{State}
use Rattle.ng_meaning.specs.Page.{page}
use Rattle.ng_meaning.specs.Targets.{Listener, event_way, way_listeners}
use Rattle.ng_meaning.specs.Events.{Act, Doing, unless_stopped, in_turn, run_listener, runner, on_listeners, on_way, handled, idle, handle}

-- nothing, be it stopped or not
abbrev nothing : Act (Unit {0})
nothing = pure tt

either_nothing : (b : Bool) (d : Doing) → (if b then nothing else nothing) d ≡ nothing d
either_nothing true d = refl
either_nothing false d = refl

-- nothing is done after the last listener
nothing_more : (d : Doing) → unless_stopped nothing d ≡ nothing d
nothing_more d = either_nothing d.stopped d

-- something done, and then nothing more
alone : (r : Result (Unit {0}) Fault) (d : Doing) → and_then r d (λ _. unless_stopped nothing) ≡ (r, d)
alone (Ok a) d = nothing_more d
alone (Err f) d = refl

-- one listener, after which there is none
pub one-IsAlone : (run : Listener → Act (Unit {0})) (l : Listener) (d : Doing) → in_turn run (l ∷ []) d ≡ run l d
one-IsAlone run l d = alone (run l d).0 (run l d).1

-- how far listeners go, by what comes of the first one
module _ (run : Listener → Act (Unit {0})) (l : Listener) (ls : List Listener) (d : Doing) where
  follows : (b : Bool) (m : Act (Unit {0})) (e : Doing) → (if b then nothing else m) e ≡ (if b then (Ok tt, e) else m e)
  follows true m e = refl
  follows false m e = refl

  -- After a fault none is started.
  pub in_turn-Faulted : (f : Fault) → (run l d).0 ≡ Err f → in_turn run (l ∷ ls) d ≡ run l d
  in_turn-Faulted f e =
      ap (λ (r : Result (Unit {0}) Fault). and_then r (run l d).1 (λ _. unless_stopped (in_turn run ls))) e ∙ sym (ap (λ (r : Result (Unit {0}) Fault). (r, (run l d).1)) e)

  -- After one that ended the others follow, unless the event was stopped.
  pub in_turn-Ended : (run l d).0 ≡ Ok tt → in_turn run (l ∷ ls) d ≡ (if (run l d).1.stopped then (Ok tt, (run l d).1) else in_turn run ls (run l d).1)
  in_turn-Ended e =
      ap (λ (r : Result (Unit {0}) Fault). and_then r (run l d).1 (λ _. unless_stopped (in_turn run ls))) e ∙ follows (run l d).1.stopped (in_turn run ls) (run l d).1

module _ (app : App) (z : State) (name tag : Text) (n : ℕ) (value : Value) (way : List NodeId) where
  -- An event on whose way one listener hears it is what this listener does.
  pub handle-One : (l : Listener) → event_way (page app z.tree) tag n ≡ Some way → way_listeners app name way ≡ l ∷ []
      → handle app z (event.On name tag n value) ≡ handled z.world (run_listener app z.tree most_calls (runner app z.tree most_calls) value l (idle z.world))
  unfolding handle
  handle-One l there hears =
      ap (on_way app z name value) there ∙ ap (on_listeners app z value) hears
      ∙ ap (handled z.world) (one-IsAlone (run_listener app z.tree most_calls (runner app z.tree most_calls) value) l (idle z.world))
