-- A run in which each event is held, and flushed right after it, is the run without holding.
use Rattle.std.specs.Prelude.{◌≡◌, Bool, true, false, not, ◌&&◌, ◌||◌, List, [], ◌∷◌, map, Option, Some, None, Result, Ok, Err, refl}
use Rattle.std.proofs.Common.{ap, sym, subst, ◌∙◌}
use Rattle.ng_ast.specs.declared.App.{App}
use Rattle.ng_tree.specs.declared.PNode.{PNode}
use Rattle.ng_turns.specs.declared.Event.{Event}
use Rattle.ng_turns.specs.declared.Event.TheVariants as event
use Rattle.ng_turns.specs.declared.Outcome.{Outcome}
use Rattle.ng_turns.specs.declared.Outcome.TheVariants as outcome
use Rattle.ng_turns.specs.declared.PassFault.{PassFault}
use Rattle.ng_meaning.specs.Places.{Trail}
use Rattle.ng_meaning.specs.Tree.{Marks, none_marked, either, State}
use Rattle.ng_meaning.specs.Passes.{Passed, pass}
use Rattle.ng_meaning.specs.Events.{Handled, handle, asks_pass}
use Rattle.ng_meaning.specs.Runs.{Turn, Ending, Run, onto, Running, settled, holds_after, without_pass, with_pass, stopped, then_pass, go_on, run_from}

-- an event that isn't `hold` or `flush`
abbrev pub Acts : Event → Type 0
Acts event.Hold = ⊥
Acts event.Flush = ⊥
Acts _ = Unit {0}

-- all events of a list act
abbrev pub AllAct : List Event → Type 0
AllAct [] = Unit {0}
AllAct (e ∷ es) = Acts e × AllAct es

-- each event held, and flushed right after it
abbrev pub each_flushed : List Event → List Event
each_flushed [] = []
each_flushed (e ∷ es) = event.Hold ∷ e ∷ event.Flush ∷ each_flushed es

-- what a turn shows, whatever came of its event
pub record Showing : Type 0 where
  pub checked : Option (List Trail)
  pub state : State
  pub page : PNode

abbrev pub showing : Turn → Showing
showing t = record { checked = t.checked; state = t.state; page = t.page }

-- every third turn, which is that of the `flush`
abbrev pub every_third : List Turn → List Turn
every_third (a ∷ b ∷ c ∷ ts) = c ∷ every_third ts
every_third _ = []

-- the fault that ended a run
abbrev pub fault_of : Option Ending → Option PassFault
fault_of None = None
fault_of (Some e) = Some e.fault

-- two runs show the same, the first one at every third turn
abbrev pub ShowSame : Run → Run → Type 0
ShowSame held plain = (map showing (every_third held.turns) ≡ map showing plain.turns) × (fault_of held.ended ≡ fault_of plain.ended)

or_false : (b : Bool) → (b || false) ≡ b
or_false true = refl
or_false false = refl

-- marks that nothing is added to
none_added : (m : Marks) → either m none_marked ≡ m
none_added m = λ i p. or_false (m p) i

-- while passes are held back none follows
held_back : (app : App) (every : Bool) (more : Running → Run) (came : Outcome) (r : Running) → r.holds ≡ true → go_on app every more came r ≡ onto (without_pass app every came r.state) (more r)
held_back app every more came r h = ap go (by r.asked r.holds h)
  where
    go : Bool → Run
    go b = elim b as (λ _. Run) [ false ↦ onto (without_pass app every came r.state) (more r) | true ↦ then_pass app every more (Some came) r ]

    by : (a b : Bool) → b ≡ true → (a && not b) ≡ false
    by true b h = ap not h
    by false b h = refl

module _ (app : App) (every : Bool) (held plain : Running → Run) (again : (r : Running) → r.holds ≡ false → r.asked ≡ false → ShowSame (held r) (plain r)) where
  -- the pass after both
  passes : (came : Outcome) (r : Running) (x : Result Passed PassFault) (a b : Turn)
      → ShowSame (onto a (onto b (elim x as (λ _. Run) [ Ok p ↦ onto (with_pass app every (Some outcome.Flushed) p) (held (settled p.state)) | Err f ↦ stopped app every (Some outcome.Flushed) f ])))
      (elim x as (λ _. Run) [ Ok p ↦ onto (with_pass app every (Some came) p) (plain (settled p.state)) | Err f ↦ stopped app every (Some came) f ])
  passes came r (Ok p) a b = let s = again (settled p.state) refl refl in (ap (λ (ts : List Showing). showing (with_pass app every (Some came) p) ∷ ts) s.0, s.1)
  passes came r (Err f) a b = (refl, refl)

  -- whether a pass follows or not
  goes_on : (came : Outcome) (w : State) (m : Marks) (asked : Bool) (a b : Turn)
      → ShowSame (onto a (onto b (go_on app every held outcome.Flushed (record { state = w; marks = m; holds = false; asked = asked }))))
      (go_on app every plain came (record { state = w; marks = m; holds = false; asked = asked }))
  goes_on came w m true a b = passes came (record { state = w; marks = m; holds = false; asked = true }) (pass app every m w) a b
  goes_on came w m false a b =
      let s = again (record { state = w; marks = m; holds = false; asked = false }) refl refl in (ap (λ (ts : List Showing). showing (without_pass app every came w) ∷ ts) s.0, s.1)

-- an event that is held and then flushed, from a moment on
same_after : (app : App) (every : Bool) (e : Event) (es : List Event) → ((b : Bool) → holds_after e b ≡ b)
    → ((r : Running) → r.holds ≡ false → r.asked ≡ false → ShowSame (run_from app every (each_flushed es) r) (run_from app every es r))
    → (r : Running) → r.holds ≡ false → r.asked ≡ false → ShowSame (run_from app every (each_flushed (e ∷ es)) r) (run_from app every (e ∷ es) r)
unfolding handle
same_after app every e es stays again r h a =
    subst (λ (x : Run). ShowSame (run_from app every (each_flushed (e ∷ es)) r) x) (sym plain_is)
    (subst (λ (x : Run). ShowSame x plain_after) (sym held_is) (goes_on app every more_held (run_from app every es) again what.outcome w m (asks_pass what.outcome) first second))
  where
    more_held : Running → Run
    more_held = run_from app every (each_flushed es)

    what : Handled
    what = handle app r.state e

    w : State
    w = record { world = what.world; tree = r.state.tree }

    m : Marks
    m = either r.marks what.marks

    -- after `hold`, and after the event
    hold_on : Running
    hold_on = record { state = r.state; marks = either r.marks none_marked; holds = true; asked = r.asked || false }

    acted : Running
    acted = record { state = w; marks = either (either r.marks none_marked) what.marks; holds = holds_after e true; asked = (r.asked || false) || asks_pass what.outcome }

    first : Turn
    first = without_pass app every outcome.Held r.state

    second : Turn
    second = without_pass app every what.outcome w

    plain_after : Run
    plain_after = go_on app every (run_from app every es) what.outcome (record { state = w; marks = m; holds = false; asked = asks_pass what.outcome })

    plain_is : run_from app every (e ∷ es) r ≡ plain_after
    plain_is i = go_on app every (run_from app every es) what.outcome (record { state = w; marks = m; holds = (stays r.holds ∙ h) i; asked = a i || asks_pass what.outcome })

    held_is : run_from app every (each_flushed (e ∷ es)) r ≡ onto first (onto second (go_on app every more_held outcome.Flushed (record { state = w; marks = m; holds = false; asked = asks_pass what.outcome })))
    held_is = held_back app every (run_from app every (e ∷ event.Flush ∷ each_flushed es)) outcome.Held hold_on refl
        ∙ ap (onto first) (held_back app every (run_from app every (event.Flush ∷ each_flushed es)) what.outcome acted (stays true)
        ∙ ap (onto second) flushed_is)
      where
        asked_is : ((r.asked || false) || asks_pass what.outcome) || false ≡ asks_pass what.outcome
        asked_is = or_false ((r.asked || false) || asks_pass what.outcome) ∙ ap (λ (b : Bool). (b || false) || asks_pass what.outcome) a

        marks_are : either (either (either r.marks none_marked) what.marks) none_marked ≡ m
        marks_are = none_added (either (either r.marks none_marked) what.marks) ∙ ap (λ (k : Marks). either k what.marks) (none_added r.marks)

        flushed_is : run_from app every (event.Flush ∷ each_flushed es) acted ≡ go_on app every more_held outcome.Flushed (record { state = w; marks = m; holds = false; asked = asks_pass what.outcome })
        flushed_is i = go_on app every more_held outcome.Flushed (record { state = w; marks = marks_are i; holds = false; asked = asked_is i })

-- From a moment on at which nothing is held back and no pass is asked for, both runs show the same.
pub held-ShowsSame : (app : App) (every : Bool) (es : List Event) → AllAct es → (r : Running) → r.holds ≡ false → r.asked ≡ false
    → ShowSame (run_from app every (each_flushed es) r) (run_from app every es r)
held-ShowsSame app every [] acts r h a = (refl, refl)
held-ShowsSame app every (event.Hold ∷ es) acts r h a = absurd acts.0
held-ShowsSame app every (event.Flush ∷ es) acts r h a = absurd acts.0
held-ShowsSame app every (event.On name tag n value ∷ es) acts r h a = same_after app every (event.On name tag n value) es (λ b. refl) (held-ShowsSame app every es acts.1) r h a
held-ShowsSame app every (event.Call token name args ∷ es) acts r h a = same_after app every (event.Call token name args) es (λ b. refl) (held-ShowsSame app every es acts.1) r h a
