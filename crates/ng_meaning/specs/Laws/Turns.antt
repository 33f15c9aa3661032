-- The turns of a run: what every pass keeps holds after each, and each has the page of the tree that it left.
use Rattle.std.specs.Prelude.{◌≡◌, Bool, true, false, List, [], ◌∷◌, Option, Some, None, Result, Ok, Err, refl}
use Rattle.std.proofs.Common.{inl, inr, sym, subst}
use Rattle.ng_ast.specs.declared.App.{App}
use Rattle.ng_turns.specs.declared.Event.{Event}
use Rattle.ng_turns.specs.declared.Outcome.{Outcome}
use Rattle.ng_meaning.specs.Tree.{Marks, Tree, State, empty}
use Rattle.ng_turns.specs.declared.PassFault.{PassFault}
use Rattle.ng_meaning.specs.Passes.{Passed, pass}
use Rattle.ng_meaning.specs.Page.{page}
use Rattle.ng_meaning.specs.Events.{handle}
use Rattle.ng_meaning.specs.Runs.{Turn, Run, onto, Running, beginning, settled, wants_pass, after_event, without_pass, with_pass, stopped, then_pass, run_from, run_with}
use Rattle.ng_meaning.specs.Laws.Apart.{In}
use Rattle.ng_meaning.specs.Laws.Growing.{ViewsCounted, IsInOrder, pass-IsInOrder}

-- Given what each pass makes so, from what is so before it, and that this is so then again.
module _ (app : App) (every : Bool) (B P : Tree → Type 0) (makes : (marks : Marks) (z : State) (p : Passed) → B z.tree → pass app every marks z ≡ Ok p → P p.state.tree) (again : (t : Tree) → P t → B t) where
  -- it is so after a turn, whose page is that of the tree
  abbrev Holds : Turn → Type 0
  Holds t = P t.state.tree × (t.page ≡ page app t.state.tree)

  -- what follows from a moment of a run holds
  abbrev Goes : (Running → Run) → Type 0
  Goes more = (r : Running) → P r.state.tree → (t : Turn) → In t (more r).turns → Holds t

  after_pass : (more : Running → Run) → Goes more → (came : Option Outcome) (marks : Marks) (z : State) → B z.tree → (r : Result Passed PassFault) → pass app every marks z ≡ r
      → (t : Turn) → In t (elim r as (λ _. Run) [ Ok p ↦ onto (with_pass app every came p) (more (settled p.state)) | Err f ↦ stopped app every came f ]).turns → Holds t
  after_pass more goes came marks z h (Ok p) d t (inl e) = subst Holds (sym e) (makes marks z p h d, refl)
  after_pass more goes came marks z h (Ok p) d t (inr j) = goes (settled p.state) (makes marks z p h d) t j
  after_pass more goes came marks z h (Err f) d t j = absurd j

  passed_on : (more : Running → Run) → Goes more → (came : Option Outcome) (r : Running) → B r.state.tree → (t : Turn) → In t (then_pass app every more came r).turns → Holds t
  passed_on more goes came r h t i = after_pass more goes came r.marks r.state h (pass app every r.marks r.state) refl t i

  gone_on : (more : Running → Run) → Goes more → (came : Outcome) (r : Running) → P r.state.tree → (b : Bool) → (t : Turn)
      → In t (elim b as (λ _. Run) [ false ↦ onto (without_pass app every came r.state) (more r) | true ↦ then_pass app every more (Some came) r ]).turns → Holds t
  gone_on more goes came r h false t (inl e) = subst Holds (sym e) (h, refl)
  gone_on more goes came r h false t (inr j) = goes r h t j
  gone_on more goes came r h true t i = passed_on more goes (Some came) r (again r.state.tree h) t i

  after_events : (es : List Event) → Goes (run_from app every es)
  after_events [] r h t i = absurd i
  after_events (e ∷ es) r h t i =
      let what = handle app r.state e in
      let s = after_event r e what in
      gone_on (run_from app every es) (after_events es) what.outcome s h (wants_pass s) t i

  -- It is so after each turn.
  pub turns-Hold : B empty.tree → (es : List Event) (t : Turn) → In t (run_with app every es).turns → Holds t
  unfolding run_with
  turns-Hold h es t i = passed_on (run_from app every es) (after_events es) None beginning h t i

-- a tree that is in order, with counted rows
abbrev IsRight : Tree → Type 0
IsRight tree = IsInOrder tree.views × ViewsCounted tree.views

-- After each turn the tree is in order, with counted rows, and the page is the tree's.
pub turns-AreRight : (app : App) (every : Bool) (es : List Event) (t : Turn) → In t (run_with app every es).turns → (IsInOrder t.state.tree.views × ViewsCounted t.state.tree.views) × (t.page ≡ page app t.state.tree)
turns-AreRight app every es t i = turns-Hold app every IsRight IsRight (λ marks z p h e. pass-IsInOrder app every marks z p h.1 e) (λ t h. h) (record { apart = tt; follows = tt }, tt) es t i

pub turns-AreInOrder : (app : App) (every : Bool) (es : List Event) (t : Turn) → In t (run_with app every es).turns → IsInOrder t.state.tree.views
turns-AreInOrder app every es t i = (turns-AreRight app every es t i).0.0
