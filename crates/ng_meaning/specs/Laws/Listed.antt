-- The list of live nodes has exactly the elements and hosts that are live, after each pass.
use Rattle.std.specs.Prelude.{◌≡◌, Bool, false, not, ◌↔◌, if◌then◌else◌, List, ◌∷◌, map, filter, Ok, refl}
use Rattle.std.specs.List.{list_any}
use Rattle.std.proofs.Common.{inl, inr}
use Rattle.ng_ast.specs.declared.App.{App}
use Rattle.ng_meaning.specs.Same.{same_path}
use Rattle.ng_meaning.specs.Places.{Trail, Outline, Outlines, outlines}
use Rattle.ng_meaning.specs.Template.{Node, nodes_of}
use Rattle.ng_meaning.specs.Tree.{Marks, Tree, State}
use Rattle.ng_meaning.specs.Passes.{Passed, pass}
use Rattle.ng_meaning.specs.Page.{outlets_met}
use Rattle.ng_meaning.specs.Queries.{Live, is_outlet_view, outlet_order, all_live}
use Rattle.ng_turns.specs.declared.Event.{Event}
use Rattle.ng_meaning.specs.Runs.{Turn, run_with}
use Rattle.ng_meaning.specs.Laws.Apart.{In, In-append}
use Rattle.ng_meaning.specs.Laws.Growing.{ViewsCounted, pass-IsInOrder}
use Rattle.ng_meaning.specs.Laws.Live.{IsElement, IsLive}
use Rattle.ng_meaning.specs.Laws.LiveEach.{all_live-ListsEach}
use Rattle.ng_meaning.specs.Laws.LiveOnly.{In-filter, all_live-ListsOnly}
use Rattle.ng_meaning.specs.Laws.Met.{outlets_met-AreShown}
use Rattle.ng_meaning.specs.Laws.Standing.{nodes_of-Stand, outlines-Stand}
use Rattle.ng_meaning.specs.Laws.Turns.{turns-Hold}
use Rattle.ng_meaning.specs.Laws.Units.{IsShown}
use Rattle.ng_meaning.specs.Laws.Visited.{pass-ShowsLive, pass-LivesShown}

module _ (app : App) where
  -- the views in outlets that are listed are shown, where all live views are
  pub outlets-AreShown : (tree : Tree) → ((p : Trail) → In p (map (λ v. v.0) tree.views) → IsShown app tree p) → (p : Trail) → In p (outlet_order app tree) → IsShown app tree p
  unfolding outlet_order
  outlets-AreShown tree live p i =
      elim (In-append met (filter other (map (λ v. v.0) tree.views)) p i) [
        | inl j ↦ outlets_met-AreShown app tree p j
        | inr j ↦ live p (In-filter other (map (λ v. v.0) tree.views) p j).0
      ]
    where
      met : List Trail
      met = outlets_met app tree

      other : Trail → Bool
      other x = if is_outlet_view x then not (list_any (same_path x) met) else false

  module _ (every : Bool) where
    -- After a pass each live element and host is in the list, and nothing else.
    pub pass-Lists : (marks : Marks) (z : State) (r : Passed) → ViewsCounted z.tree.views → pass app every marks z ≡ Ok r
        → (q : Live) → In q (all_live app r.state.tree) ↔ IsLive app r.state.tree q
    pass-Lists marks z r counted e q = (
      all_live-ListsOnly app r.state.tree (outlets-AreShown r.state.tree (pass-LivesShown app every marks z r counted e)) q,
      all_live-ListsEach app r.state.tree (pass-ShowsLive app every marks z r e) q,
    )

    -- And so it is after each turn.
    pub turns-List : (es : List Event) (t : Turn) → In t (run_with app every es).turns → (q : Live) → In q (all_live app t.state.tree) ↔ IsLive app t.state.tree q
    turns-List es t i =
        (turns-Hold app every (λ tree. ViewsCounted tree.views) (λ tree. ViewsCounted tree.views × ((q : Live) → In q (all_live app tree) ↔ IsLive app tree q))
        (λ marks z p h e. ((pass-IsInOrder app every marks z p h e).1, pass-Lists marks z p h e)) (λ tree h. h.0) tt es t i).0.1

-- Each element and host of a view that is shown is live, in some elements and hosts of its template.
pub nodes-AreLive : (app : App) (tree : Tree) (p : Trail) (o : Outline) (outer : Outlines) (n : Node) → IsShown app tree p → outlines app p ≡ o ∷ outer → In n (nodes_of o.nodes) → IsElement n.form
    → (q : Live) × IsLive app tree q × (q.view ≡ p) × (q.number ≡ n.number) × (q.form ≡ n.form)
nodes-AreLive app tree p o outer n shown here there element =
    let view = outlines-Stand app p o outer here in
    let stands = nodes_of-Stand o outer view.0 view.1 n there in
    let q : Live = record { view = p; unit = o.unit; number = n.number; form = n.form; enclosing = stands.0 } in
    let live : IsLive app tree q = record { view = o; outer = outer; is_view = here; is_shown = shown; unit = refl; stands = stands.1; is_element = element } in
    (q, live, refl, refl, refl)
