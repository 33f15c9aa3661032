-- What a pass keeps: exactly the sites whose path is live.
use Rattle.std.specs.Prelude.{◌≡◌, Bool, true, false, if◌then◌else◌, cond, List, [], ◌∷◌, Option, Some, None, Result, Ok, Err, refl, is_some}
use Rattle.std.proofs.Common.{ap, sym, ◌∙◌, subst}
use Rattle.ng_ast.specs.declared.App.{App}
use Rattle.ng_tree.specs.declared.Site.{Site}
use Rattle.ng_meaning.specs.Same.{same_site}
use Rattle.ng_meaning.specs.World.{World, Held, Read, held, is_live}
use Rattle.ng_meaning.specs.Declared.{root_component}
use Rattle.ng_meaning.specs.Places.{Trail, root_view}
use Rattle.ng_turns.specs.declared.PassFault.{PassFault}
use Rattle.ng_meaning.specs.Bindings.{Pass}
use Rattle.ng_meaning.specs.Passes.{lives, living, Passed, passed, ended, begun, grow_root, pass}
use Rattle.ng_meaning.specs.Tree.{Marks, State}
use Rattle.ng_meaning.specs.Laws.Sameness.{same_site_decides}

-- what is found in front of what is found further on, where each is kept or not
in_front : (found live live_at : Bool) (x rest kept : Option Held) → (found ≡ true → live_at ≡ live) → kept ≡ (if live_at then rest else None) → cond live (cond found x kept) kept ≡ (if live_at then cond found x rest else None)
in_front true true live_at x rest kept same e = λ i. if sym (same refl) i then x else None
in_front true false live_at x rest kept same e = e ∙ ap (λ (b : Bool). if b then rest else None) (same refl) ∙ sym (ap (λ (b : Bool). if b then x else None) (same refl))
in_front false true live_at x rest kept same e = e
in_front false false live_at x rest kept same e = e

looked_up : (at : Site) (live : Bool) (e : Site × Held) (kept : World) → held (cond live (e ∷ kept) kept) at ≡ cond live (cond (same_site at e.0) (Some e.1) (held kept at)) (held kept at)
looked_up at true e kept = refl
looked_up at false e kept = refl

nothing_there : (b : Bool) → ◌≡◌ {A = Option Held} None (if b then None else None)
nothing_there true = refl
nothing_there false = refl

-- What is held of a site is kept where the site lives on, and else it is gone.
pub held_living : (is : List (Trail × List Read)) (world : World) (at : Site) → held (living is world) at ≡ (if lives is at then held world at else None)
held_living is [] at = nothing_there (lives is at)
held_living is (e ∷ rest) at =
    looked_up at (lives is e.0) e (living is rest)
    ∙ in_front (same_site at e.0) (lives is e.0) (lives is at) (Some e.1) (held rest at) (held (living is rest) at)
    (λ found. ap (lives is) ((same_site_decides at e.0).0 found)) (held_living is rest at)

-- what a pass leaves is what is living at its end
pub left_by : (r : Result (Unit {0}) PassFault) (s : Pass) (p : Passed) → ended (r, s) ≡ Ok p → p ≡ passed s
left_by (Ok u) s p e = sym (cc)
left_by (Err f) s p e = cc

is_live_cond : (b : Bool) (h : Option Held) → is_some (if b then h else None) ≡ true → b ≡ true
is_live_cond true h e = refl
is_live_cond false h e = e

-- After a pass each site that holds anything lives on: an instance or a service at a live path, or an environment's service.
pub is_live-lives : (app : App) (every : Bool) (marks : Marks) (z : State) (p : Passed) (at : Site) → pass app every marks z ≡ Ok p → is_live p.state.world at ≡ true → lives p.state.tree.instances at ≡ true
unfolding pass
is_live-lives app every marks z p at e h =
    let r = grow_root app z.tree every marks (root_view app (root_component app)) (begun z.world) in
    let q : p ≡ passed r.1 = left_by r.0 r.1 p e in
    let live : is_live (living r.1.instances r.1.world) at ≡ true = subst (λ (t : Passed). is_live t.state.world at ≡ true) q h in
    subst (λ (t : Passed). lives t.state.tree.instances at ≡ true) (sym q) (is_live_cond (lives r.1.instances at) (held r.1.world at) (ap is_some (sym (held_living r.1.instances r.1.world at)) ∙ live))
