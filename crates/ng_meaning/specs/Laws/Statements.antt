-- One level of what a statement does.
use Rattle.std.specs.Prelude.{◌≡◌, ℕ, ◌<◌, if◌then◌else◌, List, [], ◌∷◌, refl}
use Rattle.std.proofs.Common.{ap, arith}
use denote.Param.Weighed.{most}
use Rattle.ng_values.specs.Kinds.{truth}
use Rattle.ng_ast.specs.declared.App.{App}
use Rattle.ng_ast.specs.declared.Stmt.{Stmt, out-Stmt, roll-Stmt, size-Stmt}
use Rattle.ng_ast.specs.declared.Stmt.TheOpen.{Stmt-F}
use Rattle.ng_ast.specs.declared.Stmt.TheVariants as stmt
use Rattle.ng_ast.specs.declared.Stmt.TheViews.{roll-out-Stmt, sized-If}
use Rattle.ng_tree.specs.declared.Site.{Site}
use Rattle.ng_meaning.specs.Steps.{Steps, ◌>>=◌, ◌>>◌, pure, each}
use Rattle.ng_meaning.specs.Levels.{whole, whole_is}
use Rattle.ng_meaning.specs.Init.{Setting, init_value, init_layer}
use Rattle.ng_meaning.specs.Tree.{Tree}
use Rattle.ng_meaning.specs.Events.{Act, Frame, Runner, counted, value_in, act_layer, act}

-- statements that are smaller than a number do the same
each_alike : {S F A : Type 0} (f g : A → Steps S F (Unit {0})) (size : A → ℕ) (n : ℕ) (ss : List A) → ((u : A) → size u < n → f u ≡ g u) → most size ss < n → each f ss ≡ each g ss
each_alike f g size n [] h less = refl
each_alike f g size n (s ∷ ss) h less = λ i. h s (omega arith) i >>= (λ _. each_alike f g size n ss h (omega arith) i)

init_alike : (app : App) (at : Site) (f g : Stmt → Setting (Unit {0})) (l : Stmt-F Stmt) → ((u : Stmt) → size-Stmt u < size-Stmt (roll-Stmt l) → f u ≡ g u) → init_layer app at f l ≡ init_layer app at g l
init_alike app at f g (Stmt-F.If p c ss others) h =
    let d = each_alike f g size-Stmt _ ss h (omega (arith, ap size-Stmt (stmt.rolls-If p c ss others), sized-If p c ss others)) in
    let e = each_alike f g size-Stmt _ others h (omega (arith, ap size-Stmt (stmt.rolls-If p c ss others), sized-If p c ss others)) in
    λ i. init_value app at c >>= (λ w. if truth w then d i else e i)
init_alike app at f g _ h = refl

-- A statement of an `init` does one level over what those inside do.
pub init_is : (app : App) (at : Site) (s : Stmt) → whole out-Stmt size-Stmt (pure tt) (init_layer app at) s ≡ init_layer app at (whole out-Stmt size-Stmt (pure tt) (init_layer app at)) (out-Stmt s)
init_is app at = whole_is out-Stmt size-Stmt (pure tt) (init_layer app at) (λ f g t h. init_alike app at f g (out-Stmt t) (λ u small. h u (omega (arith, ap size-Stmt (roll-out-Stmt t)))))

module _ (app : App) (tree : Tree) (left : ℕ) (runner : Runner) where
  act_alike : (f g : Stmt → Frame → Act (Unit {0})) (l : Stmt-F Stmt) → ((u : Stmt) → size-Stmt u < size-Stmt (roll-Stmt l) → f u ≡ g u) → act_layer app tree left runner f l ≡ act_layer app tree left runner g l
  act_alike f g (Stmt-F.If p c ss others) h =
      let d = λ (r : Frame). each_alike (λ s. f s r) (λ s. g s r) size-Stmt _ ss (λ u small i. h u small i r) (omega (arith, ap size-Stmt (stmt.rolls-If p c ss others), sized-If p c ss others)) in
      let e = λ (r : Frame). each_alike (λ s. f s r) (λ s. g s r) size-Stmt _ others (λ u small i. h u small i r) (omega (arith, ap size-Stmt (stmt.rolls-If p c ss others), sized-If p c ss others)) in
      λ i r. counted >> (value_in app tree left runner r c >>= (λ w. if truth w then d r i else e r i))
  act_alike f g _ h = refl

  -- A statement of an event does one level over what those inside do.
  pub act_is : (s : Stmt) → act app tree left runner s ≡ act_layer app tree left runner (act app tree left runner) (out-Stmt s)
  act_is = whole_is out-Stmt size-Stmt (λ f. pure tt) (act_layer app tree left runner) (λ f g t h. act_alike f g (out-Stmt t) (λ u small. h u (omega (arith, ap size-Stmt (roll-out-Stmt t)))))
