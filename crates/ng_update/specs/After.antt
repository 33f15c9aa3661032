-- The state after an event and its pass, from the fields alone.
use Rattle.std.specs.Prelude.{◌≡◌, List, [], Option, Some, None, codes, refl}
use Rattle.ng_values.specs.declared.fault.Fault.{Fault}
use Rattle.ng_ast.specs.declared.Component.{Component}
use Rattle.ng_ast.specs.declared.Stmt.{Stmt}
use Rattle.ng_tree.specs.declared.NodeId.{NodeId}
use Rattle.ng_semantics.specs.Text.{Text}
use Rattle.ng_semantics.specs.Meaning.{World}
use Rattle.ng_semantics.specs.Tree.{settle, page}
use Rattle.ng_semantics.specs.Events.{target, reached, listened, listener_at, ran, statements}
use Rattle.ng_semantics.specs.Run.{after}
use Rattle.ng_update.specs.Running.{Running, shown, click_on}

module _ (c : Component) (world : World) where
  after_ran : (r : Option Fault × World) → after c (settle c (record { world = world; tree = [] })) (ran r) ≡ settle c (record { world = (ran r).world; tree = [] })
  after_ran (None, next) = refl
  after_ran (Some fault, next) = refl

  after_listened : (body : Option (List Stmt)) → after c (settle c (record { world = world; tree = [] })) (listened world body) ≡ settle c (record { world = (listened world body).world; tree = [] })
  after_listened None = refl
  after_listened (Some body) = after_ran (statements body world)

  after_reached : (name : Text) (node : Option NodeId)
      → after c (settle c (record { world = world; tree = [] })) (reached c name world node) ≡ settle c (record { world = (reached c name world node).world; tree = [] })
  after_reached name None = refl
  after_reached name (Some node) = after_listened (listener_at c name node)

-- After a click and its pass the page shows what the fields then hold.
pub after_click : (r : Running) (tag : Text) → after r.component (shown r) (click_on r tag) ≡ shown (record { component = r.component; world = (click_on r tag).world })
after_click r tag = after_reached r.component r.world (codes "click") (target (page r.component (shown r)) tag 1)
