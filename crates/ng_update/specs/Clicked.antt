-- A click on a template, without the page between.
use Rattle.std.specs.Prelude.{List, Option, Some, None, true, false, codes}
use Rattle.std.specs.List.{filter_map}
use Rattle.std.specs.Str.{bytes_eq}
use Rattle.ng_ast.specs.declared.TAttr.{TAttr}
use Rattle.ng_ast.specs.declared.Stmt.{Stmt}
use Rattle.ng_ast.specs.declared.TNode.{TNode, out-TNode}
use Rattle.ng_ast.specs.declared.TNode.TheOpen.{TNode-F}
use Rattle.ng_ast.specs.declared.Branch.{Branch}
use Rattle.ng_semantics.specs.Text.{Text, head_of}
use Rattle.ng_semantics.specs.Meaning.{World}
use Rattle.ng_semantics.specs.Events.{Outcome, Ran, Faulted, NoTarget, NoListener, Handled, listener_in, listened}
use Rattle.ng_update.specs.declared.engine.Delivered.{Delivered}
use Rattle.ng_update.specs.declared.engine.Delivered.TheVariants as delivered

-- the attributes of a node that is an element of the tag
abbrev pub attributes_at : Text → TNode-F TNode Branch → Option (List TAttr)
attributes_at tag (TNode-F.Element place name attrs nodes) = elim (bytes_eq tag name) [ true ↦ Some attrs | false ↦ None ]
attributes_at tag _ = None

-- the attributes of the first element of the tag
abbrev pub attributes_among : Text → List TNode → Option (List TAttr)
attributes_among tag nodes = head_of (filter_map (λ node. attributes_at tag (out-TNode node)) nodes)

-- the statements with which these attributes listen for clicks
abbrev pub click_in : List TAttr → Option (List Stmt)
click_in attrs = head_of (filter_map (λ a. listener_in (codes "click") a a.form) attrs)

-- what comes of a click on the element that has these attributes, if there is one
abbrev pub clicked : World → Option (List TAttr) → Handled
clicked world None = record { outcome = NoTarget; world = world }
clicked world (Some attrs) = listened world (click_in attrs)

abbrev pub outcome_in : Delivered → Outcome
outcome_in delivered.Ran = Ran
outcome_in (delivered.Fault fault) = Faulted fault
outcome_in delivered.NoTarget = NoTarget
outcome_in delivered.NoListener = NoListener
