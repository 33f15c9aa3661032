-- What an `init` does: it sets own fields and signals, under conditions.
use Rattle.std.specs.Prelude.{if◌then◌else◌, List, [], Some}
use Rattle.ng_values.specs.declared.value.Value.{Value}
use Rattle.ng_values.specs.declared.fault.Fault.{Fault}
use Rattle.ng_values.specs.Calls.{argument}
use Rattle.ng_values.specs.Kinds.{truth}
use Rattle.ng_ast.specs.declared.App.{App}
use Rattle.ng_ast.specs.declared.Expr.{Expr}
use Rattle.ng_ast.specs.declared.Stmt.{Stmt, out-Stmt, size-Stmt}
use Rattle.ng_ast.specs.declared.Stmt.TheOpen.{Stmt-F}
use Rattle.ng_ast.specs.declared.Owner.{Owner}
use Rattle.ng_ast.specs.declared.Owner.TheVariants as owner
use Rattle.ng_ast.specs.declared.Member.{Member}
use Rattle.ng_ast.specs.declared.MemberKind.{MemberKind}
use Rattle.ng_ast.specs.declared.MemberKind.TheVariants as kind
use Rattle.ng_tree.specs.declared.Site.{Site}
use Rattle.ng_meaning.specs.Steps.{Steps, ◌>>=◌, pure, change, each, all}
use Rattle.ng_meaning.specs.Levels.{whole}
use Rattle.ng_meaning.specs.Lists.{Text}
use Rattle.ng_meaning.specs.World.{World, written}
use Rattle.ng_meaning.specs.Expressions.{Scope, mean_value, most_calls, no_effects}

-- something done to what an application holds
abbrev pub Setting : Type 0 → Type 0
Setting = Steps World Fault

-- what an `init` sees: the members of its own site
abbrev pub own_scope : App → Site → World → Scope
own_scope app at world = record { app = app; world = world; names = []; own = Some at; found = λ _ _. [] }

module _ (app : App) (at : Site) where
  -- the value of an expression of an `init`, by what is held at that moment
  abbrev pub init_value : Expr → Setting Value
  init_value e = λ world. ((mean_value most_calls (own_scope app at world) e no_effects).0, world)

  -- the signal that `x.set(..)` sets
  abbrev pub signal_set : Owner → Text
  signal_set (owner.Name p name) = name
  signal_set (owner.Safe p name) = name
  signal_set (owner.Item p name e) = name

  -- A statement of an `init`. It isn't counted, and the rules refuse calls other than the setting of an own signal.
  abbrev pub init_layer : (Stmt → Setting (Unit {0})) → Stmt-F Stmt → Setting (Unit {0})
  init_layer inner (Stmt-F.Set p name e) = init_value e >>= (λ w. change (written at name w))
  init_layer inner (Stmt-F.Send p o name args) = all init_value args >>= (λ ws. change (written at (signal_set o) (argument 0 ws)))
  init_layer inner (Stmt-F.If p c body other) = init_value c >>= (λ w. if truth w then each inner body else each inner other)
  init_layer inner (Stmt-F.Do p name args) = pure tt

  -- the statements of an `init`, one after another
  abbrev pub init_body : List Stmt → Setting (Unit {0})
  init_body = each (whole out-Stmt size-Stmt (pure tt) init_layer)

  -- the `init` that a member is
  abbrev pub init_of : MemberKind → Setting (Unit {0})
  init_of (kind.Init body) = init_body body
  init_of _ = pure tt

-- The `init` of an instance or a service, if it has one. What was written before a fault stays.
unfoldable pub run_init : App → Site → List Member → Setting (Unit {0})
run_init app at = each (λ m. init_of app at m.kind)
