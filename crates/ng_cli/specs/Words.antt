-- What the words of a call ask for.
use Rattle.std.specs.Prelude.{Bool, ◌&&◌, ◌||◌, not, List, ◌++◌, Option, Some, None, codes, if◌then◌else◌, option_and_then}
use Rattle.ng_semantics.specs.Text.{Text}
use Rattle.ng_semantics.specs.Lines.{line}
use Rattle.ng_words.specs.declared.order.Flags.{Flags}
use Rattle.ng_words.specs.Orders.{Asked, Run, Check, Compile, asked}

-- What can be done by now.
pub data Task : Type 0 where
  -- to run an application over events, each by the name of its file
  Runs : Text → Text → Task
  -- to check an application
  Checks : Text → Task

-- the name of the application's file
abbrev pub app_of : Task → Text
app_of (Runs app events) = app
app_of (Checks app) = app

-- `--every` stands alone
abbrev pub is_every_alone : Flags → Bool
is_every_alone f = f.every && not (f.ops || (f.report || f.trace))

-- an order that can be done: a run with `--every`, or a check
abbrev pub task_in : Asked → Option Task
task_in (Run flags app events) = if is_every_alone flags then Some (Runs app events) else None
task_in (Check app) = Some (Checks app)
task_in (Compile app) = None

-- The task of a call, where its words ask for what can be done.
abbrev pub task_of : List Text → Option Task
task_of words = option_and_then task_in (asked words)

-- What is written where the words ask for nothing that is there.
abbrev pub usage : Text
usage =
    line (codes "usage: ivy run [--every] [--ops] [--report] [--trace] APP EVENTS") ++ line (codes "       ivy check APP") ++ line (codes "       ivy compile APP") ++ line (codes "       ivy gen N")
