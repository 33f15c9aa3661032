-- What was written, and why a call ended.
use Rattle.std.specs.Prelude.{◌≡◌, ℕ, ◌⊎◌, List, ◌++◌, Option, Some, IfSome}
use Rattle.ng_outside.specs.Causes.{Rose}
use Rattle.ng_outside.specs.Taken.{appended}
use Rattle.ng_semantics.specs.Text.{Text}
use Rattle.ng_cli.specs.Words.{Task, Runs, Checks, app_of, task_of}
use Rattle.ng_cli.specs.Refusals.{RefusesTask}
use Rattle.ng_cli.specs.Allowed.{Told, Allowed}

-- This was written.
abbrev pub Wrote : Option Text → Option Text → Text → Type 0
Wrote before after text = after ≡ appended before text

-- The status is allowed with what was written.
pub record WroteAllowed (words : List Text) (told : Told) (status : ℕ) (before after : Option Text) : Type 0 where
  pub text : Text
  pub allowed : Allowed words told status text
  pub wrote : Wrote before after text

-- What was written is the beginning of an output that is allowed.
pub record WroteFront (words : List Text) (told : Told) (before after : Option Text) : Type 0 where
  pub status : ℕ
  pub front : Text
  pub rest : Text
  pub allowed : Allowed words told status (front ++ rest)
  pub wrote : Wrote before after front

-- the events of a task failed: they are wanted where the application, if it is told, isn't refused
abbrev pub EventsFailed : Task → Told → (Text → ℕ) → (Text → ℕ) → Type 0
EventsFailed (Runs app events) told before after = Rose (before events) (after events) × IfSome (told app) (λ bytes. (line : Text) → RefusesTask (Runs app events) bytes line → ⊥)
EventsFailed (Checks app) told before after = ⊥

-- A fetch failed: of the application, or of the events.
pub record FetchFailed (words : List Text) (told : Told) (before after : Text → ℕ) : Type 0 where
  pub task : Task
  pub accepted : task_of words ≡ Some task
  pub rose : Rose (before (app_of task)) (after (app_of task)) ⊎ EventsFailed task told before after

-- No fetch of a file of this name failed.
abbrev pub NotFailed : Text → (Text → ℕ) → (Text → ℕ) → Type 0
NotFailed name before after = Rose (before name) (after name) → ⊥

-- No fetch of a file of the task failed.
abbrev pub NoneFailed : Task → (Text → ℕ) → (Text → ℕ) → Type 0
NoneFailed (Runs app events) before after = NotFailed app before after × NotFailed events before after
NoneFailed (Checks app) before after = NotFailed app before after

-- Of a whole output a beginning was written.
pub record WrotePart (before after : Option Text) (whole : Text) : Type 0 where
  pub front : Text
  pub rest : Text
  pub whole_is : whole ≡ front ++ rest
  pub wrote : Wrote before after front
