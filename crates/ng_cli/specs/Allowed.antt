-- Which status and which output a call may have.
use Rattle.std.specs.Prelude.{◌≡◌, ℕ, ◌⊎◌, List, map, Option, Some, None, codes}
use Rattle.ng_values.specs.declared.value.Value.TheVariants.{Null}
use Rattle.ng_ast.specs.declared.App.{App}
use Rattle.ng_ast.specs.declared.Component.{Component}
use Rattle.ng_semantics.specs.Text.{Text}
use Rattle.ng_semantics.specs.Declared.{root_of}
use Rattle.ng_semantics.specs.Events.{Event, On}
use Rattle.ng_semantics.specs.Lines.{line, lines}
use Rattle.ng_quiet.specs.Quiet.{IsQuiet}
use Rattle.ng_unbuilt.specs.Forms.{forms}
use Rattle.ng_unbuilt.specs.Least.{least}
use Rattle.ng_cli.specs.Words.{Task, Runs, Checks, app_of, task_of, usage}
use Rattle.ng_cli.specs.Refusals.{IsSoundApp, RefusesTask, AreClicks, RefusesEvents}

-- What a shelf tells under each name.
abbrev pub Told : Type 0
Told = Text → Option Text

-- A click on the first element of a tag.
abbrev pub click : Text → Event
click tag = On (codes "click") tag 1 Null

-- These bytes are a sound application, and a run of it is built.
abbrev pub IsBuilt : Text → App → Type 0
IsBuilt bytes app = IsSoundApp bytes app × (least (forms app) ≡ None)

-- These words, over files of which this is told, may end with this status and this output. The order is: the words, the
-- application, its rules, the events, the run.
pub data Allowed : List Text → Told → ℕ → Text → Type 0 where
  -- words that are not accepted
  asks_nothing : {words : List Text} {told : Told} → task_of words ≡ None → Allowed words told 2 usage
  refuses_app : {words : List Text} {told : Told} {line : Text} (task : Task) (bytes : Text) → task_of words ≡ Some task → told (app_of task) ≡ Some bytes
      → RefusesTask task bytes line → Allowed words told 3 line
  -- a sound application, quiet or not
  says_quiet : {words : List Text} {told : Told} (name bytes : Text) (app : App) → task_of words ≡ Some (Checks name) → told name ≡ Some bytes → IsSoundApp bytes app
      → IsQuiet app → Allowed words told 0 (line (codes "sound quiet"))
  says_not_quiet : {words : List Text} {told : Told} (name bytes : Text) (app : App) → task_of words ≡ Some (Checks name) → told name ≡ Some bytes → IsSoundApp bytes app
      → (IsQuiet app → ⊥) → Allowed words told 0 (line (codes "sound not-quiet"))
  refuses_events : {words : List Text} {told : Told} {line : Text} (name other bytes events : Text) (app : App) → task_of words ≡ Some (Runs name other)
      → told name ≡ Some bytes → IsBuilt bytes app → told other ≡ Some events → RefusesEvents events line → Allowed words told 3 line
  -- the pages of the run, after the first pass and after each event
  runs : {words : List Text} {told : Told} (name other bytes events : Text) (app : App) (root : Component) (tags : List Text) → task_of words ≡ Some (Runs name other)
      → told name ≡ Some bytes → IsBuilt bytes app → root_of app ≡ Some root → told other ≡ Some events → AreClicks events tags
      → Allowed words told 0 (lines root (map click tags))

-- The events of a task are told, unless the application is refused before they are wanted.
abbrev pub EventsTold : Task → Told → Text → Type 0
EventsTold (Runs app events) told bytes = ((line : Text) × RefusesTask (Runs app events) bytes line) ⊎ ((text : Text) × (told events ≡ Some text))
EventsTold (Checks app) told bytes = Unit {0}

-- The files of a task to which that order comes are told.
pub record AreTold (task : Task) (told : Told) : Type 0 where
  pub bytes : Text
  pub app_is : told (app_of task) ≡ Some bytes
  pub rest : EventsTold task told bytes
