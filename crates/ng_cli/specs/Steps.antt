-- What the parts of a call answer.
use Rattle.std.specs.Prelude.{List, map, Option, Some, None, String, string_bytes, Result, Ok, Err}
use Rattle.std.specs.declared.alloc.Global.{Global}
use Rattle.ng_outside.specs.declared.sink.SinkError.{SinkError}
use Rattle.ng_outside.specs.declared.sink.SinkError.TheVariants as sink
use Rattle.ng_semantics.specs.Text.{Text}
use Rattle.ng_semantics.specs.Lines.{line}
use Rattle.ng_cli.specs.declared.refusal.Refusal.{Refusal}
use Rattle.ng_cli.specs.declared.refusal.Refusal.TheVariants as refusal
use Rattle.ng_cli.specs.declared.status.Status.{Status}
use Rattle.ng_cli.specs.declared.status.Status.TheVariants as status
use Rattle.std.specs.Prelude.{◌≡◌, Bool, true, false}
use Rattle.ng_ast.specs.declared.App.{App}
use Rattle.ng_ast.specs.declared.Place.{Place}
use Rattle.ng_ast.specs.declared.refusals.ReadError.{ReadError}
use Rattle.ng_ast.specs.declared.refusals.ReadError.TheVariants as read
use Rattle.ng_rules.specs.declared.checker.CheckError.{CheckError}
use Rattle.ng_rules.specs.declared.checker.CheckError.TheVariants as check
use Rattle.ng_unbuilt.specs.Forms.{forms}
use Rattle.ng_unbuilt.specs.Least.{least}
use Rattle.ng_cli.specs.declared.words.Task.{Task as Task'}
use Rattle.ng_cli.specs.declared.words.Task.TheVariants as task
use Rattle.ng_cli.specs.Words.{Task, Runs, Checks}
use Rattle.ng_cli.specs.Refusals.{line_at, break_line, RefusesApp, RefusesTask, RefusesEvents}
use Rattle.std.specs.Prelude.{codes}
use denote.Ref.{Bor}
use Rattle.std.specs.Prelude.{◌++◌, length}
use Rattle.ng_semantics.specs.Run.{Turn, turns}
use Rattle.ng_semantics.specs.Lines.{turn_lines, lines_from, end_line}
use Rattle.ng_update.specs.Running.{Running, shown, page_of}
use Rattle.ng_cli.specs.Allowed.{click}
use Rattle.std.specs.Prelude.{ℕ, IfSome}
use Rattle.ng_outside.specs.Causes.{Rose}
use Rattle.ng_cli.specs.declared.inputs.Stop.{Stop}
use Rattle.ng_cli.specs.declared.inputs.Stop.TheVariants as stop
use Rattle.ng_semantics.specs.Events.{Outcome}
use Rattle.ng_update.specs.declared.engine.Delivered.{Delivered}
use Rattle.ng_update.specs.Clicked.{outcome_in}

-- The words as texts.
abbrev pub texts : List (String Global) → List Text
texts = map string_bytes

abbrev pub line_of : Refusal → Text
line_of refusal.AppTooLong = line (codes "refused app TooLong")
line_of refusal.AppUtf8 = line (codes "refused app Utf8")
line_of (refusal.AppSyntax place) = line_at (codes "Syntax") place
line_of (refusal.AppLimit place) = line_at (codes "Limit") place
line_of (refusal.AppBroken break) = break_line break
line_of (refusal.AppNotBuilt place) = line_at (codes "NotBuilt") place
line_of refusal.EventsTooLong = line (codes "refused events TooLong")
line_of refusal.EventsSyntax = line (codes "refused events Syntax")
line_of refusal.EventsNotBuilt = line (codes "refused events NotBuilt")

-- The status of a call that ends with this, unless its output couldn't be put.
abbrev pub ended : Status → Result (Unit {0}) SinkError → Status
ended end (Ok u) = end
ended end (Err sink.Failed) = status.NoOutput
ended end (Err sink.Memory) = status.NoMemory

-- What came of an event, if there was one.
abbrev pub outcome_told : Option (Bor Delivered) → Option Outcome
outcome_told None = None
outcome_told (Some delivered) = Some (outcome_in delivered.now)

-- why an application isn't read
abbrev pub Unread : ReadError → Stop → Type 0
Unread read.Utf8 s = s ≡ stop.Refused refusal.AppUtf8
Unread (read.Syntax r) s = s ≡ stop.Refused (refusal.AppSyntax r.place)
Unread (read.Limit r) s = s ≡ stop.Refused (refusal.AppLimit r.place)
Unread read.Memory s = s ≡ stop.Memory

-- why an application isn't sound
abbrev pub Unsound : CheckError → Stop → Type 0
Unsound (check.Refused r app) s = s ≡ stop.Refused (refusal.AppBroken r)
Unsound (check.Memory app) s = s ≡ stop.Memory

-- a run of the application isn't built, and this says so
abbrev pub IsUnbuilt : App → Refusal → Type 0
IsUnbuilt app r = (place : Place) × (least (forms app) ≡ Some place) × (r ≡ refusal.AppNotBuilt place)

-- Why bytes within the limit are no sound application.
abbrev pub AppReadStop : Text → Stop → Type 0
AppReadStop bytes (stop.Refused r) = RefusesApp bytes (line_of r)
AppReadStop bytes stop.Failed = ⊥
AppReadStop bytes stop.Memory = Unit {0}

abbrev pub EventsReadStop : Text → Stop → Type 0
EventsReadStop bytes (stop.Refused r) = RefusesEvents bytes (line_of r)
EventsReadStop bytes stop.Failed = ⊥
EventsReadStop bytes stop.Memory = Unit {0}

-- Why an application wasn't fetched and read, by what is told of it and by the failures of its name before and after.
abbrev pub AppStop : Option Text → ℕ → ℕ → Stop → Type 0
AppStop told before after (stop.Refused r) = IfSome told (λ bytes. RefusesApp bytes (line_of r))
AppStop told before after stop.Failed = Rose before after
AppStop told before after stop.Memory = Unit {0}

-- The same for a task.
abbrev pub TaskStop : Task → Option Text → ℕ → ℕ → Stop → Type 0
TaskStop task told before after (stop.Refused r) = IfSome told (λ bytes. RefusesTask task bytes (line_of r))
TaskStop task told before after stop.Failed = Rose before after
TaskStop task told before after stop.Memory = Unit {0}

abbrev pub EventsStop : Option Text → ℕ → ℕ → Stop → Type 0
EventsStop told before after (stop.Refused r) = IfSome told (λ bytes. RefusesEvents bytes (line_of r))
EventsStop told before after stop.Failed = Rose before after
EventsStop told before after stop.Memory = Unit {0}

-- what a check says of a sound application
abbrev pub says : Bool → Text
says true = line (codes "sound quiet")
says false = line (codes "sound not-quiet")

-- a task of the code
abbrev pub meant : Task' → Task
meant (task.Run app events) = Runs app.now events.now
meant (task.Check app) = Checks app.now

-- What is still to be written of a run of so many events: the turns of these clicks from here on, and the end.
abbrev pub left : Running → ℕ → List Text → ℕ → Text
left r k tags events = lines_from k (turns r.component (shown r) (map click tags)) ++ end_line events

-- What came first, before any event.
abbrev pub first_turn : Running → Turn
first_turn r = record { outcome = None; page = page_of r }

-- What a run writes that begins here.
unfoldable pub whole_run : Running → List Text → Text
whole_run r tags = turn_lines 0 (first_turn r) ++ left r 1 tags (length tags)

-- The number of a status.
abbrev pub code_of : Status → ℕ
code_of status.Done = 0
code_of status.NoMemory = 1
code_of status.Usage = 2
code_of status.Refused = 3
code_of status.NoFile = 5
code_of status.NoOutput = 6
