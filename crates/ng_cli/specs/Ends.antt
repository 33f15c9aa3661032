-- How the parts of a call end.
use Rattle.std.specs.Prelude.{◌≡◌, ℕ, ◌⊎◌, List, Option, Some, None}
use Rattle.ng_outside.specs.Causes.{Rose}
use Rattle.ng_semantics.specs.Text.{Text}
use Rattle.ng_cli.specs.declared.inputs.Stop.{Stop}
use Rattle.ng_cli.specs.declared.inputs.Stop.TheVariants as stop
use Rattle.ng_cli.specs.declared.status.Status.{Status}
use Rattle.ng_cli.specs.declared.status.Status.TheVariants as status
use Rattle.ng_words.specs.declared.reading.Refused.{Refused}
use Rattle.ng_words.specs.declared.reading.Refused.TheVariants as refused
use Rattle.ng_cli.specs.Words.{Task, task_of}
use Rattle.ng_cli.specs.Allowed.{Told, AreTold}
use Rattle.ng_cli.specs.Causes.{Wrote, WrotePart, WroteAllowed, WroteFront, FetchFailed}
use Rattle.ng_cli.specs.Steps.{line_of}

-- The files that the words name, as far as the order of reading comes to them, are told.
abbrev pub AllTold : List Text → Told → Type 0
AllTold words told = (task : Task) → task_of words ≡ Some task → AreTold task told

-- The words ask for nothing that can be done, or memory ran out.
abbrev pub NamesNone : List Text → Refused → Type 0
NamesNone words refused.Words = task_of words ≡ None
NamesNone words refused.Memory = Unit {0}

-- A text was to be written, and then the call was to end so.
abbrev pub PutEnds : Status → Text → Option Text → Option Text → ℕ → ℕ → Status → Type 0
PutEnds end text before after faults_before faults_after result =
    ((result ≡ end) × Wrote before after text) ⊎ (((result ≡ status.NoMemory) × WrotePart before after text) ⊎ ((result ≡ status.NoOutput) × WrotePart before after text × Rose faults_before faults_after))

-- There was nothing to run.
abbrev pub StopEnds : Stop → Option Text → Option Text → ℕ → ℕ → Status → Type 0
StopEnds (stop.Refused r) before after faults_before faults_after result = PutEnds status.Refused (line_of r) before after faults_before faults_after result
StopEnds stop.Failed before after faults_before faults_after result = (result ≡ status.NoFile) × (after ≡ before)
StopEnds stop.Memory before after faults_before faults_after result = (result ≡ status.NoMemory) × (after ≡ before)

-- A beginning of an allowed output was written, or nothing.
abbrev pub WroteSome : List Text → Told → Option Text → Option Text → Type 0
WroteSome words told before after = WroteFront words told before after ⊎ (after ≡ before)

-- What holds after a whole call that ended with a status.
abbrev pub Ends : List Text → Told → (Text → ℕ) → (Text → ℕ) → Option Text → Option Text → ℕ → ℕ → Status → Type 0
Ends words told failed_before failed_after before after faults_before faults_after status.Done =
    ((task : Task) × (task_of words ≡ Some task)) × (AllTold words told → WroteAllowed words told 0 before after)
Ends words told failed_before failed_after before after faults_before faults_after status.NoMemory = AllTold words told → WroteSome words told before after
Ends words told failed_before failed_after before after faults_before faults_after status.Usage = (task_of words ≡ None) × WroteAllowed words told 2 before after
Ends words told failed_before failed_after before after faults_before faults_after status.Refused =
    ((task : Task) × (task_of words ≡ Some task)) × (AllTold words told → WroteAllowed words told 3 before after)
Ends words told failed_before failed_after before after faults_before faults_after status.NoFile = FetchFailed words told failed_before failed_after × (after ≡ before)
Ends words told failed_before failed_after before after faults_before faults_after status.NoOutput = Rose faults_before faults_after × (AllTold words told → WroteSome words told before after)
