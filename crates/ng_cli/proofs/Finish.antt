-- How a call ends, from how its parts end.
use Rattle.std.proofs.Common.{◌≡◌, ℕ, ◌≤◌, List, ◌++◌, map, length, Option, Some, None, refl, sym, ap, ◌∙◌, append_assoc, inl, inr, ◌⊎◌, IfSome, arith, subst, Bool, true, false, IsTrue, ◌↔◌, Result, Ok, Err, OnOk, OnErr, IsErrOf}
use Rattle.std.proofs.lemmas.List.{length-map}
use Rattle.ng_outside.specs.Causes.{Rose}
use Rattle.ng_outside.specs.declared.sink.SinkError.{SinkError}
use Rattle.ng_outside.specs.declared.sink.SinkError.TheVariants as sink
use Rattle.ng_ast.specs.declared.App.{App}
use Rattle.ng_ast.specs.declared.Component.{Component}
use Rattle.ng_semantics.specs.Text.{Text}
use Rattle.ng_semantics.specs.Declared.{initial_fields}
use Rattle.ng_semantics.specs.First.{IsAlone}
use Rattle.ng_semantics.specs.Tree.{settle, initial}
use Rattle.ng_semantics.specs.Run.{turn, turns}
use Rattle.ng_semantics.specs.Lines.{lines, lines_from, turn_lines, end_line}
use Rattle.ng_update.specs.Running.{Running}
use Rattle.ng_cli.specs.declared.inputs.Stop.{Stop}
use Rattle.ng_cli.specs.declared.inputs.Stop.TheVariants as stop
use Rattle.ng_cli.specs.declared.status.Status.{Status}
use Rattle.ng_cli.specs.declared.status.Status.TheVariants as status
use Rattle.ng_quiet.specs.Quiet.{IsQuiet}
use Rattle.ng_cli.specs.Words.{Task, Runs, Checks, app_of, task_of, usage}
use Rattle.ng_cli.specs.Refusals.{IsSoundApp, RefusesApp, RefusesTask, refused_for_all, AreClicks, RefusesEvents}
use Rattle.ng_cli.specs.Allowed.{Told, Allowed, IsBuilt, click, asks_nothing, refuses_app, says_quiet, says_not_quiet, refuses_events, runs}
use Rattle.ng_cli.specs.Causes.{Wrote, WrotePart, WroteAllowed, WroteFront, FetchFailed, EventsFailed, NoneFailed}
use Rattle.ng_cli.specs.Ends.{AllTold, PutEnds, StopEnds, WroteSome, Ends}
use Rattle.ng_cli.specs.Steps.{ended, line_of, AppStop, TaskStop, EventsStop, says, whole_run, code_of}
use Rattle.ng_cli.proofs.Told.{if_some_weaker, if_some_at, built_not_refused, checked_not_refused, events_not_refused}
use Rattle.ng_cli.proofs.Turns.{root-IsAlone}

-- what an engine at its start runs is the run of its application
pub whole_run_is : (r : Running) (c : Component) (tags : List Text) → r ≡ record { component = c; world = initial_fields c.members } → whole_run r tags ≡ lines c (map click tags)
unfolding whole_run
whole_run_is r c tags e =
    let z = settle c (initial c) in
    let first = turn_lines 0 (turn c None z) in
    let rest = lines_from 1 (turns c z (map click tags)) in
    ap (λ (s : Running). whole_run s tags) e
    ∙ sym (append_assoc first rest (end_line (length tags)))
    ∙ ap (λ n. (first ++ rest) ++ end_line n) (sym (length-map tags click))

-- a text was put whole, or in part
pub put_ends : (end : Status) (whole text : Text) (before after : Option Text) (faults_before faults_after : ℕ) (put : Result (Unit {0}) SinkError) → whole ≡ text → (s : Status) → s ≡ ended end put
    → OnOk put (Wrote before after whole) → OnErr put (WrotePart before after whole) → (IsErrOf put sink.Failed → Rose faults_before faults_after) → PutEnds end text before after faults_before faults_after s
put_ends end whole text before after faults_before faults_after (Ok u) e s is w p f = inl (is, subst (Wrote before after) e w)
put_ends end whole text before after faults_before faults_after (Err sink.Memory) e s is w p f = inr (inl (is, subst (WrotePart before after) e p))
put_ends end whole text before after faults_before faults_after (Err sink.Failed) e s is w p f = inr (inr (is, subst (WrotePart before after) e p, f refl))

rose_since : (a b c : ℕ) → a ≤ b → Rose b c → Rose a c
rose_since a b c h r = omega (arith, h, r)

-- the same of a shelf that was asked for another file before
pub events_stop_since : (told earlier : Option Text) (first before after : ℕ) (why : Stop) → told ≡ earlier → first ≤ before → EventsStop told before after why → EventsStop earlier first after why
events_stop_since told earlier first before after (stop.Refused r) e h w = subst (λ (t : Option Text). IfSome t (λ bytes. RefusesEvents bytes (line_of r))) e w
events_stop_since told earlier first before after stop.Failed e h w = rose_since first before after h w
events_stop_since told earlier first before after stop.Memory e h w = tt

-- what stops any task stops this one
pub any_task : (task : Task) (told : Option Text) (before after : ℕ) (why : Stop) → AppStop told before after why → TaskStop task told before after why
any_task task told before after (stop.Refused r) w = if_some_weaker told (λ bytes. RefusesApp bytes (line_of r)) (λ bytes. RefusesTask task bytes (line_of r)) (λ bytes h. refused_for_all h) w
any_task task told before after stop.Failed w = w
any_task task told before after stop.Memory w = tt

-- ---- a file that is refused isn't run, and no application is checked that is refused

one_task : (words : List Text) (a b : Task) → task_of words ≡ Some a → task_of words ≡ Some b → a ≡ b
one_task words a b e f = cc

one_text : (told : Told) (name other a b : Text) → name ≡ other → told name ≡ Some a → told other ≡ Some b → a ≡ b
one_text told name other a b e p q = cc

same_events : (a b c d : Text) → Runs a b ≡ Runs c d → b ≡ d
same_events a b c d e = cc

no_check : (a b c : Text) → Runs a b ≡ Checks c → ⊥
no_check a b c e = cc

-- how a call ran or checked: the task, the application, and that it isn't refused
record Went (words : List Text) (told : Told) (text : Text) : Type 0 where
  task : Task
  accepted : task_of words ≡ Some task
  bytes : Text
  app_is : told (app_of task) ≡ Some bytes
  goes : (line : Text) → RefusesTask task bytes line → ⊥
  events : (name other ev line : Text) → task ≡ Runs name other → told other ≡ Some ev → RefusesEvents ev line → ⊥

went : (words : List Text) (told : Told) (m : ℕ) (text : Text) → Allowed words told m text → m ≡ 0 → Went words told text
went words told m text (asks_nothing none) e = absurd (omega arith)
went words told m text (refuses_app task bytes x y r) e = absurd (omega arith)
went words told m text (refuses_events name other bytes ev app x y b w r) e = absurd (omega arith)
went words told m text (says_quiet name bytes app x y sound quiet) e =
    record { task = Checks name; accepted = x; bytes = bytes; app_is = y; goes = λ line r. checked_not_refused name bytes line app sound r; events = λ a b ev line same. absurd (no_check a b name (sym same)) }
went words told m text (says_not_quiet name bytes app x y sound loud) e =
    record { task = Checks name; accepted = x; bytes = bytes; app_is = y; goes = λ line r. checked_not_refused name bytes line app sound r; events = λ a b ev line same. absurd (no_check a b name (sym same)) }
went words told m text (runs name other bytes ev app root tags x y built u w clicks) e =
    record {
      task = Runs name other;
      accepted = x;
      bytes = bytes;
      app_is = y;
      goes = λ line r. built_not_refused (Runs name other) bytes line app built r;
      events = λ a b text line same is r. events_not_refused text line tags (subst (λ t. AreClicks t tags) (one_text told other b ev text (same_events name other a b same) w is) clicks) r;
    }

-- what refuses a call, and one that ran or checked
refused_or_went : (words : List Text) (told : Told) (n : ℕ) (line text : Text) → Allowed words told n line → Went words told text → n ≡ 3 → ⊥
refused_or_went words told n line text (asks_nothing none) w e = absurd (omega arith)
refused_or_went words told n line text (says_quiet name bytes app x y sound quiet) w e = absurd (omega arith)
refused_or_went words told n line text (says_not_quiet name bytes app x y sound loud) w e = absurd (omega arith)
refused_or_went words told n line text (runs name other bytes ev app root tags x y built u v clicks) w e = absurd (omega arith)
refused_or_went words told n line text (refuses_app task bytes x y r) w e =
    let same : task ≡ w.task = one_task words task w.task x w.accepted in
    let one : bytes ≡ w.bytes = one_text told (app_of task) (app_of w.task) bytes w.bytes (ap app_of same) y w.app_is in
    w.goes line (subst (λ k. RefusesTask w.task k line) one (subst (λ k. RefusesTask k bytes line) same r))
refused_or_went words told n line text (refuses_events name other bytes ev app x y built z r) w e =
    w.events name other ev line (one_task words w.task (Runs name other) w.accepted x) z r

module _ (words : List Text) (told : Told) (failed_before failed_after : Text → ℕ) (before after : Option Text) (faults_before faults_after : ℕ) where
  abbrev End : Status → Type 0
  End = Ends words told failed_before failed_after before after faults_before faults_after

  front : (n : ℕ) (whole : Text) → Allowed words told n whole → WrotePart before after whole → WroteFront words told before after
  front n whole a p = record { status = n; front = p.front; rest = p.rest; allowed = subst (Allowed words told n) p.whole_is a; wrote = p.wrote }

  some_front : (n : ℕ) (whole : Text) → (AllTold words told → Allowed words told n whole) → WrotePart before after whole → AllTold words told → WroteSome words told before after
  some_front n whole a p h = inl (front n whole (a h) p)

  pub ends_refused : (task : Task) (line : Text) (s : Status) → task_of words ≡ Some task → (AllTold words told → Allowed words told 3 line)
      → PutEnds status.Refused line before after faults_before faults_after s → End s
  ends_refused task line s accepted a p = elim p [
    | inl w ↦ subst End (sym w.0) ((task, accepted), λ h. record { text = line; allowed = a h; wrote = w.1 })
    | inr q ↦ elim q [
      | inl w ↦ subst End (sym w.0) (some_front 3 line a w.1)
      | inr w ↦ subst End (sym w.0) (w.2, some_front 3 line a w.1)
    ]
  ]

  pub ends_done : (task : Task) (text : Text) (s : Status) → task_of words ≡ Some task → (AllTold words told → Allowed words told 0 text)
      → PutEnds status.Done text before after faults_before faults_after s → End s
  ends_done task text s accepted a p = elim p [
    | inl w ↦ subst End (sym w.0) ((task, accepted), λ h. record { text = text; allowed = a h; wrote = w.1 })
    | inr q ↦ elim q [
      | inl w ↦ subst End (sym w.0) (some_front 0 text a w.1)
      | inr w ↦ subst End (sym w.0) (w.2, some_front 0 text a w.1)
    ]
  ]

  pub ends_usage : (s : Status) → task_of words ≡ None → PutEnds status.Usage usage before after faults_before faults_after s → End s
  ends_usage s none p =
      let a : Allowed words told 2 usage = asks_nothing none in
      elim p [
        | inl w ↦ subst End (sym w.0) (none, record { text = usage; allowed = a; wrote = w.1 })
        | inr q ↦ elim q [
          | inl w ↦ subst End (sym w.0) (some_front 2 usage (λ h. a) w.1)
          | inr w ↦ subst End (sym w.0) (w.2, some_front 2 usage (λ h. a) w.1)
        ]
      ]

  -- the application couldn't be fetched, read or used
  pub ends_at_app : (task : Task) (why : Stop) (s : Status) → task_of words ≡ Some task → TaskStop task (told (app_of task)) (failed_before (app_of task)) (failed_after (app_of task)) why
      → StopEnds why before after faults_before faults_after s → End s
  ends_at_app task (stop.Refused r) s accepted why p =
      ends_refused task (line_of r) s accepted
      (λ h. let t = h task accepted in refuses_app task t.bytes accepted t.app_is (if_some_at (told (app_of task)) (λ bytes. RefusesTask task bytes (line_of r)) t.bytes t.app_is why)) p
  ends_at_app task stop.Failed s accepted why p = subst End (sym p.0) (record { task = task; accepted = accepted; rose = inl why }, p.1)
  ends_at_app task stop.Memory s accepted why p = subst End (sym p.0) (λ h. inr p.1)

  -- the events couldn't be fetched or read
  pub ends_at_events : (name other : Text) (app : App) (why : Stop) (s : Status) → task_of words ≡ Some (Runs name other) → IfSome (told name) (λ bytes. IsBuilt bytes app)
      → EventsStop (told other) (failed_before other) (failed_after other) why → StopEnds why before after faults_before faults_after s → End s
  ends_at_events name other app (stop.Refused r) s accepted is_app why p =
      ends_refused (Runs name other) (line_of r) s accepted
      (λ h.
      let t = h (Runs name other) accepted in
      let built = if_some_at (told name) (λ bytes. IsBuilt bytes app) t.bytes t.app_is is_app in
      elim t.rest [
        | inl refused ↦ absurd (built_not_refused (Runs name other) t.bytes refused.0 app built refused.1)
        | inr events ↦ refuses_events name other t.bytes events.0 app accepted t.app_is built events.1 (if_some_at (told other) (λ bytes. RefusesEvents bytes (line_of r)) events.0 events.1 why)
      ]) p
  ends_at_events name other app stop.Failed s accepted is_app why p =
      subst End (sym p.0) (
        record {
          task = Runs name other;
          accepted = accepted;
          rose = inr (why, if_some_weaker (told name) (λ bytes. IsBuilt bytes app) (λ bytes. (line : Text) → RefusesTask (Runs name other) bytes line → ⊥) (λ bytes built line. built_not_refused (Runs name other) bytes line app built) is_app);
        },
        p.1,
      )
  ends_at_events name other app stop.Memory s accepted is_app why p = subst End (sym p.0) (λ h. inr p.1)

  -- both files were read
  pub ends_at_run : (name other : Text) (app : App) (c : Component) (tags : List Text) (s : Status) → task_of words ≡ Some (Runs name other) → IsAlone app c
      → IfSome (told name) (λ bytes. IsBuilt bytes app) → IfSome (told other) (λ bytes. AreClicks bytes tags) → PutEnds status.Done (lines c (map click tags)) before after faults_before faults_after s → End s
  ends_at_run name other app c tags s accepted alone is_app are_clicks p =
      ends_done (Runs name other) (lines c (map click tags)) s accepted
      (λ h.
      let t = h (Runs name other) accepted in
      let built = if_some_at (told name) (λ bytes. IsBuilt bytes app) t.bytes t.app_is is_app in
      elim t.rest [
        | inl refused ↦ absurd (built_not_refused (Runs name other) t.bytes refused.0 app built refused.1)
        | inr events ↦
            runs name other t.bytes events.0 app c tags accepted t.app_is built (root-IsAlone app c alone) events.1 (if_some_at (told other) (λ bytes. AreClicks bytes tags) events.0 events.1 are_clicks)
      ]) p

  differ : IsTrue false → ⊥
  differ e = cc

  says_allowed : (name bytes : Text) (app : App) (quiet : Bool) → task_of words ≡ Some (Checks name) → told name ≡ Some bytes → IsSoundApp bytes app → IsTrue quiet ↔ IsQuiet app → Allowed words told 0 (says quiet)
  says_allowed name bytes app true accepted is sound q = says_quiet name bytes app accepted is sound (q.0 refl)
  says_allowed name bytes app false accepted is sound q = says_not_quiet name bytes app accepted is sound (λ k. differ (q.1 k))

  -- the application was checked
  pub ends_at_check : (name : Text) (app : App) (quiet : Bool) (s : Status) → task_of words ≡ Some (Checks name) → IfSome (told name) (λ bytes. IsSoundApp bytes app)
      → IsTrue quiet ↔ IsQuiet app → PutEnds status.Done (says quiet) before after faults_before faults_after s → End s
  ends_at_check name app quiet s accepted is_app q p =
      ends_done (Checks name) (says quiet) s accepted
      (λ h. let t = h (Checks name) accepted in says_allowed name t.bytes app quiet accepted t.app_is (if_some_at (told name) (λ bytes. IsSoundApp bytes app) t.bytes t.app_is is_app) q) p

  -- ---- the clauses of a whole call

  pub allowed_at : (s : Status) → End s → (code_of s ≡ 0) ⊎ ((code_of s ≡ 2) ⊎ (code_of s ≡ 3)) → AllTold words told → WroteAllowed words told (code_of s) before after
  allowed_at status.Done e h t = e.1 t
  allowed_at status.Usage e h t = e.1
  allowed_at status.Refused e h t = e.1 t
  allowed_at status.NoMemory e h t = absurd (elim h [ inl a ↦ omega arith | inr b ↦ elim b [ inl a ↦ omega arith | inr a ↦ omega arith ] ])
  allowed_at status.NoFile e h t = absurd (elim h [ inl a ↦ omega arith | inr b ↦ elim b [ inl a ↦ omega arith | inr a ↦ omega arith ] ])
  allowed_at status.NoOutput e h t = absurd (elim h [ inl a ↦ omega arith | inr b ↦ elim b [ inl a ↦ omega arith | inr a ↦ omega arith ] ])

  not_failed_by : (task : Task) → NoneFailed task failed_before failed_after → Rose (failed_before (app_of task)) (failed_after (app_of task)) ⊎ EventsFailed task told failed_before failed_after → ⊥
  not_failed_by (Runs app events) none (inl r) = none.0 r
  not_failed_by (Runs app events) none (inr r) = none.1 r.0
  not_failed_by (Checks app) none (inl r) = none r
  not_failed_by (Checks app) none (inr r) = r

  not_failed : (task : Task) → task_of words ≡ Some task → NoneFailed task failed_before failed_after → FetchFailed words told failed_before failed_after → ⊥
  not_failed task e none f = not_failed_by f.task (subst (λ (x : Task). NoneFailed x failed_before failed_after) (one_task words task f.task e f.accepted) none) f.rose

  none_some : (task : Task) → task_of words ≡ None → task_of words ≡ Some task → ⊥
  none_some task e f = cc

  pub complete_at : (s : Status) → End s → (task : Task) → task_of words ≡ Some task → NoneFailed task failed_before failed_after → (Rose faults_before faults_after → ⊥)
      → (code_of s ≡ 0) ⊎ ((code_of s ≡ 3) ⊎ (code_of s ≡ 1))
  complete_at status.Done e task f none calm = inl refl
  complete_at status.Usage e task f none calm = absurd (none_some task e.0 f)
  complete_at status.Refused e task f none calm = inr (inl refl)
  complete_at status.NoMemory e task f none calm = inr (inr refl)
  complete_at status.NoFile e task f none calm = absurd (not_failed task f none e.0)
  complete_at status.NoOutput e task f none calm = absurd (calm e.0)

  pub complete_usage_at : (s : Status) → End s → task_of words ≡ None → (Rose faults_before faults_after → ⊥) → ((code_of s ≡ 2) × WroteAllowed words told 2 before after) ⊎ (code_of s ≡ 1)
  complete_usage_at status.Done e none calm = absurd (none_some e.0.0 none e.0.1)
  complete_usage_at status.Usage e none calm = inl (refl, e.1)
  complete_usage_at status.Refused e none calm = absurd (none_some e.0.0 none e.0.1)
  complete_usage_at status.NoMemory e none calm = inr refl
  complete_usage_at status.NoFile e none calm = absurd (none_some e.0.task none e.0.accepted)
  complete_usage_at status.NoOutput e none calm = absurd (calm e.0)

  pub two_at : (s : Status) → End s → code_of s ≡ 2 → task_of words ≡ None
  two_at status.Usage e h = e.0
  two_at status.Done e h = absurd (omega arith)
  two_at status.Refused e h = absurd (omega arith)
  two_at status.NoMemory e h = absurd (omega arith)
  two_at status.NoFile e h = absurd (omega arith)
  two_at status.NoOutput e h = absurd (omega arith)

  pub five_at : (s : Status) → End s → code_of s ≡ 5 → FetchFailed words told failed_before failed_after × (after ≡ before)
  five_at status.NoFile e h = e
  five_at status.Done e h = absurd (omega arith)
  five_at status.Usage e h = absurd (omega arith)
  five_at status.Refused e h = absurd (omega arith)
  five_at status.NoMemory e h = absurd (omega arith)
  five_at status.NoOutput e h = absurd (omega arith)

  pub six_at : (s : Status) → End s → code_of s ≡ 6 → Rose faults_before faults_after
  six_at status.NoOutput e h = e.0
  six_at status.Done e h = absurd (omega arith)
  six_at status.Usage e h = absurd (omega arith)
  six_at status.Refused e h = absurd (omega arith)
  six_at status.NoMemory e h = absurd (omega arith)
  six_at status.NoFile e h = absurd (omega arith)

  pub front_at : (s : Status) → End s → (code_of s ≡ 1) ⊎ (code_of s ≡ 6) → AllTold words told → WroteSome words told before after
  front_at status.NoMemory e h t = e t
  front_at status.NoOutput e h t = e.1 t
  front_at status.Done e h t = absurd (elim h [ inl a ↦ omega arith | inr a ↦ omega arith ])
  front_at status.Usage e h t = absurd (elim h [ inl a ↦ omega arith | inr a ↦ omega arith ])
  front_at status.Refused e h t = absurd (elim h [ inl a ↦ omega arith | inr a ↦ omega arith ])
  front_at status.NoFile e h t = absurd (elim h [ inl a ↦ omega arith | inr a ↦ omega arith ])

  pub three_at : (s : Status) → End s → AllTold words told → (line : Text) → Allowed words told 3 line → (code_of s ≡ 0) → ⊥
  three_at status.Done e t line a h = let w = e.1 t in refused_or_went words told 3 line w.text a (went words told 0 w.text w.allowed refl) refl
  three_at status.Usage e t line a h = absurd (omega arith)
  three_at status.Refused e t line a h = absurd (omega arith)
  three_at status.NoMemory e t line a h = absurd (omega arith)
  three_at status.NoFile e t line a h = absurd (omega arith)
  three_at status.NoOutput e t line a h = absurd (omega arith)
