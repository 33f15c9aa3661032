-- Why an application isn't taken, as the line that refuses it.
use Rattle.std.proofs.Common.{◌≤◌, length, Err, sym, subst}
use Rattle.std.specs.Str.{IsUtf8}
use Rattle.ng_ast.specs.declared.App.{App}
use Rattle.ng_ast.specs.declared.refusals.ReadError.{ReadError}
use Rattle.ng_ast.specs.declared.refusals.ReadError.TheVariants as read
use Rattle.ng_semantics.specs.Text.{Text}
use Rattle.ng_declare.specs.Files.{Refuses}
use Rattle.ng_app.specs.Reading.{NoApp, OverApp}
use Rattle.ng_rules.specs.Answers.{Answers}
use Rattle.ng_rules.specs.declared.checker.CheckError.{CheckError}
use Rattle.ng_rules.specs.declared.checker.CheckError.TheVariants as check
use Rattle.ng_cli.specs.declared.inputs.Stop.{Stop}
use Rattle.ng_cli.specs.declared.refusal.Refusal.{Refusal}
use Rattle.ng_cli.specs.Words.{Runs}
use Rattle.ng_cli.specs.Refusals.{IsApp, IsSoundApp, app_limit, app_utf8, app_syntax, app_limited, app_broken, RefusesTask, not_built}
use Rattle.ng_cli.specs.Steps.{line_of, Unread, Unsound, IsUnbuilt, AppReadStop}

-- it isn't read
pub read_stop : (bytes : Text) (e : ReadError) (s : Stop) → length bytes ≤ app_limit → Refuses (IsUtf8 bytes) (NoApp bytes) (OverApp bytes) e → Unread e s → AppReadStop bytes s
read_stop bytes read.Utf8 s short h is = subst (AppReadStop bytes) (sym is) (app_utf8 short h)
read_stop bytes (read.Syntax r) s short h is = subst (AppReadStop bytes) (sym is) (app_syntax short h.2 h.3 r.place)
read_stop bytes (read.Limit r) s short h is = subst (AppReadStop bytes) (sym is) (app_limited short h.2 h.3 r.place)
read_stop bytes read.Memory s short h is = subst (AppReadStop bytes) (sym is) tt

-- it breaks a rule
pub check_stop : (bytes : Text) (app : App) (e : CheckError) (s : Stop) → IsApp bytes app → Answers app (Err e) → Unsound e s → AppReadStop bytes s
check_stop bytes app (check.Refused r back) s is h e = subst (AppReadStop bytes) (sym e) (app_broken app r is h.1)
check_stop bytes app (check.Memory back) s is h e = subst (AppReadStop bytes) (sym e) tt

-- a run of it isn't built
pub unbuilt_refused : (name events bytes : Text) (app : App) (r : Refusal) → IsSoundApp bytes app → IsUnbuilt app r → RefusesTask (Runs name events) bytes (line_of r)
unbuilt_refused name events bytes app r sound h = subst (λ k. RefusesTask (Runs name events) bytes (line_of k)) (sym h.2) (not_built app h.0 sound h.1)
