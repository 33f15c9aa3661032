-- What is told, and what follows of it.
use Rattle.std.proofs.Common.{◌≡◌, ap, Option, Some, None, sym, ◌∙◌, arith, IfSome, subst}
use Rattle.ng_ast.specs.declared.App.{App}
use Rattle.ng_semantics.specs.Text.{Text}
use Rattle.std.proofs.Common.{List, Bool, true, false, refl}
use Rattle.std.specs.Str.{IsUtf8, is_utf8}
use Rattle.std.proofs.lemmas.Str.{IsUtf8-from_is_utf8, is_utf8-from_IsUtf8}
use Rattle.serde_json.specs.Data.{Data}
use Rattle.ng_ast.specs.declared.Place.{Place}
use Rattle.ng_app.proofs.Public.{one_reading_of_app}
use Rattle.ng_rules.proofs.Laws.{no_least}
use Rattle.ng_rules.specs.Breaks.{IsSound}
use Rattle.ng_unbuilt.specs.Forms.{forms}
use Rattle.ng_unbuilt.specs.Least.{least}
use Rattle.ng_clicks.specs.Clicks.{json_of, clicks_of}
use Rattle.ng_cli.specs.Words.{Task, Checks}
use Rattle.ng_cli.specs.Refusals.{IsSoundApp, RefusesApp, app_too_long, app_utf8, app_syntax, app_limited, app_broken, RefusesTask, refused_for_all, not_built, AreClicks, RefusesEvents, events_too_long, events_syntax, events_not_built}
use Rattle.ng_cli.specs.Allowed.{IsBuilt}

pub if_some_weaker : {A : Type 0} (o : Option A) (P Q : A → Type 0) → ((a : A) → P a → Q a) → IfSome o P → IfSome o Q
if_some_weaker None P Q f h = tt
if_some_weaker (Some a) P Q f h = f a h

-- the value of an option is one
pub if_some_at : {A : Type 0} (o : Option A) (P : A → Type 0) (a : A) → o ≡ Some a → IfSome o P → P a
if_some_at None P a e h = cc
if_some_at (Some b) P a e h = let same : b ≡ a = cc in subst P same h

-- what is a sound application isn't refused
pub app_not_refused : (bytes line : Text) (app : App) → IsSoundApp bytes app → RefusesApp bytes line → ⊥
app_not_refused bytes line app h (app_too_long long) = omega (arith, h.0.short, long)
app_not_refused bytes line app h (app_utf8 short not_text) = not_text h.0.reads.1.0
app_not_refused bytes line app h (app_syntax short text none place) = none app h.0.reads
app_not_refused bytes line app h (app_limited short text over place) = h.0.calm over
app_not_refused bytes line app h (app_broken other break is least) = no_least other break (subst IsSound (one_reading_of_app bytes app other h.0.reads is.reads) h.1) least

no_place : (place : Place) → None ≡ Some place → ⊥
no_place place e = cc

-- nor is it by a run, where that is built
pub built_not_refused : (task : Task) (bytes line : Text) (app : App) → IsBuilt bytes app → RefusesTask task bytes line → ⊥
built_not_refused task bytes line app h (refused_for_all r) = app_not_refused bytes line app h.0 r
built_not_refused task bytes line app h (not_built other place is least_is) = no_place place (sym h.1 ∙ ap (λ a. least (forms a)) (one_reading_of_app bytes app other h.0.0.reads is.0.reads) ∙ least_is)

checked_by : (task : Task) (name bytes line : Text) (app : App) → task ≡ Checks name → IsSoundApp bytes app → RefusesTask task bytes line → ⊥
checked_by task name bytes line app e h (refused_for_all r) = app_not_refused bytes line app h r
checked_by task name bytes line app e h (not_built other place is least_is) = absurd cc

pub checked_not_refused : (name bytes line : Text) (app : App) → IsSoundApp bytes app → RefusesTask (Checks name) bytes line → ⊥
checked_not_refused name bytes line app h r = checked_by (Checks name) name bytes line app refl h r

none_some : (d : Data) → None ≡ Some d → ⊥
none_some d e = cc

not_clicks : (bytes : Text) (tags : List Text) (d e : Data) → json_of bytes ≡ Some d → json_of bytes ≡ Some e → clicks_of d ≡ Some tags → clicks_of e ≡ None → ⊥
not_clicks bytes tags d e p q r s = cc

-- and clicks that are read aren't
pub events_not_refused : (bytes line : Text) (tags : List Text) → AreClicks bytes tags → RefusesEvents bytes line → ⊥
events_not_refused bytes line tags h (events_too_long long) = omega (arith, h.short, long)
events_not_refused bytes line tags h (events_syntax short none) = none_some h.json (sym none ∙ h.parsed)
events_not_refused bytes line tags h (events_not_built short d parsed none) = not_clicks bytes tags h.json d h.parsed parsed h.clicks none

differ : false ≡ true → ⊥
differ e = cc

text_by : (bytes : Text) (b : Bool) → is_utf8 bytes ≡ b → ((IsUtf8 bytes → ⊥) → ⊥) → IsUtf8 bytes
text_by bytes true e h = IsUtf8-from_is_utf8 bytes e
text_by bytes false e h = absurd (h (λ text. differ (sym e ∙ is_utf8-from_IsUtf8 bytes text)))

-- bytes of which it can't be that they aren't text are text
pub text_unless : (bytes : Text) → ((IsUtf8 bytes → ⊥) → ⊥) → IsUtf8 bytes
text_unless bytes h = text_by bytes (is_utf8 bytes) refl h
