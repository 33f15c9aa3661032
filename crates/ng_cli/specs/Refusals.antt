-- Which files are refused, and with which line.
use Rattle.std.specs.Prelude.{◌≡◌, ℕ, ◌<◌, ◌≤◌, List, [], ◌∷◌, ◌++◌, length, Some, None, codes}
use Rattle.std.specs.Str.{IsUtf8}
use Rattle.std.specs.Fmt.{decimal}
use Rattle.serde_json.specs.Data.{Data}
use Rattle.ng_ast.specs.declared.App.{App}
use Rattle.ng_ast.specs.declared.Place.{Place}
use Rattle.ng_ast.specs.declared.refusals.Refusal.{Refusal}
use Rattle.ng_ast.specs.declared.refusals.Rule.{Rule}
use Rattle.ng_ast.specs.declared.refusals.Rule.TheVariants as rule
use Rattle.ng_app.specs.Reading.{ReadsApp, OverApp, NoApp}
use Rattle.ng_rules.specs.Breaks.{IsSound, IsLeastBreak}
use Rattle.ng_unbuilt.specs.Forms.{forms}
use Rattle.ng_unbuilt.specs.Least.{least}
use Rattle.ng_clicks.specs.Clicks.{json_of, clicks_of}
use Rattle.ng_semantics.specs.Text.{Text}
use Rattle.ng_semantics.specs.Lines.{line}
use Rattle.ng_cli.specs.Words.{Task, Runs}

-- The most bytes of an application and of an event file.
abbrev pub app_limit : ℕ
app_limit = 1048576

abbrev pub events_limit : ℕ
events_limit = 4194304

-- ---- lines

-- a line and a column, with a colon between them, before some text
abbrev pub spot : Place → Text → Text
spot p rest = decimal p.line ++ (58 ∷ (decimal p.column ++ rest))

-- an application is refused for this, at this place
abbrev pub line_at : Text → Place → Text
line_at what p = codes "refused app " ++ (what ++ (codes " at " ++ spot p (10 ∷ [])))

-- The number and the name of a rule.
abbrev pub title : Rule → Text
title rule.Syntax = codes "Syntax"
title rule.Limit = codes "Limit"
title rule.N01 = codes "N01 NoRoot"
title rule.N02 = codes "N02 DuplicateName"
title rule.N03 = codes "N03 UnknownElement"
title rule.N04 = codes "N04 MultipleComponents"
title rule.N05 = codes "N05 UnknownInput"
title rule.N06 = codes "N06 RequiredInput"
title rule.N07 = codes "N07 UnknownOutput"
title rule.N08 = codes "N08 UnknownPipe"
title rule.N09 = codes "N09 PipeCycle"
title rule.N10 = codes "N10 GetterCycle"
title rule.N11 = codes "N11 UnknownName"
title rule.N12 = codes "N12 LetBeforeUse"
title rule.N13 = codes "N13 RefInBinding"
title rule.N14 = codes "N14 QueryInBinding"
title rule.N15 = codes "N15 NotAssignable"
title rule.N16 = codes "N16 NotCallable"
title rule.N17 = codes "N17 SlotTwice"
title rule.N18 = codes "N18 SlotInFor"
title rule.N19 = codes "N19 InitReach"
title rule.N20 = codes "N20 UnknownToken"
title rule.N21 = codes "N21 FlagClash"
title rule.N22 = codes "N22 WrongProvider"
title rule.N23 = codes "N23 EnvironmentCycle"
title rule.N24 = codes "N24 UnknownEnvironment"
title rule.N25 = codes "N25 NotAllowedHere"
title rule.N26 = codes "N26 OutletName"
title rule.N27 = codes "N27 DefaultTwice"
title rule.N28 = codes "N28 NoTrack"
title rule.N29 = codes "N29 UnknownQuery"
title rule.N30 = codes "N30 EventOutside"

-- an application breaks a rule: its title, the place, and the name
abbrev pub break_line : Refusal → Text
break_line r = codes "refused app " ++ (title r.rule ++ (codes " at " ++ spot r.place (32 ∷ (r.name ++ 10 ∷ []))))

-- ---- applications

-- These bytes are the application, within the limits.
pub record IsApp (bytes : Text) (app : App) : Type 0 where
  pub short : length bytes ≤ app_limit
  pub reads : ReadsApp bytes app
  pub calm : OverApp bytes → ⊥

-- These bytes are the application, and it breaks no rule.
abbrev pub IsSoundApp : Text → App → Type 0
IsSoundApp bytes app = IsApp bytes app × IsSound app

-- An application file with these bytes is refused with this line, whatever is asked. The place in a line on syntax or on a limit is any.
pub data RefusesApp : Text → Text → Type 0 where
  app_too_long : {bytes : Text} → app_limit < length bytes → RefusesApp bytes (line (codes "refused app TooLong"))
  app_utf8 : {bytes : Text} → length bytes ≤ app_limit → (IsUtf8 bytes → ⊥) → RefusesApp bytes (line (codes "refused app Utf8"))
  app_syntax : {bytes : Text} → length bytes ≤ app_limit → IsUtf8 bytes → NoApp bytes → (place : Place) → RefusesApp bytes (line_at (codes "Syntax") place)
  app_limited : {bytes : Text} → length bytes ≤ app_limit → IsUtf8 bytes → OverApp bytes → (place : Place) → RefusesApp bytes (line_at (codes "Limit") place)
  app_broken : {bytes : Text} (app : App) (break : Refusal) → IsApp bytes app → IsLeastBreak app break → RefusesApp bytes (break_line break)

-- An application file with these bytes is refused with this line by this task: any of those, or of a run one with a form that isn't built.
pub data RefusesTask : Task → Text → Text → Type 0 where
  refused_for_all : {task : Task} {bytes line : Text} → RefusesApp bytes line → RefusesTask task bytes line
  not_built : {name events bytes : Text} (app : App) (place : Place) → IsSoundApp bytes app → least (forms app) ≡ Some place
      → RefusesTask (Runs name events) bytes (line_at (codes "NotBuilt") place)

-- ---- events

-- These bytes are a list of clicks on elements of these tags, within the limit.
pub record AreClicks (bytes : Text) (tags : List Text) : Type 0 where
  pub short : length bytes ≤ events_limit
  pub json : Data
  pub parsed : json_of bytes ≡ Some json
  pub clicks : clicks_of json ≡ Some tags

-- An event file with these bytes is refused with this line.
pub data RefusesEvents : Text → Text → Type 0 where
  events_too_long : {bytes : Text} → events_limit < length bytes → RefusesEvents bytes (line (codes "refused events TooLong"))
  events_syntax : {bytes : Text} → length bytes ≤ events_limit → json_of bytes ≡ None → RefusesEvents bytes (line (codes "refused events Syntax"))
  events_not_built : {bytes : Text} → length bytes ≤ events_limit → (json : Data) → json_of bytes ≡ Some json → clicks_of json ≡ None
      → RefusesEvents bytes (line (codes "refused events NotBuilt"))
