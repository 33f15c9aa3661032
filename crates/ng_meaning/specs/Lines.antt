-- The lines that a run writes.
use Rattle.std.specs.Prelude.{ℕ, suc, Bool, if◌then◌else◌, List, [], ◌∷◌, ◌++◌, map, length, take, Option, Some, None, codes}
use Rattle.std.specs.Fmt.{decimal}
use Rattle.std.specs.List.{filter_map, flat_map, join_with_byte}
use Rattle.ng_values.specs.declared.fault.Fault.{Fault}
use Rattle.ng_values.specs.declared.fault.Fault.TheVariants as fault
use Rattle.ng_values.specs.Json.{json}
use Rattle.ng_values.specs.View.{plain}
use Rattle.ng_ast.specs.declared.App.{App}
use Rattle.ng_ast.specs.declared.QueryKind.{QueryKind}
use Rattle.ng_ast.specs.declared.Member.{Member}
use Rattle.ng_ast.specs.declared.MemberKind.{MemberKind}
use Rattle.ng_ast.specs.declared.MemberKind.TheVariants as kind
use Rattle.ng_tree.specs.declared.Names.{Names}
use Rattle.ng_tree.specs.declared.Site.{Site}
use Rattle.ng_tree.specs.declared.Item.{Item}
use Rattle.ng_tree.specs.declared.Item.TheVariants as item
use Rattle.ng_tree.specs.Names.{tokens, environments}
use Rattle.ng_tree.specs.Texts.{path_text, site_text}
use Rattle.ng_turns.specs.declared.Event.{Event}
use Rattle.ng_turns.specs.declared.Outcome.{Outcome}
use Rattle.ng_turns.specs.declared.Outcome.TheVariants as outcome
use Rattle.ng_turns.specs.declared.Spot.{Spot}
use Rattle.ng_turns.specs.declared.PassFault.{PassFault}
use Rattle.ng_turns.specs.declared.PassFault.TheVariants as pass_fault
use Rattle.ng_meaning.specs.Lists.{Text, look}
use Rattle.ng_meaning.specs.World.{Held, held}
use Rattle.ng_meaning.specs.Expressions.{or_null, gives_first}
use Rattle.ng_meaning.specs.Places.{Trail, Outlines, path_of, instance_at, outlines}
use Rattle.ng_meaning.specs.Tree.{Tree, State}
use Rattle.ng_meaning.specs.Queries.{found, Instance, instances}
use Rattle.ng_meaning.specs.Printing.{html}
use Rattle.ng_meaning.specs.Runs.{Turn, Ending, Run, run_with}

-- ---- items

-- the names of an application's tokens and environments
abbrev pub names_of : App → Names
names_of app = record { tokens = tokens app; environments = environments app }

-- a value as JSON, and a site by its text
abbrev pub item_text : App → Item → Text
item_text app (item.Value w) = json (plain w)
item_text app (item.Site at) = site_text (names_of app) at
item_text app (item.Sites ats) = join_with_byte 44 (map (site_text (names_of app)) ats)

-- ---- faults and events

-- the name of a fault, with the token where it has one
abbrev pub fault_text : Fault → Text
fault_text fault.Overflow = codes "Overflow"
fault_text fault.DivideByZero = codes "DivideByZero"
fault_text fault.WrongKind = codes "WrongKind"
fault_text fault.NullRead = codes "NullRead"
fault_text fault.NoMember = codes "NoMember"
fault_text fault.ValueTooLarge = codes "ValueTooLarge"
fault_text fault.ValueTooDeep = codes "ValueTooDeep"
fault_text fault.CallTooDeep = codes "CallTooDeep"
fault_text fault.CallLimit = codes "CallLimit"
fault_text fault.HandlerLimit = codes "HandlerLimit"
fault_text (fault.NoProvider t) = codes "NoProvider(" ++ t ++ codes ")"
fault_text (fault.CircularDependency t) = codes "CircularDependency(" ++ t ++ codes ")"

-- ` at LINE:COLUMN in COMPONENT PATH`
abbrev pub spot_text : Spot → Text
spot_text w = codes " at " ++ decimal w.place.line ++ 58 ∷ decimal w.place.column ++ codes " in " ++ w.component ++ 32 ∷ path_text w.path

-- the line of a pass that had a fault
abbrev pub pass_fault_line : PassFault → Text
pass_fault_line (pass_fault.InView f w) = codes "fault " ++ fault_text f ++ spot_text w
pass_fault_line (pass_fault.TooManyNodes w) = codes "fault TooManyNodes" ++ spot_text w
pass_fault_line (pass_fault.TooDeep w) = codes "fault TooDeep" ++ spot_text w

-- the result of an event
abbrev pub outcome_text : Outcome → Text
outcome_text outcome.Ran = codes "ran"
outcome_text (outcome.Faulted f) = codes "fault " ++ fault_text f
outcome_text outcome.NoTarget = codes "no-target"
outcome_text outcome.NoListener = codes "no-listener"
outcome_text outcome.Held = codes "held"
outcome_text outcome.Flushed = codes "flushed"

-- `event k RESULT`, which the first pass doesn't have
abbrev pub event_lines : ℕ → Option Outcome → List Text
event_lines k None = []
event_lines k (Some o) = (codes "event " ++ decimal k ++ 32 ∷ outcome_text o) ∷ []

-- ---- the report and the trace

-- the item of an `inject` member
abbrev pub injected : Option Held → Text → Item
injected None name = or_null None
injected (Some h) name = or_null (look name h.items)

-- `inject NAME = ITEM`
abbrev pub inject_line : App → Option Held → Member → MemberKind → Option Text
inject_line app h m (kind.Inject token flags) = Some (codes "inject " ++ m.name ++ codes " = " ++ item_text app (injected h m.name))
inject_line app h m _ = None

-- the results that a query line has: all, or the first one
abbrev pub reported : QueryKind → List Site → List Site
reported k ats = if gives_first k then take 1 ats else ats

-- `query NAME =`, and then each site behind a space, with a comma between
abbrev pub query_line : App → Tree → Site → Member → MemberKind → Option Text
query_line app tree at m (kind.Query k aim descendants) =
    Some (codes "query " ++ m.name ++ codes " =" ++ join_with_byte 44 (map (λ s. 32 ∷ site_text (names_of app) s) (reported k (found app tree at m))))
query_line app tree at m _ = None

-- `inst PATH COMPONENT`, and then a line for each `inject` and for each query
abbrev pub instance_lines : App → State → Instance → List Text
instance_lines app z i =
    let at = instance_at i.0 in
    (codes "inst " ++ path_text (path_of i.0) ++ 32 ∷ i.1.name)
    ∷ filter_map (λ m. inject_line app (held z.world at) m m.kind) i.1.members ++ filter_map (λ m. query_line app z.tree at m m.kind) i.1.members

-- the lines of all live instances
abbrev pub report_lines : App → State → List Text
report_lines app z = flat_map (instance_lines app z) (instances app z.tree)

-- the component of an instance
abbrev pub component_name : Outlines → Text
component_name [] = []
component_name (o ∷ outer) = o.component.name

-- `check PATH COMPONENT` for each instance that a pass checked
abbrev pub check_lines : App → Option (List Trail) → List Text
check_lines app None = []
check_lines app (Some ps) = map (λ p. codes "check " ++ path_text (path_of p) ++ 32 ∷ component_name (outlines app p)) ps

-- ---- all lines

-- which lines are asked for beside those of events and pages
pub record Wanted : Type 0 where
  pub reports : Bool
  pub traces : Bool

module _ (app : App) (wanted : Wanted) where
  -- the lines of a turn, which is number k
  abbrev pub turn_lines : ℕ → Turn → List Text
  turn_lines k t =
      event_lines k t.outcome ++ (if wanted.traces then check_lines app t.checked else []) ++ (codes "page " ++ decimal k) ∷ html t.page
      ∷ (if wanted.reports then report_lines app t.state else [])

  -- the lines of turns, of which the first is number k
  abbrev pub lines_from : ℕ → List Turn → List Text
  lines_from k [] = []
  lines_from k (t ∷ ts) = turn_lines k t ++ lines_from (suc k) ts

  -- the last lines: `end N` with the number of events, or those of the turn that a fault ended
  abbrev pub last_lines : ℕ → ℕ → Option Ending → List Text
  last_lines k n None = (codes "end " ++ decimal n) ∷ []
  last_lines k n (Some e) = event_lines k e.outcome ++ pass_fault_line e.fault ∷ []

  -- the lines of a run over events
  abbrev pub run_lines : ℕ → Run → List Text
  run_lines n r = lines_from 0 r.turns ++ last_lines (length r.turns) n r.ended

  -- the lines of the run over events in which every instance is checked, or those alone that are due
  unfoldable pub lines : Bool → List Event → List Text
  lines every es = run_lines (length es) (run_with app every es)

-- every line ends with a line feed
abbrev pub text_of : List Text → Text
text_of = flat_map (λ l. l ++ 10 ∷ [])
