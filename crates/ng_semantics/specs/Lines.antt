-- The lines that a run writes.
use Rattle.std.specs.Prelude.{ℕ, ◌+◌, List, [], ◌∷◌, ◌++◌, length, Option, Some, None, codes}
use Rattle.std.specs.Fmt.{decimal}
use Rattle.ng_values.specs.declared.fault.Fault.{Fault}
use Rattle.ng_values.specs.declared.fault.Fault.TheVariants as fault
use Rattle.ng_ast.specs.declared.Component.{Component}
use Rattle.ng_semantics.specs.Text.{Text}
use Rattle.ng_semantics.specs.Html.{html}
use Rattle.ng_semantics.specs.Events.{Event, Outcome, Ran, Faulted, NoTarget, NoListener}
use Rattle.ng_semantics.specs.Run.{Turn, run}

-- The name of a fault, with the token where it has one.
abbrev pub fault_text : Fault → Text
fault_text fault.Overflow = codes "Overflow"
fault_text fault.DivideByZero = codes "DivideByZero"
fault_text fault.WrongKind = codes "WrongKind"
fault_text fault.NullRead = codes "NullRead"
fault_text fault.NoMember = codes "NoMember"
fault_text fault.ValueTooLarge = codes "ValueTooLarge"
fault_text fault.ValueTooDeep = codes "ValueTooDeep"
fault_text fault.CallTooDeep = codes "CallTooDeep"
fault_text fault.CallLimit = codes "CallLimit"
fault_text fault.HandlerLimit = codes "HandlerLimit"
fault_text (fault.NoProvider t) = codes "NoProvider(" ++ t ++ codes ")"
fault_text (fault.CircularDependency t) = codes "CircularDependency(" ++ t ++ codes ")"

abbrev pub outcome_text : Outcome → Text
outcome_text Ran = codes "ran"
outcome_text (Faulted f) = codes "fault " ++ fault_text f
outcome_text NoTarget = codes "no-target"
outcome_text NoListener = codes "no-listener"

-- Every line ends with a line feed.
abbrev pub line : Text → Text
line t = t ++ 10 ∷ []

abbrev pub event_line : ℕ → Option Outcome → Text
event_line k None = []
event_line k (Some outcome) = codes "event " ++ (decimal k ++ (codes " " ++ line (outcome_text outcome)))

abbrev pub page_line : ℕ → Text
page_line k = codes "page " ++ line (decimal k)

-- The lines of the first pass, which is number 0, or of event k: the event's outcome, and then the page with its number.
abbrev pub turn_lines : ℕ → Turn → Text
turn_lines k t = event_line k t.outcome ++ (page_line k ++ line (html t.page))

abbrev pub lines_from : ℕ → List Turn → Text
lines_from k [] = []
lines_from k (t ∷ rest) = turn_lines k t ++ lines_from (k + 1) rest

abbrev pub end_line : ℕ → Text
end_line n = codes "end " ++ line (decimal n)

-- All lines of the run of an application whose root is this component.
abbrev pub lines : Component → List Event → Text
lines c events = lines_from 0 (run c events) ++ end_line (length events)
