-- Short names for the parts of an application, for events, and for what a run is asked to write.
use Rattle.std.specs.Prelude.{ℕ, Bool, true, false, List, [], Option, codes}
use Rattle.ng_values.specs.declared.value.Value.{Value}
use Rattle.ng_values.specs.declared.value.Value.TheVariants as val
use Rattle.ng_ast.specs.declared.Place.{Place}
use Rattle.ng_ast.specs.declared.Expr.{Expr}
use Rattle.ng_ast.specs.declared.TAttr.{TAttr}
use Rattle.ng_ast.specs.declared.AttrForm.{AttrForm}
use Rattle.ng_ast.specs.declared.Branch.{Branch}
use Rattle.ng_ast.specs.declared.ForHead.{ForHead}
use Rattle.ng_ast.specs.declared.TNode.{TNode}
use Rattle.ng_ast.specs.declared.One.{One}
use Rattle.ng_ast.specs.declared.SelPart.{SelPart}
use Rattle.ng_ast.specs.declared.Selector.{Selector}
use Rattle.ng_ast.specs.declared.Member.{Member}
use Rattle.ng_ast.specs.declared.MemberKind.{MemberKind}
use Rattle.ng_ast.specs.declared.Component.{Component}
use Rattle.ng_ast.specs.declared.Service.{Service}
use Rattle.ng_ast.specs.declared.Provider.{Provider}
use Rattle.ng_ast.specs.declared.Environment.{Environment}
use Rattle.ng_turns.specs.declared.Event.{Event}
use Rattle.ng_turns.specs.declared.Event.TheVariants as event
use Rattle.ng_meaning.specs.Lists.{Text}
use Rattle.ng_meaning.specs.Lines.{Wanted}

-- line, column and byte
abbrev pub at : ℕ → ℕ → ℕ → Place
at line column byte = record { line = line; column = column; byte = byte }

-- an attribute
abbrev pub attribute : Place → Text → AttrForm → TAttr
attribute place name form = record { place = place; name = name; form = form }

-- a branch, with its condition, the name after `as`, and its nodes
abbrev pub branch : Place → Option Expr → Option Text → List TNode → Branch
branch place test name nodes = record { place = place; test = test; name = name; nodes = nodes }

-- the head of a `@for`: the row's variable, the list, the track value and the further names
abbrev pub for_head : Text → Expr → Option Expr → List (Text × Text) → ForHead
for_head row list track vars = record { row = row; list = list; track = track; vars = vars }

-- an alternative of a selector
abbrev pub one : Option Text → List SelPart → One
one tag parts = record { tag = tag; parts = parts }

-- a selector
abbrev pub selector : List One → Selector
selector ones = record { list = ones }

-- a member
abbrev pub member : Place → Text → MemberKind → Member
member place name kind = record { place = place; name = name; kind = kind }

-- a component: its name, its selector, whether it is `onpush`, its members, and its template
abbrev pub component : Place → Text → Selector → Bool → List Member → Place → List TNode → Component
component place name chosen onpush members begins nodes =
    record { place = place; name = name; selector = chosen; onpush = onpush; members = members; template = record { place = begins; nodes = nodes } }

-- a service: its name, whether it is a `root` service, and its members
abbrev pub service : Place → Text → Bool → List Member → Service
service place name root members = record { place = place; name = name; root = root; members = members }

-- an environment: its name, the one that it stands under, and its providers
abbrev pub environment : Place → Text → Option Text → List (Place × Provider) → Environment
environment place name under provides = record { place = place; name = name; under = under; provides = provides }

-- a click on the nth element of a tag
abbrev pub click : Text → ℕ → Event
click tag n = event.On (codes "click") tag n val.Null

-- an event of this name, without a value, on the nth element of a tag
abbrev pub fire : Text → Text → ℕ → Event
fire name tag n = event.On name tag n val.Null

-- the same with a value
abbrev pub fire_with : Text → Text → ℕ → Value → Event
fire_with name tag n w = event.On name tag n w

-- a call of a method on what a token gives
abbrev pub call_with : Text → Text → List Value → Event
call_with token name args = event.Call token name args

-- a call of a method, without arguments, on what a token gives
abbrev pub call : Text → Text → Event
call token name = event.Call token name []

-- from here on no pass follows an event
abbrev pub hold : Event
hold = event.Hold

-- the pass that was held back follows
abbrev pub flush : Event
flush = event.Flush

-- events and pages alone
abbrev pub pages : Wanted
pages = record { reports = false; traces = false }

-- the live instances too, after each page
abbrev pub reports : Wanted
reports = record { reports = true; traces = false }

-- the instances too that each pass checked
abbrev pub traces : Wanted
traces = record { reports = false; traces = true }

-- both: the instances that each pass checked, and after the page the live ones
abbrev pub full : Wanted
full = record { reports = true; traces = true }
