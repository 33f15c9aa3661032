-- Quiet applications: those that keep two rules, which are to let a component whose check is left out show what a check of it would show.
use Rattle.std.specs.Prelude.{◌≡◌, ℕ, Bool, true, false, not, ◌||◌, ◌&&◌, bytes_eq, IsTrue, List, [], ◌∷◌, Contains, slice_get, Option, Some, None}
use Rattle.std.specs.List.{flat_map, list_any, list_all}
use Rattle.ng_ast.specs.declared.TNode.{TNode, out-TNode}
use Rattle.ng_ast.specs.declared.TNode.TheOpen.{TNode-F}
use Rattle.ng_ast.specs.declared.Branch.{Branch}
use Rattle.ng_ast.specs.declared.Member.{Member}
use Rattle.ng_ast.specs.declared.Component.{Component}
use Rattle.ng_ast.specs.declared.Decl.{Decl}
use Rattle.ng_ast.specs.declared.Decl.TheVariants as decl
use Rattle.ng_ast.specs.declared.App.{App}
use Rattle.ng_ast.specs.Nodes.{all_nodes}
use Rattle.ng_scopes.specs.declared.names.Sort.{Sort}
use Rattle.ng_scopes.specs.declared.names.Sort.TheVariants as sort
use Rattle.ng_scopes.specs.declared.names.Meaning.{Meaning}
use Rattle.ng_scopes.specs.declared.names.Meaning.TheVariants as means
use Rattle.ng_scopes.specs.declared.usage.Act.{Act}
use Rattle.ng_scopes.specs.declared.usage.Act.TheVariants as act
use Rattle.ng_scopes.specs.declared.usage.Part.{Part}
use Rattle.ng_scopes.specs.declared.usage.Part.TheVariants as part
use Rattle.ng_scopes.specs.declared.usage.Usage.{Usage}
use Rattle.ng_scopes.specs.Declarations.{sort_of, member_scope, member_usages, decl_usages}
use Rattle.ng_hosts.specs.Hosts.{Name, components, hosts}

-- ---- the components whose check may be left out

-- the components that a node of a template is a host of
abbrev pub layer_hosts : List Component → TNode-F TNode Branch → List Component
layer_hosts cs (TNode-F.Element p tag attrs ts) = hosts cs tag attrs
layer_hosts cs (TNode-F.Text p pieces) = []
layer_hosts cs (TNode-F.If p bs) = []
layer_hosts cs (TNode-F.For p head ts empty) = []
layer_hosts cs (TNode-F.Switch p e bs) = []
layer_hosts cs (TNode-F.Let p n e) = []

-- the components that a component's template uses: those that its elements are hosts of, wherever they stand in it
abbrev pub used_by : List Component → Component → List Component
used_by cs c = flat_map (λ t. layer_hosts cs (out-TNode t)) (all_nodes c.template.nodes)

-- The least set of components that holds the OnPush ones and those that the template of one of the set uses.
pub data MayBeSkipped (cs : List Component) : Component → Type 0 where
  on_push : (c : Component) → Contains cs c → IsTrue c.onpush → MayBeSkipped cs c
  used : (c d : Component) → MayBeSkipped cs c → Contains (used_by cs c) d → MayBeSkipped cs d

-- ---- the first rule: what bindings and getters read

-- Block heads, track expressions, `@let`s, contexts and tests of outlets are bindings too.
abbrev pub is_judged : Part → Bool
is_judged part.Binding = true
is_judged part.Getter = true
is_judged part.Listener = false
is_judged part.Method = false
is_judged part.Init = false
is_judged part.Pipe = false

-- inputs, own fields, own getters and own signals
abbrev pub is_own : Sort → Bool
is_own sort.Input = true
is_own sort.Field = true
is_own sort.Getter = true
is_own sort.Signal = true
is_own sort.Method = false
is_own sort.Inject = false
is_own sort.Output = false
is_own sort.Query = false

-- those, block variables and `@let`s
abbrev pub is_steady : Option Meaning → Bool
is_steady (Some (means.Member s at)) = is_own s
is_steady (Some means.Variable) = true
is_steady (Some means.Let) = true
is_steady (Some means.Ahead) = true
is_steady (Some means.Parameter) = false
is_steady (Some means.Reference) = false
is_steady (Some means.Template) = false
is_steady None = false

abbrev pub is_inject : Sort → Bool
is_inject sort.Inject = true
is_inject _ = false

abbrev pub is_injected : Option Meaning → Bool
is_injected (Some (means.Member s at)) = is_inject s
is_injected (Some means.Variable) = false
is_injected (Some means.Let) = false
is_injected (Some means.Ahead) = false
is_injected (Some means.Parameter) = false
is_injected (Some means.Reference) = false
is_injected (Some means.Template) = false
is_injected None = false

-- Of an injected name `x.s()` alone is allowed. The names of pipes and of outlets' templates aren't read, and neither are those that a
-- statement sets or calls, of which none stands in a binding or a getter.
abbrev pub may_stand : Act → Option Meaning → Bool
may_stand act.Read m = is_steady m
may_stand act.Asked m = is_steady m || is_injected m
may_stand (act.Called n) m = is_steady m
may_stand (act.Piped n) m = true
may_stand act.Outlet m = true
may_stand act.Set m = true
may_stand (act.Done n) m = true
may_stand (act.Sent plain method n) m = true

abbrev pub is_fine : Usage → Bool
is_fine u = not (is_judged u.spot.part) || may_stand u.act u.meaning

-- the bindings and getters of a component read nothing else
abbrev pub reads_steadily : Component → Bool
reads_steadily c = list_all is_fine (decl_usages (decl.Component c))

-- ---- the second rule: methods that assign fields

-- the names that stand in a member of a component
abbrev pub usages_in : Component → Member → List Usage
usages_in c = member_usages (member_scope c.members)

abbrev pub is_field : Sort → Bool
is_field sort.Field = true
is_field _ = false

abbrev pub is_own_field : Option Meaning → Bool
is_own_field (Some (means.Member s at)) = is_field s
is_own_field (Some means.Variable) = false
is_own_field (Some means.Let) = false
is_own_field (Some means.Ahead) = false
is_own_field (Some means.Parameter) = false
is_own_field (Some means.Reference) = false
is_own_field (Some means.Template) = false
is_own_field None = false

-- an own field is the target of `=`
abbrev pub sets_field : Act → Option Meaning → Bool
sets_field act.Set m = is_own_field m
sets_field act.Read m = false
sets_field act.Asked m = false
sets_field (act.Called n) m = false
sets_field (act.Piped n) m = false
sets_field (act.Done n) m = false
sets_field (act.Sent plain method n) m = false
sets_field act.Outlet m = false

-- the statements of a member assign a field themselves
abbrev pub assigns_itself : List Usage → Bool
assigns_itself = list_any (λ u. sets_field u.act u.meaning)

abbrev pub method_at : Sort → ℕ → List ℕ
method_at sort.Method at = at ∷ []
method_at sort.Field at = []
method_at sort.Signal at = []
method_at sort.Getter at = []
method_at sort.Inject at = []
method_at sort.Input at = []
method_at sort.Output at = []
method_at sort.Query at = []

abbrev pub method_in : Option Meaning → List ℕ
method_in (Some (means.Member s at)) = method_at s at
method_in (Some means.Variable) = []
method_in (Some means.Let) = []
method_in (Some means.Ahead) = []
method_in (Some means.Parameter) = []
method_in (Some means.Reference) = []
method_in (Some means.Template) = []
method_in None = []

-- the own method that a statement calls, by its position among the members
abbrev pub own_call : Act → Option Meaning → List ℕ
own_call (act.Done n) m = method_in m
own_call act.Read m = []
own_call act.Asked m = []
own_call (act.Called n) m = []
own_call (act.Piped n) m = []
own_call act.Set m = []
own_call (act.Sent plain method n) m = []
own_call act.Outlet m = []

-- the own methods that the statements of a member call
abbrev pub own_calls : List Usage → List ℕ
own_calls = flat_map (λ u. own_call u.act u.meaning)

-- A member assigns a field of its component, itself or by own methods that it calls.
pub data Assigns (c : Component) : Member → Type 0 where
  itself : (m : Member) → IsTrue (assigns_itself (usages_in c m)) → Assigns c m
  by_call : (m n : Member) (at : ℕ) → Contains (own_calls (usages_in c m)) at → slice_get c.members at ≡ Some n → Assigns c n → Assigns c m

abbrev pub is_method_sort : Option Sort → Bool
is_method_sort (Some sort.Method) = true
is_method_sort _ = false

abbrev pub is_method : Member → Bool
is_method m = is_method_sort (sort_of m.kind)

abbrev pub is_query : Sort → Bool
is_query sort.Query = true
is_query _ = false

-- an injected name, a reference or a query
abbrev pub leads_out : Option Meaning → Bool
leads_out (Some (means.Member s at)) = is_inject s || is_query s
leads_out (Some means.Reference) = true
leads_out (Some means.Template) = true
leads_out (Some means.Variable) = false
leads_out (Some means.Let) = false
leads_out (Some means.Ahead) = false
leads_out (Some means.Parameter) = false
leads_out None = false

-- a statement calls a method of this name on what a name means
abbrev pub sends : Name → Act → Bool
sends n (act.Sent plain method count) = bytes_eq method n
sends n act.Read = false
sends n act.Asked = false
sends n (act.Called count) = false
sends n (act.Piped count) = false
sends n act.Set = false
sends n (act.Done count) = false
sends n act.Outlet = false

abbrev pub is_sent : Name → Usage → Bool
is_sent n u = sends n u.act && leads_out u.meaning

-- a method of this name is called through an injected name, a reference or a query, in any listener, method or `init` of an application
abbrev pub is_called : List Decl → Name → Bool
is_called ds n = list_any (is_sent n) (flat_map decl_usages ds)

-- no method of the component that assigns a field has the name of a called one
abbrev pub KeepsFields : (Name → Bool) → Component → Type 0
KeepsFields called c = (m : Member) → Contains c.members m → IsTrue (is_method m) → Assigns c m → IsTrue (called m.name) → ⊥

-- ---- both

pub record IsQuiet (app : App) : Type 0 where
  pub reads : (c : Component) → MayBeSkipped (components app.decls) c → IsTrue (reads_steadily c)
  pub fields : (c : Component) → MayBeSkipped (components app.decls) c → KeepsFields (is_called app.decls) c
