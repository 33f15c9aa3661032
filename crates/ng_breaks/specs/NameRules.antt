-- The rules on the names that stand in expressions and statements. A definition for each rule says which names break it.
use Rattle.std.specs.Prelude.{ℕ, ◌+◌, Bool, true, false, not, ◌||◌, ◌&&◌, ◌==◌, nat_le, bytes_eq, codes, List, ◌++◌, Option, Some, None, is_none}
use Rattle.ng_ast.specs.declared.refusals.Refusal.{Refusal}
use Rattle.ng_ast.specs.declared.refusals.Rule.TheVariants as rule
use Rattle.ng_scopes.specs.declared.names.Sort.{Sort}
use Rattle.ng_scopes.specs.declared.names.Sort.TheVariants as sort
use Rattle.ng_scopes.specs.declared.names.Meaning.{Meaning}
use Rattle.ng_scopes.specs.declared.names.Meaning.TheVariants as means
use Rattle.ng_scopes.specs.declared.usage.Act.{Act}
use Rattle.ng_scopes.specs.declared.usage.Act.TheVariants as act
use Rattle.ng_scopes.specs.declared.usage.Part.{Part}
use Rattle.ng_scopes.specs.declared.usage.Part.TheVariants as part
use Rattle.ng_scopes.specs.declared.usage.Usage.{Usage}
use Rattle.ng_parts.specs.declared.declared.Kind.{Kind}
use Rattle.ng_parts.specs.declared.declared.Kind.TheVariants as kind
use Rattle.ng_parts.specs.declared.declared.Declared.{Declared}
use Rattle.ng_parts.specs.Sites.{Name}
use Rattle.ng_breaks.specs.Least.{broken}

-- Words.

-- the sort of the member that a name means
abbrev pub sort_in : Option Meaning → Option Sort
sort_in (Some (means.Member s at)) = Some s
sort_in (Some means.Parameter) = None
sort_in (Some means.Variable) = None
sort_in (Some means.Let) = None
sort_in (Some means.Ahead) = None
sort_in (Some means.Reference) = None
sort_in (Some means.Template) = None
sort_in None = None

abbrev pub is_field : Option Sort → Bool
is_field (Some sort.Field) = true
is_field _ = false

abbrev pub is_signal : Option Sort → Bool
is_signal (Some sort.Signal) = true
is_signal _ = false

abbrev pub is_method : Option Sort → Bool
is_method (Some sort.Method) = true
is_method _ = false

abbrev pub is_injected : Option Sort → Bool
is_injected (Some sort.Inject) = true
is_injected _ = false

abbrev pub is_input : Option Sort → Bool
is_input (Some sort.Input) = true
is_input _ = false

abbrev pub is_output : Option Sort → Bool
is_output (Some sort.Output) = true
is_output _ = false

abbrev pub is_query : Option Sort → Bool
is_query (Some sort.Query) = true
is_query _ = false

abbrev pub is_reference : Option Meaning → Bool
is_reference (Some means.Reference) = true
is_reference (Some means.Template) = true
is_reference _ = false

abbrev pub is_template : Option Meaning → Bool
is_template (Some means.Template) = true
is_template _ = false

abbrev pub is_ahead : Option Meaning → Bool
is_ahead (Some means.Ahead) = true
is_ahead _ = false

-- The names of pipes and of outlets' templates are no names in scope.
abbrev pub is_scoped : Act → Bool
is_scoped (act.Piped n) = false
is_scoped act.Outlet = false
is_scoped _ = true

abbrev pub is_set : Act → Bool
is_set act.Set = true
is_set _ = false

abbrev pub is_outlet : Act → Bool
is_outlet act.Outlet = true
is_outlet _ = false

abbrev pub is_binding : Part → Bool
is_binding part.Binding = true
is_binding _ = false

abbrev pub is_listener : Part → Bool
is_listener part.Listener = true
is_listener _ = false

abbrev pub is_getter : Part → Bool
is_getter part.Getter = true
is_getter _ = false

abbrev pub is_init : Part → Bool
is_init part.Init = true
is_init _ = false

abbrev pub is_event : Name → Bool
is_event n = bytes_eq n (codes "$event")

-- N08: there is no pipe of the name, or not with that number of arguments

-- The built-in pipes: `slice` has one argument or two, and the others have none.
abbrev pub is_built_in : Name → ℕ → Bool
is_built_in p n =
    (bytes_eq p (codes "slice") && (n == 1 || n == 2))
    || ((bytes_eq p (codes "uppercase") || bytes_eq p (codes "lowercase") || bytes_eq p (codes "json") || bytes_eq p (codes "length")) && n == 0)

-- A declared pipe hides a built-in one, and has an argument less than it has parameters.
abbrev pub is_pipe : Option Declared → Name → ℕ → Bool
is_pipe None p n = is_built_in p n
is_pipe (Some d) p n = fits d.kind
  where
    fits : Kind → Bool
    fits (kind.Pipe params) = params == n + 1
    fits kind.Component = is_built_in p n
    fits kind.Service = is_built_in p n
    fits kind.Environment = is_built_in p n
    fits kind.Token = is_built_in p n

abbrev pub lacks_pipe : Option Declared → Name → Act → Bool
lacks_pipe d p (act.Piped n) = not (is_pipe d p n)
lacks_pipe d p _ = false

-- N11: a name that isn't in scope; `$event` has a rule of its own
abbrev pub is_unknown : Usage → Bool
is_unknown u = is_scoped u.act && is_none u.meaning && not (is_event u.name)

-- N12: a name whose nearest meaning is an `@let` further on
abbrev pub is_early : Usage → Bool
is_early u = is_scoped u.act && is_ahead u.meaning

-- N13: a binding reads a reference
abbrev pub binds_reference : Usage → Bool
binds_reference u = is_binding u.spot.part && is_scoped u.act && is_reference u.meaning

-- N14: a binding or a getter reads a query
abbrev pub binds_query : Usage → Bool
binds_query u = (is_binding u.spot.part || is_getter u.spot.part) && is_scoped u.act && is_query (sort_in u.meaning)

-- N15: the target of `=` or of `[( )]` isn't an own field
abbrev pub is_fixed : Usage → Bool
is_fixed u = is_set u.act && not (is_field (sort_in u.meaning))

-- N16: a name is used as it can't be

-- A signal, a method and an output are no values.
abbrev pub is_no_value : Option Sort → Bool
is_no_value (Some sort.Signal) = true
is_no_value (Some sort.Method) = true
is_no_value (Some sort.Output) = true
is_no_value _ = false

-- `x.set(e)` sets an own signal and `x.emit(e)` or `x.emit()` emits an own output. Any other owner is an injected name, a reference
-- in a listener, or a query elsewhere.
abbrev pub can_send : Part → Bool → Name → ℕ → Option Meaning → Bool
can_send p plain m n meaning =
    (plain && is_signal (sort_in meaning) && bytes_eq m (codes "set") && n == 1)
    || (plain && is_output (sort_in meaning) && bytes_eq m (codes "emit") && nat_le n 1)
    || is_injected (sort_in meaning)
    || (is_reference meaning && is_listener p)
    || (is_query (sort_in meaning) && not (is_listener p))

abbrev pub misuses : Part → Option Meaning → Act → Bool
misuses p m act.Read = is_no_value (sort_in m)
misuses p m act.Asked = is_no_value (sort_in m)
misuses p m (act.Called n) = not (is_signal (sort_in m) && n == 0)
misuses p m (act.Piped n) = false
misuses p m act.Set = false
misuses p m (act.Done n) = not (is_method (sort_in m))
misuses p m (act.Sent plain method n) = not (can_send p plain method n m)
misuses p m act.Outlet = false

abbrev pub is_misused : Usage → Bool
is_misused u = misuses u.spot.part u.meaning u.act

-- N19: `init` uses a name that isn't an own field, signal or input, or a declared pipe

abbrev pub is_declared_pipe : Option Declared → Bool
is_declared_pipe None = false
is_declared_pipe (Some d) = is_pipe_kind d.kind
  where
    is_pipe_kind : Kind → Bool
    is_pipe_kind (kind.Pipe params) = true
    is_pipe_kind _ = false

abbrev pub starts_with : Option Sort → Bool
starts_with s = is_field s || is_signal s || is_input s

abbrev pub reaches : Option Declared → Option Meaning → Act → Bool
reaches d m (act.Piped n) = is_declared_pipe d
reaches d m act.Outlet = false
reaches d m _ = not (starts_with (sort_in m))

abbrev pub reaches_out : Option Declared → Usage → Bool
reaches_out d u = is_init u.spot.part && reaches d u.meaning u.act

-- N26: an outlet names no `ng-template`'s reference in scope
abbrev pub lacks_template : Usage → Bool
lacks_template u = is_outlet u.act && not (is_template u.meaning)

-- N30: `$event` outside a listener
abbrev pub is_outside : Usage → Bool
is_outside u = is_scoped u.act && is_event u.name && not (is_listener u.spot.part)

-- All of them.

-- the breaks at one name of a declaration with this name, where the application declares this by the name
abbrev pub usage_breaks : Option Declared → Name → Usage → List Refusal
usage_breaks d owner u =
    (((((((((broken (lacks_pipe d u.name u.act) rule.N08 u.spot.place u.name
    ++ broken (is_unknown u) rule.N11 u.spot.place u.name)
    ++ broken (is_early u) rule.N12 u.spot.place u.name)
    ++ broken (binds_reference u) rule.N13 u.spot.place u.name)
    ++ broken (binds_query u) rule.N14 u.spot.place u.name)
    ++ broken (is_fixed u) rule.N15 u.spot.place u.name)
    ++ broken (is_misused u) rule.N16 u.spot.place u.name)
    ++ broken (reaches_out d u) rule.N19 u.spot.place u.name)
    ++ broken (lacks_template u) rule.N26 u.spot.place u.name)
    ++ broken (is_outside u) rule.N30 u.spot.place owner)
