-- What an application declares, by name.
use Rattle.std.specs.Prelude.{ℕ, Bool, true, false, List, [], Option, Some, None, codes, bytes_eq, filter, find, unwrap_or, is_some}
use Rattle.std.specs.List.{filter_map, position_or_len}
use Rattle.ng_values.specs.declared.value.Value.{Value}
use Rattle.ng_ast.specs.declared.App.{App}
use Rattle.ng_ast.specs.declared.Decl.{Decl}
use Rattle.ng_ast.specs.declared.Decl.TheVariants as decl
use Rattle.ng_ast.specs.declared.Component.{Component}
use Rattle.ng_ast.specs.declared.Service.{Service}
use Rattle.ng_ast.specs.declared.Pipe.{Pipe}
use Rattle.ng_ast.specs.declared.Environment.{Environment}
use Rattle.ng_ast.specs.declared.Member.{Member}
use Rattle.ng_ast.specs.declared.MemberKind.{MemberKind}
use Rattle.ng_ast.specs.declared.MemberKind.TheVariants as kind
use Rattle.ng_ast.specs.declared.Provider.{Provider}
use Rattle.ng_ast.specs.declared.Provider.TheVariants as provider
use Rattle.ng_ast.specs.declared.Flag.{Flag}
use Rattle.ng_tree.specs.Names.{tokens, environments}
use Rattle.ng_meaning.specs.Lists.{Text, first}

-- the component that a declaration makes
abbrev pub component_in : Decl → Option Component
component_in (decl.Component c) = Some c
component_in _ = None

-- the service that a declaration makes
abbrev pub service_in : Decl → Option Service
service_in (decl.Service s) = Some s
service_in _ = None

-- the pipe that a declaration makes
abbrev pub pipe_in : Decl → Option Pipe
pipe_in (decl.Pipe p) = Some p
pipe_in _ = None

-- the environment that a declaration makes
abbrev pub environment_in : Decl → Option Environment
environment_in (decl.Environment e) = Some e
environment_in _ = None

-- the component and the environment that a `bootstrap` names
abbrev pub bootstrap_in : Decl → Option (Text × Option Text)
bootstrap_in (decl.Bootstrap p component environment) = Some (component, environment)
bootstrap_in _ = None

-- the components, in the order of the file
abbrev pub components : App → List Component
components app = filter_map component_in app.decls

-- the service of a name
abbrev pub service : App → Text → Option Service
service app name = find (λ s. bytes_eq name s.name) (filter_map service_in app.decls)

-- the declared pipe of a name
abbrev pub pipe : App → Text → Option Pipe
pipe app name = find (λ p. bytes_eq name p.name) (filter_map pipe_in app.decls)

-- the declared environment of a name
abbrev pub environment : App → Text → Option Environment
environment app name = find (λ e. bytes_eq name e.name) (filter_map environment_in app.decls)

-- the environment that every other one stands under, whether it is declared or not
abbrev pub root : Text
root = codes "root"

-- the number of a token
abbrev pub token_number : App → Text → ℕ
token_number app name = position_or_len (bytes_eq name) (tokens app)

-- the number of an environment
abbrev pub environment_number : App → Text → ℕ
environment_number app name = position_or_len (bytes_eq name) (environments app)

-- the component and the environment that the application begins with
abbrev pub bootstrap : App → Text × Option Text
bootstrap app = unwrap_or (first (filter_map bootstrap_in app.decls)) ([], None)

-- the root component
abbrev pub root_component : App → Option Component
root_component app = find (λ c. bytes_eq (bootstrap app).0 c.name) (components app)

-- ---- the members of a component or a service

-- the member of a name
abbrev pub member : Text → List Member → Option Member
member name = find (λ m. bytes_eq name m.name)

-- the value with which a field, a signal and an input begin
abbrev pub initial : MemberKind → Option Value
initial (kind.Field w) = Some w
initial (kind.Signal w) = Some w
initial (kind.Input required w) = Some w
initial _ = None

-- a member's name and the value with which it begins
abbrev pub initial_entry : Member → Option Value → Option (Text × Value)
initial_entry m None = None
initial_entry m (Some w) = Some (m.name, w)

-- the values with which all fields, signals and inputs begin
abbrev pub initial_values : List Member → List (Text × Value)
initial_values = filter_map (λ m. initial_entry m (initial m.kind))

-- whether a member is an input
abbrev pub is_input_kind : MemberKind → Bool
is_input_kind (kind.Input required w) = true
is_input_kind _ = false

-- whether a member is an output
abbrev pub is_output_kind : MemberKind → Bool
is_output_kind kind.Output = true
is_output_kind _ = false

-- whether a name is an input
abbrev pub is_input : List Member → Text → Bool
is_input ms name = is_some (member name (filter (λ m. is_input_kind m.kind) ms))

-- whether a name is an output
abbrev pub is_output : List Member → Text → Bool
is_output ms name = is_some (member name (filter (λ m. is_output_kind m.kind) ms))

-- a request for a dependency: the name that gets it, the token that is asked for, and the flags of the search
pub record Request : Type 0 where
  pub name : Text
  pub token : Text
  pub flags : List Flag

-- the dependency that a member asks for
abbrev pub request : Member → MemberKind → Option Request
request m (kind.Inject token flags) = Some (record { name = m.name; token = token; flags = flags })
request m _ = None

-- all `inject` members, in order
abbrev pub requests : List Member → List Request
requests = filter_map (λ m. request m m.kind)

-- the provider of a `provide` member
abbrev pub provided_by : MemberKind → Option Provider
provided_by (kind.Provide p) = Some p
provided_by _ = None

-- the provider of a `viewprovide` member
abbrev pub view_provided_by : MemberKind → Option Provider
view_provided_by (kind.ViewProvide p) = Some p
view_provided_by _ = None

-- the providers of all `provide` members, in order
abbrev pub providers : List Member → List Provider
providers = filter_map (λ m. provided_by m.kind)

-- the providers of all `viewprovide` members, in order
abbrev pub view_providers : List Member → List Provider
view_providers = filter_map (λ m. view_provided_by m.kind)

-- the token for which a provider is there
abbrev pub token_of : Provider → Text
token_of (provider.Plain token) = token
token_of (provider.Other token service) = token
token_of (provider.Constant token w) = token
token_of (provider.From token other) = token
