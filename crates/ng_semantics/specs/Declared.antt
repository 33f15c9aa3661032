-- What an application declares.
use Rattle.std.specs.Prelude.{List, [], Option, Some, None, option_and_then}
use Rattle.std.specs.Str.{bytes_eq}
use Rattle.std.specs.List.{filter_map}
use Rattle.ng_values.specs.declared.value.Value.{Value}
use Rattle.ng_ast.specs.declared.App.{App}
use Rattle.ng_ast.specs.declared.Decl.{Decl}
use Rattle.ng_ast.specs.declared.Decl.TheVariants as decl
use Rattle.ng_ast.specs.declared.Component.{Component}
use Rattle.ng_ast.specs.declared.Member.{Member}
use Rattle.ng_ast.specs.declared.MemberKind.{MemberKind}
use Rattle.ng_ast.specs.declared.MemberKind.TheVariants as kind
use Rattle.ng_semantics.specs.Text.{Text, first_that, head_of}

abbrev pub component_in : Decl → Option Component
component_in (decl.Component c) = Some c
component_in _ = None

abbrev pub bootstrap_in : Decl → Option Text
bootstrap_in (decl.Bootstrap place name environment) = Some name
bootstrap_in _ = None

-- The component that the first `bootstrap` names.
abbrev pub root_of : App → Option Component
root_of app = option_and_then (λ name. first_that (λ c. bytes_eq name c.name) (filter_map component_in app.decls)) (head_of (filter_map bootstrap_in app.decls))

-- The tag of the root host: that of the first alternative of the root's selector.
abbrev pub tag_of : Component → Text
tag_of c = elim (option_and_then (λ one. one.tag) (head_of c.selector.list)) [ None ↦ [] | Some tag ↦ tag ]

abbrev pub initial_in : Member → MemberKind → Option (Text × Value)
initial_in m (kind.Field value) = Some (m.name, value)
initial_in m _ = None

-- What the fields of a new instance hold, in the order of the file.
abbrev pub initial_fields : List Member → List (Text × Value)
initial_fields members = filter_map (λ m. initial_in m m.kind) members
