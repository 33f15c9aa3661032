-- The names that stand in a declaration, and those of its members.
use Rattle.std.specs.Prelude.{ℕ, ◌+◌, List, [], ◌∷◌, ◌++◌, map, Option, Some, None}
use Rattle.std.specs.List.{flat_map}
use Rattle.ng_ast.specs.declared.Place.{Place}
use Rattle.ng_ast.specs.declared.MemberKind.{MemberKind}
use Rattle.ng_ast.specs.declared.MemberKind.TheVariants as kind
use Rattle.ng_ast.specs.declared.Member.{Member}
use Rattle.ng_ast.specs.declared.Decl.{Decl}
use Rattle.ng_ast.specs.declared.Decl.TheVariants as decl
use Rattle.ng_scopes.specs.declared.names.Sort.{Sort}
use Rattle.ng_scopes.specs.declared.names.Sort.TheVariants as sort
use Rattle.ng_scopes.specs.declared.names.Known.{Known}
use Rattle.ng_scopes.specs.declared.names.Meaning.TheVariants as means
use Rattle.ng_scopes.specs.declared.usage.Part.{Part}
use Rattle.ng_scopes.specs.declared.usage.Part.TheVariants as part
use Rattle.ng_scopes.specs.declared.usage.Spot.{Spot}
use Rattle.ng_scopes.specs.declared.usage.Usage.{Usage}
use Rattle.ng_scopes.specs.Names.{Name, Scope, nothing, inside}
use Rattle.ng_scopes.specs.Usages.{usages, stmt_usages}
use Rattle.ng_scopes.specs.Templates.{known, view_reads}

-- What a member with a name is. An `init` and a provider have none.
abbrev pub sort_of : MemberKind → Option Sort
sort_of (kind.Field v) = Some sort.Field
sort_of (kind.Signal v) = Some sort.Signal
sort_of (kind.Getter e) = Some sort.Getter
sort_of (kind.Method params body) = Some sort.Method
sort_of (kind.Init body) = None
sort_of (kind.Inject token flags) = Some sort.Inject
sort_of (kind.Input required v) = Some sort.Input
sort_of kind.Output = Some sort.Output
sort_of (kind.Provide p) = None
sort_of (kind.ViewProvide p) = None
sort_of (kind.Query q aim descendants) = Some sort.Query

abbrev pub named_member : Place → Name → ℕ → Option Sort → List Known
named_member p n at None = []
named_member p n at (Some s) = known p n (means.Member s at) ∷ []

-- the name of the member at this position
abbrev pub member_known : ℕ → Member → List Known
member_known at m = named_member m.place m.name at (sort_of m.kind)

-- the names of members, the first of which is at this position
abbrev pub members_from : ℕ → List Member → List Known
members_from at [] = []
members_from at (m ∷ ms) = member_known at m ++ members_from (at + 1) ms

abbrev pub member_names : List Member → List Known
member_names = members_from 0

-- what names mean among the members
abbrev pub member_scope : List Member → Scope
member_scope ms = inside (member_names ms) 0 nothing

abbrev pub parameters : Place → List Name → List Known
parameters p = map (λ n. known p n means.Parameter)

abbrev pub spot : Place → Part → Spot
spot p k = record { place = p; part = k }

abbrev pub kind_usages : Place → Scope → MemberKind → List Usage
kind_usages p scope (kind.Field v) = []
kind_usages p scope (kind.Signal v) = []
kind_usages p scope (kind.Getter e) = usages (spot p part.Getter) scope e
kind_usages p scope (kind.Method params body) = flat_map (stmt_usages (spot p part.Method) (inside (parameters p params) 0 scope)) body
kind_usages p scope (kind.Init body) = flat_map (stmt_usages (spot p part.Init) scope) body
kind_usages p scope (kind.Inject token flags) = []
kind_usages p scope (kind.Input required v) = []
kind_usages p scope kind.Output = []
kind_usages p scope (kind.Provide q) = []
kind_usages p scope (kind.ViewProvide q) = []
kind_usages p scope (kind.Query q aim descendants) = []

-- the names that stand in a member
abbrev pub member_usages : Scope → Member → List Usage
member_usages scope m = kind_usages m.place scope m.kind

abbrev pub members_usages : Scope → List Member → List Usage
members_usages scope = flat_map (member_usages scope)

-- the names that stand in a declaration
abbrev pub decl_usages : Decl → List Usage
decl_usages (decl.Component c) = members_usages (member_scope c.members) c.members ++ view_reads [] (member_scope c.members) c.template.nodes
decl_usages (decl.Service s) = members_usages (member_scope s.members) s.members
decl_usages (decl.Pipe p) = usages (spot p.place part.Pipe) (inside (parameters p.place p.params) 0 nothing) p.value
decl_usages (decl.Environment e) = []
decl_usages (decl.Token p n) = []
decl_usages (decl.Bootstrap p n env) = []
