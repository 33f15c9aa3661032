-- The rules on cycles. N09: a declared pipe reaches itself. N10: a getter reaches itself through own getters. N23: an environment stands
-- under itself. Each is a walk of one step or more in a graph, whose nodes are declarations or members, numbered by their positions.
use Rattle.std.specs.Prelude.{◌≡◌, ℕ, ◌+◌, Bool, false, if◌then◌else◌, slice_index_or, bytes_eq, codes, List, [], ◌∷◌, ◌++◌, map, Option, Some, None}
use Rattle.std.specs.List.{flat_map}
use Rattle.ng_graph.specs.Walk.{Graph, TellsCycles}
use Rattle.ng_ast.specs.declared.MemberKind.{MemberKind}
use Rattle.ng_ast.specs.declared.MemberKind.TheVariants as kind
use Rattle.ng_ast.specs.declared.Member.{Member}
use Rattle.ng_ast.specs.declared.Decl.{Decl}
use Rattle.ng_ast.specs.declared.Decl.TheVariants as decl
use Rattle.ng_ast.specs.declared.refusals.Refusal.{Refusal}
use Rattle.ng_ast.specs.declared.refusals.Rule.{Rule}
use Rattle.ng_ast.specs.declared.refusals.Rule.TheVariants as rule
use Rattle.ng_scopes.specs.declared.names.Sort.{Sort}
use Rattle.ng_scopes.specs.declared.names.Sort.TheVariants as sort
use Rattle.ng_scopes.specs.declared.names.Meaning.{Meaning}
use Rattle.ng_scopes.specs.declared.names.Meaning.TheVariants as means
use Rattle.ng_scopes.specs.declared.usage.Act.{Act}
use Rattle.ng_scopes.specs.declared.usage.Act.TheVariants as act
use Rattle.ng_scopes.specs.declared.usage.Usage.{Usage}
use Rattle.ng_scopes.specs.Names.{Scope}
use Rattle.ng_scopes.specs.Declarations.{decl_usages, member_scope, member_usages}
use Rattle.ng_parts.specs.declared.declared.Kind.{Kind}
use Rattle.ng_parts.specs.declared.declared.Kind.TheVariants as what
use Rattle.ng_parts.specs.declared.declared.Declared.{Declared}
use Rattle.ng_parts.specs.declared.site.Site.{Site}
use Rattle.ng_parts.specs.Sites.{Name, site}
use Rattle.ng_parts.specs.Entries.{named}
use Rattle.ng_breaks.specs.Least.{broken, least_of}

-- what the application declares by each name
abbrev pub Names : Type 0
Names = Name → Option Declared

-- N09: an edge leads from a declared pipe to each declared pipe that its value names

abbrev pub pipe_at : Kind → ℕ → List ℕ
pipe_at (what.Pipe params) at = at ∷ []
pipe_at what.Component at = []
pipe_at what.Service at = []
pipe_at what.Environment at = []
pipe_at what.Token at = []

abbrev pub pipe_in : Option Declared → List ℕ
pipe_in None = []
pipe_in (Some d) = pipe_at d.kind d.at

-- the declared pipe that is applied where a name stands
abbrev pub applied : Option Declared → Act → List ℕ
applied d (act.Piped count) = pipe_in d
applied d act.Read = []
applied d act.Asked = []
applied d (act.Called count) = []
applied d act.Set = []
applied d (act.Done count) = []
applied d (act.Sent plain method count) = []
applied d act.Outlet = []

abbrev pub applied_in : Names → List Usage → List ℕ
applied_in names = flat_map (λ u. applied (names u.name) u.act)

abbrev pub pipe_row : Names → Decl → List ℕ
pipe_row names (decl.Component c) = []
pipe_row names (decl.Service s) = []
pipe_row names (decl.Pipe p) = applied_in names (decl_usages (decl.Pipe p))
pipe_row names (decl.Environment e) = []
pipe_row names (decl.Token p n) = []
pipe_row names (decl.Bootstrap p n env) = []

abbrev pub pipe_graph : Names → List Decl → Graph
pipe_graph names = map (pipe_row names)

-- N23: an edge leads from an environment to the one that it stands under, which without `under` is `root`

abbrev pub environment_at : Kind → ℕ → List ℕ
environment_at what.Environment at = at ∷ []
environment_at what.Component at = []
environment_at what.Service at = []
environment_at (what.Pipe params) at = []
environment_at what.Token at = []

abbrev pub environment_in : Option Declared → List ℕ
environment_in None = []
environment_in (Some d) = environment_at d.kind d.at

-- `root` itself stands under nothing, if it doesn't say otherwise.
abbrev pub above : Names → Name → Option Name → List ℕ
above names n (Some m) = environment_in (names m)
above names n None = if bytes_eq n (codes "root") then [] else environment_in (names (codes "root"))

abbrev pub environment_row : Names → Decl → List ℕ
environment_row names (decl.Component c) = []
environment_row names (decl.Service s) = []
environment_row names (decl.Pipe p) = []
environment_row names (decl.Environment e) = above names e.name e.under
environment_row names (decl.Token p n) = []
environment_row names (decl.Bootstrap p n env) = []

abbrev pub environment_graph : Names → List Decl → Graph
environment_graph names = map (environment_row names)

-- N10: an edge leads from a getter to each own getter that it names

abbrev pub getter_at : Sort → ℕ → List ℕ
getter_at sort.Getter at = at ∷ []
getter_at sort.Field at = []
getter_at sort.Signal at = []
getter_at sort.Method at = []
getter_at sort.Inject at = []
getter_at sort.Input at = []
getter_at sort.Output at = []
getter_at sort.Query at = []

abbrev pub getter_in : Option Meaning → List ℕ
getter_in (Some (means.Member s at)) = getter_at s at
getter_in (Some means.Parameter) = []
getter_in (Some means.Variable) = []
getter_in (Some means.Let) = []
getter_in (Some means.Ahead) = []
getter_in (Some means.Reference) = []
getter_in (Some means.Template) = []
getter_in None = []

-- The own getter that is asked where a name stands. The name of a pipe means none.
abbrev pub asked : Option Meaning → Act → List ℕ
asked m (act.Piped count) = []
asked m act.Outlet = []
asked m act.Read = getter_in m
asked m act.Asked = getter_in m
asked m (act.Called count) = getter_in m
asked m act.Set = getter_in m
asked m (act.Done count) = getter_in m
asked m (act.Sent plain method count) = getter_in m

abbrev pub asked_in : List Usage → List ℕ
asked_in = flat_map (λ u. asked u.meaning u.act)

abbrev pub kind_row : List Usage → MemberKind → List ℕ
kind_row us (kind.Getter e) = asked_in us
kind_row us (kind.Field v) = []
kind_row us (kind.Signal v) = []
kind_row us (kind.Method params body) = []
kind_row us (kind.Init body) = []
kind_row us (kind.Inject token flags) = []
kind_row us (kind.Input required v) = []
kind_row us kind.Output = []
kind_row us (kind.Provide q) = []
kind_row us (kind.ViewProvide q) = []
kind_row us (kind.Query q aim descendants) = []

abbrev pub getter_row : Scope → Member → List ℕ
getter_row scope m = kind_row (member_usages scope m) m.kind

abbrev pub getter_graph : Scope → List Member → Graph
getter_graph scope = map (getter_row scope)

-- The breaks.

-- the breaks of a rule at those sites for which the answer is yes, the first of which is at this position
abbrev pub told_from : Rule → List Bool → ℕ → List Site → List Refusal
told_from r answers at [] = []
told_from r answers at (s ∷ ss) = broken (slice_index_or answers at false) r s.place s.name ++ told_from r answers (at + 1) ss

-- These are the breaks of a rule at the nodes that reach themselves, in the order of the nodes, each of which has a site.
abbrev pub AreCycles : Rule → Graph → List Site → List Refusal → Type 0
AreCycles r g sites breaks = (answers : List Bool) × TellsCycles g answers × (breaks ≡ told_from r answers 0 sites)

-- from old to new, the breaks of a rule at the nodes that reach themselves were taken
abbrev pub TakesCycles : Rule → Graph → List Site → Option Refusal → Option Refusal → Type 0
TakesCycles r g sites old new = (breaks : List Refusal) × AreCycles r g sites breaks × (new ≡ least_of old breaks)

-- where a declaration stands, with its name
abbrev pub decl_site : Decl → Site
decl_site (decl.Component c) = site c.place c.name
decl_site (decl.Service s) = site s.place s.name
decl_site (decl.Pipe p) = site p.place p.name
decl_site (decl.Environment e) = site e.place e.name
decl_site (decl.Token p n) = site p n
decl_site (decl.Bootstrap p n env) = site p n

abbrev pub decl_sites : List Decl → List Site
decl_sites = map decl_site

abbrev pub member_sites : List Member → List Site
member_sites = map (λ m. site m.place m.name)

abbrev pub members_of : Decl → List Member
members_of (decl.Component c) = c.members
members_of (decl.Service s) = s.members
members_of (decl.Pipe p) = []
members_of (decl.Environment e) = []
members_of (decl.Token p n) = []
members_of (decl.Bootstrap p n env) = []

-- N09: the pipes of an application that reach themselves
abbrev pub ArePipeCycles : List Decl → List Refusal → Type 0
ArePipeCycles ds = AreCycles rule.N09 (pipe_graph (named ds) ds) (decl_sites ds)

-- N23: the environments that stand under themselves
abbrev pub AreEnvironmentCycles : List Decl → List Refusal → Type 0
AreEnvironmentCycles ds = AreCycles rule.N23 (environment_graph (named ds) ds) (decl_sites ds)

-- N10: the getters of a declaration that reach themselves
abbrev pub AreOwnCycles : List Member → List Refusal → Type 0
AreOwnCycles ms = AreCycles rule.N10 (getter_graph (member_scope ms) ms) (member_sites ms)

-- N10: those of all declarations
abbrev pub AreGetterCycles : List Decl → List Refusal → Type 0
AreGetterCycles [] breaks = breaks ≡ []
AreGetterCycles (d ∷ ds) breaks = (own : List Refusal) × (others : List Refusal) × AreOwnCycles (members_of d) own × AreGetterCycles ds others × (breaks ≡ own ++ others)

-- all breaks of the rules on cycles
pub record AreCycleBreaks (ds : List Decl) (breaks : List Refusal) : Type 0 where
  pub pipes : List Refusal
  pub getters : List Refusal
  pub environments : List Refusal
  pub are_pipes : ArePipeCycles ds pipes
  pub are_getters : AreGetterCycles ds getters
  pub are_environments : AreEnvironmentCycles ds environments
  pub all : breaks ≡ (pipes ++ getters) ++ environments

-- from old to new, the breaks of the rules on cycles were taken
abbrev pub TakesGetterCycles : List Decl → Option Refusal → Option Refusal → Type 0
TakesGetterCycles ds old new = (breaks : List Refusal) × AreGetterCycles ds breaks × (new ≡ least_of old breaks)

abbrev pub TakesCycleBreaks : List Decl → Option Refusal → Option Refusal → Type 0
TakesCycleBreaks ds old new = (breaks : List Refusal) × AreCycleBreaks ds breaks × (new ≡ least_of old breaks)

-- The breaks of the rules on cycles are determined by the declarations.
abbrev pub CycleBreaksAreOne : Type 0
CycleBreaksAreOne = (ds : List Decl) (a b : List Refusal) → AreCycleBreaks ds a → AreCycleBreaks ds b → a ≡ b
