-- The rules on members and providers.
use Rattle.std.specs.Prelude.{Bool, true, false, not, ◌&&◌, codes, List, [], ◌∷◌, ◌++◌, map, Option, Some, None}
use Rattle.std.specs.List.{flat_map, list_any}
use Rattle.ng_ast.specs.declared.Place.{Place}
use Rattle.ng_ast.specs.declared.Flag.{Flag}
use Rattle.ng_ast.specs.declared.Flag.TheVariants as flag
use Rattle.ng_ast.specs.declared.Provider.{Provider}
use Rattle.ng_ast.specs.declared.Provider.TheVariants as provider
use Rattle.ng_ast.specs.declared.Aim.{Aim}
use Rattle.ng_ast.specs.declared.Aim.TheVariants as aim
use Rattle.ng_ast.specs.declared.MemberKind.{MemberKind}
use Rattle.ng_ast.specs.declared.MemberKind.TheVariants as kind
use Rattle.ng_ast.specs.declared.Member.{Member}
use Rattle.ng_ast.specs.declared.refusals.Refusal.{Refusal}
use Rattle.ng_ast.specs.declared.refusals.Rule.TheVariants as rule
use Rattle.ng_scopes.specs.declared.names.Sort.{Sort}
use Rattle.ng_scopes.specs.Declarations.{sort_of}
use Rattle.ng_parts.specs.declared.declared.Kind.{Kind}
use Rattle.ng_parts.specs.declared.declared.Kind.TheVariants as what
use Rattle.ng_parts.specs.declared.declared.Declared.{Declared}
use Rattle.ng_parts.specs.declared.site.Site.{Site}
use Rattle.ng_parts.specs.Sites.{Name, site, repeats}
use Rattle.ng_breaks.specs.Least.{broken, of_rule}

-- what the application declares by each name
abbrev pub Names : Type 0
Names = Name → Option Declared

-- What a name names.

abbrev pub is_token_kind : Kind → Bool
is_token_kind what.Component = true
is_token_kind what.Service = true
is_token_kind what.Token = true
is_token_kind (what.Pipe n) = false
is_token_kind what.Environment = false

-- a service, a component or a token
abbrev pub is_token : Option Declared → Bool
is_token None = false
is_token (Some d) = is_token_kind d.kind

abbrev pub is_component_kind : Kind → Bool
is_component_kind what.Component = true
is_component_kind _ = false

abbrev pub is_component : Option Declared → Bool
is_component None = false
is_component (Some d) = is_component_kind d.kind

abbrev pub is_service_kind : Kind → Bool
is_service_kind what.Service = true
is_service_kind _ = false

abbrev pub is_service : Option Declared → Bool
is_service None = false
is_service (Some d) = is_service_kind d.kind

abbrev pub is_environment_kind : Kind → Bool
is_environment_kind what.Environment = true
is_environment_kind _ = false

abbrev pub is_environment : Option Declared → Bool
is_environment None = false
is_environment (Some d) = is_environment_kind d.kind

-- N20: the token of an `inject`, or the first or the `from` name of a provider, is none · N22: a service that is none

-- A token or a component isn't provided alone.
abbrev pub isnt_provided_alone : Option Declared → Bool
isnt_provided_alone d = is_token d && not (is_service d)

-- the breaks of a provider that stands in the part with this place
abbrev pub provider_breaks : Names → Place → Provider → List Refusal
provider_breaks names p (provider.Plain t) = broken (not (is_token (names t))) rule.N20 p t ++ broken (isnt_provided_alone (names t)) rule.N22 p t
provider_breaks names p (provider.Other t s) = broken (not (is_token (names t))) rule.N20 p t ++ broken (not (is_service (names s))) rule.N22 p s
provider_breaks names p (provider.Constant t v) = broken (not (is_token (names t))) rule.N20 p t
provider_breaks names p (provider.From t u) = broken (not (is_token (names t))) rule.N20 p t ++ broken (not (is_token (names u))) rule.N20 p u

-- N21: `self` with `skipself` or `host`, or a flag twice

abbrev pub flag_word : Flag → Name
flag_word flag.Optional = codes "optional"
flag_word flag.Own = codes "self"
flag_word flag.Skip = codes "skipself"
flag_word flag.Host = codes "host"

-- whether the second flag can't stand after the first
abbrev pub clashes : Flag → Flag → Bool
clashes flag.Optional flag.Optional = true
clashes flag.Optional _ = false
clashes flag.Own flag.Optional = false
clashes flag.Own _ = true
clashes flag.Skip flag.Own = true
clashes flag.Skip flag.Skip = true
clashes flag.Skip _ = false
clashes flag.Host flag.Own = true
clashes flag.Host flag.Host = true
clashes flag.Host _ = false

-- the later flags, after these
abbrev pub flags_after : List Flag → Place → List Flag → List Refusal
flags_after before p [] = []
flags_after before p (f ∷ fs) = broken (list_any (λ e. clashes e f) before) rule.N21 p (flag_word f) ++ flags_after (before ++ f ∷ []) p fs

-- N29: the component of a query isn't declared

abbrev pub aim_breaks : Names → Place → Aim → List Refusal
aim_breaks names p (aim.Component n) = broken (not (is_component (names n))) rule.N29 p n
aim_breaks names p (aim.Reference n) = []

-- N02: a parameter repeats a name

abbrev pub parameter_sites : Place → List Name → List Site
parameter_sites p = map (site p)

-- A member by itself.

abbrev pub kind_breaks : Names → Place → MemberKind → List Refusal
kind_breaks names p (kind.Field v) = []
kind_breaks names p (kind.Signal v) = []
kind_breaks names p (kind.Getter e) = []
kind_breaks names p (kind.Method params body) = of_rule rule.N02 (repeats (parameter_sites p params))
kind_breaks names p (kind.Init body) = []
kind_breaks names p (kind.Inject token flags) = broken (not (is_token (names token))) rule.N20 p token ++ flags_after [] p flags
kind_breaks names p (kind.Input required v) = []
kind_breaks names p kind.Output = []
kind_breaks names p (kind.Provide q) = provider_breaks names p q
kind_breaks names p (kind.ViewProvide q) = provider_breaks names p q
kind_breaks names p (kind.Query q aim descendants) = aim_breaks names p aim

abbrev pub member_breaks : Names → Member → List Refusal
member_breaks names m = kind_breaks names m.place m.kind

-- N02: a member or an `init` repeats a name

abbrev pub named_site : Place → Name → Option Sort → List Site
named_site p n None = []
named_site p n (Some s) = site p n ∷ []

abbrev pub member_site : Member → List Site
member_site m = named_site m.place m.name (sort_of m.kind)

abbrev pub init_at : Place → MemberKind → List Site
init_at p (kind.Init body) = site p (codes "init") ∷ []
init_at p _ = []

abbrev pub init_site : Member → List Site
init_site m = init_at m.place m.kind

-- The breaks of members. A member's own name stands before its parameters.
abbrev pub members_breaks : Names → List Member → List Refusal
members_breaks names ms =
    (of_rule rule.N02 (repeats (flat_map member_site ms)) ++ of_rule rule.N02 (repeats (flat_map init_site ms))) ++ flat_map (member_breaks names) ms
