-- The rules on declarations.
use Rattle.std.specs.Prelude.{Bool, false, not, ◌||◌, ◌&&◌, bytes_eq, codes, List, [], ◌∷◌, ◌++◌, drop, Option, Some, None, is_some, slice_get}
use Rattle.std.specs.List.{flat_map, list_any}
use Rattle.ng_values.specs.declared.text.NgText.{NgText}
use Rattle.ng_ast.specs.declared.Place.{Place}
use Rattle.ng_ast.specs.declared.Provider.{Provider}
use Rattle.ng_ast.specs.declared.One.{One}
use Rattle.ng_ast.specs.declared.MemberKind.{MemberKind}
use Rattle.ng_ast.specs.declared.MemberKind.TheVariants as kind
use Rattle.ng_ast.specs.declared.Component.{Component}
use Rattle.ng_ast.specs.declared.Decl.{Decl}
use Rattle.ng_ast.specs.declared.Decl.TheVariants as decl
use Rattle.ng_ast.specs.declared.refusals.Refusal.{Refusal}
use Rattle.ng_ast.specs.declared.refusals.Rule.TheVariants as rule
use Rattle.ng_scopes.specs.Declarations.{decl_usages}
use Rattle.ng_parts.specs.declared.declared.Declared.{Declared}
use Rattle.ng_parts.specs.declared.site.Site.{Site}
use Rattle.ng_parts.specs.Sites.{Name, site, repeats}
use Rattle.ng_parts.specs.Entries.{named}
use Rattle.ng_breaks.specs.Least.{broken, refusal, of_rule}
use Rattle.ng_breaks.specs.NameRules.{usage_breaks}
use Rattle.ng_decl_rules.specs.MemberRules.{Names, is_environment, provider_breaks, parameter_sites, members_breaks}

-- N01: there is no `bootstrap`, or it names no component that can start

abbrev pub is_required : MemberKind → Bool
is_required (kind.Input required v) = required
is_required _ = false

-- the first alternative of a selector has a tag
abbrev pub has_tag : List One → Bool
has_tag [] = false
has_tag (o ∷ os) = is_some o.tag

-- A component can start where its selector gives a tag and no input is required.
abbrev pub can_start : Component → Bool
can_start c = has_tag c.selector.list && not (list_any (λ m. is_required m.kind) c.members)

abbrev pub starts_decl : Option Decl → Bool
starts_decl (Some (decl.Component c)) = can_start c
starts_decl _ = false

abbrev pub starts_at : List Decl → Option Declared → Bool
starts_at ds None = false
starts_at ds (Some d) = starts_decl (slice_get ds d.at)

-- whether the name is that of a component that can start
abbrev pub starts : List Decl → Name → Bool
starts ds n = starts_at ds (named ds n)

abbrev pub boot_site : Decl → List Site
boot_site (decl.Bootstrap p n env) = site p n ∷ []
boot_site _ = []

-- the `bootstrap`s, each with the component that it names
abbrev pub boots : List Decl → List Site
boots = flat_map boot_site

-- where a file begins
abbrev pub start : Place
start = record { line = 1; column = 1; byte = 0 }

abbrev pub root_breaks : List Decl → List Site → List Refusal
root_breaks ds [] = refusal rule.N01 start (codes "app") ∷ []
root_breaks ds (b ∷ bs) = flat_map (λ s. broken (not (starts ds s.name)) rule.N01 s.place s.name) (b ∷ bs)

-- N02: a declaration or a second `bootstrap` repeats a name

abbrev pub declared_site : Decl → List Site
declared_site (decl.Component c) = site c.place c.name ∷ []
declared_site (decl.Service s) = site s.place s.name ∷ []
declared_site (decl.Pipe p) = site p.place p.name ∷ []
declared_site (decl.Environment e) = site e.place e.name ∷ []
declared_site (decl.Token p n) = site p n ∷ []
declared_site (decl.Bootstrap p n env) = []

-- the names that declarations declare
abbrev pub declared_sites : List Decl → List Site
declared_sites = flat_map declared_site

-- N24: `under` or `in` names no environment; `root` is one without a declaration

abbrev pub is_known_environment : Names → Name → Bool
is_known_environment names n = is_environment (names n) || bytes_eq n (codes "root")

abbrev pub environment_breaks : Names → Place → Option NgText → List Refusal
environment_breaks names p None = []
environment_breaks names p (Some n) = broken (not (is_known_environment names n)) rule.N24 p n

-- the providers of an environment, each with its own place
abbrev pub provide_breaks : Names → List (Place × Provider) → List Refusal
provide_breaks names = flat_map (λ q. provider_breaks names q.0 q.1)

-- A declaration by itself.

abbrev pub decl_breaks : Names → Decl → List Refusal
decl_breaks names (decl.Component c) = members_breaks names c.members
decl_breaks names (decl.Service s) = members_breaks names s.members
decl_breaks names (decl.Pipe p) = of_rule rule.N02 (repeats (parameter_sites p.place p.params))
decl_breaks names (decl.Environment e) = environment_breaks names e.place e.under ++ provide_breaks names e.provides
decl_breaks names (decl.Token p n) = []
decl_breaks names (decl.Bootstrap p n env) = environment_breaks names p env

-- the name of a declaration
abbrev pub decl_name : Decl → Name
decl_name (decl.Component c) = c.name
decl_name (decl.Service s) = s.name
decl_name (decl.Pipe p) = p.name
decl_name (decl.Environment e) = e.name
decl_name (decl.Token p n) = n
decl_name (decl.Bootstrap p n env) = n

-- the breaks at the names that stand in a declaration
abbrev pub names_breaks : Names → Decl → List Refusal
names_breaks names d = flat_map (λ u. usage_breaks (names u.name) (decl_name d) u) (decl_usages d)

abbrev pub each_breaks : Names → Decl → List Refusal
each_breaks names d = decl_breaks names d ++ names_breaks names d

-- the breaks of all declarations
abbrev pub declaration_breaks : List Decl → List Refusal
declaration_breaks ds =
    ((of_rule rule.N02 (repeats (declared_sites ds)) ++ root_breaks ds (boots ds)) ++ of_rule rule.N02 (drop 1 (boots ds)))
    ++ flat_map (each_breaks (named ds)) ds
