-- Dependency injection: what a token gives where it is asked for, and the services that are born for it.
use Rattle.std.specs.Prelude.{ℕ, zero, suc, ◌+◌, ◌*◌, Bool, true, false, ◌&&◌, if◌then◌else◌, List, [], ◌∷◌, ◌++◌, map, length, reverse, take, drop, Option, Some, None, Result, Ok, Err, bytes_eq, filter, slice_index_or, unwrap_or}
use Rattle.std.specs.List.{list_any}
use Rattle.std.specs.Option.{option_or}
use Rattle.ng_values.specs.declared.value.Value.TheVariants as val
use Rattle.ng_values.specs.declared.fault.Fault.{Fault}
use Rattle.ng_values.specs.declared.fault.Fault.TheVariants.{NoProvider, CircularDependency}
use Rattle.ng_ast.specs.declared.App.{App}
use Rattle.ng_ast.specs.declared.Service.{Service}
use Rattle.ng_ast.specs.declared.Environment.{Environment}
use Rattle.ng_ast.specs.declared.Provider.{Provider}
use Rattle.ng_ast.specs.declared.Provider.TheVariants as provider
use Rattle.ng_ast.specs.declared.Flag.{Flag}
use Rattle.ng_ast.specs.declared.Flag.TheVariants as flag
use Rattle.ng_ast.specs.declared.Member.{Member}
use Rattle.ng_tree.specs.declared.Site.{Site}
use Rattle.ng_tree.specs.declared.Site.TheVariants as site
use Rattle.ng_tree.specs.declared.Item.{Item}
use Rattle.ng_tree.specs.declared.Item.TheVariants as item
use Rattle.ng_tree.specs.Names.{tokens, environments}
use Rattle.ng_meaning.specs.Steps.{Steps, ◌>>=◌, ◌>>◌, pure, fail, change, all}
use Rattle.ng_meaning.specs.Lists.{Text, last}
use Rattle.ng_meaning.specs.Declared.{service, environment, root, token_number, environment_number, bootstrap, Request, requests, providers, view_providers, token_of}
use Rattle.ng_meaning.specs.Same.{same_site}
use Rattle.ng_meaning.specs.World.{is_live, born}
use Rattle.ng_meaning.specs.Places.{path_of, instance_at, Entry, way}
use Rattle.ng_meaning.specs.Init.{Setting, run_init}

-- ---- where a search goes

-- the environment above, which is `root` where none is named
abbrev pub above : Option Environment → Text
above None = root
above (Some e) = unwrap_or e.under root

-- an environment and those above it, at most n
abbrev pub upwards : App → ℕ → Text → List Text
upwards app zero name = []
upwards app (suc n) name = elim (bytes_eq name root) [ true ↦ name ∷ [] | false ↦ name ∷ upwards app n (above (environment app name)) ]

-- the environments from one up to `root`: no environment stands under itself, so there are no more than all of them
abbrev pub environments_from : App → Text → List Text
environments_from app name = upwards app (suc (length (environments app))) name

-- the environments from the bootstrap's up to `root`
abbrev pub bootstrap_environments : App → List Text
bootstrap_environments app = environments_from app (unwrap_or (bootstrap app).1 root)

-- where a search goes: along entries, and then along environments; and whether it begins in an environment
pub record Route : Type 0 where
  pub entries : List Entry
  pub environments : List Text
  pub from_environment : Bool

-- the way of an instance, of which the first entry is seen from inside or from beside
abbrev pub seen_from : Bool → List Entry → List Entry
seen_from inside [] = []
seen_from inside (e ∷ es) = record e { inside = inside } ∷ es

-- The route of a search from an instance, a service or an environment's service, and from the bootstrap's environment where nothing asks. A service
-- made by `provide` sees its element from beside, one made by `viewprovide` from inside.
abbrev pub route : App → Option Site → Route
route app None = record { entries = []; environments = bootstrap_environments app; from_environment = true }
route app (Some (site.Component p)) = record { entries = way app (reverse p); environments = bootstrap_environments app; from_environment = false }
route app (Some (site.Service p view t)) = record { entries = seen_from view (way app (reverse p)); environments = bootstrap_environments app; from_environment = false }
route app (Some (site.Env e t)) = record { entries = []; environments = environments_from app (slice_index_or (environments app) e root); from_environment = true }
route app (Some (site.Element i)) = record { entries = []; environments = []; from_environment = false }

-- ---- what is found on it

-- What a search finds: a provider, with the site of the service that it makes or would make, or a component under its own token.
pub data Found : Type 0 where
  Provided : Provider → Site → Found
  Itself : Site → Found

-- the last provider of a token among some
abbrev pub last_for : Text → List Provider → Option Provider
last_for token ps = last (filter (λ p. bytes_eq token (token_of p)) ps)

-- a provider that was found, with its site
abbrev pub found_at : Option Provider → Site → Option Found
found_at None at = None
found_at (Some p) at = Some (Provided p at)

-- a view provider, which is seen from inside alone
abbrev pub view_provider_at : App → Text → Entry → Option Found
view_provider_at app token e =
    if e.inside then found_at (last_for token (view_providers e.component.members)) (site.Service (path_of e.path) true (token_number app token)) else None

-- a provider
abbrev pub provider_at : App → Text → Entry → Option Found
provider_at app token e = found_at (last_for token (providers e.component.members)) (site.Service (path_of e.path) false (token_number app token))

-- the component itself
abbrev pub itself_at : Text → Entry → Option Found
itself_at token e = if bytes_eq token e.component.name then Some (Itself (instance_at e.path)) else None

-- at an entry: the last fitting view provider where it is seen from inside, else the last fitting provider, else the component
abbrev pub at_entry : App → Text → Entry → Option Found
at_entry app token e = option_or (view_provider_at app token e) (option_or (provider_at app token e) (itself_at token e))

-- at the end of a Host search: no providers but view providers
abbrev pub at_host_end : App → Text → Entry → Option Found
at_host_end app token e = option_or (view_provider_at app token e) (itself_at token e)

-- along entries
abbrev pub at_entries : App → Text → List Entry → Option Found
at_entries app token [] = None
at_entries app token (e ∷ es) = option_or (at_entry app token e) (at_entries app token es)

-- along the entries after the first, up to the instance whose template has the host, where a Host search ends
abbrev pub up_to_host : App → Text → List Entry → Option Found
up_to_host app token [] = None
up_to_host app token (e ∷ es) = if e.inside then at_host_end app token e else option_or (at_entry app token e) (up_to_host app token es)

-- whether a service can be made without a provider
abbrev pub is_root_service : Option Service → Bool
is_root_service None = false
is_root_service (Some s) = s.root

-- the providers of a declared environment
abbrev pub environment_providers : Option Environment → List Provider
environment_providers None = []
environment_providers (Some e) = map (λ p. p.1) e.provides

-- in an environment: the last fitting provider; in `root`, where there is none, a service that is declared `root` provides itself
abbrev pub at_environment : App → Text → Text → Option Found
at_environment app token name =
    let at = site.Env (environment_number app name) (token_number app token) in
    option_or (found_at (last_for token (environment_providers (environment app name))) at)
    (if bytes_eq name root && is_root_service (service app token) then Some (Provided (provider.Plain token) at) else None)

-- along environments
abbrev pub at_environments : App → Text → List Text → Option Found
at_environments app token [] = None
at_environments app token (name ∷ names) = option_or (at_environment app token name) (at_environments app token names)

-- whether two flags are one
abbrev pub same_flag : Flag → Flag → Bool
same_flag flag.Optional flag.Optional = true
same_flag flag.Own flag.Own = true
same_flag flag.Skip flag.Skip = true
same_flag flag.Host flag.Host = true
same_flag _ _ = false

-- whether a flag is given
abbrev pub has_flag : Flag → List Flag → Bool
has_flag f = list_any (same_flag f)

-- a Host search: the first entry as ever, unless it is skipped, and then up to the host's instance
abbrev pub host_search : App → Text → Bool → List Entry → Option Found
host_search app token skip [] = None
host_search app token true (e ∷ es) = up_to_host app token es
host_search app token false (e ∷ es) = option_or (at_entry app token e) (up_to_host app token es)

-- all of a route, where SkipSelf drops the first entry, or the first environment of a search that begins in one
abbrev pub whole_search : App → Text → Bool → Route → Option Found
whole_search app token skip r =
    option_or (at_entries app token (if skip then drop 1 r.entries else r.entries))
    (at_environments app token (if skip && r.from_environment then drop 1 r.environments else r.environments))

-- The first fit on a route. Self looks at the first entry alone. Self and Host never reach an environment.
unfoldable pub first_fit : App → Text → List Flag → Route → Option Found
first_fit app token flags r =
    if has_flag flag.Own flags then at_entries app token (take 1 r.entries)
    else (if has_flag flag.Host flags then host_search app token (has_flag flag.Skip flags) r.entries else whole_search app token (has_flag flag.Skip flags) r)

-- ---- what is given

-- a service that a search met, with the members that it was declared with and its injected items
pub record Made : Type 0 where
  pub at : Site
  pub members : List Member
  pub items : List (Text × Item)

-- a search, with the services that it met, needs first
abbrev pub Searching : Type 0 → Type 0
Searching = Steps (List Made) Fault

-- the members of a declared service
abbrev pub service_members : Option Service → List Member
service_members None = []
service_members (Some s) = s.members

-- whether a site is among those that are being made
abbrev pub is_making : Site → List Site → Bool
is_making at = list_any (same_site at)

-- whether a search met a service before
abbrev pub is_met : Site → List Made → Bool
is_met at = list_any (λ m. same_site at m.at)

-- Given what a further search gives, while some sites are being made.
module _ (app : App) (search : List Site → Option Site → Text → List Flag → Searching Item) where
  -- a need of a service, searched from the service's own site
  abbrev pub need_item : List Site → Site → Request → Searching (Text × Item)
  need_item making at r = search (at ∷ making) (Some at) r.token r.flags >>= (λ i. pure (r.name, i))

  -- a service with these members: its needs in member order, and then itself
  abbrev pub with_needs : List Site → Site → List Member → Searching Item
  with_needs making at ms =
      all (need_item making at) (requests ms) >>= (λ is. change (λ made. made ++ record { at = at; members = ms; items = is } ∷ []) >> pure (item.Site at))

  -- a service, unless the search met it before
  abbrev pub make_service : List Site → Site → Text → Searching Item
  make_service making at name = λ made. elim (is_met at made) [ true ↦ (Ok (item.Site at), made) | false ↦ with_needs making at (service_members (service app name)) made ]

  -- a site that is being made can't be given
  abbrev pub unless_making : Text → List Site → Site → Searching Item → Searching Item
  unless_making token making at m = elim (is_making at making) [ true ↦ fail (CircularDependency token) | false ↦ m ]

  -- what a provider gives; `from` searches the other token, without flags, from the site that a service made by it would have
  abbrev pub follow : Text → List Site → Provider → Site → Searching Item
  follow token making (provider.Constant t w) at = pure (item.Value w)
  follow token making (provider.Plain t) at = unless_making token making at (make_service making at t)
  follow token making (provider.Other t name) at = unless_making token making at (make_service making at name)
  follow token making (provider.From t other) at = unless_making token making at (search (at ∷ making) (Some at) other [])

  -- what is given for what was found; Optional makes null of nothing found
  abbrev pub give : Text → List Flag → List Site → Option Found → Searching Item
  give token flags making None = if has_flag flag.Optional flags then pure (item.Value val.Null) else fail (NoProvider token)
  give token flags making (Some (Itself at)) = unless_making token making at (pure (item.Site at))
  give token flags making (Some (Provided p at)) = follow token making p at

-- a search while some sites are being made, of which further ones nest less deep than n
abbrev pub search_within : App → ℕ → List Site → Option Site → Text → List Flag → Searching Item
search_within app zero making from token flags = fail (CircularDependency token)
search_within app (suc n) making from token flags = give app (search_within app n) token flags making (first_fit app token flags (route app from))

-- How deep searches nest at most: each further one makes a site that isn't being made, and a route leads to two sites at each entry and one in each
-- environment, for each token.
abbrev pub reach : App → Route → ℕ
reach app r = suc ((2 * length r.entries + suc (length (environments app))) * suc (length (tokens app)))

-- a search for a token from a site, while some sites are being made
unfoldable pub search : App → List Site → Option Site → Text → List Flag → Searching Item
search app making from token flags = search_within app (reach app (route app from)) making from token flags

-- the sites that are being made where a search begins: the one that asks
abbrev pub askers : Option Site → List Site
askers None = []
askers (Some at) = at ∷ []

-- What a token gives where it is asked for, or the first fault. It is a function of the application and the place alone, whatever is live.
unfoldable pub provided : App → Option Site → Text → List Flag → Result Item Fault
provided app from token flags = (search app (askers from) from token flags []).0

-- ---- births

-- The services that a search met and that aren't live are born, needs first, and the `init` of each runs right after its birth.
abbrev pub bear : App → List Made → Setting (Unit {0})
bear app [] = pure tt
bear app (m ∷ ms) = λ world. elim (is_live world m.at) [ true ↦ bear app ms world | false ↦ (change (born m.at m.members m.items) >> run_init app m.at m.members >> bear app ms) world ]

-- what follows a search that succeeded as a whole
abbrev pub after_search : App → Result Item Fault × List Made → Setting Item
after_search app r = elim r.0 [ Ok i ↦ bear app r.1 >> pure i | Err f ↦ fail f ]

-- Resolves a token: the whole search comes first, and where it has no fault the new services are born.
unfoldable pub resolved : App → Option Site → Text → List Flag → Setting Item
resolved app from token flags = after_search app (search app (askers from) from token flags [])
