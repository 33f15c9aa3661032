-- One level of a search for a token: how deep searches may nest is never felt.
use Rattle.std.specs.Prelude.{◌≡◌, ◌⊎◌, ℕ, zero, suc, ◌+◌, ◌*◌, ◌<◌, ◌≤◌, Bool, true, false, not, ◌||◌, ◌&&◌, if◌then◌else◌, List, [], ◌∷◌, ◌++◌, map, length, reverse, take, drop, Option, Some, None, Ok, bytes_eq, refl}
use Rattle.std.specs.List.{flat_map}
use Rattle.std.specs.Option.{option_or}
use Rattle.std.proofs.Common.{inl, inr, ap, sym, ◌∙◌, subst, arith}
use Rattle.std.proofs.Math.Nat.{zero-mul, suc-mul, add-mul, mul_assoc, mul_comm}
use Rattle.std.proofs.lemmas.List.{length-append, length-map, reverse-reverse}
use Rattle.std.proofs.lemmas.List.Sums.{prefix_len-le-length}
use Rattle.ng_ast.specs.declared.App.{App}
use Rattle.ng_ast.specs.declared.Flag.{Flag}
use Rattle.ng_ast.specs.declared.Flag.TheVariants as flag
use Rattle.ng_ast.specs.declared.Provider.{Provider}
use Rattle.ng_ast.specs.declared.Provider.TheVariants as provider
use Rattle.ng_tree.specs.declared.Site.{Site}
use Rattle.ng_tree.specs.declared.Site.TheVariants as site
use Rattle.ng_tree.specs.declared.Item.TheVariants as item
use Rattle.ng_tree.specs.declared.Item.{Item}
use Rattle.ng_tree.specs.Names.{tokens, environments}
use Rattle.ng_values.specs.declared.fault.Fault.TheVariants.{CircularDependency}
use Rattle.ng_meaning.specs.Steps.{◌>>=◌, ◌>>◌, pure, fail, change, all}
use Rattle.ng_meaning.specs.Lists.{Text}
use Rattle.ng_meaning.specs.Declared.{service, environment, root, token_number, environment_number, Request, requests, providers, view_providers}
use Rattle.ng_meaning.specs.Same.{same_site}
use Rattle.ng_meaning.specs.Places.{Trail, Entry, path_of, way}
use Rattle.ng_meaning.specs.Injection.{Route, seen_from, route, Found, Provided, Itself, found_at, view_provider_at, provider_at, itself_at, at_entry, at_host_end, at_entries, up_to_host, at_environment, at_environments, has_flag, host_search, whole_search, first_fit, Searching, service_members, is_making, is_met, need_item, make_service, follow, give, search_within, reach, search, last_for, environment_providers, is_root_service}
use Rattle.ng_meaning.specs.Laws.Apart.{In, In-left, In-right}
use Rattle.ng_meaning.specs.Laws.Sameness.{same_site_decides}
use Rattle.ng_meaning.specs.Laws.Ways.{trails, way-Closed}

-- a further search
abbrev Search : Type 0
Search = List Site → Option Site → Text → List Flag → Searching Item

-- ---- what is given is the same where the further searches are

module _ (app : App) (f g : Search) (making : List Site) (at : Site) (alike : (token : Text) (flags : List Flag) → f (at ∷ making) (Some at) token flags ≡ g (at ∷ making) (Some at) token flags) where
  needs_alike : (rs : List Request) → all (need_item app f making at) rs ≡ all (need_item app g making at) rs
  needs_alike [] = refl
  needs_alike (r ∷ rs) = λ i. (alike r.token r.flags i >>= (λ x. pure (r.name, x))) >>= (λ b. needs_alike rs i >>= (λ bs. pure (b ∷ bs)))

  made_alike : (name : Text) → make_service app f making at name ≡ make_service app g making at name
  made_alike name = λ i made. elim (is_met at made) [
    | true ↦ (Ok (item.Site at), made)
    | false ↦ (needs_alike (requests (service_members (service app name))) i >>= (λ is. change (λ m. m ++ record { at = at; members = service_members (service app name); items = is } ∷ []) >> pure (item.Site at))) made
  ]

-- what is given unless a site is being made
unless_alike : (b : Bool) (token : Text) (m n : Searching Item) → (b ≡ false → m ≡ n) → elim b as (λ _. Searching Item) [ true ↦ fail (CircularDependency token) | false ↦ m ] ≡ elim b as (λ _. Searching Item) [ true ↦ fail (CircularDependency token) | false ↦ n ]
unless_alike true token m n h = refl
unless_alike false token m n h = h refl

module _ (app : App) (f g : Search) (token : Text) (making : List Site) where
  follow_alike : (p : Provider) (at : Site) → (is_making at making ≡ false → (t : Text) (flags : List Flag) → f (at ∷ making) (Some at) t flags ≡ g (at ∷ making) (Some at) t flags)
      → follow app f token making p at ≡ follow app g token making p at
  follow_alike (provider.Constant t w) at h = refl
  follow_alike (provider.Plain t) at h = unless_alike (is_making at making) token _ _ (λ free. made_alike app f g making at (h free) t)
  follow_alike (provider.Other t name) at h = unless_alike (is_making at making) token _ _ (λ free. made_alike app f g making at (h free) name)
  follow_alike (provider.From t other) at h = unless_alike (is_making at making) token _ _ (λ free. h free other [])

  give_alike : (flags : List Flag) (found : Option Found)
      → ((p : Provider) (at : Site) → found ≡ Some (Provided p at) → is_making at making ≡ false → (t : Text) (fs : List Flag) → f (at ∷ making) (Some at) t fs ≡ g (at ∷ making) (Some at) t fs)
      → give app f token flags making found ≡ give app g token flags making found
  give_alike flags None h = refl
  give_alike flags (Some (Itself at)) h = refl
  give_alike flags (Some (Provided p at)) h = follow_alike p at (h p at refl)

-- ---- the sites that aren't being made

-- how many of some sites aren't being made
abbrev free : List Site → List Site → ℕ
free making [] = 0
free making (s ∷ ss) = elim (is_making s making) [ true ↦ free making ss | false ↦ suc (free making ss) ]

free-le : (making ss : List Site) → free making ss ≤ length ss
free-le making [] = omega arith
free-le making (s ∷ ss) = by_case (is_making s making) (free-le making ss)
  where
    by_case : (b : Bool) → free making ss ≤ length ss → elim b as (λ _. ℕ) [ true ↦ free making ss | false ↦ suc (free making ss) ] ≤ suc (length ss)
    by_case true h = omega (arith, h)
    by_case false h = omega (arith, h)

no_more : (b c : Bool) (x y : ℕ) → x ≤ y → elim (b || c) as (λ _. ℕ) [ true ↦ x | false ↦ suc x ] ≤ elim c as (λ _. ℕ) [ true ↦ y | false ↦ suc y ]
no_more true true x y h = h
no_more true false x y h = omega (arith, h)
no_more false true x y h = h
no_more false false x y h = omega (arith, h)

fewer : (b c : Bool) (x y : ℕ) → x < y → elim (b || c) as (λ _. ℕ) [ true ↦ x | false ↦ suc x ] < elim c as (λ _. ℕ) [ true ↦ y | false ↦ suc y ]
fewer true true x y h = h
fewer true false x y h = omega (arith, h)
fewer false true x y h = h
fewer false false x y h = omega (arith, h)

this_one : (b c : Bool) (x y : ℕ) → b ≡ true → c ≡ false → x ≤ y → elim (b || c) as (λ _. ℕ) [ true ↦ x | false ↦ suc x ] < elim c as (λ _. ℕ) [ true ↦ y | false ↦ suc y ]
this_one true false x y e d h = omega (arith, h)
this_one true true x y e d h = cc
this_one false c x y e d h = cc

free-more : (at : Site) (making ss : List Site) → free (at ∷ making) ss ≤ free making ss
free-more at making [] = omega arith
free-more at making (s ∷ ss) = no_more (same_site s at) (is_making s making) (free (at ∷ making) ss) (free making ss) (free-more at making ss)

free-less : (at : Site) (making ss : List Site) → In at ss → is_making at making ≡ false → free (at ∷ making) ss < free making ss
free-less at making [] i d = absurd i
free-less at making (s ∷ ss) (inl e) d =
    this_one (same_site s at) (is_making s making) (free (at ∷ making) ss) (free making ss) ((same_site_decides s at).1 (sym e)) (subst (λ x. is_making x making ≡ false) e d) (free-more at making ss)
free-less at making (s ∷ ss) (inr i) d = fewer (same_site s at) (is_making s making) (free (at ∷ making) ss) (free making ss) (free-less at making ss i d)

-- ---- the sites to which a route leads

-- the numbers up to one
abbrev up_to : ℕ → List ℕ
up_to zero = 0 ∷ []
up_to (suc n) = suc n ∷ up_to n

length-up_to : (n : ℕ) → length (up_to n) ≡ suc n
length-up_to zero = refl
length-up_to (suc n) = omega (arith, length-up_to n)

last_or : (k n : ℕ) → k ≤ suc n → (k ≡ suc n) ⊎ (k ≤ n)
last_or zero n l = inr (omega arith)
last_or (suc k) zero l = inl (omega (arith, l))
last_or (suc k) (suc n) l = elim (last_or k n (omega (arith, l))) [ inl e ↦ inl (omega (arith, e)) | inr m ↦ inr (omega (arith, m)) ]

up_to-In : (n k : ℕ) → k ≤ n → In k (up_to n)
up_to-In zero k h = inl (omega (arith, h))
up_to-In (suc n) k h = elim (last_or k n h) [ inl e ↦ inl e | inr l ↦ inr (up_to-In n k l) ]

In-mapped : {A B : Type 0} (h : A → B) (xs : List A) (x : A) → In x xs → In (h x) (map h xs)
In-mapped h [] x i = absurd i
In-mapped h (y ∷ xs) x (inl e) = inl (ap h e)
In-mapped h (y ∷ xs) x (inr i) = inr (In-mapped h xs x i)

pub In-flat : {A B : Type 0} (h : A → List B) (xs : List A) (x : A) (b : B) → In x xs → In b (h x) → In b (flat_map h xs)
In-flat h [] x b i j = absurd i
In-flat h (y ∷ xs) x b (inl e) j = In-left (h y) (flat_map h xs) b (subst (λ z. In b (h z)) e j)
In-flat h (y ∷ xs) x b (inr i) j = In-right (h y) (flat_map h xs) b (In-flat h xs x b i j)

length-flat : {A B : Type 0} (h : A → List B) (n : ℕ) → ((x : A) → length (h x) ≡ n) → (xs : List A) → length (flat_map h xs) ≡ length xs * n
length-flat h n each [] = sym (zero-mul n)
length-flat h n each (x ∷ xs) = omega (arith, length-append (h x) (flat_map h xs), each x, length-flat h n each xs, suc-mul (length xs) n)

module _ (app : App) where
  -- the numbers of tokens
  abbrev token_numbers : List ℕ
  token_numbers = up_to (length (tokens app))

  -- the sites that may be at an instance
  abbrev sites_at : Trail → List Site
  sites_at p = map (λ t. site.Service (path_of p) true t) token_numbers ++ map (λ t. site.Service (path_of p) false t) token_numbers

  -- the sites that may be in an environment
  abbrev sites_in : ℕ → List Site
  sites_in e = map (λ t. site.Env e t) token_numbers

  -- the sites that may be at instances, and in all environments
  abbrev sites_of : List Trail → List Site
  sites_of ps = flat_map sites_at ps ++ flat_map sites_in (up_to (length (environments app)))

  -- a site at one of some instances, or in an environment
  abbrev IsAt : List Trail → Site → Type 0
  IsAt ps s = ((p : Trail) × In p ps × (v : Bool) × (t : ℕ) × (t ≤ length (tokens app)) × (s ≡ site.Service (path_of p) v t))
      ⊎ ((e : ℕ) × (t : ℕ) × (e ≤ length (environments app)) × (t ≤ length (tokens app)) × (s ≡ site.Env e t))

  service_In : (p : Trail) (v : Bool) (t : ℕ) → t ≤ length (tokens app) → In (site.Service (path_of p) v t) (sites_at p)
  service_In p true t h =
      In-left (map (λ k. site.Service (path_of p) true k) token_numbers) (map (λ k. site.Service (path_of p) false k) token_numbers) (site.Service (path_of p) true t)
      (In-mapped (λ k. site.Service (path_of p) true k) token_numbers t (up_to-In (length (tokens app)) t h))
  service_In p false t h =
      In-right (map (λ k. site.Service (path_of p) true k) token_numbers) (map (λ k. site.Service (path_of p) false k) token_numbers) (site.Service (path_of p) false t)
      (In-mapped (λ k. site.Service (path_of p) false k) token_numbers t (up_to-In (length (tokens app)) t h))

  IsAt-In : (ps : List Trail) (s : Site) → IsAt ps s → In s (sites_of ps)
  IsAt-In ps s (inl h) =
      In-left (flat_map sites_at ps) (flat_map sites_in (up_to (length (environments app)))) s
      (subst (λ x. In x (flat_map sites_at ps)) (sym h.5) (In-flat sites_at ps h.0 (site.Service (path_of h.0) h.2 h.3) h.1 (service_In h.0 h.2 h.3 h.4)))
  IsAt-In ps s (inr h) =
      let all = up_to (length (environments app)) in
      In-right (flat_map sites_at ps) (flat_map sites_in all) s
      (subst (λ x. In x (flat_map sites_in all)) (sym h.4)
      (In-flat sites_in all h.0 (site.Env h.0 h.1) (up_to-In (length (environments app)) h.0 h.2) (In-mapped (λ t. site.Env h.0 t) token_numbers h.1 (up_to-In (length (tokens app)) h.1 h.3))))

  length-sites_at : (p : Trail) → length (sites_at p) ≡ 2 * suc (length (tokens app))
  length-sites_at p =
      omega (
        arith,
        length-append (map (λ t. site.Service (path_of p) true t) token_numbers) (map (λ t. site.Service (path_of p) false t) token_numbers),
        length-map token_numbers (λ t. site.Service (path_of p) true t),
        length-map token_numbers (λ t. site.Service (path_of p) false t),
        length-up_to (length (tokens app)),
      )

  length-sites_in : (e : ℕ) → length (sites_in e) ≡ suc (length (tokens app))
  length-sites_in e = length-map token_numbers (λ t. site.Env e t) ∙ length-up_to (length (tokens app))

  -- ---- what is found on a route

  token-le : (token : Text) → token_number app token ≤ length (tokens app)
  token-le token = prefix_len-le-length (λ x. not (bytes_eq token x)) (tokens app)

  environment-le : (name : Text) → environment_number app name ≤ length (environments app)
  environment-le name = prefix_len-le-length (λ x. not (bytes_eq name x)) (environments app)

  -- what is found, if it is a provider, has a site that has a property
  abbrev Finds : (Site → Type 0) → Option Found → Type 0
  Finds P found = (p : Provider) (s : Site) → found ≡ Some (Provided p s) → P s

  finds_or : (P : Site → Type 0) (a b : Option Found) → Finds P a → Finds P b → Finds P (option_or a b)
  finds_or P None b h k p s e = k p s e
  finds_or P (Some x) b h k p s e = h p s e

  finds_if : (P : Site → Type 0) (t : Bool) (a b : Option Found) → Finds P a → Finds P b → Finds P (if t then a else b)
  finds_if P true a b h k = h
  finds_if P false a b h k = k

  finds_none : (P : Site → Type 0) → Finds P None
  finds_none P p s e = cc

  finds_at : (P : Site → Type 0) (o : Option Provider) (at : Site) → P at → Finds P (found_at o at)
  finds_at P None at h p s e = cc
  finds_at P (Some q) at h p s e = let same : at ≡ s = cc in subst P same h

  finds_itself : (P : Site → Type 0) (t : Bool) (at : Site) → Finds P (if t then Some (Itself at) else None)
  finds_itself P true at p s e = cc
  finds_itself P false at p s e = cc

  module _ (token : Text) where
    service_at : (ps : List Trail) (e : Entry) (v : Bool) → In e.path ps → IsAt ps (site.Service (path_of e.path) v (token_number app token))
    service_at ps e v i = inl (e.path, i, v, token_number app token, token-le token, refl)

    view_finds : (ps : List Trail) (e : Entry) → In e.path ps → Finds (IsAt ps) (view_provider_at app token e)
    view_finds ps e i =
        finds_if (IsAt ps) e.inside (found_at (last_for token (view_providers e.component.members)) (site.Service (path_of e.path) true (token_number app token))) None
        (finds_at (IsAt ps) (last_for token (view_providers e.component.members)) (site.Service (path_of e.path) true (token_number app token)) (service_at ps e true i)) (finds_none (IsAt ps))

    itself_finds : (ps : List Trail) (e : Entry) → Finds (IsAt ps) (itself_at token e)
    itself_finds ps e = finds_itself (IsAt ps) (bytes_eq token e.component.name) _

    entry_finds : (ps : List Trail) (e : Entry) → In e.path ps → Finds (IsAt ps) (at_entry app token e)
    entry_finds ps e i =
        finds_or (IsAt ps) (view_provider_at app token e) (option_or (provider_at app token e) (itself_at token e)) (view_finds ps e i)
        (finds_or (IsAt ps) (provider_at app token e) (itself_at token e)
        (finds_at (IsAt ps) (last_for token (providers e.component.members)) (site.Service (path_of e.path) false (token_number app token)) (service_at ps e false i)) (itself_finds ps e))

    host_end_finds : (ps : List Trail) (e : Entry) → In e.path ps → Finds (IsAt ps) (at_host_end app token e)
    host_end_finds ps e i = finds_or (IsAt ps) (view_provider_at app token e) (itself_at token e) (view_finds ps e i) (itself_finds ps e)

    -- the entries have their paths among some
    abbrev Along : List Trail → List Entry → Type 0
    Along ps es = (x : Trail) → In x (trails es) → In x ps

    entries_find : (ps : List Trail) (es : List Entry) → Along ps es → Finds (IsAt ps) (at_entries app token es)
    entries_find ps [] h = finds_none (IsAt ps)
    entries_find ps (e ∷ es) h = finds_or (IsAt ps) (at_entry app token e) (at_entries app token es) (entry_finds ps e (h e.path (inl refl))) (entries_find ps es (λ x i. h x (inr i)))

    up_finds : (ps : List Trail) (es : List Entry) → Along ps es → Finds (IsAt ps) (up_to_host app token es)
    up_finds ps [] h = finds_none (IsAt ps)
    up_finds ps (e ∷ es) h =
        finds_if (IsAt ps) e.inside (at_host_end app token e) (option_or (at_entry app token e) (up_to_host app token es)) (host_end_finds ps e (h e.path (inl refl)))
        (finds_or (IsAt ps) (at_entry app token e) (up_to_host app token es) (entry_finds ps e (h e.path (inl refl))) (up_finds ps es (λ x i. h x (inr i))))

    host_finds : (ps : List Trail) (skip : Bool) (es : List Entry) → Along ps es → Finds (IsAt ps) (host_search app token skip es)
    host_finds ps skip [] h = finds_none (IsAt ps)
    host_finds ps true (e ∷ es) h = up_finds ps es (λ x i. h x (inr i))
    host_finds ps false (e ∷ es) h = finds_or (IsAt ps) (at_entry app token e) (up_to_host app token es) (entry_finds ps e (h e.path (inl refl))) (up_finds ps es (λ x i. h x (inr i)))

    environment_finds : (ps : List Trail) (name : Text) → Finds (IsAt ps) (at_environment app token name)
    environment_finds ps name =
        let at = site.Env (environment_number app name) (token_number app token) in
        let here : IsAt ps at = inr (environment_number app name, token_number app token, environment-le name, token-le token, refl) in
        finds_or (IsAt ps) (found_at (last_for token (environment_providers (environment app name))) at)
        (if bytes_eq name root && is_root_service (service app token) then Some (Provided (provider.Plain token) at) else None)
        (finds_at (IsAt ps) (last_for token (environment_providers (environment app name))) at here)
        (finds_if (IsAt ps) (bytes_eq name root && is_root_service (service app token)) (Some (Provided (provider.Plain token) at)) None
        (λ p s e. let same : at ≡ s = cc in subst (IsAt ps) same here) (finds_none (IsAt ps)))

    environments_find : (ps : List Trail) (names : List Text) → Finds (IsAt ps) (at_environments app token names)
    environments_find ps [] = finds_none (IsAt ps)
    environments_find ps (name ∷ names) = finds_or (IsAt ps) (at_environment app token name) (at_environments app token names) (environment_finds ps name) (environments_find ps names)

    dropped : (ps : List Trail) (skip : Bool) (es : List Entry) → Along ps es → Along ps (if skip then drop 1 es else es)
    dropped ps true [] h x i = absurd i
    dropped ps true (e ∷ es) h x i = h x (inr i)
    dropped ps false es h x i = h x i

    taken : (ps : List Trail) (es : List Entry) → Along ps es → Along ps (take 1 es)
    taken ps [] h x i = absurd i
    taken ps (e ∷ es) h x (inl d) = h x (inl d)
    taken ps (e ∷ es) h x (inr i) = absurd i

    -- what is found on a route is at its entries, or in an environment
    fit_finds : (flags : List Flag) (r : Route) (ps : List Trail) → Along ps r.entries → Finds (IsAt ps) (first_fit app token flags r)
    unfolding first_fit
    fit_finds flags r ps h =
        let skip = has_flag flag.Skip flags in
        let rest = whole_search app token skip r in
        finds_if (IsAt ps) (has_flag flag.Own flags) (at_entries app token (take 1 r.entries)) (if has_flag flag.Host flags then host_search app token skip r.entries else rest)
        (entries_find ps (take 1 r.entries) (taken ps r.entries h))
        (finds_if (IsAt ps) (has_flag flag.Host flags) (host_search app token skip r.entries) rest (host_finds ps skip r.entries h)
        (finds_or (IsAt ps) (at_entries app token (if skip then drop 1 r.entries else r.entries)) (at_environments app token (if skip && r.from_environment then drop 1 r.environments else r.environments))
        (entries_find ps (if skip then drop 1 r.entries else r.entries) (dropped ps skip r.entries h)) (environments_find ps (if skip && r.from_environment then drop 1 r.environments else r.environments))))

  -- ---- a search from a site that was found goes along the same entries

  seen_trails : (v : Bool) (es : List Entry) → trails (seen_from v es) ≡ trails es
  seen_trails v [] = refl
  seen_trails v (e ∷ es) = refl

  -- the way of each instance goes along the same paths
  abbrev IsWay : List Trail → Type 0
  IsWay ps = (p : Trail) → In p ps → (x : Trail) → In x (trails (way app p)) → In x ps

  from_found : (ps : List Trail) → IsWay ps → (s : Site) → IsAt ps s → (x : Trail) → In x (trails (route app (Some s)).entries) → In x ps
  from_found ps closed s (inl h) x i = closed h.0 h.1 x (of_way (subst (λ y. In x (trails (route app (Some y)).entries)) h.5 i))
    where
      of_way : In x (trails (seen_from h.2 (way app (reverse (reverse h.0))))) → In x (trails (way app h.0))
      of_way j = subst (λ q. In x (trails (way app q))) (reverse-reverse h.0) (subst (In x) (seen_trails h.2 (way app (reverse (reverse h.0)))) j)
  from_found ps closed s (inr h) x i = absurd (subst (λ y. In x (trails (route app (Some y)).entries)) h.4 i)

  -- a route goes along the way of one instance, if along any
  route_way : (from : Option Site) → IsWay (trails (route app from).entries)
  route_way None p i x j = absurd i
  route_way (Some (site.Component q)) p i x j = way-Closed app (reverse q) p i x j
  route_way (Some (site.Service q v t)) p i x j =
      let same = seen_trails v (way app (reverse q)) in subst (In x) (sym same) (way-Closed app (reverse q) p (subst (In p) same i) x j)
  route_way (Some (site.Env e t)) p i x j = absurd i
  route_way (Some (site.Element n)) p i x j = absurd i

  -- Where more searches may nest than there are sites that aren't being made, how many doesn't matter.
  enough : (ps : List Trail) → IsWay ps → (m n : ℕ) (making : List Site) (from : Option Site) → ((x : Trail) → In x (trails (route app from).entries) → In x ps)
      → free making (sites_of ps) < m → free making (sites_of ps) < n → (token : Text) (flags : List Flag) → search_within app m making from token flags ≡ search_within app n making from token flags
  enough ps closed zero n making from along l k token flags = absurd (omega (arith, l))
  enough ps closed (suc m) zero making from along l k token flags = absurd (omega (arith, k))
  enough ps closed (suc m) (suc n) making from along l k token flags =
      give_alike app (search_within app m) (search_within app n) token making flags (first_fit app token flags (route app from)) (λ p at e d t fs.
      let here = fit_finds token flags (route app from) ps along p at e in
      let less = free-less at making (sites_of ps) (IsAt-In ps at here) d in
      enough ps closed m n (at ∷ making) (Some at) (from_found ps closed at here) (omega (arith, l, less)) (omega (arith, k, less)) t fs)

  -- there are fewer sites on a route than its searches may nest
  few_sites : (from : Option Site) (making : List Site) → free making (sites_of (trails (route app from).entries)) < reach app (route app from)
  few_sites from making =
      let r = route app from in
      let t : ℕ = suc (length (tokens app)) in
      let n : ℕ = length r.entries in
      let e : ℕ = suc (length (environments app)) in
      let services : length (flat_map sites_at (trails r.entries)) ≡ n * (2 * t) = length-flat sites_at (2 * t) length-sites_at (trails r.entries) ∙ ap (λ k. k * (2 * t)) (length-map r.entries (λ (x : Entry). x.path)) in
      let others : length (flat_map sites_in (up_to (length (environments app)))) ≡ e * t = length-flat sites_in t length-sites_in (up_to (length (environments app))) ∙ ap (λ k. k * t) (length-up_to (length (environments app))) in
      let whole : length (sites_of (trails r.entries)) ≡ n * (2 * t) + e * t = length-append (flat_map sites_at (trails r.entries)) (flat_map sites_in (up_to (length (environments app)))) ∙ (λ i. services i + others i) in
      let sum : (2 * n + e) * t ≡ n * (2 * t) + e * t = add-mul (2 * n) e t ∙ ap (λ k. k + e * t) (twice n t) in
      omega (arith, free-le making (sites_of (trails r.entries)), whole, sum)
    where
      twice : (n t : ℕ) → 2 * n * t ≡ n * (2 * t)
      twice n t = ap (λ k. k * t) (mul_comm 2 n) ∙ mul_assoc n 2 t

  -- A search is one step over further searches.
  pub search-Goes-on : (making : List Site) (from : Option Site) (token : Text) (flags : List Flag)
      → search app making from token flags ≡ give app (search app) token flags making (first_fit app token flags (route app from))
  unfolding search
  search-Goes-on making from token flags =
      let ps = trails (route app from).entries in
      let r : ℕ = (2 * length (route app from).entries + suc (length (environments app))) * suc (length (tokens app)) in
      give_alike app (search_within app r) (search app) token making flags (first_fit app token flags (route app from)) (λ p at e d t fs.
      let here = fit_finds token flags (route app from) ps (λ x i. i) p at e in
      let less = free-less at making (sites_of ps) (IsAt-In ps at here) d in
      let few : free making (sites_of ps) < suc r = few_sites from making in
      let n : ℕ = r + reach app (route app (Some at)) in
      let along = from_found ps (route_way from) at here in
      let qs = trails (route app (Some at)).entries in
      enough ps (route_way from) r n (at ∷ making) (Some at) along (omega (arith, less, few)) (omega (arith, less, few)) t fs
      ∙ enough qs (route_way (Some at)) n (reach app (route app (Some at))) (at ∷ making) (Some at) (λ x i. i) (omega (arith, few_sites (Some at) (at ∷ making))) (few_sites (Some at) (at ∷ making)) t fs)
