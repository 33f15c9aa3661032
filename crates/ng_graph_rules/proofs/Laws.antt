-- Laws of the breaks at nodes that reach themselves.
use Rattle.std.proofs.Common.{◌≡◌, refl, sym, ◌∙◌, ap, subst, ℕ, ◌+◌, ◌<◌, List, [], ◌∷◌, ◌++◌, append-nil, append_assoc, length, take, get_or, bytes_eq, Option}
use Rattle.std.proofs.lemmas.List.{take_more}
use Rattle.std.specs.HashMap.{HashMap, get}
use Rattle.std.specs.declared.hash.FoldHasher.{FoldHasher}
use Rattle.std.specs.declared.hash.BuildHasherDefault.{BuildHasherDefault}
use Rattle.ng_graph.specs.Walk.{Graph}
use Rattle.ng_ast.specs.declared.Decl.{Decl}
use Rattle.ng_ast.specs.declared.Member.{Member}
use Rattle.ng_ast.specs.declared.refusals.Refusal.{Refusal}
use Rattle.ng_ast.specs.declared.refusals.Rule.{Rule}
use Rattle.ng_ast.specs.declared.refusals.Rule.TheVariants as rule
use Rattle.ng_scopes.specs.declared.names.Known.{Known}
use Rattle.ng_scopes.specs.declared.scope.Entry.{Entry}
use Rattle.ng_scopes.specs.Names.{Name, nothing, first_some, seen_entry, inside, IsTable}
use Rattle.ng_scopes.specs.Scope.{kept_in}
use Rattle.ng_scopes.specs.Declarations.{member_names, member_scope}
use Rattle.ng_parts.specs.declared.declared.Declared.{Declared}
use Rattle.ng_parts.specs.declared.site.Site.{Site}
use Rattle.ng_parts.specs.Entries.{IsIndex, named}
use Rattle.ng_breaks.specs.Least.{least_of}
use Rattle.ng_breaks.specs.LeastLaws.{least_of-append}
use Rattle.ng_graph_rules.specs.CycleRules.{AreGetterCycles, AreOwnCycles, TakesCycles, TakesGetterCycles, TakesCycleBreaks, getter_graph, environment_graph, pipe_graph, decl_sites, member_sites, members_of}

-- the scope of a declaration's members, by their table
pub scope_of : (t : HashMap Name Entry (BuildHasherDefault FoldHasher)) (names : List Known) (ms : List Member) → IsTable t names → names ≡ member_names ms → kept_in t nothing 0 ≡ member_scope ms
scope_of t names ms table same = (λ i n. first_some (seen_entry 0 (table n i)) (nothing n)) ∙ ap (λ ks. inside ks 0 nothing) same

-- a map of the declared names, all at once
pub names_of : {S : Type 0} (t : HashMap Name Declared S) (ds : List Decl) → IsIndex t ds → get bytes_eq t ≡ named ds
names_of t ds index = λ i n. index n i

-- the same graph and the same sites
pub taken_at : (r : Rule) (g h : Graph) (ss ts : List Site) (old new : Option Refusal) → g ≡ h → ss ≡ ts → TakesCycles r g ss old new → TakesCycles r h ts old new
taken_at r g h ss ts old new e f taken = subst (λ x. TakesCycles r x ts old new) e (subst (λ x. TakesCycles r g x old new) f taken)

-- the getters of one declaration more
getters_more : (ds : List Decl) (d : Decl) (bs cs : List Refusal) → AreGetterCycles ds bs → AreOwnCycles (members_of d) cs → AreGetterCycles (ds ++ d ∷ []) (bs ++ cs)
getters_more [] d bs cs e own = (cs, [], own, refl, ap (λ z. z ++ cs) e ∙ sym (append-nil cs))
getters_more (x ∷ ds) d bs cs (own, others, are, rest, e) more = (own, others ++ cs, are, getters_more ds d others cs rest more, ap (λ z. z ++ cs) e ∙ append_assoc own others cs)

pub takes_more : (ds : List Decl) (d : Decl) (old mid new : Option Refusal) → TakesGetterCycles ds old mid → TakesCycles rule.N10 (getter_graph (member_scope (members_of d)) (members_of d)) (member_sites (members_of d)) mid new → TakesGetterCycles (ds ++ d ∷ []) old new
takes_more ds d old mid new (bs, are, e) (cs, own, f) = (bs ++ cs, getters_more ds d bs cs are own, f ∙ ap (λ b. least_of b cs) e ∙ sym (least_of-append old bs cs))

-- the getters of the declaration at a position more
pub takes_next : (ds : List Decl) (i : ℕ) (d : Decl) (ms : List Member) (old mid new : Option Refusal) → i < length ds → d ≡ get_or ds i d → ms ≡ members_of d → TakesGetterCycles (take i ds) old mid
    → TakesCycles rule.N10 (getter_graph (member_scope ms) ms) (member_sites ms) mid new → TakesGetterCycles (take (i + 1) ds) old new
takes_next ds i d ms old mid new small is same so_far own = subst (λ xs. TakesGetterCycles xs old new) (ap (λ y. take i ds ++ y ∷ []) is ∙ sym (take_more ds i d small))
    (takes_more (take i ds) d old mid new so_far (subst (λ xs. TakesCycles rule.N10 (getter_graph (member_scope xs) xs) (member_sites xs) mid new) same own))

-- all of them
pub takes_all : (ds : List Decl) (best0 best1 best2 best3 : Option Refusal) → TakesCycles rule.N09 (pipe_graph (named ds) ds) (decl_sites ds) best0 best1 → TakesGetterCycles ds best1 best2
    → TakesCycles rule.N23 (environment_graph (named ds) ds) (decl_sites ds) best2 best3 → TakesCycleBreaks ds best0 best3
takes_all ds best0 best1 best2 best3 (ps, pipes, e) (gs, getters, f) (es, environments, h) = (
  (ps ++ gs) ++ es,
  record {
    pipes = ps;
    getters = gs;
    environments = es;
    are_pipes = pipes;
    are_getters = getters;
    are_environments = environments;
    all = refl;
  },
  h ∙ ap (λ b. least_of b es) (f ∙ ap (λ b. least_of b gs) e ∙ sym (least_of-append best0 ps gs)) ∙ sym (least_of-append best0 (ps ++ gs) es),
)
