-- A sound application without a form that isn't built.
use Rattle.std.proofs.Common.{◌≡◌, ◌≤◌, true, false, not, List, [], ◌∷◌, ◌++◌, length, Contains, None, ◌⊎◌, inl, inr, refl, sym, subst, arith}
use Rattle.std.specs.List.{flat_map, list_all}
use Rattle.std.proofs.lemmas.Bool.{or_parts, not-false}
use Rattle.ng_ast.specs.declared.App.{App}
use Rattle.ng_ast.specs.declared.Component.{Component}
use Rattle.ng_ast.specs.declared.Member.{Member}
use Rattle.ng_ast.specs.declared.Decl.{Decl}
use Rattle.ng_ast.specs.declared.Decl.TheVariants as decl
use Rattle.ng_ast.specs.Nodes.{all_nodes}
use Rattle.ng_parts.specs.Sites.{repeats}
use Rattle.ng_parts.specs.Entries.{named}
use Rattle.ng_decl_rules.specs.MemberRules.{Names, member_site, members_breaks}
use Rattle.ng_decl_rules.specs.DeclRules.{boots, each_breaks, declaration_breaks}
use Rattle.ng_semantics.specs.First.{is_whole, names_of, IsFirst, IsAlone}
use Rattle.ng_unbuilt.specs.Least.{least}
use Rattle.ng_unbuilt.specs.LeastLaws.{least_none}
use Rattle.ng_unbuilt.specs.Forms.{member_forms, template_forms, is_root, component_forms, forms}
use Rattle.ng_rules.specs.Breaks.{IsSound}
use Rattle.ng_sizes.specs.Sizes.{IsShallow}
use Rattle.ng_ready.specs.Sized.{AreSized}
use Rattle.ng_ready.proofs.Empty.{left_empty, right_empty, map_empty, each_empty, unwanted}
use Rattle.ng_sizes.proofs.Order.{order_is}
use Rattle.ng_ready.proofs.Members.{all_whole, members_differ, root_tag}
use Rattle.ng_ready.proofs.Nodes.{first_nodes}
use Rattle.ng_ready.proofs.Declarations.{Starts, one_boot, Sole, sole}

-- ---- what is not broken

unbroken : (app : App) → IsSound app → declaration_breaks app.decls ≡ []
unbroken app sound = left_empty _ _ (left_empty _ _ (sym sound.all))

boot : (ds : List Decl) → declaration_breaks ds ≡ [] → Starts ds (boots ds)
boot ds e = one_boot ds (boots ds) (right_empty _ _ (left_empty _ _ (left_empty _ _ e))) (right_empty _ _ (left_empty _ _ e))

members_unbroken : (ds : List Decl) (c : Component) → Contains ds (decl.Component c) → declaration_breaks ds ≡ [] → members_breaks (named ds) c.members ≡ []
members_unbroken ds c there e = left_empty _ _ (each_empty (each_breaks (named ds)) ds (decl.Component c) there (right_empty _ _ e))

unrepeated : (names : Names) (ms : List Member) → members_breaks names ms ≡ [] → repeats (flat_map member_site ms) ≡ []
unrepeated names ms e = map_empty _ _ (left_empty _ _ (left_empty _ _ e))

-- ---- the component

first_component : (c : Component) → component_forms c ≡ [] → repeats (flat_map member_site c.members) ≡ [] → IsShallow 32 c.template.nodes → length (all_nodes c.template.nodes) ≤ 4096 → IsFirst c
first_component c e names shallow few =
    let plain : (c.onpush ≡ false) × (not (is_root c.selector.list) ≡ false) = or_parts _ _ (unwanted _ _ (left_empty _ _ e)) in
    let inner : flat_map member_forms c.members ++ template_forms (names_of c.members) c.template.nodes ≡ [] = right_empty _ _ e in
    let whole : list_all (λ m. is_whole m.kind) c.members ≡ true = all_whole c.members (left_empty _ _ inner) in
    record {
      checked_always = plain.0;
      selector = root_tag c.selector.list (not-false _ plain.1);
      fields = whole;
      differ = members_differ c.members whole names;
      template = first_nodes (names_of c.members) 32 c.template.nodes shallow (right_empty _ _ inner);
      few = subst (λ ns. length ns ≤ 4096) (sym (order_is 32 c.template.nodes shallow)) few;
    }

-- ---- the application

declared : (ds : List Decl) (s : Sole ds) → Contains ds (decl.Component s.component)
declared ds s = at s.either
  where
    at : (ds ≡ decl.Component s.component ∷ decl.Bootstrap s.place s.component.name None ∷ []) ⊎ (ds ≡ decl.Bootstrap s.place s.component.name None ∷ decl.Component s.component ∷ [])
        → Contains ds (decl.Component s.component)
    at (inl e) = subst (λ us. Contains us (decl.Component s.component)) (sym e) (0, omega arith, refl)
    at (inr e) = subst (λ us. Contains us (decl.Component s.component)) (sym e) (1, omega arith, refl)

pub first : (app : App) → IsSound app → least (forms app) ≡ None → AreSized app → (c : Component) × IsAlone app c × IsFirst c
first app sound none sized =
    let e : declaration_breaks app.decls ≡ [] = unbroken app sound in
    let s : Sole app.decls = sole app.decls (least_none (forms app) none) (boot app.decls e) in
    let there : Contains app.decls (decl.Component s.component) = declared app.decls s in
    let size = sized s.component there in (
      s.component,
      (s.place, s.either),
      first_component s.component s.built (unrepeated (named app.decls) s.component.members (members_unbroken app.decls s.component there e)) size.0 size.1,
    )
