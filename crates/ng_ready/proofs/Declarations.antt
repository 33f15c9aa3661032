-- Declarations without a form that isn't built, of which one `bootstrap` names a component.
use Rattle.std.proofs.Common.{◌≡◌, Bool, true, false, List, [], ◌∷◌, drop, Some, None, ◌⊎◌, inl, inr, bytes_eq, if◌then◌else◌, refl, ap, ap₂, subst, subst₂}
use Rattle.std.proofs.lemmas.Bool.{not-false}
use Rattle.std.proofs.lemmas.Slice.Eq.{bytes_eq-Decides}
use Rattle.ng_ast.specs.declared.Place.{Place}
use Rattle.ng_ast.specs.declared.Component.{Component}
use Rattle.ng_ast.specs.declared.Decl.{Decl}
use Rattle.ng_ast.specs.declared.Decl.TheVariants as decl
use Rattle.ng_ast.specs.declared.refusals.Rule.{Rule}
use Rattle.ng_ast.specs.declared.refusals.Rule.TheVariants as rule
use Rattle.ng_parts.specs.declared.declared.Kind.TheVariants as what
use Rattle.ng_parts.specs.declared.declared.Declared.{Declared}
use Rattle.ng_parts.specs.declared.site.Site.{Site}
use Rattle.ng_parts.specs.Sites.{Name, site}
use Rattle.ng_parts.specs.Entries.{first_some}
use Rattle.ng_breaks.specs.Least.{broken, of_rule}
use Rattle.ng_decl_rules.specs.DeclRules.{starts_at, starts, boots, root_breaks}
use Rattle.ng_unbuilt.specs.Forms.{component_forms, forms_after}
use Rattle.ng_ready.proofs.Empty.{left_empty, right_empty}

-- ---- the `bootstrap`

unbroken : (t : Bool) (r : Rule) (p : Place) (n : Name) → broken t r p n ≡ [] → t ≡ false
unbroken true r p n e = absurd (cc)
unbroken false r p n e = refl

-- one `bootstrap`, of a component that can start
pub record Starts (ds : List Decl) (bs : List Site) : Type 0 where
  pub boot : Site
  pub alone : bs ≡ boot ∷ []
  pub there : starts ds boot.name ≡ true

pub one_boot : (ds : List Decl) (bs : List Site) → root_breaks ds bs ≡ [] → of_rule rule.N02 (drop 1 bs) ≡ [] → Starts ds bs
one_boot ds [] e f = absurd (cc)
one_boot ds (b ∷ []) e f = record {
  boot = b;
  alone = refl;
  there = not-false _ (unbroken _ _ _ _ (left_empty _ _ e));
}
one_boot ds (b ∷ c ∷ bs) e f = absurd (cc)

-- what the one declared name is, where it starts
named_alone : (ds : List Decl) (d : Declared) (n m : Name) (t : Bool) → bytes_eq n m ≡ t → starts_at ds (first_some (if t then Some d else None) None) ≡ true → n ≡ m
named_alone ds d n m true e s = (bytes_eq-Decides n m).0 e
named_alone ds d n m false e s = absurd (cc)

-- ---- all declarations

-- A component without forms, and its `bootstrap`.
pub record Sole (ds : List Decl) : Type 0 where
  pub component : Component
  pub place : Place
  pub either : (ds ≡ decl.Component component ∷ decl.Bootstrap place component.name None ∷ []) ⊎ (ds ≡ decl.Bootstrap place component.name None ∷ decl.Component component ∷ [])
  pub built : component_forms component ≡ []

-- behind the component, with no `bootstrap` more
none_more : (ds : List Decl) → forms_after true ds ≡ [] → boots ds ≡ [] → ds ≡ []
none_more [] f e = refl
none_more (decl.Component c ∷ ds) f e = absurd (cc)
none_more (decl.Service s ∷ ds) f e = absurd (cc)
none_more (decl.Pipe p ∷ ds) f e = absurd (cc)
none_more (decl.Environment v ∷ ds) f e = absurd (cc)
none_more (decl.Token p n ∷ ds) f e = absurd (cc)
none_more (decl.Bootstrap p n env ∷ ds) f e = absurd (cc)

-- the component first
behind : (c : Component) (ds : List Decl) (b : Site) → component_forms c ≡ [] → forms_after true ds ≡ [] → boots ds ≡ b ∷ [] → starts (decl.Component c ∷ ds) b.name ≡ true → Sole (decl.Component c ∷ ds)
behind c [] b g f e s = absurd (cc)
behind c (decl.Component d ∷ ds) b g f e s = absurd (cc)
behind c (decl.Service v ∷ ds) b g f e s = absurd (cc)
behind c (decl.Pipe p ∷ ds) b g f e s = absurd (cc)
behind c (decl.Environment v ∷ ds) b g f e s = absurd (cc)
behind c (decl.Token p n ∷ ds) b g f e s = absurd (cc)
behind c (decl.Bootstrap p n (Some v) ∷ ds) b g f e s = absurd (cc)
behind c (decl.Bootstrap p n None ∷ ds) b g f e s =
    let none : boots ds ≡ [] = cc in
    let same : b ≡ site p n = cc in
    let last : ds ≡ [] = none_more ds f none in
    let start : starts (decl.Component c ∷ decl.Bootstrap p n None ∷ []) n ≡ true =
    subst₂ (λ us m. starts (decl.Component c ∷ decl.Bootstrap p n None ∷ us) m ≡ true) last (ap (λ (z : Site). z.name) same) s in
    let name : n ≡ c.name =
    named_alone (decl.Component c ∷ decl.Bootstrap p n None ∷ []) (record { kind = what.Component; at = 0 }) n c.name (bytes_eq n c.name) refl start in
    record {
      component = c;
      place = p;
      either = inl (ap₂ (λ m us. decl.Component c ∷ decl.Bootstrap p m None ∷ us) name last);
      built = g;
    }

-- the `bootstrap` first
ahead : (p : Place) (n : Name) (ds : List Decl) → forms_after false ds ≡ [] → boots ds ≡ [] → starts (decl.Bootstrap p n None ∷ ds) n ≡ true → Sole (decl.Bootstrap p n None ∷ ds)
ahead p n [] f e s = absurd (cc)
ahead p n (decl.Component c ∷ ds) f e s =
    let last : ds ≡ [] = none_more ds (right_empty _ _ f) e in
    let start : starts (decl.Bootstrap p n None ∷ decl.Component c ∷ []) n ≡ true = subst (λ us. starts (decl.Bootstrap p n None ∷ decl.Component c ∷ us) n ≡ true) last s in
    let name : n ≡ c.name =
    named_alone (decl.Bootstrap p n None ∷ decl.Component c ∷ []) (record { kind = what.Component; at = 1 }) n c.name (bytes_eq n c.name) refl start in
    record {
      component = c;
      place = p;
      either = inr (ap₂ (λ m us. decl.Bootstrap p m None ∷ decl.Component c ∷ us) name last);
      built = left_empty _ _ f;
    }
ahead p n (decl.Service v ∷ ds) f e s = absurd (cc)
ahead p n (decl.Pipe q ∷ ds) f e s = absurd (cc)
ahead p n (decl.Environment v ∷ ds) f e s = absurd (cc)
ahead p n (decl.Token q m ∷ ds) f e s = absurd (cc)
ahead p n (decl.Bootstrap q m env ∷ ds) f e s = absurd (cc)

pub sole : (ds : List Decl) → forms_after false ds ≡ [] → Starts ds (boots ds) → Sole ds
sole ds f s = by ds s.boot f s.alone s.there
  where
    by : (us : List Decl) (b : Site) → forms_after false us ≡ [] → boots us ≡ b ∷ [] → starts us b.name ≡ true → Sole us
    by [] b f e t = absurd (cc)
    by (decl.Component c ∷ us) b f e t = behind c us b (left_empty _ _ f) (right_empty _ _ f) e t
    by (decl.Service v ∷ us) b f e t = absurd (cc)
    by (decl.Pipe p ∷ us) b f e t = absurd (cc)
    by (decl.Environment v ∷ us) b f e t = absurd (cc)
    by (decl.Token p n ∷ us) b f e t = absurd (cc)
    by (decl.Bootstrap p n (Some v) ∷ us) b f e t = absurd (cc)
    by (decl.Bootstrap p n None ∷ us) b f e t =
        let none : boots us ≡ [] = cc in
        let same : b ≡ site p n = cc in
        ahead p n us f none (subst (λ (z : Site). starts (decl.Bootstrap p n None ∷ us) z.name ≡ true) same t)
