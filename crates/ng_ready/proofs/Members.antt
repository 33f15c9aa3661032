-- Members without a form that isn't built, and a selector without one.
use Rattle.std.proofs.Common.{◌≡◌, true, false, List, [], ◌∷◌, ◌++◌, Option, Some, None, IsTrue, refl, ◌∙◌, ap, subst}
use Rattle.std.specs.List.{flat_map, list_all}
use Rattle.std.proofs.lemmas.Bool.{and_from, and_parts, not-false}
use Rattle.ng_ast.specs.declared.MemberKind.{MemberKind}
use Rattle.ng_ast.specs.declared.MemberKind.TheVariants as kind
use Rattle.ng_ast.specs.declared.Member.{Member}
use Rattle.ng_ast.specs.declared.SelPart.{SelPart}
use Rattle.ng_ast.specs.declared.One.{One}
use Rattle.ng_scopes.specs.declared.names.Sort.TheVariants as sort
use Rattle.ng_scopes.specs.Declarations.{sort_of}
use Rattle.ng_parts.specs.Sites.{repeats}
use Rattle.ng_decl_rules.specs.MemberRules.{named_site, member_site}
use Rattle.ng_semantics.specs.Text.{Text}
use Rattle.ng_semantics.specs.First.{is_whole, is_root_tag, names_of, all_differ}
use Rattle.ng_unbuilt.specs.Forms.{member_forms, is_root}
use Rattle.ng_ready.proofs.Empty.{left_empty, right_empty, unwanted}
use Rattle.ng_ready.proofs.Names.{site_names, differ}

pub all_whole : (ms : List Member) → flat_map member_forms ms ≡ [] → list_all (λ m. is_whole m.kind) ms ≡ true
all_whole [] e = refl
all_whole (m ∷ ms) e =
    and_from _ _
    (not-false _ (unwanted _ _ (left_empty _ _ e)))
    (all_whole ms (right_empty _ _ e))

whole_field : (k : MemberKind) → is_whole k ≡ true → sort_of k ≡ Some sort.Field
whole_field (kind.Field v) e = refl
whole_field _ e = absurd (cc)

-- whole numbers are members with names
names_are : (ms : List Member) → list_all (λ m. is_whole m.kind) ms ≡ true → site_names (flat_map member_site ms) ≡ names_of ms
names_are [] e = refl
names_are (m ∷ ms) e =
    let parts = and_parts _ _ e in
    ap (λ s. site_names (named_site m.place m.name s ++ flat_map member_site ms)) (whole_field m.kind parts.0) ∙ ap (λ ns. m.name ∷ ns) (names_are ms parts.1)

pub members_differ : (ms : List Member) → list_all (λ m. is_whole m.kind) ms ≡ true → repeats (flat_map member_site ms) ≡ [] → all_differ (names_of ms) ≡ true
members_differ ms whole e = subst (λ ns. all_differ ns ≡ true) (names_are ms whole) (differ (flat_map member_site ms) e)

-- the selector of a root
abbrev IsOneTag : List One → Type 0
IsOneTag ones = (tag : Text) × (ones ≡ record { tag = Some tag; parts = [] } ∷ []) × IsTrue (is_root_tag tag)

one_tag : (tag : Option Text) (parts : List SelPart) → is_root (record { tag = tag; parts = parts } ∷ []) ≡ true → IsOneTag (record { tag = tag; parts = parts } ∷ [])
one_tag None parts e = absurd (cc)
one_tag (Some tag) [] e = (tag, refl, (and_parts _ _ e).0)
one_tag (Some tag) (p ∷ ps) e = let k : false ≡ true = (and_parts (is_root_tag tag) false e).1 in absurd (cc)

pub root_tag : (ones : List One) → is_root ones ≡ true → (tag : Text) × (ones ≡ record { tag = Some tag; parts = [] } ∷ []) × IsTrue (is_root_tag tag)
root_tag [] e = absurd (cc)
root_tag (o ∷ []) e = one_tag o.tag o.parts e
root_tag (o ∷ p ∷ os) e = absurd (cc)
