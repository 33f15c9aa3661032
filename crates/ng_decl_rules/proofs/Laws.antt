-- Laws of the breaks of lists of parts.
use Rattle.std.proofs.Common.{◌≡◌, sym, ◌∙◌, ap, ◌+◌, ◌==◌, false, not, List, [], ◌∷◌, ◌++◌, length, bytes_eq, Option}
use Rattle.std.specs.List.{flat_map}
use Rattle.std.specs.HashMap.{HashMap, get}
use Rattle.ng_ast.specs.declared.Decl.{Decl}
use Rattle.ng_ast.specs.declared.refusals.Refusal.{Refusal}
use Rattle.ng_ast.specs.declared.refusals.Rule.TheVariants as rule
use Rattle.ng_parts.specs.declared.declared.Declared.{Declared}
use Rattle.ng_parts.specs.declared.site.Site.{Site}
use Rattle.ng_parts.specs.Sites.{Name}
use Rattle.ng_parts.specs.Entries.{IsIndex, named}
use Rattle.ng_breaks.specs.Least.{broken, least_of}
use Rattle.ng_breaks.specs.LeastLaws.{least_of-append}
use Rattle.ng_decl_rules.specs.MemberRules.{Names}
use Rattle.ng_decl_rules.specs.DeclRules.{root_breaks, starts_at}

-- a map of the declared names, all at once
pub names_of : {S : Type 0} (t : HashMap Name Declared S) (ds : List Decl) → IsIndex t ds → get bytes_eq t ≡ named ds
names_of t ds index = λ i n. index n i

-- the breaks of the `bootstrap`s, of which there are some
pub root_some : (ds : List Decl) (boots : List Site) (names : Names) → names ≡ named ds → (length boots == 0) ≡ false
    → flat_map (λ s. broken (not (starts_at ds (names s.name))) rule.N01 s.place s.name) boots ≡ root_breaks ds boots
root_some ds [] names e h = absurd (cc)
root_some ds (b ∷ bs) names e h = ap (λ (n : Names). flat_map (λ s. broken (not (starts_at ds (n s.name))) rule.N01 s.place s.name) (b ∷ bs)) e

-- four lists of breaks, one after another
pub least_four : (xs ys zs ws : List Refusal) (b0 b1 b2 b3 b4 : Option Refusal) → b1 ≡ least_of b0 xs → b2 ≡ least_of b1 ys → b3 ≡ least_of b2 zs → b4 ≡ least_of b3 ws
    → b4 ≡ least_of b0 (((xs ++ ys) ++ zs) ++ ws)
least_four xs ys zs ws b0 b1 b2 b3 b4 e f g h =
    h ∙ ap (λ b. least_of b ws) (g ∙ ap (λ b. least_of b zs) (f ∙ ap (λ b. least_of b ys) e ∙ sym (least_of-append b0 xs ys)) ∙ sym (least_of-append b0 (xs ++ ys) zs)) ∙ sym (least_of-append b0 ((xs ++ ys) ++ zs) ws)
