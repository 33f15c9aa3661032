-- The breaks of an application and the least of them.
use Rattle.std.proofs.Common.{◌≡◌, refl, sym, ◌∙◌, ap, subst, true, false, List, [], ◌∷◌, ◌++◌, Option, Some, None}
use Rattle.std.specs.List.{AllByRecursion}
use Rattle.ng_ast.specs.declared.App.{App}
use Rattle.ng_ast.specs.declared.Decl.{Decl}
use Rattle.ng_ast.specs.declared.refusals.Refusal.{Refusal}
use Rattle.ng_breaks.specs.Least.{is_before, least_of, least}
use Rattle.ng_breaks.specs.LeastLaws.{least_of-append, least_none}
use Rattle.ng_decl_rules.specs.DeclRules.{declaration_breaks}
use Rattle.ng_graph_rules.specs.CycleRules.{TakesCycleBreaks}
use Rattle.ng_graph_rules.proofs.Unique.{same_breaks}
use Rattle.ng_template_rules.specs.TemplateRules.{templates_breaks}
use Rattle.ng_rules.specs.Breaks.{AreBreaks, IsSound, IsLeastBreak}
use Rattle.ng_rules.specs.Found.{IsFound}
use Rattle.ng_rules.proofs.LeastIs.{least_is}

-- three groups of rules, one after another
pub found_all : (app : App) (declared cyclic all : Option Refusal) → declared ≡ least (declaration_breaks app.decls) → TakesCycleBreaks app.decls declared cyclic
    → all ≡ least_of cyclic (templates_breaks app.decls) → IsFound app all
found_all app declared cyclic all e (cycles, are, f) h = record {
  breaks = (declaration_breaks app.decls ++ cycles) ++ templates_breaks app.decls;
  are = record { cycles = cycles; are_cycles = are; all = refl };
  is = h ∙ ap (λ b. least_of b (templates_breaks app.decls)) (f ∙ ap (λ b. least_of b cycles) e ∙ sym (least_of-append None (declaration_breaks app.decls) cycles))
      ∙ sym (least_of-append None (declaration_breaks app.decls ++ cycles) (templates_breaks app.decls));
}

-- the same at the declarations of the application
pub found_at : (app : App) (ds : List Decl) (declared cyclic all : Option Refusal) → ds ≡ app.decls → declared ≡ least (declaration_breaks ds) → TakesCycleBreaks ds declared cyclic
    → all ≡ least_of cyclic (templates_breaks ds) → IsFound app all
found_at app ds declared cyclic all same e f g = found_all app declared cyclic all
    (subst (λ x. declared ≡ least (declaration_breaks x)) same e) (subst (λ x. TakesCycleBreaks x declared cyclic) same f) (subst (λ x. all ≡ least_of cyclic (templates_breaks x)) same g)

-- the least that was found
pub found_least : (app : App) (r : Refusal) → IsFound app (Some r) → IsLeastBreak app r
found_least app r f =
    let split = least_is r f.breaks (sym f.is) in
    record {
      before = split.before;
      behind = split.behind;
      broken = subst (AreBreaks app) split.whole f.are;
      first = split.first;
      least = split.least;
    }

-- where none was found
pub found_none : (app : App) → IsFound app None → IsSound app
found_none app f = subst (AreBreaks app) (least_none f.breaks (sym f.is)) f.are

pub one_list : (app : App) (a b : List Refusal) → AreBreaks app a → AreBreaks app b → a ≡ b
one_list app a b h j = h.all ∙ ap (λ x. (declaration_breaks app.decls ++ x) ++ templates_breaks app.decls) (same_breaks app.decls h.cycles j.cycles h.are_cycles j.are_cycles) ∙ sym j.all

all_at : (P : Refusal → Type 0) (before behind : List Refusal) (r : Refusal) → AllByRecursion P (before ++ r ∷ behind) → P r
all_at P [] behind r all = all.0
all_at P (b ∷ before) behind r all = all_at P before behind r all.1

-- a list has one first least
same_least : (r s : Refusal) (xs xs' ys ys' : List Refusal) → xs ++ r ∷ ys ≡ xs' ++ s ∷ ys' → AllByRecursion (λ b. is_before r b ≡ true) xs → AllByRecursion (λ b. is_before b r ≡ false) ys
    → AllByRecursion (λ b. is_before s b ≡ true) xs' → AllByRecursion (λ b. is_before b s ≡ false) ys' → r ≡ s
same_least r s [] [] ys ys' e first least first' least' = cc
same_least r s [] (c ∷ cs) ys ys' e first least (p, q) least' =
    let same : r ≡ c = cc in
    let rest : ys ≡ cs ++ s ∷ ys' = cc in
    let no_other : is_before s r ≡ false = all_at (λ b. is_before b r ≡ false) cs ys' s (subst (AllByRecursion (λ b. is_before b r ≡ false)) rest least) in
    let other : is_before s r ≡ true = ap (is_before s) same ∙ p in
    absurd (let k : true ≡ false = sym other ∙ no_other in cc)
same_least r s (c ∷ cs) [] ys ys' e (p, q) least first' least' =
    let same : c ≡ s = cc in
    let rest : cs ++ r ∷ ys ≡ ys' = cc in
    let no_other : is_before r s ≡ false = all_at (λ b. is_before b s ≡ false) cs ys r (subst (AllByRecursion (λ b. is_before b s ≡ false)) (sym rest) least') in
    let other : is_before r s ≡ true = ap (is_before r) (sym same) ∙ p in
    absurd (let k : true ≡ false = sym other ∙ no_other in cc)
same_least r s (c ∷ cs) (d ∷ ds) ys ys' e (p, q) least (p', q') least' =
    let rest : cs ++ r ∷ ys ≡ ds ++ s ∷ ys' = cc in
    same_least r s cs ds ys ys' rest q least q' least'

pub one_least : (app : App) (r s : Refusal) → IsLeastBreak app r → IsLeastBreak app s → r ≡ s
one_least app r s h j = same_least r s h.before j.before h.behind j.behind (one_list app (h.before ++ r ∷ h.behind) (j.before ++ s ∷ j.behind) h.broken j.broken) h.first h.least j.first j.least

not_empty : (before behind : List Refusal) (r : Refusal) → [] ≡ before ++ r ∷ behind → ⊥
not_empty [] behind r e = cc
not_empty (b ∷ before) behind r e = cc

pub no_least : (app : App) (r : Refusal) → IsSound app → IsLeastBreak app r → ⊥
no_least app r sound h = not_empty h.before h.behind r (one_list app [] (h.before ++ r ∷ h.behind) sound h.broken)
