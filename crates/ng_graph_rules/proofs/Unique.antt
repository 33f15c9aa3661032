-- The breaks of the rules on cycles are determined by the declarations.
use Rattle.std.proofs.Common.{◌≡◌, refl, sym, ◌∙◌, ap, ℕ, suc, ◌<◌, Bool, true, false, List, [], ◌∷◌, ◌++◌, length, get_or, IsTrue, ◌↔◌, arith}
use Rattle.ng_graph.specs.Walk.{Graph, IsOnCycle}
use Rattle.ng_ast.specs.declared.Decl.{Decl}
use Rattle.ng_ast.specs.declared.refusals.Refusal.{Refusal}
use Rattle.ng_ast.specs.declared.refusals.Rule.{Rule}
use Rattle.ng_ast.specs.declared.refusals.Rule.TheVariants as rule
use Rattle.ng_scopes.specs.Declarations.{member_scope}
use Rattle.ng_parts.specs.declared.site.Site.{Site}
use Rattle.ng_parts.specs.Entries.{named}
use Rattle.ng_graph_rules.specs.CycleRules.{AreCycles, AreGetterCycles, AreCycleBreaks, decl_sites, environment_graph, getter_graph, member_sites, members_of, pipe_graph, told_from}

same_answer : (P : Type 0) (a b : Bool) → IsTrue a ↔ P → IsTrue b ↔ P → a ≡ b
same_answer P true true h j = refl
same_answer P false false h j = refl
same_answer P true false h j = sym (j.1 (h.0 refl))
same_answer P false true h j = h.1 (j.0 refl)

same_answers : (P : ℕ → Type 0) (xs ys : List Bool) → length xs ≡ length ys → ((k : ℕ) → k < length xs → IsTrue (get_or xs k false) ↔ P k) → ((k : ℕ) → k < length ys → IsTrue (get_or ys k false) ↔ P k) → xs ≡ ys
same_answers P [] [] e h j = refl
same_answers P [] (y ∷ ys) e h j = absurd (omega arith)
same_answers P (x ∷ xs) [] e h j = absurd (omega arith)
same_answers P (x ∷ xs) (y ∷ ys) e h j =
    ap (λ b. b ∷ xs) (same_answer (P 0) x y (h 0 (omega arith)) (j 0 (omega arith)))
    ∙ ap (λ bs. y ∷ bs) (same_answers (λ k. P (suc k)) xs ys (omega arith) (λ k small. h (suc k) (omega arith)) (λ k small. j (suc k) (omega arith)))

same_cycles : (r : Rule) (g : Graph) (ss : List Site) (a b : List Refusal) → AreCycles r g ss a → AreCycles r g ss b → a ≡ b
same_cycles r g ss a b (xs, h, e) (ys, j, f) = e ∙ ap (λ bs. told_from r bs 0 ss) (same_answers (IsOnCycle g) xs ys (h.long ∙ sym j.long) h.each j.each) ∙ sym f

same_getters : (ds : List Decl) (a b : List Refusal) → AreGetterCycles ds a → AreGetterCycles ds b → a ≡ b
same_getters [] a b e f = e ∙ sym f
same_getters (d ∷ ds) a b (own, others, are, rest, e) (own', others', are', rest', f) =
    e ∙ ap (λ x. x ++ others) (same_cycles rule.N10 (getter_graph (member_scope (members_of d)) (members_of d)) (member_sites (members_of d)) own own' are are') ∙ ap (λ x. own' ++ x) (same_getters ds others others' rest rest') ∙ sym f

pub same_breaks : (ds : List Decl) (a b : List Refusal) → AreCycleBreaks ds a → AreCycleBreaks ds b → a ≡ b
same_breaks ds a b h j =
    h.all ∙ ap (λ x. (x ++ h.getters) ++ h.environments) (same_cycles rule.N09 (pipe_graph (named ds) ds) (decl_sites ds) h.pipes j.pipes h.are_pipes j.are_pipes)
    ∙ ap (λ x. (j.pipes ++ x) ++ h.environments) (same_getters ds h.getters j.getters h.are_getters j.are_getters)
    ∙ ap (λ x. (j.pipes ++ j.getters) ++ x) (same_cycles rule.N23 (environment_graph (named ds) ds) (decl_sites ds) h.environments j.environments h.are_environments j.are_environments) ∙ sym j.all
