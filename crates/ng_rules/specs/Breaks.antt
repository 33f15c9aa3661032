-- What an application breaks.
use Rattle.std.specs.Prelude.{◌≡◌, true, false, List, [], ◌∷◌, ◌++◌}
use Rattle.std.specs.List.{AllByRecursion}
use Rattle.ng_ast.specs.declared.App.{App}
use Rattle.ng_ast.specs.declared.refusals.Refusal.{Refusal}
use Rattle.ng_breaks.specs.Least.{is_before}
use Rattle.ng_decl_rules.specs.DeclRules.{declaration_breaks}
use Rattle.ng_graph_rules.specs.CycleRules.{AreCycleBreaks}
use Rattle.ng_template_rules.specs.TemplateRules.{templates_breaks}

-- These are the breaks of all rules: of those on declarations and names, on cycles, and on templates.
pub record AreBreaks (app : App) (breaks : List Refusal) : Type 0 where
  pub cycles : List Refusal
  pub are_cycles : AreCycleBreaks app.decls cycles
  pub all : breaks ≡ (declaration_breaks app.decls ++ cycles) ++ templates_breaks app.decls

-- An application is sound where it breaks no rule.
abbrev pub IsSound : App → Type 0
IsSound app = AreBreaks app []

-- A break of an application that no other of its breaks is before, and the first of the list of which this is so.
pub record IsLeastBreak (app : App) (r : Refusal) : Type 0 where
  pub before : List Refusal
  pub behind : List Refusal
  pub broken : AreBreaks app (before ++ r ∷ behind)
  pub first : AllByRecursion (λ b. is_before r b ≡ true) before
  pub least : AllByRecursion (λ b. is_before b r ≡ false) behind

-- An application has one list of breaks.
abbrev pub BreaksAreOne : Type 0
BreaksAreOne = (app : App) (a b : List Refusal) → AreBreaks app a → AreBreaks app b → a ≡ b

-- An application has one least break at most, and none where it is sound.
abbrev pub LeastIsOne : Type 0
LeastIsOne = (app : App) (r s : Refusal) → IsLeastBreak app r → IsLeastBreak app s → r ≡ s

abbrev pub SoundHasNone : Type 0
SoundHasNone = (app : App) (r : Refusal) → IsSound app → IsLeastBreak app r → ⊥
