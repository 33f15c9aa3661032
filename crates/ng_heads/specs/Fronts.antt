-- Expressions at the front of a text.
use Rattle.std.specs.Prelude.{◌≡◌, ℕ, Bool, false, ◌||◌, ◌==◌, ◌∷◌, ◌++◌, length, Option, Some, None, Result, Ok, Err}
use Rattle.ng_ast.specs.declared.Place.{Place}
use Rattle.ng_ast.specs.declared.Expr.{Expr}
use Rattle.ng_tokens.specs.Lexis.{Text, steps}
use Rattle.ng_exprs.specs.Reading.{ReadsExpr, OverText}
use Rattle.ng_exprs.specs.Ends.{IsEnd}
use Rattle.ng_lex.specs.Heads.{EndsAfter}
use Rattle.ng_heads.specs.declared.at.At.{At}
use Rattle.ng_heads.specs.declared.halt.Stop.{Stop}
use Rattle.ng_heads.specs.declared.halt.Stop.TheVariants as stop

-- `)` or `;`
abbrev pub is_end : Option ℕ → Bool
is_end None = false
is_end (Some c) = c == 59 || c == 41

-- what the whole text is read as
abbrev pub AnswersExpr : Place → Text → Result Expr Stop → Type 0
AnswersExpr p t (Ok e) = ReadsExpr false p t e × (OverText false p t → ⊥)
AnswersExpr p t (Err (stop.Syntax q)) = (e : Expr) → ReadsExpr false p t e → ⊥
AnswersExpr p t (Err stop.Limit) = OverText false p t
AnswersExpr p t (Err stop.Memory) = Unit {0}

-- an expression at the front ends after so many bytes, at a `)` or `;`
pub record Ended (t : Text) (n : ℕ) : Type 0 where
  pub x : Text
  pub c : ℕ
  pub z : Text
  pub is : t ≡ x ++ (c ∷ z)
  pub end : IsEnd c
  pub long : n ≡ length x
  pub ends : EndsAfter x (c ∷ z)

-- no expression stands at the front, up to a `)` or `;`
abbrev pub NoFront : Text → Type 0
NoFront t = (p : Place) (x : Text) (c : ℕ) (z : Text) (e : Expr) → t ≡ x ++ (c ∷ z) → IsEnd c → ReadsExpr false p x e → ⊥

-- this expression stands at the front, up to a `)` or `;`, and passes no limit
pub record ReadFront (at : At) (e : Expr) (next : At) : Type 0 where
  pub x : Text
  pub c : ℕ
  pub z : Text
  pub is : at.text.now ≡ x ++ (c ∷ z)
  pub end : IsEnd c
  pub left : next.text.now ≡ c ∷ z
  pub place : next.place ≡ steps at.place x
  pub reads : ReadsExpr false at.place x e
  pub calm : OverText false at.place x → ⊥

-- what stands at the front, up to a `)` or `;`, is an expression that is begun, and passes a limit
pub record PastLimit (p : Place) (t : Text) : Type 0 where
  pub x : Text
  pub c : ℕ
  pub z : Text
  pub is : t ≡ x ++ (c ∷ z)
  pub end : IsEnd c
  pub ends : EndsAfter x (c ∷ z)
  pub over : OverText false p x

abbrev pub AnswersFront : At → Result (Expr × At) Stop → Type 0
AnswersFront at (Ok r) = ReadFront at r.0 r.1
AnswersFront at (Err (stop.Syntax q)) = (x : Text) (c : ℕ) (z : Text) (e : Expr) → at.text.now ≡ x ++ (c ∷ z) → IsEnd c → ReadsExpr false at.place x e → ⊥
AnswersFront at (Err stop.Limit) = PastLimit at.place at.text.now
AnswersFront at (Err stop.Memory) = Unit {0}
