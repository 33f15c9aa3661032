-- Where statements that are begun await an expression.
use Rattle.std.specs.Prelude.{ℕ, suc, false, List, [], ◌∷◌, ◌++◌, codes}
use Rattle.ng_ast.specs.declared.Place.{Place}
use Rattle.ng_ast.specs.declared.Expr.{Expr}
use Rattle.ng_ast.specs.declared.Owner.{Owner}
use Rattle.ng_ast.specs.declared.Stmt.{Stmt}
use Rattle.ng_tokens.specs.declared.kinds.Sign.TheVariants as s
use Rattle.ng_tokens.specs.declared.kinds.Kind.TheVariants as k
use Rattle.ng_exprs.specs.Grammar.{Tokens, token, sign, ReadsPiped}
use Rattle.ng_exprs.specs.Statements.{ReadsOwner, ReadsSimple, ReadsTest, ReadsBlock, ReadsStmt}

-- the first argument, or one after a comma
pub data AwaitsArg : Tokens → Type 0 where
  first : AwaitsArg []
  later : {a : Expr} (x y : Tokens) (p : Place) → ReadsPiped x a → AwaitsArg y → AwaitsArg (x ++ sign s.Comma p ∷ y)

-- in a statement without `if`: the value that is assigned, a position, an argument
pub data AwaitsSimple : Tokens → Type 0 where
  value : (n : List ℕ) (p q : Place) → AwaitsSimple (token (k.Name n) p ∷ sign s.Assign q ∷ [])
  position : (n : List ℕ) (p q : Place) → AwaitsSimple (token (k.Name n) p ∷ sign s.OpenSquare q ∷ [])
  argument : (n : List ℕ) (x : Tokens) (p q : Place) → AwaitsArg x → AwaitsSimple (token (k.Name n) p ∷ sign s.OpenRound q ∷ x)
  sent : {e : ℕ} {w : Owner} (n : List ℕ) (x y : Tokens) (p q : Place) → ReadsOwner false e x w → AwaitsArg y → AwaitsSimple (x ++ token (k.Name n) p ∷ sign s.OpenRound q ∷ y)

-- in a listener: in its first statement, or in a later one
pub data AwaitsListener : Tokens → Type 0 where
  here : {x : Tokens} → AwaitsSimple x → AwaitsListener x
  later : {a : Stmt} (x y : Tokens) (p : Place) → ReadsSimple false 0 x a → AwaitsListener y → AwaitsListener (x ++ sign s.Semicolon p ∷ y)

-- In a body: in its first statement or the blocks of it, or in a later statement. The test of an `if` stands as an argument does.
pub data AwaitsBody : ℕ → Tokens → Type 0 where
  here : {e : ℕ} {x : Tokens} → AwaitsSimple x → AwaitsBody e x
  taken : {e : ℕ} {a : Expr} (x y : Tokens) (p : Place) → ReadsTest false e x a → AwaitsBody (suc e) y → AwaitsBody e (x ++ sign s.OpenBrace p ∷ y)
  otherwise : {e : ℕ} {a : Expr} {bs : List Stmt} (x y z : Tokens) (p q : Place) → ReadsTest false e x a → ReadsBlock false e y bs → AwaitsBody (suc e) z
      → AwaitsBody e (x ++ (y ++ token (k.Name (codes "else")) p ∷ sign s.OpenBrace q ∷ z))
  later : {e : ℕ} {a : Stmt} (x y : Tokens) → ReadsStmt false e x a → AwaitsBody e y → AwaitsBody e (x ++ y)
