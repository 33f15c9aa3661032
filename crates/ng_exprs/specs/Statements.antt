-- The grammar of statements, listeners and bodies. The truth value says whether the limits are kept: 256 tokens in each expression, 32 open brackets.
use Rattle.std.specs.Prelude.{◌≡◌, ℕ, suc, ◌<◌, ◌≤◌, ◌⊎◌, Bool, true, false, List, [], ◌∷◌, ◌++◌, length, codes}
use Rattle.ng_ast.specs.declared.Place.{Place}
use Rattle.ng_ast.specs.declared.Expr.{Expr}
use Rattle.ng_ast.specs.declared.Owner.{Owner}
use Rattle.ng_ast.specs.declared.Owner.TheVariants as o
use Rattle.ng_ast.specs.declared.Stmt.{Stmt}
use Rattle.ng_ast.specs.declared.Stmt.TheVariants as b
use Rattle.ng_tokens.specs.declared.kinds.Sign.TheVariants as s
use Rattle.ng_tokens.specs.declared.kinds.Kind.TheVariants as k
use Rattle.ng_exprs.specs.Grammar.{Tokens, token, sign, start, ReadsPiped}
use Rattle.ng_exprs.specs.Limits.{Within, opens}

-- an expression of a statement, where so many brackets are open
abbrev pub IsExpr : Bool → ℕ → Tokens → Expr → Type 0
IsExpr false e x a = ReadsPiped x a
IsExpr true e x a = ReadsPiped x a × (length x ≤ 256) × Within 32 e x

-- so many brackets may be open
abbrev pub IsOpen : Bool → ℕ → Type 0
IsOpen false e = Unit {0}
IsOpen true e = e ≤ 32

-- one argument or several, with commas between
pub data ReadsSomeArgs (l : Bool) (e : ℕ) : Tokens → List Expr → Type 0 where
  last_arg : {x : Tokens} {a : Expr} → IsExpr l e x a → ReadsSomeArgs l e x (a ∷ [])
  next_arg : {a : Expr} {es : List Expr} (x y : Tokens) (p : Place) → IsExpr l e x a → ReadsSomeArgs l e y es → ReadsSomeArgs l e (x ++ sign s.Comma p ∷ y) (a ∷ es)

pub data ReadsArgs (l : Bool) (e : ℕ) : Tokens → List Expr → Type 0 where
  no_arg : ReadsArgs l e [] []
  some_args : {x : Tokens} {es : List Expr} → ReadsSomeArgs l e x es → ReadsArgs l e x es

-- ( args? )
pub data ReadsCall (l : Bool) (e : ℕ) : Tokens → List Expr → Type 0 where
  call : {es : List Expr} (x : Tokens) (p q : Place) → IsOpen l (suc e) → ReadsArgs l (suc e) x es → ReadsCall l e (sign s.OpenRound p ∷ x ++ sign s.CloseRound q ∷ []) es

-- an owner and the point after it
pub data ReadsOwner (l : Bool) (e : ℕ) : Tokens → Owner → Type 0 where
  named : (n : List ℕ) (p q : Place) → ReadsOwner l e (token (k.Name n) p ∷ sign s.Dot q ∷ []) (o.Name p n)
  safe : (n : List ℕ) (p q : Place) → ReadsOwner l e (token (k.Name n) p ∷ sign s.SafeDot q ∷ []) (o.Safe p n)
  apart : (n : List ℕ) (p q r : Place) → ReadsOwner l e (token (k.Name n) p ∷ sign s.Question q ∷ sign s.Dot r ∷ []) (o.Safe p n)
  item : {a : Expr} (n : List ℕ) (x : Tokens) (p q r t : Place) → IsOpen l (suc e) → IsExpr l (suc e) x a
      → ReadsOwner l e (token (k.Name n) p ∷ sign s.OpenSquare q ∷ x ++ sign s.CloseSquare r ∷ sign s.Dot t ∷ []) (o.Item p n a)

-- a statement without `if`, and without its `;`
pub data ReadsSimple (l : Bool) (e : ℕ) : Tokens → Stmt → Type 0 where
  set : {a : Expr} (n : List ℕ) (x : Tokens) (p q : Place) → IsExpr l e x a → ReadsSimple l e (token (k.Name n) p ∷ sign s.Assign q ∷ x) (b.Set p n a)
  run : {es : List Expr} (n : List ℕ) (x : Tokens) (p : Place) → ReadsCall l e x es → ReadsSimple l e (token (k.Name n) p ∷ x) (b.Do p n es)
  send : {w : Owner} {es : List Expr} (n : List ℕ) (x y : Tokens) (p : Place) → ReadsOwner l e x w → ReadsCall l e y es → ReadsSimple l e (x ++ token (k.Name n) p ∷ y) (b.Send (start x) w n es)

-- one statement or several, with `;` between; the last `;` may stand or not
pub data ReadsListener (l : Bool) : Tokens → List Stmt → Type 0 where
  last : {x : Tokens} {a : Stmt} → ReadsSimple l 0 x a → ReadsListener l x (a ∷ [])
  ended : {a : Stmt} (x : Tokens) (p : Place) → ReadsSimple l 0 x a → ReadsListener l (x ++ sign s.Semicolon p ∷ []) (a ∷ [])
  more : {a : Stmt} {others : List Stmt} (x y : Tokens) (p : Place) → ReadsSimple l 0 x a → ReadsListener l y others → ReadsListener l (x ++ sign s.Semicolon p ∷ y) (a ∷ others)

-- ---- bodies

-- if ( e )
pub data ReadsTest (l : Bool) (e : ℕ) : Tokens → Expr → Type 0 where
  test : {a : Expr} (x : Tokens) (p q r : Place) → IsOpen l (suc e) → IsExpr l (suc e) x a
      → ReadsTest l e (token (k.Name (codes "if")) p ∷ sign s.OpenRound q ∷ x ++ sign s.CloseRound r ∷ []) a

mutual
  -- A statement of a body: one without `if` and its `;`, or an `if` with its blocks. No word is reserved: `if` and `else` may be names.
  pub data ReadsStmt (l : Bool) : ℕ → Tokens → Stmt → Type 0 where
    plain : {e : ℕ} {a : Stmt} (x : Tokens) (p : Place) → ReadsSimple l e x a → ReadsStmt l e (x ++ sign s.Semicolon p ∷ []) a
    conditional : {e : ℕ} {a : Expr} {taken otherwise : List Stmt} (x y z : Tokens) → ReadsTest l e x a → ReadsBlock l e y taken → ReadsElse l e z otherwise
        → ReadsStmt l e (x ++ (y ++ z)) (b.If (start x) a taken otherwise)

  -- { body }
  pub data ReadsBlock (l : Bool) : ℕ → Tokens → List Stmt → Type 0 where
    block : {e : ℕ} {bs : List Stmt} (x : Tokens) (p q : Place) → IsOpen l (suc e) → ReadsStmts l (suc e) x bs → ReadsBlock l e (sign s.OpenBrace p ∷ x ++ sign s.CloseBrace q ∷ []) bs

  -- else { body }, or nothing
  pub data ReadsElse (l : Bool) : ℕ → Tokens → List Stmt → Type 0 where
    no_else : {e : ℕ} → ReadsElse l e [] []
    with_else : {e : ℕ} {bs : List Stmt} (x : Tokens) (p : Place) → ReadsBlock l e x bs → ReadsElse l e (token (k.Name (codes "else")) p ∷ x) bs

  -- any number of statements, one after another
  pub data ReadsStmts (l : Bool) : ℕ → Tokens → List Stmt → Type 0 where
    none : {e : ℕ} → ReadsStmts l e [] []
    next : {e : ℕ} {a : Stmt} {others : List Stmt} (x y : Tokens) → ReadsStmt l e x a → ReadsStmts l e y others → ReadsStmts l e (x ++ y) (a ∷ others)

-- ---- limits

-- some tokens make these whole
abbrev pub Begins : {A : Type 0} → (Tokens → A → Type 0) → Tokens → Type 0
Begins {A} R ts = (more : Tokens) × (a : A) × R (ts ++ more) a

-- an expression that has more than 256 tokens is begun at the end, where one is awaited
abbrev pub EndsLong : (Tokens → Type 0) → Tokens → Type 0
EndsLong awaits ts = (before x : Tokens) × (ts ≡ before ++ x) × awaits before × (256 < length x) × Begins ReadsPiped x

-- more than 32 brackets are open at the end, or an expression there is too long
abbrev pub PassesIn : (Tokens → Type 0) → Tokens → Type 0
PassesIn awaits ts = (32 < opens 0 ts) ⊎ EndsLong awaits ts

-- some of the tokens at the front are begun, and pass a limit
abbrev pub OverIn : {A : Type 0} → (Tokens → A → Type 0) → (Tokens → Type 0) → Tokens → Type 0
OverIn R awaits ts = (front rest : Tokens) × (ts ≡ front ++ rest) × Begins R front × PassesIn awaits front
