-- Bodies as functions on tokens.
use Rattle.std.specs.Prelude.{ℕ, zero, suc, Bool, true, false, if◌then◌else◌, List, [], ◌∷◌, codes, Option, Some, None, Result, Ok}
use Rattle.std.specs.declared.alloc.Global.{Global}
use denote.Ref.{MutBor}
use Rattle.ng_ast.specs.declared.Place.{Place}
use Rattle.ng_ast.specs.declared.Expr.{Expr}
use Rattle.ng_ast.specs.declared.Stmt.{Stmt}
use Rattle.ng_ast.specs.declared.Stmt.TheVariants as b
use Rattle.ng_tokens.specs.declared.kinds.Sign.{Sign}
use Rattle.ng_tokens.specs.declared.kinds.Sign.TheVariants as s
use Rattle.ng_tokens.specs.declared.kinds.Kind.{Kind}
use Rattle.ng_tokens.specs.declared.kinds.Kind.TheVariants as k
use Rattle.ng_tokens.specs.Lexis.{same_text}
use Rattle.ng_exprs.specs.Grammar.{Tokens, start}
use Rattle.ng_exprs.specs.Parse.{Parser, ◌>>=◌, ◌>>◌, pure, refuse, limit, sign_of, peek, rest, is_sign, expect, name, turns}
use Rattle.ng_exprs.specs.declared.halt.Halt.{Halt}
use Rattle.ng_exprs.specs.Gives.{Gives}
use Rattle.ng_exprs.specs.Lines.{args, simple, most}

-- the token is this word
abbrev pub is_word : List ℕ → Kind → Bool
is_word w (k.Name n) = same_text w n
is_word w _ = false

-- the next two tokens are this word and this sign
abbrev pub sees_word : List ℕ → Sign → Tokens → Bool
sees_word w x [] = false
sees_word w x (t ∷ ts) = if is_word w t.kind then is_sign x (peek ts) else false

-- where no further statement stands: at the end, or before a brace that closes
abbrev pub is_over : Tokens → Bool
is_over [] = true
is_over (t ∷ ts) = is_sign s.CloseBrace (sign_of t.kind)

-- what stands in braces
unfoldable pub block : Parser (List Stmt) → Parser (List Stmt)
block inner = do
  expect s.OpenBrace
  found ← inner
  expect s.CloseBrace
  pure found

-- the `else` part, if one stands there
unfoldable pub other : Parser (List Stmt) → Parser (List Stmt)
other inner = λ ts. if sees_word (codes "else") s.OpenBrace ts then block inner (rest ts) else Ok ([], ts)

-- the only one of a list
abbrev pub only : {A : Type 0} → List A → Option A
only (a ∷ []) = Some a
only _ = None

-- the blocks of an `if`, after its test
unfoldable pub branch : Parser (List Stmt) → Place → Expr → Parser Stmt
branch inner p test = do
  taken ← block inner
  otherwise ← other inner
  pure (b.If p test taken otherwise)

-- an `if` has one expression as its test
abbrev pub branched : Parser (List Stmt) → Place → Option Expr → Parser Stmt
branched inner p None = refuse
branched inner p (Some test) = branch inner p test

-- n turns of a loop in an expression, m tokens in it, and c turns of a loop over statements and arguments; d more brackets may be open, and inner reads what stands in braces
module _ (n m c : ℕ) (inner : Parser (List Stmt)) (d : ℕ) where
  -- an `if`, or a call of something that is called so
  unfoldable pub conditional : Place → Parser Stmt
  conditional p = do
    x ← name
    expect s.OpenRound
    es ← args n m c d
    λ ts. if is_sign s.OpenBrace (peek ts) then branched inner p (only es) ts else (do expect s.Semicolon; pure (b.Do p x es)) ts

  unfoldable pub statement : Parser Stmt
  statement = λ ts. if sees_word (codes "if") s.OpenRound ts then conditional (start ts) ts else (do a ← simple n m c d; expect s.Semicolon; pure a) ts

  unfoldable pub statements : ℕ → Parser (List Stmt)
  statements zero = refuse
  statements (suc i) = λ ts. if is_over ts then Ok ([], ts) else (do a ← statement; others ← statements i; pure (a ∷ others)) ts

-- a body, or what stands in braces, within which fewer than d brackets may be open
unfoldable pub body : ℕ → ℕ → ℕ → ℕ → Parser (List Stmt)
body n m c zero = limit
body n m c (suc d) = statements n m c (body n m c d) d c

-- A function value that reads what stands in braces.
pub record Encloses (depth : ℕ) (pre : Global → MutBor Tokens → ℕ → Type 0)
    (post : Global → MutBor Tokens → ℕ → Result (List Stmt) Halt → MutBor Tokens → Type 0) : Type 0 where
  pub callable : (alloc : Global) (old : MutBor Tokens) → pre alloc old depth
  pub reads : (alloc : Global) (old new : MutBor Tokens) (r : Result (List Stmt) Halt) → post alloc old depth r new → Gives (body turns 256 most depth old.now) r new.now
