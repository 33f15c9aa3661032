-- Statements as functions on tokens.
use Rattle.std.specs.Prelude.{ℕ, zero, suc, ◌-◌, Bool, true, false, nat_lt, if◌then◌else◌, List, [], ◌∷◌, length, Option, Some, None, Ok, Err}
use Rattle.ng_ast.specs.declared.Place.{Place}
use Rattle.ng_ast.specs.declared.Expr.{Expr}
use Rattle.ng_ast.specs.declared.Owner.{Owner}
use Rattle.ng_ast.specs.declared.Owner.TheVariants as o
use Rattle.ng_ast.specs.declared.Stmt.{Stmt}
use Rattle.ng_ast.specs.declared.Stmt.TheVariants as b
use Rattle.ng_tokens.specs.declared.kinds.Sign.{Sign}
use Rattle.ng_tokens.specs.declared.kinds.Sign.TheVariants as s
use Rattle.ng_exprs.specs.Grammar.{Tokens, start}
use Rattle.ng_exprs.specs.Parse.{Limit, Parser, and_then, ◌>>=◌, ◌>>◌, pure, refuse, limit, peek, rest, skip, is_sign, expect, name, whole}

-- one or more, with commas between; the number is above that of the tokens
unfoldable pub list_of : {A : Type 0} → Parser A → ℕ → Parser (List A)
list_of item zero = refuse
list_of item (suc n) = do
  a ← item
  λ ts. if is_sign s.Comma (peek ts) then (do es ← list_of item n; pure (a ∷ es)) (rest ts) else Ok (a ∷ [], ts)

-- at the end of a text
abbrev pub is_last : Tokens → Bool
is_last [] = true
is_last (t ∷ ts) = false

-- n turns of a loop in an expression, m tokens in it, and c turns of a loop over statements and arguments
module _ (n m c : ℕ) where
  -- an expression with its own count of tokens, within which d brackets may be open
  unfoldable pub measured : ℕ → Parser Expr
  measured d = λ ts. and_then (whole n (suc d) ts) (λ a us. if nat_lt m (length ts - length us) then Err Limit else Ok (a, us))

  -- args? and the bracket that closes them
  unfoldable pub args : ℕ → Parser (List Expr)
  args zero = limit
  args (suc d) = λ ts. if is_sign s.CloseRound (peek ts) then Ok ([], rest ts) else (do es ← list_of (measured d) c; expect s.CloseRound; pure es) ts

  unfoldable pub set : ℕ → Place → List ℕ → Parser Stmt
  set d p x = do
    a ← measured d
    pure (b.Set p x a)

  unfoldable pub run : ℕ → Place → List ℕ → Parser Stmt
  run d p x = do
    es ← args d
    pure (b.Do p x es)

  -- the rest of a statement after its owner
  unfoldable pub send : ℕ → Place → Owner → Parser Stmt
  send d p w = do
    x ← name
    expect s.OpenRound
    es ← args d
    pure (b.Send p w x es)

  unfoldable pub apart : ℕ → Place → List ℕ → Parser Stmt
  apart d p x = do
    expect s.Dot
    send d p (o.Safe p x)

  unfoldable pub item : ℕ → Place → List ℕ → Parser Stmt
  item zero p x = limit
  item (suc d) p x = do
    a ← measured d
    expect s.CloseSquare
    expect s.Dot
    send (suc d) p (o.Item p x a)

  -- what follows the name at the front
  abbrev pub after_name : ℕ → Place → List ℕ → Option Sign → Option (Parser Stmt)
  after_name d p x (Some s.Assign) = Some (set d p x)
  after_name d p x (Some s.OpenRound) = Some (run d p x)
  after_name d p x (Some s.Dot) = Some (send d p (o.Name p x))
  after_name d p x (Some s.SafeDot) = Some (send d p (o.Safe p x))
  after_name d p x (Some s.Question) = Some (apart d p x)
  after_name d p x (Some s.OpenSquare) = Some (item d p x)
  after_name d p x _ = None

  abbrev pub go_on : Option (Parser Stmt) → Parser Stmt
  go_on None = refuse
  go_on (Some q) = skip >> q

  unfoldable pub simple : ℕ → Parser Stmt
  simple d = λ ts. (name >>= λ x us. go_on (after_name d (start ts) x (peek us)) us) ts

  unfoldable pub listener : ℕ → ℕ → Parser (List Stmt)
  listener d zero = refuse
  listener d (suc i) = do
    a ← simple d
    λ ts. if is_last ts then Ok (a ∷ [], ts) else (do expect s.Semicolon; λ us. if is_last us then Ok (a ∷ [], us) else (do others ← listener d i; pure (a ∷ others)) us) ts

-- above the count of the tokens of a text
unfoldable pub most : ℕ
most = 1048577
