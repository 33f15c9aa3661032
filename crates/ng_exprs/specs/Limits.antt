-- The limits on the brackets and the tokens of an expression.
use Rattle.std.specs.Prelude.{◌≡◌, ℕ, suc, pred, ◌<◌, ◌≤◌, ◌⊎◌, [], ◌∷◌, ◌++◌, length}
use Rattle.ng_ast.specs.declared.Expr.{Expr}
use Rattle.ng_tokens.specs.declared.kinds.Sign.TheVariants as s
use Rattle.ng_tokens.specs.declared.kinds.Kind.{Kind}
use Rattle.ng_tokens.specs.declared.kinds.Kind.TheVariants as k
use Rattle.ng_exprs.specs.Grammar.{Tokens, ReadsPiped}

-- how many brackets are open after a token, where so many were before it
abbrev pub after : Kind → ℕ → ℕ
after (k.Sign s.OpenRound) n = suc n
after (k.Sign s.OpenSquare) n = suc n
after (k.Sign s.OpenBrace) n = suc n
after (k.Sign s.CloseRound) n = pred n
after (k.Sign s.CloseSquare) n = pred n
after (k.Sign s.CloseBrace) n = pred n
after _ n = n

-- and after several
abbrev pub opens : ℕ → Tokens → ℕ
opens n [] = n
opens n (t ∷ ts) = opens (after t.kind n) ts

-- each count of open brackets on the way, from n on, is at most m
abbrev pub Within : ℕ → ℕ → Tokens → Type 0
Within m n [] = Unit {0}
Within m n (t ∷ ts) = (after t.kind n ≤ m) × Within m (after t.kind n) ts

-- More than 32 brackets are open at the end, or there are more than 256 tokens.
abbrev pub Passes : Tokens → Type 0
Passes ts = (32 < opens 0 ts) ⊎ (256 < length ts)

-- An expression that is begun and not ended, or just ended: some tokens make it whole.
abbrev pub IsBegun : Tokens → Type 0
IsBegun ts = (rest : Tokens) × (a : Expr) × ReadsPiped (ts ++ rest) a

-- Some of the tokens at the front are an expression that is begun, and pass a limit.
abbrev pub Over : Tokens → Type 0
Over ts = (front rest : Tokens) × (ts ≡ front ++ rest) × IsBegun front × Passes front
