-- An expression of a declaration, before its `;`.
use Rattle.std.specs.Prelude.{nat_le, if◌then◌else◌, [], ◌∷◌, length, Option, Some, None, Ok, Err}
use Rattle.ng_ast.specs.declared.Expr.{Expr}
use Rattle.ng_exprs.specs.Grammar.{Tokens, ReadsPiped}
use Rattle.ng_exprs.specs.Limits.{Over}
use Rattle.ng_exprs.specs.Parse.{Outcome, whole, turns}

-- the tokens are an expression within the limits
abbrev pub FitsExpr : Tokens → Expr → Type 0
FitsExpr ts a = ReadsPiped ts a × (Over ts → ⊥)

-- all tokens are taken, and there are few
abbrev pub all_taken : Tokens → Outcome Expr → Option Expr
all_taken ts (Ok (a, [])) = if nat_le (length ts) 256 then Some a else None
all_taken ts (Ok (a, t ∷ us)) = None
all_taken ts (Err e) = None

-- the expression within the limits that the tokens are
unfoldable pub expr_of : Tokens → Option Expr
expr_of ts = all_taken ts (whole turns 33 ts)
