-- What a function of the code gives: what the function on tokens gives, unless memory ran out.
use Rattle.std.specs.Prelude.{◌≡◌, ℕ, Result, Ok, Err}
use Rattle.std.specs.declared.alloc.Global.{Global}
use denote.Ref.{MutBor}
use Rattle.ng_ast.specs.declared.Expr.{Expr}
use Rattle.ng_exprs.specs.declared.halt.Halt.{Halt}
use Rattle.ng_exprs.specs.declared.halt.Halt.TheVariants as r
use Rattle.ng_exprs.specs.Grammar.{Tokens}
use Rattle.ng_exprs.specs.Parse.{Outcome, Syntax, Limit, whole, turns}

abbrev pub Fails : {A : Type 0} → Outcome A → Halt → Type 0
Fails o (r.Syntax p) = o ≡ Err Syntax
Fails o (r.Limit p) = o ≡ Err Limit
Fails o r.Memory = Unit {0}

abbrev pub Gives : {A : Type 0} → Outcome A → Result A Halt → Tokens → Type 0
Gives o (Ok a) new = o ≡ Ok (a, new)
Gives o (Err e) new = Fails o e

-- A function value that reads what stands in brackets.
pub record Nests (depth : ℕ) (pre : Global → MutBor Tokens → ℕ → Type 0)
    (post : Global → MutBor Tokens → ℕ → Result Expr Halt → MutBor Tokens → Type 0) : Type 0 where
  pub callable : (alloc : Global) (old : MutBor Tokens) → pre alloc old depth
  pub reads : (alloc : Global) (old new : MutBor Tokens) (r : Result Expr Halt) → post alloc old depth r new → Gives (whole turns depth old.now) r new.now
