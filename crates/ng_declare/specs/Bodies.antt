-- A body of a method or an `init`, before its `}`.
use Rattle.std.specs.Prelude.{suc, List, [], ◌∷◌, length, Option, Some, None, Ok, Err}
use Rattle.ng_ast.specs.declared.Stmt.{Stmt}
use Rattle.ng_exprs.specs.Grammar.{Tokens}
use Rattle.ng_exprs.specs.Parse.{Outcome, turns}
use Rattle.ng_exprs.specs.Blocks.{body}

-- all tokens are taken
abbrev pub whole_taken : Outcome (List Stmt) → Option (List Stmt)
whole_taken (Ok (bs, [])) = Some bs
whole_taken (Ok (bs, t ∷ us)) = None
whole_taken (Err e) = None

-- the statements within the limits that the tokens are
unfoldable pub body_of : Tokens → Option (List Stmt)
body_of ts = whole_taken (body turns 256 (suc (length ts)) 33 ts)
