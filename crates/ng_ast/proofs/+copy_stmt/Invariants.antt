use Rattle.std.proofs.Common.{◌≡◌, take}
use Rattle.ng_ast.proofs.+copy_stmt.Given as goal

abbrev pub invariant-statements::copy_stmts-loop-stmt : goal.invariant-statements::copy_stmts-loop-stmt
invariant-statements::copy_stmts-loop-stmt l = l.copies.items ≡ take l.stmt-index l.stmts
