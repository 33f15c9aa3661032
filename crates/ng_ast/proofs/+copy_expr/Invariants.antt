use Rattle.std.proofs.Common.{◌≡◌, take}
use Rattle.ng_ast.proofs.+copy_expr.Given as goal

abbrev pub invariant-expressions::copy_exprs-loop-expr : goal.invariant-expressions::copy_exprs-loop-expr
invariant-expressions::copy_exprs-loop-expr l = l.copies.items ≡ take l.expr-index l.exprs

abbrev pub invariant-expressions::copy_pairs-loop-pair : goal.invariant-expressions::copy_pairs-loop-pair
invariant-expressions::copy_pairs-loop-pair l = l.copies.items ≡ take l.pair-index l.pairs
