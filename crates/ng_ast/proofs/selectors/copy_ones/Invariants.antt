use Rattle.std.proofs.Common.{◌≡◌, take}
use Rattle.ng_ast.proofs.selectors.copy_ones.Given as goal

abbrev pub invariant-loop-one : goal.invariant-loop-one
invariant-loop-one l = l.copies.items ≡ take l.one-index l.ones
