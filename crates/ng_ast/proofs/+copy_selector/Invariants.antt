use Rattle.std.proofs.Common.{◌≡◌, take}
use Rattle.ng_ast.proofs.+copy_selector.Given as goal

abbrev pub invariant-selectors::copy_sel_parts-loop-part : goal.invariant-selectors::copy_sel_parts-loop-part
invariant-selectors::copy_sel_parts-loop-part l = l.copies.items ≡ take l.part-index l.parts
