use Rattle.std.proofs.Common.{◌≡◌, ◌++◌, drop}
use Rattle.std.specs.Prelude.{false}
use Rattle.ng_nodes.specs.Texts as spec
use Rattle.ng_nodes.proofs.text.collapsed.Given as goal

abbrev pub invariant-loop-letter : goal.invariant-loop-letter
invariant-loop-letter l = spec.collapsed false l.letters ≡ l.found.items ++ spec.collapsed l.after (drop l.letter-index l.letters)
