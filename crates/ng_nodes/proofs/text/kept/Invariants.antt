use Rattle.std.proofs.Common.{◌≡◌, ◌++◌, drop}
use Rattle.ng_nodes.specs.Texts as spec
use Rattle.ng_nodes.proofs.text.kept.Given as goal

abbrev pub invariant-loop-letter : goal.invariant-loop-letter
invariant-loop-letter l = spec.kept l.letters ≡ l.found.items ++ spec.kept (drop l.letter-index l.letters)
