use Rattle.std.proofs.Common.{◌≡◌, drop}
use Rattle.ng_nodes.specs.Texts as spec
use Rattle.ng_nodes.proofs.text.all_blank.Given as goal

abbrev pub invariant-loop-letter : goal.invariant-loop-letter
invariant-loop-letter l = spec.all_blank l.letters ≡ spec.all_blank (drop l.letter-index l.letters)
