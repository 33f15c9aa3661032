use Rattle.std.proofs.Common.{◌≡◌, ◌++◌, drop}
use Rattle.ng_lex.specs.Letters.{letters}
use Rattle.ng_markup.proofs.part.literal_of.Given as goal

abbrev pub invariant-loop-letter : goal.invariant-loop-letter
invariant-loop-letter l = letters l.found ≡ l.kept ++ letters (drop l.letter-index l.found)
