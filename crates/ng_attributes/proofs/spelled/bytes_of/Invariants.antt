use Rattle.std.proofs.Common.{◌≡◌, take}
use Rattle.ng_lex.specs.Letters.{bytes}
use Rattle.ng_attributes.proofs.spelled.bytes_of.Given as goal

abbrev pub invariant-loop-letter : goal.invariant-loop-letter
invariant-loop-letter l = l.found.items ≡ bytes (take l.letter-index l.letters)
