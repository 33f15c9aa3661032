use Rattle.std.proofs.Common.{rules, arith}
use Rattle.std.proofs.lemmas.Str.{chars_from_encodes}
use Rattle.ng_values.proofs.parts.characters.Goals as goal

pub returns-clause-value : goal.returns-clause-value
returns-clause-value c = search (rules, chars_from_encodes)

pub returns-clause-bound : goal.returns-clause-bound
returns-clause-bound c = omega (arith, c.count.ensures.bound, c.chars.ensures.len)
