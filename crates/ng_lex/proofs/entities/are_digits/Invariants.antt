use Rattle.std.proofs.Common.{◌≡◌, drop}
use Rattle.ng_tokens.specs.Lexis.{all, is_digit}
use Rattle.ng_lex.proofs.entities.are_digits.Given as goal

abbrev pub invariant-loop-b : goal.invariant-loop-b
invariant-loop-b l = all is_digit (drop l.b-index l.z) ≡ all is_digit l.z
