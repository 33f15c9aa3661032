use Rattle.std.proofs.Common.{◌≡◌, ◌≤◌, ◌^◌, drop, min}
use Rattle.ng_tokens.specs.Lexis.{value_from}
use Rattle.ng_tokens.proofs.lexer.value.Given as goal

abbrev pub invariant-loop-b : goal.invariant-loop-b
invariant-loop-b l = (min (value_from l.n (drop l.b-index l.z)) (2 ^ 63) ≡ min (value_from 0 l.z) (2 ^ 63)) × (l.n ≤ 2 ^ 63)
