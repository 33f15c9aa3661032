use Rattle.std.proofs.Common.{◌≡◌, ◌≤◌, drop, min}
use Rattle.ng_tokens.specs.Lexis.{value_from}
use Rattle.ng_lex.proofs.entities.decimal_value.Given as goal

abbrev pub invariant-loop-b : goal.invariant-loop-b
invariant-loop-b l = (min (value_from l.n (drop l.b-index l.z)) 1114112 ≡ min (value_from 0 l.z) 1114112) × (l.n ≤ 1114112)
