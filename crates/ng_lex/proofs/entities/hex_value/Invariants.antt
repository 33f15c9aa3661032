use Rattle.std.proofs.Common.{◌≡◌, ◌≤◌, drop, min}
use Rattle.ng_lex.specs.Letters.{hex_from}
use Rattle.ng_lex.proofs.entities.hex_value.Given as goal

abbrev pub invariant-loop-b : goal.invariant-loop-b
invariant-loop-b l = (min (hex_from l.n (drop l.b-index l.z)) 1114112 ≡ min (hex_from 0 l.z) 1114112) × (l.n ≤ 1114112)
