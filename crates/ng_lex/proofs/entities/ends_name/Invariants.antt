use Rattle.std.proofs.Common.{◌≡◌, drop}
use Rattle.ng_lex.specs.Letters.{ends_name}
use Rattle.ng_lex.proofs.entities.ends_name.Given as goal

abbrev pub invariant-loop-b : goal.invariant-loop-b
invariant-loop-b l = ends_name (drop l.b-index l.z) ≡ ends_name l.z
