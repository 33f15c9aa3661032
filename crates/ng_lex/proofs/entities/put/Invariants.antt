use Rattle.std.proofs.Common.{◌≡◌, ◌++◌, drop, map}
use Rattle.std.specs.Prelude.{encode_utf8}
use Rattle.ng_lex.specs.Letters.{decoded}
use Rattle.ng_lex.proofs.entities.put.Given as goal

abbrev pub invariant-loop-b : goal.invariant-loop-b
invariant-loop-b l = (l.found.items ++ map (decoded l.fn.place) (drop l.b-index l.text)) ≡ l.fn.found.items ++ map (decoded l.fn.place) (encode_utf8 l.fn.c)
