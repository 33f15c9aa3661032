use Rattle.std.proofs.Common.{◌≡◌, drop}
use Rattle.ng_tokens.specs.Lexis.{all}
use Rattle.ng_lex.specs.Letters.{is_hex}
use Rattle.ng_lex.proofs.entities.are_hex.Given as goal

abbrev pub invariant-loop-b : goal.invariant-loop-b
invariant-loop-b l = all is_hex (drop l.b-index l.z) ≡ all is_hex l.z
