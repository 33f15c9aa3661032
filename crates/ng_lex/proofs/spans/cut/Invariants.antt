use Rattle.std.proofs.Common.{◌≡◌, ◌+◌, length}
use denote.Text.{Utf8}
use denote.Shadow.{shadow}
use Rattle.ng_lex.specs.Span as spec
use Rattle.ng_lex.proofs.Cutting.{Inv}
use Rattle.ng_lex.proofs.spans.cut.Given as goal

abbrev pub invariant-loop-rest : goal.invariant-loop-rest
invariant-loop-rest l = shadow (Utf8 l.rest) × Inv (spec.cut 0 0 l.fn.text) l.found.items l.from l.rest × (l.from + length l.rest ≡ length l.fn.text)

abbrev pub decreases-loop-rest : goal.decreases-loop-rest
decreases-loop-rest l = length l.rest
