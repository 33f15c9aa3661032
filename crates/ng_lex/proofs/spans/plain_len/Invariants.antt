use Rattle.std.proofs.Common.{◌≡◌, ◌+◌, length}
use Rattle.ng_lex.specs.Span as spec
use Rattle.ng_lex.proofs.spans.plain_len.Given as goal

abbrev pub invariant-loop-rest : goal.invariant-loop-rest
invariant-loop-rest l = (l.len + spec.plain_len l.rest ≡ spec.plain_len l.fn.z) × (l.len + length l.rest ≡ length l.fn.z)

abbrev pub decreases-loop-rest : goal.decreases-loop-rest
decreases-loop-rest l = length l.rest
