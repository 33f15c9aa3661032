use Rattle.std.proofs.Common.{◌≡◌, ◌+◌, length}
use denote.Text.{Utf8}
use denote.Shadow.{shadow}
use Rattle.ng_exprs.specs.Ends.{later}
use Rattle.ng_lex.specs.Span as spec
use Rattle.ng_lex.proofs.heads.round_len.Given as goal

abbrev pub invariant-loop-rest : goal.invariant-loop-rest
invariant-loop-rest l = shadow (Utf8 l.rest) × (later l.at (spec.round_len 0 l.rest) ≡ spec.round_len 0 l.fn.text) × (l.at + length l.rest ≡ length l.fn.text)

abbrev pub decreases-loop-rest : goal.decreases-loop-rest
decreases-loop-rest l = length l.rest
