use Rattle.std.proofs.Common.{◌≡◌, ◌+◌, length}
use Rattle.ng_attributes.specs.Pieces.{text_len}
use Rattle.ng_attributes.proofs.pieces.text_len.Given as goal

abbrev pub invariant-loop-rest : goal.invariant-loop-rest
invariant-loop-rest l = (l.len + text_len l.rest ≡ text_len l.fn.z) × (l.len + length l.rest ≡ length l.fn.z)

abbrev pub decreases-loop-rest : goal.decreases-loop-rest
decreases-loop-rest l = length l.rest
