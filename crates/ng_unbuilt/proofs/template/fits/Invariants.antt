use Rattle.std.proofs.Common.{◌≡◌, ◌+◌, ◌≤◌, drop}
use Rattle.std.specs.Prelude.{nat_le}
use Rattle.ng_semantics.specs.First.{bytes_in}
use Rattle.ng_unbuilt.proofs.template.fits.Given as goal

abbrev pub invariant-loop-one : goal.invariant-loop-one
invariant-loop-one l = (nat_le (bytes_in l.pieces) 65535 ≡ nat_le (l.total + bytes_in (drop l.one-index l.pieces)) 65535) × (l.total ≤ 65535)
