use Rattle.std.proofs.Common.{◌+◌, ◌-◌, ◌≤◌, vec_len}
use Rattle.std.specs.Io.KnownBytes.{Consumes}
use Rattle.ng_outside.specs.Causes.{RoseBy}
use Rattle.ng_outside.proofs.host.HostShelf.read_within.Given as goal

-- the bytes so far came from the file in order, are within the limit and were counted, and no count fell
abbrev pub invariant-loop-bytes : goal.invariant-loop-bytes
invariant-loop-bytes g l =
    (vec_len l.bytes ≤ l.limit)
    × RoseBy (vec_len l.bytes) l.initial.self.read l.self.read
    × (l.initial.self.read ≤ l.self.read)
    × (l.self.read ≤ l.initial.self.read + vec_len l.bytes)
    × (l.initial.self.faults ≤ l.self.faults)
    × Consumes (g.F.Read.remaining l.initial.file) (g.F.Read.remaining l.file) l.bytes.items

-- each turn takes a byte, until the limit is passed
abbrev pub decreases-loop-bytes : goal.decreases-loop-bytes
decreases-loop-bytes g l = l.limit - vec_len l.bytes
