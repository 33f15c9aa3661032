use Rattle.std.proofs.Common.{◌≡◌, ◌≤◌, length}
use Rattle.ng_nodes.specs.Machine as spec
use Rattle.ng_nodes.proofs.machine.read.Given as goal

abbrev pub invariant-loop-part : goal.invariant-loop-part
invariant-loop-part l = (spec.read 32 4096 spec.begin l.fn.parts ≡ spec.read 32 4096 l.state l.parts) × (l.state.made ≤ 4096)

abbrev pub decreases-loop-part : goal.decreases-loop-part
decreases-loop-part l = length l.parts
