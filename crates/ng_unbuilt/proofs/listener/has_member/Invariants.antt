use Rattle.std.proofs.Common.{◌≡◌, drop}
use Rattle.ng_semantics.specs.First.{has_name, names_of}
use Rattle.ng_unbuilt.proofs.listener.has_member.Given as goal

abbrev pub invariant-loop-member : goal.invariant-loop-member
invariant-loop-member l = has_name l.name (names_of (drop l.member-index l.members)) ≡ has_name l.name (names_of l.members)
