use Rattle.std.proofs.Common.{◌≡◌, take}
use Rattle.std.specs.List.{flat_map}
use Rattle.ng_unbuilt.specs.Least.{least_of}
use Rattle.ng_unbuilt.specs.Forms.{member_forms}
use Rattle.ng_unbuilt.proofs.application.members.Given as goal

abbrev pub invariant-loop-member : goal.invariant-loop-member
invariant-loop-member l = l.best ≡ least_of l.initial.best (flat_map member_forms (take l.member-index l.members))
