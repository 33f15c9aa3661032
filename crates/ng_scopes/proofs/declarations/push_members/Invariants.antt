use Rattle.std.proofs.Common.{◌≡◌, ◌++◌, take}
use Rattle.std.specs.List.{flat_map}
use Rattle.ng_scopes.specs.Scope.{meaning_of}
use Rattle.ng_scopes.specs.Declarations.{member_usages}
use Rattle.ng_scopes.proofs.declarations.push_members.Given as goal

abbrev pub invariant-loop-member : goal.invariant-loop-member
invariant-loop-member l = l.found.items ≡ l.initial.found.items ++ flat_map (member_usages (meaning_of l.scope)) (take l.member-index l.members)
