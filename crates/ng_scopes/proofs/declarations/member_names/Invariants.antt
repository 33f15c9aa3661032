use Rattle.std.proofs.Common.{◌≡◌, ◌++◌, drop}
use Rattle.ng_scopes.specs.Declarations.{member_names, members_from}
use Rattle.ng_scopes.proofs.declarations.member_names.Given as goal

abbrev pub invariant-loop-member : goal.invariant-loop-member
invariant-loop-member l = l.names.items ++ members_from l.at (drop l.member-index l.members) ≡ member_names l.members
