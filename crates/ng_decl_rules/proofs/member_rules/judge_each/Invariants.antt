use Rattle.std.proofs.Common.{◌≡◌, take, bytes_eq}
use Rattle.std.specs.List.{flat_map}
use Rattle.ng_breaks.specs.Least.{least_of}
use Rattle.std.specs.HashMap.{get}
use Rattle.ng_decl_rules.specs.MemberRules.{member_breaks}
use Rattle.ng_decl_rules.proofs.member_rules.judge_each.Given as goal

abbrev pub invariant-loop-member : goal.invariant-loop-member
invariant-loop-member l = l.best ≡ least_of l.initial.best (flat_map (member_breaks (get bytes_eq l.index)) (take l.member-index l.members))
