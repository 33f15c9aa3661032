use Rattle.std.proofs.Common.{◌≡◌, take}
use Rattle.ng_graph_rules.specs.CycleRules.{member_sites}
use Rattle.ng_graph_rules.proofs.judge.member_sites.Given as goal

abbrev pub invariant-loop-member : goal.invariant-loop-member
invariant-loop-member l = l.sites.items ≡ member_sites (take l.member-index l.members)
