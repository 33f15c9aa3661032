use Rattle.std.proofs.Common.{◌≡◌, take}
use Rattle.std.specs.List.{flat_map}
use Rattle.ng_decl_rules.specs.MemberRules.{init_site}
use Rattle.ng_decl_rules.proofs.member_rules.init_sites.Given as goal

abbrev pub invariant-loop-member : goal.invariant-loop-member
invariant-loop-member l = l.sites.items ≡ flat_map init_site (take l.member-index l.members)
