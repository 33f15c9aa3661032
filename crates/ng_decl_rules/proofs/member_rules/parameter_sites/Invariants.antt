use Rattle.std.proofs.Common.{◌≡◌, take}
use Rattle.ng_decl_rules.specs.MemberRules.{parameter_sites}
use Rattle.ng_decl_rules.proofs.member_rules.parameter_sites.Given as goal

abbrev pub invariant-loop-param : goal.invariant-loop-param
invariant-loop-param l = l.sites.items ≡ parameter_sites l.place (take l.param-index l.params)
