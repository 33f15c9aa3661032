use Rattle.std.proofs.Common.{◌∙◌, ◌++◌, ap}
use Rattle.ng_breaks.specs.LeastLaws.{flat_map_next}
use Rattle.ng_decl_rules.specs.MemberRules.{init_site}
use Rattle.ng_decl_rules.proofs.member_rules.init_sites.Goals as goal

pub loop-member-preserved : goal.loop-member-preserved
loop-member-preserved c = c.in_ok-push_init_site.ensures ∙ ap (λ l. l ++ init_site c.member-item.result) c.loop-member.invariant
    ∙ flat_map_next init_site c.args.members.now c.loop-member.member-index c.member-item.result c.loop-member-test.true c.member-item.is
