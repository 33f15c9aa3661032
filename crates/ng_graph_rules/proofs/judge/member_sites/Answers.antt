use Rattle.std.proofs.Common.{refl}
use Rattle.ng_parts.specs.Sites.{site}
use Rattle.ng_graph_rules.proofs.OneMore.{mapped_more}
use Rattle.ng_graph_rules.proofs.judge.member_sites.Goals as goal

pub loop-member-preserved : goal.loop-member-preserved
loop-member-preserved c = mapped_more (λ m. site m.place m.name) c.args.members.now c.loop-member.member-index c.member-item.result (site c.member-item.result.place c.member-item.result.name) c.loop-member.sites.items c.push_site.new.found.items
    c.loop-member-test.true c.member-item.is c.loop-member.invariant c.in_ok-push_site.ensures refl
