use Rattle.std.proofs.Common.{bytes_eq}
use Rattle.std.specs.HashMap.{get}
use Rattle.ng_decl_rules.specs.MemberRules.{member_breaks}
use Rattle.ng_breaks.specs.LeastLaws.{least_next}
use Rattle.ng_decl_rules.proofs.member_rules.judge_each.Goals as goal

pub loop-member-preserved : goal.loop-member-preserved
loop-member-preserved c = least_next (member_breaks (get bytes_eq c.args.index.now)) c.args.members.now c.loop-member.member-index c.member-item.result c.args.best.now c.loop-member.best c.judge_member.new.best
    c.loop-member-test.true c.member-item.is c.loop-member.invariant c.in_ok-judge_member.ensures
