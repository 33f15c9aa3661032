use Rattle.ng_scopes.specs.Names.{nothing}
use Rattle.ng_scopes.specs.Scope.{kept_in}
use Rattle.ng_graph_rules.specs.CycleRules.{getter_row}
use Rattle.ng_graph_rules.proofs.OneMore.{mapped_more}
use Rattle.ng_graph_rules.proofs.getters.rows_in.Goals as goal

pub loop-member-preserved : goal.loop-member-preserved
loop-member-preserved c = mapped_more (getter_row (kept_in c.args.table.now nothing 0)) c.args.members.now c.loop-member.member-index c.member-item.result c.in_ok-row.row c.loop-member.rows.items c.push.new.self.items
    c.loop-member-test.true c.member-item.is c.loop-member.invariant c.in_ok-push.ensures.items c.in_ok-row.ensures
