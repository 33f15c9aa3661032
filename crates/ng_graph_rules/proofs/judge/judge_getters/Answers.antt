use Rattle.ng_graph_rules.proofs.Laws.{takes_next}
use Rattle.ng_graph_rules.proofs.judge.judge_getters.Goals as goal

pub loop-decl-preserved : goal.loop-decl-preserved
loop-decl-preserved c = takes_next c.args.decls.now c.loop-decl.decl-index c.decl-item.result c.members_of.result.now c.args.best.now c.loop-decl.best c.judge_members.new.best
    c.loop-decl-test.true c.decl-item.is c.members_of.ensures c.loop-decl.invariant c.in_ok-judge_members.ensures
