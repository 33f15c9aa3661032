use Rattle.std.proofs.Common.{bytes_eq}
use Rattle.std.specs.HashMap.{get}
use Rattle.ng_graph_rules.specs.CycleRules.{pipe_row}
use Rattle.ng_graph_rules.proofs.OneMore.{mapped_more}
use Rattle.ng_graph_rules.proofs.decl_rows.pipe_graph.Goals as goal

pub loop-decl-preserved : goal.loop-decl-preserved
loop-decl-preserved c = mapped_more (pipe_row (get bytes_eq c.args.index.now)) c.args.decls.now c.loop-decl.decl-index c.decl-item.result c.in_ok-row.row c.loop-decl.rows.items c.push.new.self.items
    c.loop-decl-test.true c.decl-item.is c.loop-decl.invariant c.in_ok-push.ensures.items c.in_ok-row.ensures
