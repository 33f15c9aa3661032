use Rattle.std.proofs.Common.{bytes_eq}
use Rattle.std.specs.HashMap.{get}
use Rattle.ng_decl_rules.specs.DeclRules.{each_breaks}
use Rattle.ng_breaks.specs.LeastLaws.{least_next}
use Rattle.ng_decl_rules.proofs.decl_rules.judge_all.Goals as goal

pub loop-decl-preserved : goal.loop-decl-preserved
loop-decl-preserved c = least_next (each_breaks (get bytes_eq c.args.index.now)) c.args.decls.now c.loop-decl.decl-index c.decl-item.result c.args.best.now c.loop-decl.best c.judge_each.new.best
    c.loop-decl-test.true c.decl-item.is c.loop-decl.invariant c.in_ok-judge_each.ensures
