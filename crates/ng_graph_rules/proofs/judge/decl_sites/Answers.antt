use Rattle.std.proofs.Common.{refl}
use Rattle.ng_graph_rules.specs.CycleRules.{decl_site}
use Rattle.ng_graph_rules.proofs.OneMore.{mapped_more}
use Rattle.ng_graph_rules.proofs.judge.decl_sites.Goals as goal

pub loop-decl-preserved : goal.loop-decl-preserved
loop-decl-preserved c = mapped_more decl_site c.args.decls.now c.loop-decl.decl-index c.decl-item.result (decl_site c.decl-item.result) c.loop-decl.sites.items c.push_decl.new.sites.items
    c.loop-decl-test.true c.decl-item.is c.loop-decl.invariant c.in_ok-push_decl.ensures refl
