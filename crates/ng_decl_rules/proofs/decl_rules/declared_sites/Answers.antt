use Rattle.std.proofs.Common.{◌∙◌, ◌++◌, ap}
use Rattle.ng_breaks.specs.LeastLaws.{flat_map_next}
use Rattle.ng_decl_rules.specs.DeclRules.{declared_site}
use Rattle.ng_decl_rules.proofs.decl_rules.declared_sites.Goals as goal

pub loop-decl-preserved : goal.loop-decl-preserved
loop-decl-preserved c = c.in_ok-push_declared.ensures ∙ ap (λ l. l ++ declared_site c.decl-item.result) c.loop-decl.invariant
    ∙ flat_map_next declared_site c.args.decls.now c.loop-decl.decl-index c.decl-item.result c.loop-decl-test.true c.decl-item.is
