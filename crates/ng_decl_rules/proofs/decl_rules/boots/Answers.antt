use Rattle.std.proofs.Common.{◌∙◌, ◌++◌, ap}
use Rattle.ng_breaks.specs.LeastLaws.{flat_map_next}
use Rattle.ng_decl_rules.specs.DeclRules.{boot_site}
use Rattle.ng_decl_rules.proofs.decl_rules.boots.Goals as goal

pub loop-decl-preserved : goal.loop-decl-preserved
loop-decl-preserved c = c.in_ok-push_boot.ensures ∙ ap (λ l. l ++ boot_site c.decl-item.result) c.loop-decl.invariant
    ∙ flat_map_next boot_site c.args.decls.now c.loop-decl.decl-index c.decl-item.result c.loop-decl-test.true c.decl-item.is
