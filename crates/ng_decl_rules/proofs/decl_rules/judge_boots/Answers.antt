use Rattle.std.proofs.Common.{◌∙◌, ap, bytes_eq, not}
use Rattle.std.specs.HashMap.{get}
use Rattle.ng_ast.specs.declared.refusals.Rule.TheVariants as rule
use Rattle.ng_breaks.specs.Least.{broken, least_of}
use Rattle.ng_decl_rules.specs.DeclRules.{starts_at}
use Rattle.ng_breaks.specs.LeastLaws.{least_next}
use Rattle.ng_decl_rules.proofs.decl_rules.judge_boots.Goals as goal

pub loop-boot-preserved : goal.loop-boot-preserved
loop-boot-preserved c = least_next (λ s. broken (not (starts_at c.args.decls.now (get bytes_eq c.args.index.now s.name))) rule.N01 s.place s.name) c.args.boots.now c.loop-boot.boot-index c.boot-item.result c.args.best.now c.loop-boot.best c.offer.new.best
    c.loop-boot-test.true c.boot-item.is c.loop-boot.invariant
    (c.in_ok-offer.ensures ∙ ap (λ b. least_of c.loop-boot.best (broken (not b) rule.N01 c.boot-item.result.place c.boot-item.result.name)) (c.starts_at-started.ensures ∙ ap (starts_at c.args.decls.now) c.get.ensures.value))
