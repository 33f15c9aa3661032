use Rattle.std.proofs.Common.{bytes_eq}
use Rattle.std.specs.HashMap.{get}
use Rattle.ng_decl_rules.specs.MemberRules.{provider_breaks}
use Rattle.ng_breaks.specs.LeastLaws.{least_next}
use Rattle.ng_decl_rules.proofs.decl_rules.judge_provides.Goals as goal

pub loop-provide-preserved : goal.loop-provide-preserved
loop-provide-preserved c = least_next (λ q. provider_breaks (get bytes_eq c.args.index.now) q.0 q.1) c.args.provides.now c.loop-provide.provide-index c.provide-item.result c.args.best.now c.loop-provide.best c.judge_provider.new.best
    c.loop-provide-test.true c.provide-item.is c.loop-provide.invariant c.in_ok-judge_provider.ensures
