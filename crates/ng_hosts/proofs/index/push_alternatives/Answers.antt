use Rattle.std.proofs.Common.{arith}
use Rattle.ng_hosts.proofs.Adding.{adds_more, marked_more}
use Rattle.ng_hosts.proofs.index.push_alternatives.Goals as goal

pub loop-alternative-preserved : goal.loop-alternative-preserved
loop-alternative-preserved c =
    adds_more c.args.index.now c.loop-alternative.index c.push_alternative.new.index _ _ _ c.loop-alternative.invariant c.in_ok-push_alternative.ensures
    (λ w. marked_more c.args.counts.now w c.args.component c.args.ones.now c.loop-alternative.alternative c.index-ones-alternative.result (omega arith) c.index-ones-alternative.is)
