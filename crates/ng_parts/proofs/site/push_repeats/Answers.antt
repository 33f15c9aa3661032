use Rattle.std.proofs.Common.{arith}
use Rattle.ng_parts.proofs.Repeats.{left_more}
use Rattle.ng_parts.proofs.site.push_repeats.Goals as goal

pub loop-named-preserved : goal.loop-named-preserved
loop-named-preserved c = left_more c.loop-named.seen c.insert.new.self c.loop-named.found.items c.push_if.new.found.items c.args.names.now c.loop-named.named-index c.named-item.result _ c.in_ok-key.key c.in_ok-is_new.is_new
    (omega arith) c.named-item.is c.loop-named.invariant c.in_ok-key.ensures c.in_ok-is_new.ensures.added c.in_ok-is_new.ensures.updates.0 c.in_ok-push_if.ensures
