use Rattle.std.proofs.Common.{sym, ◌∙◌, refl}
use Rattle.ng_heads.proofs.TestLaws.{is_round, not_round}
use Rattle.ng_heads.proofs.ExtraLaws.{loop_start, loop_more, loop_shorter, loop_end, loop_stops}
use Rattle.ng_heads.proofs.extras.read_extras.Goals as goal

pub parts-init : goal.parts-init
parts-init c = loop_start c.args.at _ refl c.new.ensures

pub returns-then-is : goal.returns-then-is
returns-then-is c = loop_end c.args.at c.parts.extras c.parts.rest c.parts.invariant (is_round c.parts.rest.text.now (sym c.is.ensures ∙ c.if-is.true))

pub returns-in-Err : goal.returns-in-Err
returns-in-Err c = loop_stops c.args.at c.parts.extras c.part.new.extras c.parts.rest c.in-Err.stop c.parts.invariant (not_round c.parts.rest.text.now (sym c.is.ensures ∙ c.if-is.false)) c.in-Err.ensures

pub parts-preserved : goal.parts-preserved
parts-preserved c = loop_more c.args.at c.parts.extras _ c.parts.rest c.in-Ok.next c.parts.invariant c.in-Ok.ensures

pub parts-smaller : goal.parts-smaller
parts-smaller c = loop_shorter c.parts.rest c.parts.extras _ c.in-Ok.next c.in-Ok.ensures
