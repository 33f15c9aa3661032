use Rattle.std.proofs.Common.{sym}
use Rattle.ng_tokens.proofs.Scanning.{is_end}
use Rattle.ng_attributes.proofs.PieceSteps.{pieces_more, pieces_end, pieces_halt, no_letters}
use Rattle.ng_attributes.proofs.pieces.pieces.Goals as goal

pub loop-rest-preserved : goal.loop-rest-preserved
loop-rest-preserved c = record {
  goes = rw c.in_ok-push-in-Ok.ensures.ok (pieces_more _ _ _ c.in-Ok.one c.in-Ok.more c.loop-rest.invariant.goes c.in-Ok.ensures);
  spelled = c.in-Ok.ensures.spelled;
}

pub returns-in-Err : goal.returns-in-Err
returns-in-Err c = pieces_halt _ _ _ c.in-Err.stop c.loop-rest.invariant.goes c.in-Err.ensures

pub returns : goal.returns
returns c = pieces_end _ _ _ c.loop-rest.invariant.goes (no_letters c.loop-rest.rest c.loop-rest.invariant.spelled (is_end _ (sym c.loop-rest-test.ensures)))
