use Rattle.ng_heads.proofs.ExtraLaws.{no_track_sign, track_clause}
use Rattle.ng_heads.proofs.extras.after_track.Goals as goal

pub returns-in_err-part : goal.returns-in_err-part
returns-in_err-part c = rw c.from_residual.ensures (no_track_sign c.args.at.text.now c.in_err-part.ensures)

pub returns : goal.returns
returns c = track_clause c.args.at c.in_ok-part.part c.blank-front.result c.in_ok-part.ensures c.blank-front.ensures c.keyword.result c.keyword.ensures
