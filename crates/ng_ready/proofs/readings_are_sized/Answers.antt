use Rattle.ng_ready.proofs.Readings.{sized}
use Rattle.ng_ready.proofs.readings_are_sized.Goals as goal

pub returns : goal.returns
returns c = sized
