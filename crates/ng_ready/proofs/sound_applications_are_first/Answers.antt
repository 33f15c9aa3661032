use Rattle.ng_ready.proofs.Ready.{first}
use Rattle.ng_ready.proofs.sound_applications_are_first.Goals as goal

pub returns : goal.returns
returns c = first
