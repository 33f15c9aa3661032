use Rattle.ng_rules.proofs.Laws.{no_least}
use Rattle.ng_rules.proofs.checker.sound_breaks_nothing.Goals as goal

pub returns : goal.returns
returns c = no_least
