use Rattle.ng_meaning.specs.Laws.Growing.{pass-IsInOrder}
use Rattle.ng_meaning.specs.Laws.Turns.{turns-AreInOrder}
use Rattle.ng_meaning.proofs.laws.paths_are_in_order.Goals as goal

pub returns : goal.returns
returns c = record { in_passes = pass-IsInOrder; in_runs = turns-AreInOrder }
