use Rattle.std.specs.Prelude.{refl}
use Rattle.ng_meaning.specs.Runs.{settled}
use Rattle.ng_meaning.specs.Laws.Holding.{held-ShowsSame}
use Rattle.ng_meaning.proofs.laws.holding_each_event_changes_nothing.Goals as goal

pub returns : goal.returns
returns c = λ app every es z acts. held-ShowsSame app every es acts (settled z) refl refl
