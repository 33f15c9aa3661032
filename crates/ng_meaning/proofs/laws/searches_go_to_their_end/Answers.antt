use Rattle.ng_meaning.specs.Laws.Above.{environments-Enough}
use Rattle.ng_meaning.specs.Laws.Searches.{search-Goes-on}
use Rattle.ng_meaning.proofs.laws.searches_go_to_their_end.Goals as goal

pub returns : goal.returns
returns c = record { steps = search-Goes-on; environments = environments-Enough }
