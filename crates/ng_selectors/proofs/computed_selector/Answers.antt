use Rattle.ng_selectors.proofs.Complete.{complete}
use Rattle.ng_selectors.proofs.Sound.{sound}
use Rattle.ng_selectors.proofs.computed_selector.Goals as goal

pub returns : goal.returns
returns c = λ t s. (sound t s, complete t s)
