use Rattle.ng_selectors.proofs.Sound.{one_reading}
use Rattle.ng_selectors.proofs.one_selector.Goals as goal

pub returns : goal.returns
returns c = one_reading
