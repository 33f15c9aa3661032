use Rattle.ng_meaning.specs.Laws.Visited.{pass-LivesShown}
use Rattle.ng_meaning.proofs.laws.live_views_are_shown.Goals as goal

pub returns : goal.returns
returns c = pass-LivesShown
