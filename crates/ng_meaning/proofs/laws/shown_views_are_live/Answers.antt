use Rattle.ng_meaning.specs.Laws.Visited.{pass-ShowsLive}
use Rattle.ng_meaning.proofs.laws.shown_views_are_live.Goals as goal

pub returns : goal.returns
returns c = pass-ShowsLive
