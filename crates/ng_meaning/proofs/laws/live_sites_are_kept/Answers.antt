use Rattle.ng_meaning.specs.Laws.Living.{held_living, is_live-lives}
use Rattle.ng_meaning.proofs.laws.live_sites_are_kept.Goals as goal

pub returns : goal.returns
returns c = record { exactly = held_living; after_pass = is_live-lives }
