use Rattle.ng_phrases.specs.Closed.{nobody}
use Rattle.ng_phrases.proofs.Closed.{exact_closed, agree_closed}
use Rattle.ng_phrases.proofs.one_phrase.Goals as goal

pub returns : goal.returns
returns g c = record { exact = exact_closed nobody g.G.Grammar.phrase; one = agree_closed g.G.Grammar.phrase }
