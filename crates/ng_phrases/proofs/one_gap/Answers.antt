use Rattle.ng_phrases.specs.Closed.{nobody}
use Rattle.ng_phrases.specs.TokensLaws.{exact_gap, agree_gap}
use Rattle.ng_phrases.proofs.one_gap.Goals as goal

pub returns : goal.returns
returns c = record { exact = exact_gap nobody; one = agree_gap }
