use Rattle.ng_phrases.specs.Closed.{nobody}
use Rattle.ng_phrases.specs.TokensLaws.{exact_token, agree_token, token_takes_some}
use Rattle.ng_phrases.proofs.one_token.Goals as goal

pub returns : goal.returns
returns c = record { exact = exact_token nobody; one = agree_token; some = token_takes_some }
