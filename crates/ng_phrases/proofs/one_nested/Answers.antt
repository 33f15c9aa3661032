use Rattle.ng_phrases.specs.Closed.{nobody}
use Rattle.ng_phrases.proofs.Nested.{exact_below}
use Rattle.ng_phrases.proofs.Agreement.{agree_any}
use Rattle.ng_phrases.proofs.one_nested.Goals as goal

pub returns : goal.returns
returns g c = record { exact = exact_below nobody g.G.RecursiveGrammar.phrase; one = agree_any g.G.RecursiveGrammar.phrase }
