use Rattle.ng_meaning.proofs.Escapes.{escaped_apart, escaped_value_apart}
use Rattle.ng_meaning.proofs.laws.printing_tells_texts_apart.Goals as goal

pub returns : goal.returns
returns c = record { texts = escaped_apart; values = escaped_value_apart }
