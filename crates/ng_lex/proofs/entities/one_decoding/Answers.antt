use Rattle.ng_lex.proofs.Decoding.{one_decoding}
use Rattle.ng_lex.proofs.entities.one_decoding.Goals as goal

pub returns : goal.returns
returns c = one_decoding
