use Rattle.ng_tokens.proofs.Tokens.{sound, whole, one_list}
use Rattle.ng_tokens.proofs.lexer.one_scan.Goals as goal

pub returns-clause-sound : goal.returns-clause-sound
returns-clause-sound c = sound

pub returns-clause-complete : goal.returns-clause-complete
returns-clause-complete c = whole

pub returns-clause-one : goal.returns-clause-one
returns-clause-one c = one_list
