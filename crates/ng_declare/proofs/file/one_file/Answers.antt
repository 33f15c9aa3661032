use Rattle.ng_declare.proofs.Whole.{one_reading}
use Rattle.ng_declare.proofs.file.one_file.Goals as goal

pub returns : goal.returns
returns c = one_reading
