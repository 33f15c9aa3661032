use Rattle.ng_exprs.proofs.Whole.{text_reads_one}
use Rattle.ng_exprs.proofs.one_reading.Goals as goal

pub returns : goal.returns
returns c = text_reads_one
