use Rattle.ng_heads.proofs.BlockLaws.{brace_clause}
use Rattle.ng_heads.proofs.heads.is_brace.Goals as goal

pub returns : goal.returns
returns c = brace_clause c.args.at c.blank-end.result c.is.result c.blank-end.ensures c.is.ensures
