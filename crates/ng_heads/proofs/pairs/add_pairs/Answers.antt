use Rattle.ng_heads.proofs.RowLaws.{pairs_none, pairs_more, pairs_last, pairs_stops, pairs_shorter}
use Rattle.ng_heads.proofs.pairs.add_pairs.Goals as goal

pub pairs-init : goal.pairs-init
pairs-init c = pairs_none _ _

pub returns-in-Err : goal.returns-in-Err
returns-in-Err c = pairs_stops _ _ _ c.add_pair.new.vars c.pairs.left c.until.result.0 c.until.result.1 c.in-Err.stop c.pairs.invariant c.until.ensures c.in-Err.ensures

pub pairs-preserved : goal.pairs-preserved
pairs-preserved c = pairs_more _ _ _ _ c.pairs.left c.until.result.0 c.until.result.1 c.in-Some.next c.pairs.invariant c.until.ensures c.in-Ok.ensures c.in-Some.ensures

pub pairs-smaller : goal.pairs-smaller
pairs-smaller c = pairs_shorter c.pairs.left c.until.result.0 c.until.result.1 c.in-Some.next c.until.ensures c.in-Some.ensures

pub returns-in-None : goal.returns-in-None
returns-in-None c = pairs_last _ _ _ _ c.pairs.left c.until.result.0 c.until.result.1 c.pairs.invariant c.until.ensures c.in-Ok.ensures c.in-None.ensures
