use Rattle.ng_heads.proofs.ExtraLaws.{let_adds, let_none}
use Rattle.ng_heads.proofs.pairs.add_part.Goals as goal

pub returns-in-Some : goal.returns-in-Some
returns-in-Some c = let_adds c.args.at c.in-Some.rest _ _ _ c.in-Some.ensures c.add_pairs.ensures

pub returns-in-None : goal.returns-in-None
returns-in-None c = let_none c.args.at.text.now c.in-None.ensures
