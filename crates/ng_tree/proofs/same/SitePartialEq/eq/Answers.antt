use Rattle.std.specs.Bool.{one_answer}
use Rattle.ng_tree.specs.Same.{is_same_site_decides}
use Rattle.ng_tree.proofs.same.SitePartialEq.eq.Goals as goal

pub returns : goal.returns
returns c = one_answer _ _ c.same.ensures (is_same_site_decides _ _)
