use Rattle.std.proofs.Common.{refl}
use Rattle.ng_meaning.specs.Compute.{everything}
use Rattle.ng_rows.proofs.nodes.unshown_content_is_live.Goals as goal

pub returns-clause-content : goal.returns-clause-content
unfolding everything
returns-clause-content c = refl

pub returns-clause-host : goal.returns-clause-host
unfolding everything
returns-clause-host c = refl
