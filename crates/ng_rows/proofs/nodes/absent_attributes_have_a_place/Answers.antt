use Rattle.std.proofs.Common.{refl}
use Rattle.ng_meaning.specs.Compute.{everything}
use Rattle.ng_rows.proofs.nodes.absent_attributes_have_a_place.Goals as goal

pub returns-clause-element : goal.returns-clause-element
unfolding everything
returns-clause-element c = refl

pub returns-clause-root : goal.returns-clause-root
unfolding everything
returns-clause-root c = refl

pub returns-clause-others : goal.returns-clause-others
unfolding everything
returns-clause-others c = refl
