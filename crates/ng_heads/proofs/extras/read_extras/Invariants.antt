use Rattle.std.proofs.Common.{length}
use Rattle.ng_heads.proofs.ExtraLaws.{Loop}
use Rattle.ng_heads.proofs.extras.read_extras.Given as goal

abbrev pub invariant-parts : goal.invariant-parts
invariant-parts l = Loop l.fn.at l.extras l.rest

abbrev pub decreases-parts : goal.decreases-parts
decreases-parts l = length l.rest.text.now
