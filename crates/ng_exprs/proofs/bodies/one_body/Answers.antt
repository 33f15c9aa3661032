use Rattle.std.specs.Prelude.{true}
use Rattle.ng_exprs.specs.Bodies.{ReadsWhole}
use Rattle.ng_exprs.specs.Awaits.{AwaitsBody}
use Rattle.ng_exprs.proofs.Phrases.{one_phrase}
use Rattle.ng_exprs.proofs.BlocksPublic.{body_one}
use Rattle.ng_exprs.proofs.bodies.one_body.Goals as goal

pub returns : goal.returns
returns c = one_phrase true _ ReadsWhole (AwaitsBody 0) body_one
