use Rattle.std.specs.Prelude.{false}
use Rattle.ng_exprs.specs.Statements.{ReadsListener}
use Rattle.ng_exprs.specs.Awaits.{AwaitsListener}
use Rattle.ng_exprs.proofs.Phrases.{one_phrase}
use Rattle.ng_exprs.proofs.LinesPublic.{listener_one}
use Rattle.ng_exprs.proofs.listen.one_listener.Goals as goal

pub returns : goal.returns
returns c = one_phrase false _ ReadsListener AwaitsListener listener_one
