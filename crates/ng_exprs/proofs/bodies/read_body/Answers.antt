use Rattle.std.specs.Prelude.{true}
use Rattle.ng_exprs.specs.Bodies.{ReadsWhole}
use Rattle.ng_exprs.specs.Awaits.{AwaitsBody}
use Rattle.ng_exprs.proofs.Phrases.{phrase_reads, phrase_within, phrase_refused, phrase_exact}
use Rattle.ng_exprs.proofs.BlocksPublic.{body_inside, body_one, unlimited_body}
use Rattle.ng_exprs.proofs.bodies.read_body.Goals as goal

pub returns-clause-reads : goal.returns-clause-reads
returns-clause-reads c = phrase_reads true _ ReadsWhole (AwaitsBody 0) _ _ _ c.read_text.ensures

pub returns-clause-within : goal.returns-clause-within
returns-clause-within c = phrase_within true _ ReadsWhole (AwaitsBody 0) body_inside _ _ _ c.read_text.ensures

pub returns-clause-refused : goal.returns-clause-refused
returns-clause-refused c = phrase_refused true _ ReadsWhole (AwaitsBody 0) _ _ _ c.read_text.ensures

pub returns-clause-exact : goal.returns-clause-exact
returns-clause-exact c = phrase_exact true _ ReadsWhole (AwaitsBody 0) body_one unlimited_body _ _ _ c.read_text.ensures
