use Rattle.std.specs.Prelude.{false}
use Rattle.ng_exprs.specs.Statements.{ReadsListener}
use Rattle.ng_exprs.specs.Awaits.{AwaitsListener}
use Rattle.ng_exprs.proofs.Phrases.{phrase_reads, phrase_within, phrase_refused, phrase_exact}
use Rattle.ng_exprs.proofs.LinesPublic.{lines_inside, listener_one, unlimited_lines}
use Rattle.ng_exprs.proofs.listen.read_listener.Goals as goal

pub returns-clause-reads : goal.returns-clause-reads
returns-clause-reads c = phrase_reads false _ ReadsListener AwaitsListener _ _ _ c.read_text.ensures

pub returns-clause-within : goal.returns-clause-within
returns-clause-within c = phrase_within false _ ReadsListener AwaitsListener lines_inside _ _ _ c.read_text.ensures

pub returns-clause-refused : goal.returns-clause-refused
returns-clause-refused c = phrase_refused false _ ReadsListener AwaitsListener _ _ _ c.read_text.ensures

pub returns-clause-exact : goal.returns-clause-exact
returns-clause-exact c = phrase_exact false _ ReadsListener AwaitsListener listener_one unlimited_lines _ _ _ c.read_text.ensures
