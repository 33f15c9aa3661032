use Rattle.ng_lex.proofs.Cutting.{cuts_clause, reading_clause, refused_clause}
use Rattle.ng_lex.proofs.spans.tokens.Goals as goal

pub returns-clause-cuts : goal.returns-clause-cuts
returns-clause-cuts c = cuts_clause c.args.text.now c.cut.result c.cut.ensures

pub returns-clause-reading : goal.returns-clause-reading
returns-clause-reading c = reading_clause c.args.text.now c.cut.result c.cut.ensures

pub returns-clause-refused : goal.returns-clause-refused
returns-clause-refused c = refused_clause c.args.text.now c.cut.result c.cut.ensures
