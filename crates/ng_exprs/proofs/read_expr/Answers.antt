use Rattle.ng_exprs.proofs.Whole.{reads_clause, refused_clause, exact_clause}
use Rattle.ng_exprs.proofs.read_expr.Goals as goal

pub returns-clause-reads : goal.returns-clause-reads
returns-clause-reads c = reads_clause _ _ _ _ c.read_text.ensures

pub returns-clause-refused : goal.returns-clause-refused
returns-clause-refused c = refused_clause _ _ _ _ c.read_text.ensures

pub returns-clause-exact : goal.returns-clause-exact
returns-clause-exact c = exact_clause _ _ _ _ c.read_text.ensures
