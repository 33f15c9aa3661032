use Rattle.ng_lex.proofs.Cutting.{found_clause, exact_clause, span_within}
use Rattle.ng_lex.proofs.Boundaries.{boundary_clause}
use Rattle.ng_lex.proofs.spans.span.Goals as goal

pub returns-clause-found : goal.returns-clause-found
returns-clause-found c = found_clause c.args.text.now c.find.result c.find.ensures

pub returns-clause-exact : goal.returns-clause-exact
returns-clause-exact c = exact_clause c.args.text.now c.find.result c.find.ensures

pub returns-clause-within : goal.returns-clause-within
returns-clause-within c = span_within c.args.text.now c.find.result c.find.ensures

pub returns-clause-boundary : goal.returns-clause-boundary
returns-clause-boundary c = boundary_clause c.args.text.now c.find.result c.find.ensures c.utf8.text
