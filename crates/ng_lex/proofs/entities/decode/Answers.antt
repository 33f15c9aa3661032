use Rattle.ng_lex.proofs.Reading.{some_clause, none_clause, utf8_clause}
use Rattle.ng_lex.proofs.entities.decode.Goals as goal

pub returns-clause-some : goal.returns-clause-some
returns-clause-some c = some_clause c.args.base c.args.z.now c.read.result c.read.ensures

pub returns-clause-none : goal.returns-clause-none
returns-clause-none c = none_clause c.args.base c.args.z.now c.read.result c.read.ensures

pub returns-clause-utf8 : goal.returns-clause-utf8
returns-clause-utf8 c = utf8_clause c.args.base c.args.z.now c.read.result c.read.ensures
