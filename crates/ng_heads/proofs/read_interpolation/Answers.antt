use Rattle.ng_lex.specs.declared.kinds.TokenKind.TheVariants as kind
use Rattle.ng_heads.proofs.Public.{reads_clause, refused_clause, exact_clause}
use Rattle.ng_heads.proofs.read_interpolation.Goals as goal

pub returns-clause-reads : goal.returns-clause-reads
returns-clause-reads c = reads_clause kind.Interpolation c.args.place c.args.text.now c.interpolation.result c.interpolation.ensures

pub returns-clause-refused : goal.returns-clause-refused
returns-clause-refused c = refused_clause kind.Interpolation c.args.place c.args.text.now c.interpolation.result c.interpolation.ensures

pub returns-clause-exact : goal.returns-clause-exact
returns-clause-exact c = λ markup e w calm. exact_clause kind.Interpolation tt c.args.place c.args.text.now c.interpolation.result c.interpolation.ensures markup e w calm
