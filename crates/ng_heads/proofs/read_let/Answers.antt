use Rattle.ng_lex.specs.declared.kinds.TokenKind.TheVariants as kind
use Rattle.ng_heads.proofs.Public.{reads_clause, refused_clause, exact_clause}
use Rattle.ng_heads.proofs.read_let.Goals as goal

pub returns-clause-reads : goal.returns-clause-reads
returns-clause-reads c = reads_clause kind.Let c.args.place c.args.text.now c.whole_let.result c.whole_let.ensures

pub returns-clause-refused : goal.returns-clause-refused
returns-clause-refused c = refused_clause kind.Let c.args.place c.args.text.now c.whole_let.result c.whole_let.ensures

pub returns-clause-exact : goal.returns-clause-exact
returns-clause-exact c = λ markup e w calm. exact_clause kind.Let tt c.args.place c.args.text.now c.whole_let.result c.whole_let.ensures markup e w calm
