use Rattle.ng_lex.specs.declared.kinds.TokenKind.TheVariants as kind
use Rattle.ng_tags.proofs.Tagging.{reads_clause, refused_clause, start_exact}
use Rattle.ng_tags.proofs.tags.read_start.Goals as goal

pub returns-clause-reads : goal.returns-clause-reads
returns-clause-reads c = reads_clause kind.Start (record { text = c.args.text; place = c.args.place }) c.start.result c.token.result c.start.ensures c.token.ensures

pub returns-clause-refused : goal.returns-clause-refused
returns-clause-refused c = refused_clause kind.Start (record { text = c.args.text; place = c.args.place }) c.start.result c.token.result c.start.ensures c.token.ensures

pub returns-clause-exact : goal.returns-clause-exact
returns-clause-exact c = start_exact (record { text = c.args.text; place = c.args.place }) c.start.result c.token.result c.start.ensures c.token.ensures
