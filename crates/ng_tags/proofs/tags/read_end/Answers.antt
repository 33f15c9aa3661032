use Rattle.ng_lex.specs.declared.kinds.TokenKind.TheVariants as kind
use Rattle.ng_tags.proofs.Tagging.{reads_clause, refused_clause, end_exact}
use Rattle.ng_tags.proofs.tags.read_end.Goals as goal

pub returns-clause-reads : goal.returns-clause-reads
returns-clause-reads c = reads_clause kind.End (record { text = c.args.text; place = c.args.place }) c.end.result c.token.result c.end.ensures c.token.ensures

pub returns-clause-refused : goal.returns-clause-refused
returns-clause-refused c = refused_clause kind.End (record { text = c.args.text; place = c.args.place }) c.end.result c.token.result c.end.ensures c.token.ensures

pub returns-clause-exact : goal.returns-clause-exact
returns-clause-exact c = end_exact (record { text = c.args.text; place = c.args.place }) c.end.result c.token.result c.end.ensures c.token.ensures
