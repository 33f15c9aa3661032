use Rattle.ng_nodes.proofs.Replies.{finish_reads}
use Rattle.ng_nodes.proofs.builder.Builder.finish.Goals as goal

pub returns-clause-reads : goal.returns-clause-reads
returns-clause-reads c = finish_reads c.args.self.state c.finish.result c.finish.ensures
