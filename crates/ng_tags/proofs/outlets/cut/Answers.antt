use Rattle.ng_tags.proofs.Cuts.{cut_boundary, cut_order}
use Rattle.ng_tags.proofs.outlets.cut.Goals as goal

pub overflow_sub-to : goal.overflow_sub-to
overflow_sub-to c = cut_order c.args.text.now c.args.from c.args.to c.requires

pub split_at-requires : goal.split_at-requires
split_at-requires c = cut_boundary c.args.text.now c.args.from c.args.to c.requires c.utf8.text
