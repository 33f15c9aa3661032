use Rattle.ng_templates.proofs.Public.{one_tree}
use Rattle.ng_templates.proofs.read.one_template.Goals as goal

pub returns : goal.returns
returns c = one_tree
