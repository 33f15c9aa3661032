use Rattle.std.proofs.Common.{Err, refl}
use Rattle.ng_templates.proofs.Public.{one_tree, refused_as, exact}
use Rattle.ng_templates.proofs.read.read_template.Goals as goal

pub returns-in-Ok-clause-exact : goal.returns-in-Ok-clause-exact
returns-in-Ok-clause-exact c = λ tree is calm. one_tree c.args.base c.args.text.now (record { place = c.args.base; nodes = c.in-Ok.nodes }) tree (refl, c.in-Ok.ensures.0) is

pub returns-in-Err-clause-exact : goal.returns-in-Err-clause-exact
returns-in-Err-clause-exact c = λ tree is calm.
    exact c.args.base c.args.text.now (Err c.refused.result) tt (refused_as c.args.base c.args.text.now c.in-Err.halt c.refused.result c.in-Err.ensures c.refused.ensures) tree is calm
