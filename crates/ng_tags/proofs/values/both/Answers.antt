use Rattle.std.proofs.Common.{ap}
use Rattle.ng_ast.specs.declared.AttrForm.TheVariants as a
use Rattle.ng_tags.proofs.values.both.Goals as goal

pub returns-in_ok-new-in-Some : goal.returns-in_ok-new-in-Some
returns-in_ok-new-in-Some c = ((c.in-Some.name.now, c.in-Some.ensures, ap a.Both c.in_ok-new-in-Some.ensures), λ x. x)

pub returns-in-None : goal.returns-in-None
returns-in-None c = λ form h. c.in-None.ensures h.0 h.1
