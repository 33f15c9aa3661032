use Rattle.std.proofs.Common.{refl, arith}
use Rattle.ng_ast.proofs.Finds.{is_counted, not_counted, not_there}
use Rattle.ng_ast.proofs.Template.node.Goals as goal

pub returns-in-Ok-clause-some : goal.returns-in-Ok-clause-some
returns-in-Ok-clause-some c = (λ h. is_counted c.args.self.now.nodes c.args.n c.in-Ok.node.now (rw c.as_slice.ensures at c.in-Ok.ensures), λ h. refl)

pub returns-in-Err-clause-exact : goal.returns-in-Err-clause-exact
returns-in-Err-clause-exact c = not_there c.args.self.now.nodes c.args.n c.in-Err.field-0 (rw c.as_slice.ensures at c.in-Err.ensures)

pub returns-in-Err-clause-some : goal.returns-in-Err-clause-some
returns-in-Err-clause-some c =
    let past = not_counted c.args.self.now.nodes c.args.n c.in-Err.field-0 (rw c.as_slice.ensures at c.in-Err.ensures) in
    (λ h. cc, λ h. absurd (omega (arith, past)))
