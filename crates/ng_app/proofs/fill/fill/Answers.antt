use Rattle.std.proofs.lemmas.Result.{err_from_is_err_and}
use Rattle.ng_app.proofs.Filled.{entry_refused}
use Rattle.ng_app.proofs.fill.fill.Goals as goal

pub returns-in_err-component-in-Component : goal.returns-in_err-component-in-Component
returns-in_err-component-in-Component c =
    let p = err_from_is_err_and c.from_residual.result c.from_residual.ensures.1 in
    rw (p.1, p.2, c.in-Component.is) (entry_refused c.in-Component.outline _ c.in_err-component-in-Component.ensures)
