use Rattle.std.proofs.Common.{List, ℕ, subst}
use Rattle.std.proofs.lemmas.Result.{err_from_is_err_and}
use Rattle.ng_exprs.specs.Reading.{Refused}
use Rattle.ng_templates.specs.Reading.{NoTemplate, OverTemplate}
use Rattle.ng_app.proofs.Filled.{component_refused}
use Rattle.ng_app.proofs.fill.component.Goals as goal

pub returns-in_err-template : goal.returns-in_err-template
returns-in_err-template c =
    let o = c.args.outline in
    let p = err_from_is_err_and c.from_residual.result c.from_residual.ensures.1 in
    let refused = subst (λ (t : List ℕ). Refused (NoTemplate o.template.place t) (OverTemplate o.template.place t) c.in_err-template.field-0.0) c.as_str.ensures c.in_err-template.ensures.refused in
    rw (p.1, p.2) (component_refused o c.in_err-template.field-0.0 refused)
