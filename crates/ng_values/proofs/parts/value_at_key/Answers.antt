use Rattle.std.proofs.Common.{◌≡◌, IfOk, sym, ap, ◌∙◌, subst}
use Rattle.ng_values.specs.Laws.{value_of-plain}
use Rattle.ng_values.specs.Parts.{or_null}
use Rattle.ng_values.proofs.parts.value_at_key.Goals as goal

pub returns-in-Some : goal.returns-in-Some
returns-in-Some c =
    subst (λ w. IfOk c.copy.result (λ value. value ≡ w)) (sym (value_of-plain c.in-Some.value.now) ∙ ap or_null c.in-Some.ensures) c.copy.ensures
