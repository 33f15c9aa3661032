use Rattle.std.proofs.Common.{◌≡◌, IfOk, sym, subst, arith}
use Rattle.std.proofs.lemmas.List.{get_or_read, get_or_past}
use Rattle.ng_values.specs.declared.value.Value.TheVariants as v
use Rattle.ng_values.proofs.calls.argument.Goals as goal

pub returns-then-at-args : goal.returns-then-at-args
returns-then-at-args c =
    let read = get_or_read c.args.args.now c.args.at c.index-args-at.result (omega arith) c.index-args-at.is v.Null in
    subst (λ w. IfOk c.copy.result (λ value. value ≡ w)) read c.copy.ensures

pub returns-else-at-args : goal.returns-else-at-args
returns-else-at-args c = sym (get_or_past c.args.args.now c.args.at v.Null (omega arith))
