use Rattle.std.proofs.Common.{◌≡◌, length, slice_get, option_map, IfOk, refl, sym, ap, ◌∙◌, subst, arith}
use Rattle.std.proofs.lemmas.Option.{slice_get-map, slice_get_read, slice_get_past}
use Rattle.ng_values.specs.Laws.{value_of-plain}
use Rattle.ng_values.specs.Parts.{or_null}
use Rattle.ng_values.specs.View.{plain, plain_items}
use Rattle.ng_values.proofs.parts.nth.Goals as goal

pub returns-then-at-items : goal.returns-then-at-items
returns-then-at-items c =
    let xs = c.args.items.now in
    let x = c.index-items-at.result in
    let found : or_null (slice_get (plain_items xs) c.args.at) ≡ x = ap or_null (slice_get-map plain xs c.args.at ∙ ap (option_map plain) (slice_get_read xs (length xs) c.args.at x refl (omega arith) c.index-items-at.is)) ∙ value_of-plain x in
    subst (λ w. IfOk c.copy.result (λ value. value ≡ w)) (sym found) c.copy.ensures

pub returns-else-at-items : goal.returns-else-at-items
returns-else-at-items c =
    let xs = c.args.items.now in
    sym (ap or_null (slice_get-map plain xs c.args.at ∙ ap (option_map plain) (slice_get_past xs c.args.at (omega arith))))
