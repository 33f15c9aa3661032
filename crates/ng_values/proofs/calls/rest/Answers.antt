use Rattle.std.proofs.Common.{take, drop, sym, ap, ◌∙◌}
use Rattle.std.proofs.Math.Seq.{take-length}
use Rattle.std.proofs.lemmas.List.{drop-map, length-drop}
use Rattle.ng_values.specs.View.{plain, plain_items}
use Rattle.ng_values.proofs.calls.rest.Goals as goal

pub returns-then-number-items : goal.returns-then-number-items
returns-then-number-items c =
    let xs = c.args.items.now in
    let n = c.args.number in
    ap (λ k. plain_items (take k (drop n xs))) (sym (length-drop n xs)) ∙ ap plain_items (take-length (drop n xs)) ∙ sym (drop-map plain n xs)
