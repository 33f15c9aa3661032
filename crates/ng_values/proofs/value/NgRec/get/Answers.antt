use Rattle.std.proofs.Common.{ℕ, List, [], Some, option_map, sym, ap, ◌∙◌}
use Rattle.std.proofs.lemmas.List.{get_or_read}
use Rattle.ng_values.specs.declared.value.Value.{Value}
use Rattle.ng_values.specs.declared.value.Value.TheVariants as v
use Rattle.ng_values.specs.Parts.{found_at}
use Rattle.ng_values.specs.View.{plain}
use Rattle.ng_values.proofs.Keys.{found_at-plain}
use Rattle.ng_values.proofs.value.NgRec.get.Goals as goal

pub returns-in-Ok : goal.returns-in-Ok
returns-in-Ok c =
    let ps = c.pairs-pairs.result.now in
    let k = c.args.key.now in
    ap (λ (q : List ℕ × Value). Some (plain q.1)) (sym c.index-pairs-at.is ∙ get_or_read ps c.in-Ok.at c.index-pairs-at.result c.in-Ok.ensures.0 c.index-pairs-at.is ([], v.Null))
    ∙ sym (ap (λ qs. found_at qs k) (sym c.pairs-pairs.ensures.shown) ∙ found_at-plain k ps ∙ ap (option_map plain) c.in-Ok.ensures.1)

pub returns-in-Err : goal.returns-in-Err
returns-in-Err c =
    let ps = c.pairs-pairs.result.now in
    let k = c.args.key.now in
    sym (ap (λ qs. found_at qs k) (sym c.pairs-pairs.ensures.shown) ∙ found_at-plain k ps ∙ ap (option_map plain) c.in-Err.ensures)
