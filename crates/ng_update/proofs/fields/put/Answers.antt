use Rattle.std.proofs.Common.{◌≡◌, set, get_or, true, false, sym, ap, ◌∙◌, arith, w64, to_z, of_z}
use Rattle.std.specs.Str.{bytes_eq}
use Rattle.std.proofs.lemmas.Int.{to_z-of_z}
use Rattle.ng_values.specs.declared.value.Value.TheVariants as value
use Rattle.ng_semantics.specs.Text.{look, put_at}
use Rattle.ng_update.specs.Fields.{world_of, names_in}
use Rattle.ng_update.proofs.Lists.{take_end}
use Rattle.ng_update.proofs.Worlds.{none_more, put_absent, put_here, names_kept}
use Rattle.ng_update.proofs.fields.put.Goals as goal

pub returns-then-eq-clause-values : goal.returns-then-eq-clause-values
returns-then-eq-clause-values c =
    let fs = c.loop-i.fields in
    let i = c.loop-i.i in
    let name = c.args.name.now in
    let first = c.index-fields-i.result in
    let again = c.index-fields-i-then-eq.result in
    let named : c.as_str.result.now ≡ (get_or fs i first).name = c.as_str.ensures in
    let same : bytes_eq name (get_or fs i first).name ≡ true = ap (bytes_eq name) (sym named) ∙ sym c.eq.ensures ∙ c.if-eq.true in
    ap (λ v. world_of (set fs i (record { name = (get_or fs i again).name; value = v }))) (to_z-of_z w64 c.args.value c.ranges.value)
    ∙ put_here name c.args.value fs i first again c.loop-i.invariant.none (omega arith) same
    ∙ ap (λ gs. put_at name (value.Int c.args.value) (world_of gs)) c.loop-i.invariant.same

pub returns-then-eq-clause-names : goal.returns-then-eq-clause-names
returns-then-eq-clause-names c =
    names_kept (to_z w64 (of_z w64 c.args.value)) c.loop-i.fields c.loop-i.i c.index-fields-i-then-eq.result (omega arith) ∙ ap names_in c.loop-i.invariant.same

pub loop-i-preserved : goal.loop-i-preserved
loop-i-preserved c =
    let fs = c.loop-i.fields in
    let i = c.loop-i.i in
    let name = c.args.name.now in
    let first = c.index-fields-i.result in
    let named : c.as_str.result.now ≡ (get_or fs i first).name = c.as_str.ensures in
    let other : bytes_eq name (get_or fs i first).name ≡ false = ap (bytes_eq name) (sym named) ∙ sym c.eq.ensures ∙ c.if-eq.false in
    record { same = c.loop-i.invariant.same; none = none_more name fs i first c.loop-i.invariant.none (omega arith) other }

pub returns-clause-values : goal.returns-clause-values
returns-clause-values c =
    let fs = c.loop-i.fields in
    let name = c.args.name.now in
    sym (put_absent name (value.Int c.args.value) (world_of fs) (ap (λ gs. look name (world_of gs)) (sym (take_end fs c.loop-i.i (omega arith))) ∙ c.loop-i.invariant.none))
    ∙ ap (λ gs. put_at name (value.Int c.args.value) (world_of gs)) c.loop-i.invariant.same
