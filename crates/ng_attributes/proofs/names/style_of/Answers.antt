use Rattle.std.proofs.Common.{sym, ◌∙◌, ap}
use Rattle.std.specs.Prelude.{Some, None}
use Rattle.ng_lex.specs.declared.attributes.NameForm.TheVariants as f
use Rattle.ng_lex.specs.Names.{is_part}
use Rattle.ng_attributes.proofs.WordLaws.{empty_is, some_is, style_unit, style_bare, style_bad, style_other}
use Rattle.ng_attributes.proofs.names.style_of.Goals as goal

pub returns-in_ok-style : goal.returns-in_ok-style
returns-in_ok-style c =
    ap (λ k. Some (f.Style k None)) c.in_ok-style.ensures
    ∙ sym (style_bare c.args.text.now c.split.result.0.now c.split.result.1.now c.split.ensures (empty_is _ (sym c.is_empty.ensures ∙ c.if-is_empty.true)) (ap is_part (sym c.as_bytes.ensures.value) ∙ sym c.is_part.ensures ∙ c.if-not-is_part.false))

pub returns-else-is_empty : goal.returns-else-is_empty
returns-else-is_empty c = sym (style_other c.args.text.now c.split.result.0.now c.split.result.1.now c.split.ensures c.in_default.ensures (some_is _ (sym c.is_empty.ensures ∙ c.if-is_empty.false)))

pub returns-then-not-is_part-2 : goal.returns-then-not-is_part-2
returns-then-not-is_part-2 c =
    sym (style_bad c.args.text.now c.split.result.0.now c.split.result.1.now c.in-Some.unit.now c.split.ensures c.in-Some.ensures.1 (ap is_part (sym c.as_bytes.ensures.value) ∙ sym c.is_part.ensures ∙ c.if-not-is_part.false)
    (ap is_part (sym c.as_bytes-2.ensures.value) ∙ sym c.is_part-2.ensures ∙ c.if-not-is_part-2.true))

pub returns : goal.returns
returns c =
    ap (λ k. Some (f.Style k (Some c.in_ok-unit.unit))) c.in_ok-style-2.ensures ∙ ap (λ k. Some (f.Style c.split.result.0.now (Some k))) c.in_ok-unit.ensures
    ∙ sym (style_unit c.args.text.now c.split.result.0.now c.split.result.1.now c.in-Some.unit.now c.split.ensures c.in-Some.ensures.1 (ap is_part (sym c.as_bytes.ensures.value) ∙ sym c.is_part.ensures ∙ c.if-not-is_part.false)
    (ap is_part (sym c.as_bytes-2.ensures.value) ∙ sym c.is_part-2.ensures ∙ c.if-not-is_part-2.false))
