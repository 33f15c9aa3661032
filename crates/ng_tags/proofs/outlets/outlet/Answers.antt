use Rattle.std.proofs.Common.{sym, ◌∙◌, subst, arith}
use Rattle.std.specs.Prelude.{false, []}
use Rattle.ng_tokens.specs.Lexis.{Lexes}
use Rattle.ng_tags.proofs.OutletAnswers.{whole_form, more_left, whole_halts, unscanned_halts, no_tokens, some_tokens}
use Rattle.ng_tags.proofs.outlets.outlet.Goals as goal

pub tokens_of-requires : goal.tokens_of-requires
tokens_of-requires c = c.requires

pub returns-in-Err : goal.returns-in-Err
returns-in-Err c = unscanned_halts c.args.place c.args.text.now c.in-Err.stop c.in-Err.ensures

pub form-requires-clause-cursor : goal.form-requires-clause-cursor
form-requires-clause-cursor c = record { lexes = subst (λ k. Lexes false c.args.place c.args.text.now k []) (sym c.as_slice.ensures.value) c.in-Ok.ensures; fits = c.requires }

pub form-requires-clause-most : goal.form-requires-clause-most
form-requires-clause-most c = omega arith

pub returns-then-is_empty : goal.returns-then-is_empty
returns-then-is_empty c =
    whole_form c.args.place c.args.text.now (record { text = c.args.text; place = c.args.place; tokens = c.as_slice.result }) (subst (λ k. Lexes false c.args.place c.args.text.now k []) (sym c.as_slice.ensures.value) c.in-Ok.ensures)
    c.in-Ok-form.found c.in-Ok-form.rest c.in-Ok-form.ensures (no_tokens c.in-Ok-form.rest.tokens.now (sym c.is_empty.ensures ∙ c.if-is_empty.true))

pub returns-in-Ok-form : goal.returns-in-Ok-form
returns-in-Ok-form c =
    more_left c.args.place c.args.text.now (record { text = c.args.text; place = c.args.place; tokens = c.as_slice.result }) (subst (λ k. Lexes false c.args.place c.args.text.now k []) (sym c.as_slice.ensures.value) c.in-Ok.ensures)
    c.in-Ok-form.found c.in-Ok-form.rest c.in-Ok-form.ensures (some_tokens c.in-Ok-form.rest.tokens.now (sym c.is_empty.ensures ∙ c.if-is_empty.false))

pub returns : goal.returns
returns c =
    whole_halts c.args.place c.args.text.now (record { text = c.args.text; place = c.args.place; tokens = c.as_slice.result }) (subst (λ k. Lexes false c.args.place c.args.text.now k []) (sym c.as_slice.ensures.value) c.in-Ok.ensures)
    c.in-Err-form.stop c.in-Err-form.ensures
