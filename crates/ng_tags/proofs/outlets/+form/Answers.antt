use Rattle.std.proofs.Common.{rules, refl, sym, ◌∙◌, ap, arith}
use Rattle.ng_tags.specs.Outlets.{is_question}
use Rattle.ng_tags.proofs.OutletAnswers.{right_none, right_limited, right_told, left_told, both_told, chosen}
use Rattle.ng_tags.proofs.outlets.+form.Goals as goal

pub branches-form-requires : goal.branches-form-requires
branches-form-requires t c = (omega (arith, c.decreases), (c.requires.cursor, c.requires.most))

pub branches-returns-in-Err : goal.branches-returns-in-Err
branches-returns-in-Err t c = left_told c.args.room c.args.yes c.args.yes c.args.place c.args.test c.in-Err.stop c.in-Err.ensures

pub branches-right-requires : goal.branches-right-requires
branches-right-requires t c = (omega (arith, c.decreases), (c.in-Ok.ensures.back, c.requires.most))

pub branches-returns-in_err-choice-in-Ok-right : goal.branches-returns-in_err-choice-in-Ok-right
branches-returns-in_err-choice-in-Ok-right t c = search rules

pub branches-returns-in_ok-choice-in-Ok-right : goal.branches-returns-in_ok-choice-in-Ok-right
branches-returns-in_ok-choice-in-Ok-right t c =
    chosen c.args.room c.args.yes c.in-Ok.found.1 c.args.place c.args.test c.in-Ok.found.0 c.in-Ok.ensures c.in-Ok-right.right c.in_ok-choice-in-Ok-right.field-0 c.in-Ok-right.after c.in-Ok-right.ensures c.in_ok-choice-in-Ok-right.ensures

pub branches-returns-in-Err-right : goal.branches-returns-in-Err-right
branches-returns-in-Err-right t c = both_told c.args.room c.args.yes c.in-Ok.found.1 c.args.place c.args.test c.in-Ok.found.0 c.in-Ok.ensures c.in-Err-right.stop c.in-Err-right.ensures

pub form-leaf-requires-clause-cursor : goal.form-leaf-requires-clause-cursor
form-leaf-requires-clause-cursor t c = c.requires.cursor

pub form-leaf-requires-clause-top : goal.form-leaf-requires-clause-top
form-leaf-requires-clause-top t c = c.top_len-len.ensures.value

pub form-leaf-requires-clause-plain : goal.form-leaf-requires-clause-plain
form-leaf-requires-clause-plain t c = ap is_question (sym c.sign.ensures) ∙ sym c.is_question.ensures ∙ c.if-not-is_question.true

pub form-returns-then-not-is_question : goal.form-returns-then-not-is_question
form-returns-then-not-is_question t c = c.leaf.ensures

pub form-test-requires-clause-cursor : goal.form-test-requires-clause-cursor
form-test-requires-clause-cursor t c = c.requires.cursor

pub form-test-requires-clause-top : goal.form-test-requires-clause-top
form-test-requires-clause-top t c = c.top_len-len.ensures.value

pub form-test-requires-clause-asks : goal.form-test-requires-clause-asks
form-test-requires-clause-asks t c = ap is_question (sym c.sign.ensures) ∙ sym c.is_question.ensures ∙ c.if-not-is_question.false

pub form-test-requires-clause-most : goal.form-test-requires-clause-most
form-test-requires-clause-most t c = c.requires.most

pub form-overflow_sub-budget : goal.form-overflow_sub-budget
form-overflow_sub-budget t c = omega (arith, c.in-Ok.ensures.short)

pub form-overflow_sub-budget-in-Ok : goal.form-overflow_sub-budget-in-Ok
form-overflow_sub-budget-in-Ok t c = omega (arith, c.in-Ok.ensures.short)

pub form-branches-requires : goal.form-branches-requires
form-branches-requires t c = (omega (arith, c.decreases, c.in-Ok.ensures.short), (c.in-Ok.ensures.back, omega (arith, c.requires.most)))

pub form-returns-in-Ok : goal.form-returns-in-Ok
form-returns-in-Ok t c = c.branches.ensures c.args.budget c.top_len-len.result c.args.cursor c.top_len-len.ensures.value c.in-Ok.ensures refl c.start_of.ensures

pub form-returns-in-Err : goal.form-returns-in-Err
form-returns-in-Err t c = c.in-Err.ensures

pub right-colon-requires : goal.right-colon-requires
right-colon-requires t c = c.requires.cursor

pub right-returns-in_default : goal.right-returns-in_default
right-returns-in_default t c = right_none c.args.room c.args.yes c.args.rest c.args.rest.place c.in_default.ensures

pub right-returns-then-used-room : goal.right-returns-then-used-room
right-returns-then-used-room t c = right_limited c.args.room c.args.yes c.args.rest c.in-Some.no c.in-Some.ensures c.saturating_sub-used.result c.saturating_sub-used.ensures c.if-used-room.true

pub right-form-requires : goal.right-form-requires
right-form-requires t c = (omega (arith, c.decreases), (c.in-Some.ensures.2, omega (arith, c.requires.most)))

pub right-returns : goal.right-returns
right-returns t c = right_told c.args.room c.args.yes c.args.rest c.in-Some.no c.in-Some.ensures c.saturating_sub-used.result c.saturating_sub-used.ensures c.form.result c.if-used-room.false c.form.ensures
