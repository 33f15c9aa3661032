use Rattle.ng_tokens.specs.declared.kinds.Sign.TheVariants as s
use Rattle.ng_attributes.proofs.Lengths.{fits_near}
use Rattle.ng_tags.proofs.OutletForms.{sign_within}
use Rattle.ng_tags.proofs.OutletAnswers.{question_is, question_left, test_form, test_limit, test_halts}
use Rattle.ng_tags.proofs.outlets.test.Goals as goal

pub advance-requires-clause-within : goal.advance-requires-clause-within
advance-requires-clause-within c = sign_within c.args.cursor.tokens.now c.args.len s.Question (question_is _ c.requires.asks)

pub expression-requires-clause-size : goal.expression-requires-clause-size
expression-requires-clause-size c = c.advance.ensures.fits.size

pub expression-requires-clause-near : goal.expression-requires-clause-near
expression-requires-clause-near c = fits_near _ _ c.advance.ensures.fits

pub skip-requires-clause-cursor : goal.skip-requires-clause-cursor
skip-requires-clause-cursor c = c.advance.ensures.back

pub skip-requires-clause-within : goal.skip-requires-clause-within
skip-requires-clause-within c = question_left c.args.cursor c.advance.result.1 c.args.len c.requires.asks c.advance.ensures.tokens

pub returns-then-len-budget : goal.returns-then-len-budget
returns-then-len-budget c = test_form c.args.cursor c.advance.result.1 c.args.len c.advance.result.0.now c.requires.top c.requires.asks c.advance.ensures c.in-Ok.found c.args.budget c.skip.result c.in-Ok.ensures.0 c.in-Ok.ensures.1 c.if-len-budget.true c.skip.ensures

pub returns-else-len-budget : goal.returns-else-len-budget
returns-else-len-budget c = test_limit c.args.cursor c.advance.result.1 c.args.len c.advance.result.0.now c.requires.top c.requires.asks c.advance.ensures c.in-Ok.found c.args.budget c.in-Ok.ensures.0 c.if-len-budget.false

pub returns-in-Err : goal.returns-in-Err
returns-in-Err c = test_halts c.args.cursor c.advance.result.1 c.args.len c.advance.result.0.now c.requires.top c.requires.asks c.advance.ensures c.args.budget c.in-Err.stop c.requires.most c.in-Err.ensures
