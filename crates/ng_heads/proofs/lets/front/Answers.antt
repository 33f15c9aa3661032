use Rattle.ng_heads.proofs.LetLaws.{no_let, no_let_gap, no_let_name, no_let_equals, at_let_front}
use Rattle.ng_heads.proofs.lets.front.Goals as goal

pub returns-in_err-word : goal.returns-in_err-word
returns-in_err-word c = rw c.from_residual.ensures (no_let c.args.at c.in_err-word.ensures)

pub returns-in_err-gap : goal.returns-in_err-gap
returns-in_err-gap c = rw c.from_residual-in_err-gap.ensures (no_let_gap c.args.at c.in_ok-word.word c.in_ok-word.ensures c.in_err-gap.ensures)

pub returns-in_err-name : goal.returns-in_err-name
returns-in_err-name c = rw c.from_residual-in_err-name.ensures (no_let_name c.args.at c.in_ok-word.word c.in_ok-word.ensures c.in_ok-gap.gap c.in_ok-gap.ensures.1 c.in_err-name.ensures)

pub returns-in_err-value : goal.returns-in_err-value
returns-in_err-value c =
    rw c.from_residual-in_err-value.ensures (no_let_equals c.args.at c.in_ok-word.word c.in_ok-word.ensures c.in_ok-gap.gap c.in_ok-gap.ensures.1 c.in_ok-name.name c.in_ok-name.rest c.in_ok-name.ensures.1 c.blank-end.result c.blank-end.ensures c.in_err-value.ensures)

pub returns : goal.returns
returns c =
    at_let_front c.args.at c.in_ok-word.word c.in_ok-word.ensures c.in_ok-gap.gap c.in_ok-gap.ensures.1 c.in_ok-name.name c.in_ok-name.rest c.in_ok-name.ensures.1 c.blank-end.result c.blank-end.ensures c.in_ok-value.value c.in_ok-gap.ensures.0 c.in_ok-name.ensures.0 c.in_ok-value.ensures
