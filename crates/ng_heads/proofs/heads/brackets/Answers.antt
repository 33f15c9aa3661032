use Rattle.ng_heads.proofs.BlockLaws.{no_bracket_sign, not_in_brackets, in_brackets}
use Rattle.ng_heads.proofs.heads.brackets.Goals as goal

pub returns-in_err-inside : goal.returns-in_err-inside
returns-in_err-inside c = rw c.from_residual.ensures (no_bracket_sign c.args.at c.blank-front.result c.blank-front.ensures c.in_err-inside.ensures)

pub returns-in_err-len : goal.returns-in_err-len
returns-in_err-len c = rw c.from_residual-in_err-len.ensures (not_in_brackets c.args.at c.blank-front.result c.in_ok-inside.inside c.blank-front.ensures c.in_ok-inside.ensures c.in_err-len.ensures.found)

pub returns : goal.returns
returns c =
    in_brackets c.args.at c.blank-front.result c.in_ok-inside.inside c.split.result.0 c.in_ok-len.len c.blank-front.ensures c.in_ok-inside.ensures c.in_ok-len.ensures.found c.split.ensures.front.0 c.split.ensures.front.1
