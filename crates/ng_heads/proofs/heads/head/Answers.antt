use Rattle.std.proofs.Common.{codes}
use Rattle.ng_heads.proofs.BlockLaws.{by_word}
use Rattle.ng_heads.proofs.heads.head.Goals as goal

pub returns-in-Some : goal.returns-in-Some
returns-in-Some c = by_word (codes "@if") c.args.at c.in-Some.rest c.if_head.result c.in-Some.ensures c.if_head.ensures

pub returns-in-Some-word : goal.returns-in-Some-word
returns-in-Some-word c = by_word (codes "@for") c.args.at c.in-Some-word.rest c.for_head.result c.in-Some-word.ensures c.for_head.ensures

pub returns-in-Some-word-2 : goal.returns-in-Some-word-2
returns-in-Some-word-2 c = by_word (codes "@switch") c.args.at c.in-Some-word-2.rest c.switch_head.result c.in-Some-word-2.ensures c.switch_head.ensures

pub returns-in-Some-word-3 : goal.returns-in-Some-word-3
returns-in-Some-word-3 c = by_word (codes "@case") c.args.at c.in-Some-word-3.rest c.case_head.result c.in-Some-word-3.ensures c.case_head.ensures

pub returns-in-Some-word-4 : goal.returns-in-Some-word-4
returns-in-Some-word-4 c = by_word (codes "@else") c.args.at c.in-Some-word-4.rest c.else_head.result c.in-Some-word-4.ensures c.else_head.ensures

pub returns-in-Some-word-5 : goal.returns-in-Some-word-5
returns-in-Some-word-5 c = by_word (codes "@empty") c.args.at c.in-Some-word-5.rest c.empty_head.result c.in-Some-word-5.ensures c.empty_head.ensures

pub returns-in-Some-word-6 : goal.returns-in-Some-word-6
returns-in-Some-word-6 c = by_word (codes "@default") c.args.at c.in-Some-word-6.rest c.default_head.result c.in-Some-word-6.ensures c.default_head.ensures
