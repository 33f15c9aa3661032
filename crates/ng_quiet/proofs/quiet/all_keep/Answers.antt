use Rattle.std.proofs.Common.{◌∙◌, sym, refl, bytes_eq, arith}
use Rattle.std.specs.HashSet.{contains}
use Rattle.ng_quiet.proofs.QuietLaws.{keep_more, keep_not, keep_all, asked_there}
use Rattle.ng_quiet.proofs.quiet.all_keep.Goals as goal

pub loop-at-preserved : goal.loop-at-preserved
loop-at-preserved c =
    keep_more c.args.components.now c.loop-at.at c.index-components-at.result c.args.marks.now c.args.survey.now.steady.items (contains bytes_eq c.args.survey.now.called) (omega arith) c.index-components-at.is c.loop-at.invariant
    ((asked_there c.args.marks.now c.args.survey.now.steady.items (contains bytes_eq c.args.survey.now.called) c.loop-at.at c.index-components-at.result.now c.index.result.now (omega arith) c.index.ensures).0
    (c.in_ok-keeps_rules.ensures.0 c.if-not-branch.false))

pub returns-then-not-branch : goal.returns-then-not-branch
returns-then-not-branch c =
    keep_not c.args.components.now c.loop-at.at c.index-components-at.result c.args.marks.now c.args.survey.now.steady.items (contains bytes_eq c.args.survey.now.called) (omega arith) c.index-components-at.is
    (λ keeps. sym c.if-not-branch.true ∙ c.in_ok-keeps_rules.ensures.1
    ((asked_there c.args.marks.now c.args.survey.now.steady.items (contains bytes_eq c.args.survey.now.called) c.loop-at.at c.index-components-at.result.now c.index.result.now (omega arith) c.index.ensures).1 keeps))

pub returns : goal.returns
returns c = (λ t. keep_all c.args.components.now c.loop-at.at c.args.marks.now c.args.survey.now.steady.items (contains bytes_eq c.args.survey.now.called) c.loop-at-test.false c.loop-at.invariant, λ all. refl)
