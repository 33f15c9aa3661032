use Rattle.ng_lex.specs.declared.kinds.TokenKind.TheVariants as kind
use Rattle.ng_markup.proofs.PartAnswers.{of_kind, head_answers, tag_answers}
use Rattle.ng_markup.proofs.part.read_part.Goals as goal

pub returns-in-Start : goal.returns-in-Start
returns-in-Start c =
    of_kind kind.Start c.args.kind c.args.place c.args.text.now c.map_err.result c.in-Start.is
    (tag_answers kind.Start c.args.place c.args.text.now c.read_start.result c.map_err.result (λ e. cc) c.read_start.ensures.reads c.read_start.ensures.refused c.map_err.ensures.cases)

pub returns-in-End : goal.returns-in-End
returns-in-End c =
    of_kind kind.End c.args.kind c.args.place c.args.text.now c.map_err-in-End.result c.in-End.is
    (tag_answers kind.End c.args.place c.args.text.now c.read_end.result c.map_err-in-End.result (λ e. cc) c.read_end.ensures.reads c.read_end.ensures.refused c.map_err-in-End.ensures.cases)

pub returns-in-Head : goal.returns-in-Head
returns-in-Head c =
    of_kind kind.Head c.args.kind c.args.place c.args.text.now c.read_head.result c.in-Head.is
    (head_answers kind.Head c.args.place c.args.text.now c.read_head.result (λ e. cc) c.read_head.ensures.reads c.read_head.ensures.refused)

pub returns-in-Let : goal.returns-in-Let
returns-in-Let c =
    of_kind kind.Let c.args.kind c.args.place c.args.text.now c.read_let.result c.in-Let.is
    (head_answers kind.Let c.args.place c.args.text.now c.read_let.result (λ e. cc) c.read_let.ensures.reads c.read_let.ensures.refused)
