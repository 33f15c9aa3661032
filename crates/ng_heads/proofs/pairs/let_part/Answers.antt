use Rattle.std.proofs.Common.{sym, ◌∙◌}
use Rattle.ng_heads.proofs.ExtraLaws.{no_part_sign, no_part_stop, no_stop, at_stop, let_step, let_answers}
use Rattle.ng_heads.proofs.pairs.let_part.Goals as goal

pub returns-in_default : goal.returns-in_default
returns-in_default c = no_part_sign c.args.at.text.now (rw c.in_default.is at c.word.ensures)

pub returns-then-not-at_stop : goal.returns-then-not-at_stop
returns-then-not-at_stop c =
    let e = no_stop _ _ (sym c.at_stop.ensures ∙ c.if-not-at_stop.true) in
    no_part_stop c.args.at c.in-Some.part c.piece.result.0 c.piece.result.1 (rw c.in-Some.is at c.word.ensures) c.piece.ensures e.0 e.1

pub returns-in-Ok : goal.returns-in-Ok
returns-in-Ok c =
    let_step c.args.at c.in-Some.part c.piece.result.0 c.piece.result.1 (rw c.in-Some.is at c.word.ensures) c.piece.ensures _ _ c.in-Ok.ensures.0 c.in-Ok.ensures.1 c.in-Ok.ensures.2 (at_stop c.piece.result.1.text.now (sym c.at_stop.ensures ∙ c.if-not-at_stop.false))

pub returns-in-Err : goal.returns-in-Err
returns-in-Err c = let_answers c.args.at c.in-Some.part c.piece.result.0 c.piece.result.1 (rw c.in-Some.is at c.word.ensures) c.piece.ensures c.args.vars.now c.add_part.new.vars c.in-Err.stop c.in-Err.ensures
