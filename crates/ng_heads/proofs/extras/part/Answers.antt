use Rattle.std.proofs.Common.{sym, ◌∙◌, refl}
use Rattle.ng_heads.proofs.ExtraLaws.{untracked, tracked_not, track_taken, track_answers, let_part_answers}
use Rattle.ng_heads.proofs.extras.part.Goals as goal

pub returns-in-Ok : goal.returns-in-Ok
returns-in-Ok c =
    rw c.replace.ensures.after (track_taken c.args.at c.in-Some.inside c.in-Ok.rest _ _ c.in-Ok.track c.in-Some.ensures.1 c.in-Ok.ensures (untracked _ (sym c.is_some.ensures ∙ c.in-Some.ensures.0)) refl)

pub returns-in-Err : goal.returns-in-Err
returns-in-Err c = track_answers c.args.at c.in-Some.inside c.args.extras.now c.args.extras.now c.in-Err.stop (untracked _ (sym c.is_some.ensures ∙ c.in-Some.ensures.0)) c.in-Some.ensures.1 c.in-Err.ensures

pub returns-in-None : goal.returns-in-None
returns-in-None c =
    let_part_answers c.args.at c.args.extras.now (record { track = c.args.extras.now.track; vars = c.let_part.new.vars }) c.let_part.result (λ none. c.in-None.ensures (c.is_some.ensures ∙ tracked_not _ none)) refl c.let_part.ensures
