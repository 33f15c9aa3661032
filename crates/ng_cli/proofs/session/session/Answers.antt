use Rattle.std.proofs.Common.{◌≡◌, ◌+◌, List, [], length, drop, subst, arith}
use Rattle.ng_semantics.specs.Text.{Text}
use Rattle.ng_update.specs.Clicked.{outcome_in}
use Rattle.ng_cli.specs.Steps.{whole_run}
use Rattle.ng_cli.proofs.Writing.{on_err}
use Rattle.std.proofs.lemmas.Result.{on_err_weaker}
use Rattle.ng_cli.proofs.Turns.{Progress, Clicked, begin_part, begin_whole, drop_next, drop_all, progress_turn, progress_part, progress_end_part}
use Rattle.ng_cli.proofs.session.session.Goals as goal

pub returns-in_err-put_turn-clause-part : goal.returns-in_err-put_turn-clause-part
returns-in_err-put_turn-clause-part g c = on_err c.from_residual.result (begin_part _ _ c.args.engine c.args.tags.now c.in_err-put_turn.ensures.part)

pub returns-in_err-put_turn-2-clause-part : goal.returns-in_err-put_turn-2-clause-part
returns-in_err-put_turn-2-clause-part g c =
    let j = c.loop-index.index in
    let tags = c.args.tags.now in
    let clicked : Clicked c.loop-index.engine c.click-delivered.new.self c.as_str.result.now (outcome_in c.click-delivered.result) =
    record { outcome_is = c.click-delivered.ensures.outcome; world_is = c.click-delivered.ensures.world; component_is = c.click-delivered.ensures.component } in
    let next = drop_next tags j c.index-tags-index.result c.as_str.result.now c.loop-index-test.true c.index-tags-index.is c.as_str.ensures in
    on_err c.from_residual-in_err-put_turn-2.result
    (progress_part _ _ _ c.loop-index.engine c.click-delivered.new.self (j + 1) (length tags) c.as_str.result.now (drop j tags) (drop (j + 1) tags) (outcome_in c.click-delivered.result) (whole_run c.args.engine tags)
    c.loop-index.invariant.progress clicked next c.in_err-put_turn-2.ensures.part)

pub loop-index-preserved : goal.loop-index-preserved
loop-index-preserved g c =
    let j = c.loop-index.index in
    let tags = c.args.tags.now in
    let clicked : Clicked c.loop-index.engine c.click-delivered.new.self c.as_str.result.now (outcome_in c.click-delivered.result) =
    record { outcome_is = c.click-delivered.ensures.outcome; world_is = c.click-delivered.ensures.world; component_is = c.click-delivered.ensures.component } in
    let next = drop_next tags j c.index-tags-index.result c.as_str.result.now c.loop-index-test.true c.index-tags-index.is c.as_str.ensures in
    record {
      progress =
          progress_turn _ _ _ c.loop-index.engine c.click-delivered.new.self (j + 1) (length tags) c.as_str.result.now (drop j tags) (drop (j + 1) tags) (outcome_in c.click-delivered.result) (whole_run c.args.engine tags)
          c.loop-index.invariant.progress clicked next c.in_ok-put_turn-2.ensures.whole;
      grows = omega (arith, c.in_ok-put_turn-2.ensures.faults_grow);
    }

pub returns-clause-part : goal.returns-clause-part
returns-clause-part g c =
    let tags = c.args.tags.now in
    let none : drop c.loop-index.index tags ≡ [] = drop_all tags c.loop-index.index c.loop-index-test.false in
    let p : Progress (g.K.Sink.taken c.args.sink.now) (g.K.Sink.taken c.loop-index.sink) c.loop-index.engine (c.loop-index.index + 1) [] (length tags) (whole_run c.args.engine tags) =
    subst (λ (ts : List Text). Progress (g.K.Sink.taken c.args.sink.now) (g.K.Sink.taken c.loop-index.sink) c.loop-index.engine (c.loop-index.index + 1) ts (length tags) (whole_run c.args.engine tags)) none c.loop-index.invariant.progress in
    on_err_weaker c.put_end.result (progress_end_part _ _ _ c.loop-index.engine (c.loop-index.index + 1) (length tags) (whole_run c.args.engine tags) p) c.put_end.ensures.part

pub loop-index-init : goal.loop-index-init
loop-index-init g c = record { progress = begin_whole _ _ c.args.engine c.args.tags.now c.in_ok-put_turn.ensures.whole; grows = omega (arith, c.in_ok-put_turn.ensures.faults_grow) }
