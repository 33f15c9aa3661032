use Rattle.std.proofs.Common.{refl, sym, ◌∙◌, ap}
use Rattle.std.specs.Prelude.{[]}
use Rattle.ng_declare.specs.Words.{flag_word, sees_one}
use Rattle.ng_declare.specs.Members.{flags, flagged, any_number}
use Rattle.std.proofs.Common.{rules, arith}
use Rattle.std.proofs.lemmas.Grind.{common_steps}
use Rattle.ng_declare.specs.Gives.{nothing, read, Fails}
use Rattle.ng_declare.specs.Rounds.{rounds}
use Rattle.ng_declare.proofs.Rounds.{falls_read, rounds_start, round_stops, round_on, round_refused}
use Rattle.ng_declare.proofs.members.flags.Goals as goal

pub loop-cursor-init : goal.loop-cursor-init
unfolding flags
loop-cursor-init c = rounds_start nothing (sees_one flag_word) flagged any_number [] c.args.cursor.now.place c.args.cursor.now.rest.now ∙ ap (λ found. rounds nothing (sees_one flag_word) flagged any_number found c.args.cursor.now.place c.args.cursor.now.rest.now) (sym c.new-found.ensures)

pub loop-cursor-smaller : goal.loop-cursor-smaller
loop-cursor-smaller c = falls_read flagged c.loop-cursor.cursor.place c.loop-cursor.cursor.rest.now c.in_ok-flag.flag _ _ c.in_ok-flag.ensures

pub loop-cursor-preserved : goal.loop-cursor-preserved
loop-cursor-preserved c =
    c.loop-cursor.invariant
    ∙ round_on nothing (sees_one flag_word) flagged any_number c.loop-cursor.found c.loop-cursor.cursor.place c.loop-cursor.cursor.rest.now (falls_read flagged) c.in_ok-flag.flag _ _ (sym c.flag_ahead.ensures ∙ c.loop-cursor-test.true) c.in_ok-flag.ensures refl
    ∙ ap (λ found. rounds nothing (sees_one flag_word) flagged any_number found c.next_flag.new.cursor.place c.next_flag.new.cursor.rest.now) (sym c.in_ok-push.ensures.ok)

pub returns-in_err-flag : goal.returns-in_err-flag
returns-in_err-flag c =
    let f : Fails (read flags c.args.cursor.now.place c.args.cursor.now.rest.now) c.in_err-flag.field-0.0 c.next_flag.new.cursor.place c.next_flag.new.cursor.rest.now =
    round_refused nothing (sees_one flag_word) flagged any_number c.loop-cursor.found c.loop-cursor.cursor.place c.loop-cursor.cursor.rest.now _ _ _ _ c.loop-cursor.invariant (sym c.flag_ahead.ensures ∙ c.loop-cursor-test.true) c.in_err-flag.ensures in
    first_of (search rules, grind (arith, common_steps))

pub returns : goal.returns
returns c = c.loop-cursor.invariant ∙ round_stops nothing (sees_one flag_word) flagged any_number c.loop-cursor.found c.loop-cursor.cursor.place c.loop-cursor.cursor.rest.now (sym c.flag_ahead.ensures ∙ c.loop-cursor-test.false)
