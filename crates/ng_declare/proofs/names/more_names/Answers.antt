use Rattle.std.proofs.Common.{refl, sym, ◌∙◌, ap}
use Rattle.ng_tokens.specs.declared.kinds.Sign.TheVariants as s
use Rattle.ng_phrases.specs.Words.{sees_sign}
use Rattle.ng_declare.specs.Members.{more_names, named, any_number}
use Rattle.std.proofs.Common.{rules, arith}
use Rattle.std.proofs.lemmas.Grind.{common_steps}
use Rattle.ng_declare.specs.Gives.{nothing, read, Fails}
use Rattle.ng_declare.specs.Rounds.{rounds}
use Rattle.ng_declare.proofs.Rounds.{falls_read, rounds_start, round_stops, round_on, round_refused}
use Rattle.ng_declare.proofs.names.more_names.Goals as goal

pub loop-cursor-init : goal.loop-cursor-init
unfolding more_names
loop-cursor-init c = rounds_start nothing (sees_sign s.Comma) named any_number c.args.start c.args.cursor.now.place c.args.cursor.now.rest.now

pub loop-cursor-smaller : goal.loop-cursor-smaller
loop-cursor-smaller c = falls_read named c.loop-cursor.cursor.place c.loop-cursor.cursor.rest.now c.in_ok-name.name _ _ c.in_ok-name.ensures

pub loop-cursor-preserved : goal.loop-cursor-preserved
loop-cursor-preserved c =
    c.loop-cursor.invariant
    ∙ round_on nothing (sees_sign s.Comma) named any_number c.loop-cursor.found c.loop-cursor.cursor.place c.loop-cursor.cursor.rest.now (falls_read named) c.in_ok-name.name _ _ (sym c.sees_sign.ensures ∙ c.loop-cursor-test.true) c.in_ok-name.ensures refl
    ∙ ap (λ found. rounds nothing (sees_sign s.Comma) named any_number found c.next_name.new.cursor.place c.next_name.new.cursor.rest.now) (sym c.in_ok-push.ensures.ok)

pub returns-in_err-name : goal.returns-in_err-name
returns-in_err-name c =
    let f : Fails (read (more_names c.args.start) c.args.cursor.now.place c.args.cursor.now.rest.now) c.in_err-name.field-0.0 c.next_name.new.cursor.place c.next_name.new.cursor.rest.now =
    round_refused nothing (sees_sign s.Comma) named any_number c.loop-cursor.found c.loop-cursor.cursor.place c.loop-cursor.cursor.rest.now _ _ _ _ c.loop-cursor.invariant (sym c.sees_sign.ensures ∙ c.loop-cursor-test.true) c.in_err-name.ensures in
    first_of (search rules, grind (arith, common_steps))

pub returns : goal.returns
returns c = c.loop-cursor.invariant ∙ round_stops nothing (sees_sign s.Comma) named any_number c.loop-cursor.found c.loop-cursor.cursor.place c.loop-cursor.cursor.rest.now (sym c.sees_sign.ensures ∙ c.loop-cursor-test.false)
