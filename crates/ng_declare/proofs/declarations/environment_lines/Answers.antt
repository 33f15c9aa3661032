use Rattle.std.proofs.Common.{Bool, sym, ◌∙◌, ap, subst}
use Rattle.std.specs.Prelude.{[], codes}
use Rattle.ng_phrases.specs.Words.{sees_word}
use Rattle.ng_declare.specs.Members.{are_few}
use Rattle.ng_declare.specs.Grammar.{environment_lines, environment_provides}
use Rattle.std.proofs.Common.{rules, arith}
use Rattle.std.proofs.lemmas.Grind.{common_steps}
use Rattle.ng_declare.specs.Gives.{nothing, read, Fails}
use Rattle.std.specs.Prelude.{nat_lt}
use Rattle.ng_declare.specs.Weights.{Fits}
use Rattle.ng_declare.specs.Rounds.{rounds}
use Rattle.ng_declare.proofs.Counting.{few_more}
use Rattle.ng_declare.proofs.Rounds.{falls_read, rounds_start, round_stops, round_on, round_refused, round_full}
use Rattle.ng_declare.proofs.declarations.environment_lines.Goals as goal

pub loop-found-init : goal.loop-found-init
unfolding environment_lines
loop-found-init c = rounds_start nothing (sees_word (codes "provide")) environment_provides are_few [] c.args.cursor.now.place c.args.cursor.now.rest.now ∙ ap (λ found. rounds nothing (sees_word (codes "provide")) environment_provides are_few found c.args.cursor.now.place c.args.cursor.now.rest.now) (sym c.new-found.ensures)

pub loop-found-smaller : goal.loop-found-smaller
loop-found-smaller c = falls_read environment_provides c.loop-found.cursor.place c.loop-found.cursor.rest.now c.in_ok-provider.provider _ _ c.in_ok-provider.ensures

pub loop-found-preserved : goal.loop-found-preserved
loop-found-preserved c =
    c.loop-found.invariant
    ∙ round_on nothing (sees_word (codes "provide")) environment_provides are_few c.loop-found.found c.loop-found.cursor.place c.loop-found.cursor.rest.now (falls_read environment_provides) c.in_ok-provider.provider _ _ (sym c.sees_word.ensures ∙ c.loop-found-test.true) c.in_ok-provider.ensures (sym (few_more c.loop-found.found c.in_ok-provider.provider) ∙ ap (λ n. nat_lt n 256) (sym c.len-fits.ensures) ∙ c.in_ok-push_within.ensures.fits)
    ∙ ap (λ found. rounds nothing (sees_word (codes "provide")) environment_provides are_few found c.next_provider.new.cursor.place c.next_provider.new.cursor.rest.now) (sym c.in_ok-push_within.ensures.pushed)

pub returns-in_err-provider : goal.returns-in_err-provider
returns-in_err-provider c =
    let f : Fails (read environment_lines c.args.cursor.now.place c.args.cursor.now.rest.now) c.in_err-provider.field-0.0 c.next_provider.new.cursor.place c.next_provider.new.cursor.rest.now =
    round_refused nothing (sees_word (codes "provide")) environment_provides are_few c.loop-found.found c.loop-found.cursor.place c.loop-found.cursor.rest.now _ _ _ _ c.loop-found.invariant (sym c.sees_word.ensures ∙ c.loop-found-test.true) c.in_err-provider.ensures in
    first_of (search rules, grind (arith, common_steps))

pub returns-in_err-push_within : goal.returns-in_err-push_within
returns-in_err-push_within c =
    let f : Fails (read environment_lines c.args.cursor.now.place c.args.cursor.now.rest.now) c.in_err-push_within.field-0.0 c.next_provider.new.cursor.place c.next_provider.new.cursor.rest.now =
    round_full nothing (sees_word (codes "provide")) environment_provides are_few c.loop-found.found c.loop-found.cursor.place c.loop-found.cursor.rest.now _ _ c.in_ok-provider.provider _ _ _ _ c.loop-found.invariant (sym c.sees_word.ensures ∙ c.loop-found-test.true) c.in_ok-provider.ensures
    (subst (λ (b : Bool). Fits b c.in_err-push_within.field-0.0) (ap (λ n. nat_lt n 256) c.len-fits.ensures ∙ few_more c.loop-found.found c.in_ok-provider.provider) c.in_err-push_within.ensures.refused) in
    first_of (search rules, grind (arith, common_steps))

pub returns : goal.returns
returns c = c.loop-found.invariant ∙ round_stops nothing (sees_word (codes "provide")) environment_provides are_few c.loop-found.found c.loop-found.cursor.place c.loop-found.cursor.rest.now (sym c.sees_word.ensures ∙ c.loop-found-test.false)
