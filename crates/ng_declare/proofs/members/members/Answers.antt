use Rattle.std.proofs.Common.{Bool, sym, ◌∙◌, ap, subst}
use Rattle.std.specs.Prelude.{[]}
use Rattle.ng_declare.specs.Words.{word_of, sees_one}
use Rattle.ng_declare.specs.Members.{members, worded, are_few}
use Rattle.std.proofs.Common.{rules, arith}
use Rattle.std.proofs.lemmas.Grind.{common_steps}
use Rattle.ng_declare.specs.Gives.{nothing, read, Fails}
use Rattle.std.specs.Prelude.{nat_lt}
use Rattle.ng_declare.specs.Weights.{Fits}
use Rattle.ng_declare.specs.Rounds.{rounds}
use Rattle.ng_declare.proofs.Counting.{few_more}
use Rattle.ng_declare.proofs.Rounds.{falls_read, rounds_start, round_stops, round_on, round_refused, round_full}
use Rattle.ng_declare.proofs.members.members.Goals as goal

pub loop-scope-init : goal.loop-scope-init
unfolding members
loop-scope-init c = rounds_start nothing (sees_one (word_of c.args.scope)) (worded c.args.scope) are_few [] c.args.cursor.now.place c.args.cursor.now.rest.now ∙ ap (λ found. rounds nothing (sees_one (word_of c.args.scope)) (worded c.args.scope) are_few found c.args.cursor.now.place c.args.cursor.now.rest.now) (sym c.new-found.ensures)

pub loop-scope-smaller : goal.loop-scope-smaller
loop-scope-smaller c = falls_read (worded c.args.scope) c.loop-scope.cursor.place c.loop-scope.cursor.rest.now c.in_ok-member.member _ _ c.in_ok-member.ensures

pub loop-scope-preserved : goal.loop-scope-preserved
loop-scope-preserved c =
    c.loop-scope.invariant
    ∙ round_on nothing (sees_one (word_of c.args.scope)) (worded c.args.scope) are_few c.loop-scope.found c.loop-scope.cursor.place c.loop-scope.cursor.rest.now (falls_read (worded c.args.scope)) c.in_ok-member.member _ _ (sym c.member_ahead.ensures ∙ c.loop-scope-test.true) c.in_ok-member.ensures (sym (few_more c.loop-scope.found c.in_ok-member.member) ∙ ap (λ n. nat_lt n 256) (sym c.len-fits.ensures) ∙ c.in_ok-push_within.ensures.fits)
    ∙ ap (λ found. rounds nothing (sees_one (word_of c.args.scope)) (worded c.args.scope) are_few found c.next_member.new.cursor.place c.next_member.new.cursor.rest.now) (sym c.in_ok-push_within.ensures.pushed)

pub returns-in_err-member : goal.returns-in_err-member
returns-in_err-member c =
    let f : Fails (read (members c.args.scope) c.args.cursor.now.place c.args.cursor.now.rest.now) c.in_err-member.field-0.0 c.next_member.new.cursor.place c.next_member.new.cursor.rest.now =
    round_refused nothing (sees_one (word_of c.args.scope)) (worded c.args.scope) are_few c.loop-scope.found c.loop-scope.cursor.place c.loop-scope.cursor.rest.now _ _ _ _ c.loop-scope.invariant (sym c.member_ahead.ensures ∙ c.loop-scope-test.true) c.in_err-member.ensures in
    first_of (search rules, grind (arith, common_steps))

pub returns-in_err-push_within : goal.returns-in_err-push_within
returns-in_err-push_within c =
    let f : Fails (read (members c.args.scope) c.args.cursor.now.place c.args.cursor.now.rest.now) c.in_err-push_within.field-0.0 c.next_member.new.cursor.place c.next_member.new.cursor.rest.now =
    round_full nothing (sees_one (word_of c.args.scope)) (worded c.args.scope) are_few c.loop-scope.found c.loop-scope.cursor.place c.loop-scope.cursor.rest.now _ _ c.in_ok-member.member _ _ _ _ c.loop-scope.invariant (sym c.member_ahead.ensures ∙ c.loop-scope-test.true) c.in_ok-member.ensures
    (subst (λ (b : Bool). Fits b c.in_err-push_within.field-0.0) (ap (λ n. nat_lt n 256) c.len-fits.ensures ∙ few_more c.loop-scope.found c.in_ok-member.member) c.in_err-push_within.ensures.refused) in
    first_of (search rules, grind (arith, common_steps))

pub returns : goal.returns
returns c = c.loop-scope.invariant ∙ round_stops nothing (sees_one (word_of c.args.scope)) (worded c.args.scope) are_few c.loop-scope.found c.loop-scope.cursor.place c.loop-scope.cursor.rest.now (sym c.member_ahead.ensures ∙ c.loop-scope-test.false)
