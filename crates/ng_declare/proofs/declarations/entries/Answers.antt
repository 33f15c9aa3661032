use Rattle.std.proofs.Common.{◌≡◌, Bool, true, [], ◌∷◌, ◌++◌, sym, ◌∙◌, ap, subst}
use Rattle.ng_declare.specs.declared.limits.Counts.{Counts}
use Rattle.ng_declare.specs.Words.{decl_word, sees_one}
use Rattle.ng_declare.specs.Grammar.{entries, declared, few_of_each}
use Rattle.ng_declare.specs.Counts.{counted, with_entry, are_few, IsSmall}
use Rattle.std.proofs.Common.{rules, arith}
use Rattle.std.proofs.lemmas.Grind.{common_steps}
use Rattle.ng_declare.specs.Gives.{nothing, read, Fails}
use Rattle.ng_declare.specs.Weights.{Fits}
use Rattle.ng_declare.specs.Rounds.{rounds}
use Rattle.ng_declare.proofs.Counting.{counted-push, small_counts}
use Rattle.ng_declare.proofs.Rounds.{falls_read, rounds_start, round_stops, round_on, round_refused, round_full}
use Rattle.ng_declare.proofs.declarations.entries.Goals as goal

pub loop-counts-init : goal.loop-counts-init
unfolding entries
loop-counts-init c = record {
  rounds = rounds_start nothing (sees_one decl_word) declared few_of_each [] c.args.cursor.now.place c.args.cursor.now.rest.now ∙ ap (λ found. rounds nothing (sees_one decl_word) declared few_of_each found c.args.cursor.now.place c.args.cursor.now.rest.now) (sym c.new-found.ensures);
  counts = c.none-counts.ensures ∙ ap counted (sym c.new-found.ensures);
  few = ap few_of_each c.new-found.ensures;
}

pub with-counts-requires : goal.with-counts-requires
with-counts-requires c = subst IsSmall (sym c.loop-counts.invariant.counts) (small_counts c.loop-counts.found c.loop-counts.invariant.few)

pub loop-counts-smaller : goal.loop-counts-smaller
loop-counts-smaller c = falls_read declared c.loop-counts.cursor.place c.loop-counts.cursor.rest.now c.in_ok-entry.entry _ _ c.in_ok-entry.ensures

pub loop-counts-preserved : goal.loop-counts-preserved
loop-counts-preserved c =
    let now : c.with-counts.result ≡ counted (c.loop-counts.found ++ c.in_ok-entry.entry ∷ []) = c.with-counts.ensures ∙ ap (λ (k : Counts). with_entry k c.in_ok-entry.entry) c.loop-counts.invariant.counts ∙ sym (counted-push c.loop-counts.found c.in_ok-entry.entry) in
    let few : few_of_each (c.loop-counts.found ++ c.in_ok-entry.entry ∷ []) ≡ true = ap are_few (sym now) ∙ sym c.are_few.ensures ∙ c.in_ok-push_within.ensures.fits in
    record {
      rounds = c.loop-counts.invariant.rounds
          ∙ round_on nothing (sees_one decl_word) declared few_of_each c.loop-counts.found c.loop-counts.cursor.place c.loop-counts.cursor.rest.now (falls_read declared) c.in_ok-entry.entry _ _ (sym c.declaration_ahead.ensures ∙ c.loop-counts-test.true) c.in_ok-entry.ensures few
          ∙ ap (λ found. rounds nothing (sees_one decl_word) declared few_of_each found c.next_entry.new.cursor.place c.next_entry.new.cursor.rest.now) (sym c.in_ok-push_within.ensures.pushed);
      counts = now ∙ ap counted (sym c.in_ok-push_within.ensures.pushed);
      few = ap few_of_each c.in_ok-push_within.ensures.pushed ∙ few;
    }

pub returns-in_err-entry : goal.returns-in_err-entry
returns-in_err-entry c =
    let f : Fails (read entries c.args.cursor.now.place c.args.cursor.now.rest.now) c.in_err-entry.field-0.0 c.next_entry.new.cursor.place c.next_entry.new.cursor.rest.now =
    round_refused nothing (sees_one decl_word) declared few_of_each c.loop-counts.found c.loop-counts.cursor.place c.loop-counts.cursor.rest.now _ _ _ _ c.loop-counts.invariant.rounds (sym c.declaration_ahead.ensures ∙ c.loop-counts-test.true) c.in_err-entry.ensures in
    first_of (search rules, grind (arith, common_steps))

pub returns-in_err-push_within : goal.returns-in_err-push_within
returns-in_err-push_within c =
    let now : c.with-counts.result ≡ counted (c.loop-counts.found ++ c.in_ok-entry.entry ∷ []) = c.with-counts.ensures ∙ ap (λ (k : Counts). with_entry k c.in_ok-entry.entry) c.loop-counts.invariant.counts ∙ sym (counted-push c.loop-counts.found c.in_ok-entry.entry) in
    let f : Fails (read entries c.args.cursor.now.place c.args.cursor.now.rest.now) c.in_err-push_within.field-0.0 c.next_entry.new.cursor.place c.next_entry.new.cursor.rest.now =
    round_full nothing (sees_one decl_word) declared few_of_each c.loop-counts.found c.loop-counts.cursor.place c.loop-counts.cursor.rest.now _ _ c.in_ok-entry.entry _ _ _ _ c.loop-counts.invariant.rounds (sym c.declaration_ahead.ensures ∙ c.loop-counts-test.true) c.in_ok-entry.ensures
    (subst (λ (b : Bool). Fits b c.in_err-push_within.field-0.0) (c.are_few.ensures ∙ ap are_few now) c.in_err-push_within.ensures.refused) in
    first_of (search rules, grind (arith, common_steps))

pub returns : goal.returns
returns c = c.loop-counts.invariant.rounds ∙ round_stops nothing (sees_one decl_word) declared few_of_each c.loop-counts.found c.loop-counts.cursor.place c.loop-counts.cursor.rest.now (sym c.declaration_ahead.ensures ∙ c.loop-counts-test.false)
