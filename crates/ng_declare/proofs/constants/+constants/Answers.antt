use Rattle.std.proofs.Common.{◌≡◌, ℕ, suc, ◌-◌, sym, ◌∙◌, ap, subst, rules, arith}
use Rattle.std.specs.Prelude.{Ok}
use Rattle.std.proofs.lemmas.Grind.{common_steps}
use Rattle.ng_values.specs.declared.value.Value.{Value}
use Rattle.ng_tokens.specs.declared.kinds.Sign.TheVariants as s
use Rattle.ng_phrases.specs.Nested.{parse_below}
use Rattle.ng_phrases.specs.Parse.{parse}
use Rattle.ng_phrases.specs.Parser.{Outcome}
use Rattle.ng_phrases.specs.Words.{sees_sign, token, sign}
use Rattle.ng_declare.specs.Readers.{Question, readers}
use Rattle.ng_declare.specs.Constants.{constant_within, text_constant, negative, list, list_on, pair, rec, rec_on, more_items, more_pairs, item, next_pair, fits_list, fits_rec}
use Rattle.ng_declare.specs.Gives.{Gives, Fails, inside}
use Rattle.ng_declare.specs.Rounds.{rounds}
use Rattle.ng_declare.proofs.Within.{sign_read, negative_read, text_given}
use Rattle.ng_declare.proofs.Rounds.{falls_inside, rounds_start, round_stops, round_on, round_refused, round_full}
use Rattle.ng_declare.proofs.constants.+constants.Goals as goal

pub constant_below-returns-then-levels-eq0 : goal.constant_below-returns-then-levels-eq0
unfolding parse_below
constant_below-returns-then-levels-eq0 t c =
    let none : c.args.levels ≡ 0 = omega arith in
    ap (λ n. parse_below {R = readers} constant_within n c.args.cursor.now.place c.args.cursor.now.rest.now) none

pub constant_below-returns : goal.constant_below-returns
unfolding parse_below
constant_below-returns t c =
    let more : suc (c.args.levels - 1) ≡ c.args.levels = omega arith in
    subst (λ (n : ℕ). Gives (parse_below {R = readers} constant_within n c.args.cursor.now.place c.args.cursor.now.rest.now) c.constant_within.result c.constant_within.new.cursor.place c.constant_within.new.cursor.rest.now) more c.constant_within.ensures

pub more_items-loop-cursor-init : goal.more_items-loop-cursor-init
unfolding more_items
more_items-loop-cursor-init t c = record {
  read = rounds_start (parse_below {R = readers} constant_within c.args.levels) (sees_sign s.Comma) item fits_list c.args.start.items.items c.args.cursor.now.place c.args.cursor.now.rest.now;
  weighs = c.requires.weighs;
}

pub more_items-loop-cursor-smaller : goal.more_items-loop-cursor-smaller
more_items-loop-cursor-smaller t c = falls_inside c.args.levels item c.loop-cursor.cursor.place c.loop-cursor.cursor.rest.now c.in_ok-item.item _ _ c.in_ok-item.ensures

pub more_items-loop-cursor-preserved : goal.more_items-loop-cursor-preserved
more_items-loop-cursor-preserved t c = record {
  read =
      c.loop-cursor.invariant.read
      ∙ round_on (parse_below {R = readers} constant_within c.args.levels) (sees_sign s.Comma) item fits_list c.loop-cursor.listing.items.items c.loop-cursor.cursor.place c.loop-cursor.cursor.rest.now (falls_inside c.args.levels item)
      c.in_ok-item.item _ _ (sym c.sees_sign.ensures ∙ c.loop-cursor-test.true) c.in_ok-item.ensures (ap fits_list (sym c.in_ok-push.ensures.items) ∙ c.in_ok-push.ensures.weighs.fits)
      ∙ ap (λ found. rounds (parse_below {R = readers} constant_within c.args.levels) (sees_sign s.Comma) item fits_list found c.next_item.new.cursor.place c.next_item.new.cursor.rest.now) (sym c.in_ok-push.ensures.items);
  weighs = c.in_ok-push.ensures.weighs;
}

pub more_items-returns-in_err-item-clause-refused : goal.more_items-returns-in_err-item-clause-refused
more_items-returns-in_err-item-clause-refused t c =
    let f : Fails (inside c.args.levels (more_items c.args.start.items.items) c.args.cursor.now.place c.args.cursor.now.rest.now) c.in_err-item.field-0.0 c.next_item.new.cursor.place c.next_item.new.cursor.rest.now =
    round_refused (parse_below {R = readers} constant_within c.args.levels) (sees_sign s.Comma) item fits_list c.loop-cursor.listing.items.items c.loop-cursor.cursor.place c.loop-cursor.cursor.rest.now _ _ _ _
    c.loop-cursor.invariant.read (sym c.sees_sign.ensures ∙ c.loop-cursor-test.true) c.in_err-item.ensures in
    first_of (search rules, grind (arith, common_steps))

pub more_pairs-loop-cursor-init : goal.more_pairs-loop-cursor-init
unfolding more_pairs
more_pairs-loop-cursor-init t c = record {
  read = rounds_start (parse_below {R = readers} constant_within c.args.levels) (sees_sign s.Comma) next_pair fits_rec c.args.start.pairs.items c.args.cursor.now.place c.args.cursor.now.rest.now;
  weighs = c.requires.weighs;
}

pub more_pairs-loop-cursor-smaller : goal.more_pairs-loop-cursor-smaller
more_pairs-loop-cursor-smaller t c = falls_inside c.args.levels next_pair c.loop-cursor.cursor.place c.loop-cursor.cursor.rest.now c.in_ok-next.next _ _ c.in_ok-next.ensures

pub more_pairs-loop-cursor-preserved : goal.more_pairs-loop-cursor-preserved
more_pairs-loop-cursor-preserved t c = record {
  read =
      c.loop-cursor.invariant.read
      ∙ round_on (parse_below {R = readers} constant_within c.args.levels) (sees_sign s.Comma) next_pair fits_rec c.loop-cursor.pairing.pairs.items c.loop-cursor.cursor.place c.loop-cursor.cursor.rest.now (falls_inside c.args.levels next_pair)
      c.in_ok-next.next _ _ (sym c.sees_sign.ensures ∙ c.loop-cursor-test.true) c.in_ok-next.ensures (ap fits_rec (sym c.in_ok-push.ensures.pairs) ∙ c.in_ok-push.ensures.weighs.fits)
      ∙ ap (λ found. rounds (parse_below {R = readers} constant_within c.args.levels) (sees_sign s.Comma) next_pair fits_rec found c.next_pair.new.cursor.place c.next_pair.new.cursor.rest.now) (sym c.in_ok-push.ensures.pairs);
  weighs = c.in_ok-push.ensures.weighs;
}

pub more_pairs-returns-in_err-next-clause-refused : goal.more_pairs-returns-in_err-next-clause-refused
more_pairs-returns-in_err-next-clause-refused t c =
    let f : Fails (inside c.args.levels (more_pairs c.args.start.pairs.items) c.args.cursor.now.place c.args.cursor.now.rest.now) c.in_err-next.field-0.0 c.next_pair.new.cursor.place c.next_pair.new.cursor.rest.now =
    round_refused (parse_below {R = readers} constant_within c.args.levels) (sees_sign s.Comma) next_pair fits_rec c.loop-cursor.pairing.pairs.items c.loop-cursor.cursor.place c.loop-cursor.cursor.rest.now _ _ _ _
    c.loop-cursor.invariant.read (sym c.sees_sign.ensures ∙ c.loop-cursor-test.true) c.in_err-next.ensures in
    first_of (search rules, grind (arith, common_steps))

pub more_items-returns-in_err-push-clause-refused : goal.more_items-returns-in_err-push-clause-refused
more_items-returns-in_err-push-clause-refused t c =
    let f : Fails (inside c.args.levels (more_items c.args.start.items.items) c.args.cursor.now.place c.args.cursor.now.rest.now) c.in_err-push.field-0.0 c.next_item.new.cursor.place c.next_item.new.cursor.rest.now =
    round_full (parse_below {R = readers} constant_within c.args.levels) (sees_sign s.Comma) item fits_list c.loop-cursor.listing.items.items c.loop-cursor.cursor.place c.loop-cursor.cursor.rest.now _ _ c.in_ok-item.item _ _ _ _ c.loop-cursor.invariant.read (sym c.sees_sign.ensures ∙ c.loop-cursor-test.true) c.in_ok-item.ensures c.in_err-push.ensures.refused in
    first_of (search rules, grind (arith, common_steps))

pub more_items-returns-clause-found : goal.more_items-returns-clause-found
more_items-returns-clause-found t c = c.loop-cursor.invariant.read ∙ round_stops (parse_below {R = readers} constant_within c.args.levels) (sees_sign s.Comma) item fits_list c.loop-cursor.listing.items.items c.loop-cursor.cursor.place c.loop-cursor.cursor.rest.now (sym c.sees_sign.ensures ∙ c.loop-cursor-test.false)

pub more_pairs-returns-in_err-push-clause-refused : goal.more_pairs-returns-in_err-push-clause-refused
more_pairs-returns-in_err-push-clause-refused t c =
    let f : Fails (inside c.args.levels (more_pairs c.args.start.pairs.items) c.args.cursor.now.place c.args.cursor.now.rest.now) c.in_err-push.field-0.0 c.next_pair.new.cursor.place c.next_pair.new.cursor.rest.now =
    round_full (parse_below {R = readers} constant_within c.args.levels) (sees_sign s.Comma) next_pair fits_rec c.loop-cursor.pairing.pairs.items c.loop-cursor.cursor.place c.loop-cursor.cursor.rest.now _ _ c.in_ok-next.next _ _ _ _ c.loop-cursor.invariant.read (sym c.sees_sign.ensures ∙ c.loop-cursor-test.true) c.in_ok-next.ensures c.in_err-push.ensures.refused in
    first_of (search rules, grind (arith, common_steps))

pub more_pairs-returns-clause-found : goal.more_pairs-returns-clause-found
more_pairs-returns-clause-found t c = c.loop-cursor.invariant.read ∙ round_stops (parse_below {R = readers} constant_within c.args.levels) (sees_sign s.Comma) next_pair fits_rec c.loop-cursor.pairing.pairs.items c.loop-cursor.cursor.place c.loop-cursor.cursor.rest.now (sym c.sees_sign.ensures ∙ c.loop-cursor-test.false)

pub list-returns-in_err-sign : goal.list-returns-in_err-sign
unfolding parse list
list-returns-in_err-sign t c =
    let f : Fails (inside c.args.levels (sign s.CloseSquare) c.args.cursor.now.place c.args.cursor.now.rest.now) c.in_err-sign.field-0.0 c.sign.new.self.place c.sign.new.self.rest.now =
    subst (λ (o : Outcome Question (Unit {0})). Fails o c.in_err-sign.field-0.0 c.sign.new.self.place c.sign.new.self.rest.now) (sym (sign_read (parse_below {R = readers} constant_within c.args.levels) s.CloseSquare c.args.cursor.now.place c.args.cursor.now.rest.now)) c.in_err-sign.ensures in
    first_of (search rules, grind (arith, common_steps))

pub list-returns-then-sees_sign : goal.list-returns-then-sees_sign
unfolding parse list
list-returns-then-sees_sign t c =
    let f : inside c.args.levels (sign s.CloseSquare) c.args.cursor.now.place c.args.cursor.now.rest.now ≡ Ok (c.in_ok-sign.field-0, c.sign.new.self.place, c.sign.new.self.rest.now) =
    sign_read (parse_below {R = readers} constant_within c.args.levels) s.CloseSquare c.args.cursor.now.place c.args.cursor.now.rest.now ∙ c.in_ok-sign.ensures in
    first_of (search rules, grind (arith, common_steps))

pub list_on-returns-in_err-sign : goal.list_on-returns-in_err-sign
unfolding parse list_on
list_on-returns-in_err-sign t c =
    let f : Fails (inside c.args.levels (sign s.CloseSquare) c.more_items.new.cursor.place c.more_items.new.cursor.rest.now) c.in_err-sign.field-0.0 c.sign.new.self.place c.sign.new.self.rest.now =
    subst (λ (o : Outcome Question (Unit {0})). Fails o c.in_err-sign.field-0.0 c.sign.new.self.place c.sign.new.self.rest.now) (sym (sign_read (parse_below {R = readers} constant_within c.args.levels) s.CloseSquare c.more_items.new.cursor.place c.more_items.new.cursor.rest.now)) c.in_err-sign.ensures in
    first_of (search rules, grind (arith, common_steps))

pub list_on-returns : goal.list_on-returns
unfolding parse list_on
list_on-returns t c =
    let f : inside c.args.levels (sign s.CloseSquare) c.more_items.new.cursor.place c.more_items.new.cursor.rest.now ≡ Ok (c.in_ok-sign.field-0, c.sign.new.self.place, c.sign.new.self.rest.now) =
    sign_read (parse_below {R = readers} constant_within c.args.levels) s.CloseSquare c.more_items.new.cursor.place c.more_items.new.cursor.rest.now ∙ c.in_ok-sign.ensures in
    first_of (search rules, grind (arith, common_steps))

pub pair-returns-in_err-sign : goal.pair-returns-in_err-sign
unfolding parse token pair
pair-returns-in_err-sign t c =
    let f : Fails (inside c.args.levels (sign s.Colon) c.token.new.self.place c.token.new.self.rest.now) c.in_err-sign.field-0.0 c.sign.new.self.place c.sign.new.self.rest.now =
    subst (λ (o : Outcome Question (Unit {0})). Fails o c.in_err-sign.field-0.0 c.sign.new.self.place c.sign.new.self.rest.now) (sym (sign_read (parse_below {R = readers} constant_within c.args.levels) s.Colon c.token.new.self.place c.token.new.self.rest.now)) c.in_err-sign.ensures in
    first_of (search rules, grind (arith, common_steps))

pub pair-returns-in_err-value : goal.pair-returns-in_err-value
unfolding parse token pair
pair-returns-in_err-value t c =
    let f : inside c.args.levels (sign s.Colon) c.token.new.self.place c.token.new.self.rest.now ≡ Ok (c.in_ok-sign.field-0, c.sign.new.self.place, c.sign.new.self.rest.now) =
    sign_read (parse_below {R = readers} constant_within c.args.levels) s.Colon c.token.new.self.place c.token.new.self.rest.now ∙ c.in_ok-sign.ensures in
    first_of (search rules, grind (arith, common_steps))

pub pair-returns : goal.pair-returns
unfolding parse token pair
pair-returns t c =
    let f : inside c.args.levels (sign s.Colon) c.token.new.self.place c.token.new.self.rest.now ≡ Ok (c.in_ok-sign.field-0, c.sign.new.self.place, c.sign.new.self.rest.now) =
    sign_read (parse_below {R = readers} constant_within c.args.levels) s.Colon c.token.new.self.place c.token.new.self.rest.now ∙ c.in_ok-sign.ensures in
    first_of (search rules, grind (arith, common_steps))

pub rec-returns-in_err-sign : goal.rec-returns-in_err-sign
unfolding parse rec
rec-returns-in_err-sign t c =
    let f : Fails (inside c.args.levels (sign s.CloseBrace) c.args.cursor.now.place c.args.cursor.now.rest.now) c.in_err-sign.field-0.0 c.sign.new.self.place c.sign.new.self.rest.now =
    subst (λ (o : Outcome Question (Unit {0})). Fails o c.in_err-sign.field-0.0 c.sign.new.self.place c.sign.new.self.rest.now) (sym (sign_read (parse_below {R = readers} constant_within c.args.levels) s.CloseBrace c.args.cursor.now.place c.args.cursor.now.rest.now)) c.in_err-sign.ensures in
    first_of (search rules, grind (arith, common_steps))

pub rec-returns-then-sees_sign : goal.rec-returns-then-sees_sign
unfolding parse rec
rec-returns-then-sees_sign t c =
    let f : inside c.args.levels (sign s.CloseBrace) c.args.cursor.now.place c.args.cursor.now.rest.now ≡ Ok (c.in_ok-sign.field-0, c.sign.new.self.place, c.sign.new.self.rest.now) =
    sign_read (parse_below {R = readers} constant_within c.args.levels) s.CloseBrace c.args.cursor.now.place c.args.cursor.now.rest.now ∙ c.in_ok-sign.ensures in
    first_of (search rules, grind (arith, common_steps))

pub rec_on-returns-in_err-sign : goal.rec_on-returns-in_err-sign
unfolding parse rec_on
rec_on-returns-in_err-sign t c =
    let f : Fails (inside c.args.levels (sign s.CloseBrace) c.more_pairs.new.cursor.place c.more_pairs.new.cursor.rest.now) c.in_err-sign.field-0.0 c.sign.new.self.place c.sign.new.self.rest.now =
    subst (λ (o : Outcome Question (Unit {0})). Fails o c.in_err-sign.field-0.0 c.sign.new.self.place c.sign.new.self.rest.now) (sym (sign_read (parse_below {R = readers} constant_within c.args.levels) s.CloseBrace c.more_pairs.new.cursor.place c.more_pairs.new.cursor.rest.now)) c.in_err-sign.ensures in
    first_of (search rules, grind (arith, common_steps))

pub rec_on-returns : goal.rec_on-returns
unfolding parse rec_on
rec_on-returns t c =
    let f : inside c.args.levels (sign s.CloseBrace) c.more_pairs.new.cursor.place c.more_pairs.new.cursor.rest.now ≡ Ok (c.in_ok-sign.field-0, c.sign.new.self.place, c.sign.new.self.rest.now) =
    sign_read (parse_below {R = readers} constant_within c.args.levels) s.CloseBrace c.more_pairs.new.cursor.place c.more_pairs.new.cursor.rest.now ∙ c.in_ok-sign.ensures in
    first_of (search rules, grind (arith, common_steps))

pub constant_within-returns-in-Text : goal.constant_within-returns-in-Text
unfolding parse token constant_within
constant_within-returns-in-Text t c =
    let f : Gives (inside c.args.levels (text_constant c.in-Text.text) c.token.new.self.place c.token.new.self.rest.now) c.text_constant.result c.token.new.self.place c.token.new.self.rest.now =
    text_given (parse_below {R = readers} constant_within c.args.levels) c.in-Text.text c.token.new.self.place c.token.new.self.rest.now c.text_constant.result c.text_constant.ensures.found c.text_constant.ensures.refused in
    first_of (search rules, grind (arith, common_steps))

pub constant_within-returns-in-Sign-Minus : goal.constant_within-returns-in-Sign-Minus
unfolding parse token constant_within
constant_within-returns-in-Sign-Minus t c =
    let f : Gives (inside c.args.levels negative c.token.new.self.place c.token.new.self.rest.now) c.negative.result c.negative.new.cursor.place c.negative.new.cursor.rest.now =
    subst (λ (o : Outcome Question Value). Gives o c.negative.result c.negative.new.cursor.place c.negative.new.cursor.rest.now)
    (sym (negative_read (parse_below {R = readers} constant_within c.args.levels) c.token.new.self.place c.token.new.self.rest.now)) c.negative.ensures in
    first_of (search rules, grind (arith, common_steps))
