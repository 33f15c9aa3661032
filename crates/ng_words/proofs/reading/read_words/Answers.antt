use Rattle.std.proofs.Common.{◌≡◌, ◌∙◌, ap, sym, subst, refl, true, List, [], ◌∷◌, Option, Some, None, option_map, MatchResult, inl, inr}
use Rattle.std.specs.Option.{ok_or}
use Rattle.clap.specs.Words.{HasKind, IsAmong, Kinds, Text, app_of, is_simple, is_simple_and_free, fault_of, matches_of, found_of, rows_of}
use Rattle.clap.specs.declared.error.kind.ErrorKind.{ErrorKind}
use Rattle.clap.proofs.OnLiterals.{clap_on_literals}
use Rattle.ng_words.specs.Command.{command}
use Rattle.ng_words.specs.Orders.{asked, asked_in, given_in, meant, unless_refused}
use Rattle.ng_words.specs.Texts.{texts, IsRefusedOrMemory}
use Rattle.ng_words.specs.declared.order.Order.{Order}
use Rattle.ng_words.specs.declared.reading.Refused.TheVariants as refused
use Rattle.ng_words.proofs.reading.read_words.Goals as goal

plain : is_simple command ≡ true
unfolding command clap_on_literals
plain = refl

free : is_simple_and_free command ≡ true
unfolding command clap_on_literals
free = refl

-- what is asked where `clap` takes the words
taken : (words : List Text) → fault_of command words ≡ [] → asked words ≡ asked_in (given_in (matches_of command words))
unfolding asked
taken words none = ap (λ ks. unless_refused ks (asked_in (given_in (matches_of command words)))) none

-- nothing is asked where `clap` refuses them
not_taken : (words : List Text) (k : ErrorKind) → IsAmong k (fault_of command words) → asked words ≡ None
unfolding asked
not_taken words k among = go (fault_of command words) among
  where
    go : (ks : Kinds) → IsAmong k ks → unless_refused ks (asked_in (given_in (matches_of command words))) ≡ None
    go [] h = absurd h
    go (x ∷ xs) h = refl

decided : (words : List Text) (o : Option Order) → option_map meant o ≡ asked words → MatchResult (ok_or o refused.Words) (λ o. asked words ≡ Some (meant o)) (IsRefusedOrMemory words)
decided words None found = sym found
decided words (Some o) found = sym found

pub returns-in-Ok-try_get_matches_from : goal.returns-in-Ok-try_get_matches_from
returns-in-Ok-try_get_matches_from c =
    let words = texts c.args.words.now in
    let is : app_of c.in-Ok.command ≡ command = c.in-Ok.ensures in
    let none : fault_of command words ≡ [] = ap (λ a. fault_of a words) (sym is) ∙ c.in-Ok-try_get_matches_from.ensures.kinds (ap is_simple_and_free is ∙ free) in
    let rows : rows_of (found_of c.in-Ok-try_get_matches_from.matches) ≡ matches_of command words =
    (c.in-Ok-try_get_matches_from.ensures.matches (ap is_simple is ∙ plain)).0 ∙ ap (λ a. matches_of a words) is in
    let found : option_map meant c.order.result ≡ asked words = c.order.ensures ∙ ap (λ r. asked_in (given_in r)) rows ∙ sym (taken words none) in
    subst (λ r. MatchResult r (λ o. asked words ≡ Some (meant o)) (IsRefusedOrMemory words)) (sym c.ok_or.ensures.value) (decided words c.order.result found)

pub returns : goal.returns
returns c =
    let words = texts c.args.words.now in
    let is : app_of c.in-Ok.command ≡ command = c.in-Ok.ensures in
    let kind : HasKind (fault_of command words) c.in-Err.error =
    subst (λ a. HasKind (fault_of a words) c.in-Err.error) is (c.in-Err.ensures.kinds (ap is_simple_and_free is ∙ free)) in
    elim kind [
      | inl memory ↦ absurd (c.in_default-kind.not-OutOfMemory (c.kind.ensures ∙ memory))
      | inr among ↦ not_taken words _ among
    ]
