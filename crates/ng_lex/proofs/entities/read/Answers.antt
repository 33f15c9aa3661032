use Rattle.std.proofs.Common.{ℕ, sym, subst}
use Rattle.std.specs.Prelude.{Option}
use Rattle.ng_tokens.proofs.Scanning.{is_more, is_end}
use Rattle.ng_lex.specs.Decode.{letters_at, Puts}
use Rattle.ng_lex.proofs.Reading.{inv_none, inv_some, inv_end}
use Rattle.ng_lex.proofs.entities.read.Goals as goal

pub returns-in_default : goal.returns-in_default
returns-in_default c =
    let P : Option ℕ → Type 0 = λ o. Puts (letters_at c.loop-rest.place c.loop-rest.rest.now) c.loop-rest.found.items c.front.new.found.items o in
    inv_none _ c.loop-rest.found.items c.loop-rest.place c.loop-rest.rest.now c.loop-rest.invariant (is_more _ (sym c.loop-rest-test.ensures)) (subst P c.in_default.is c.in_ok-len.ensures.value)

pub loop-rest-preserved : goal.loop-rest-preserved
loop-rest-preserved c =
    let P : Option ℕ → Type 0 = λ o. Puts (letters_at c.loop-rest.place c.loop-rest.rest.now) c.loop-rest.found.items c.front.new.found.items o in
    inv_some _ c.loop-rest.found.items c.front.new.found.items c.loop-rest.place c.loop-rest.rest.now c.in-Some.len c.steps-place.result c.loop-rest.invariant (subst P c.in-Some.is c.in_ok-len.ensures.value)
    c.steps-place.ensures.value c.steps-place.ensures.bounds

pub returns : goal.returns
returns c = inv_end _ c.loop-rest.found.items c.loop-rest.place c.loop-rest.rest.now c.loop-rest.invariant (is_end _ (sym c.loop-rest-test.ensures))
