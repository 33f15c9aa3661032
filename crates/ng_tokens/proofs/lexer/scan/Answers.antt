use Rattle.std.proofs.Common.{sym, ◌∙◌}
use Rattle.ng_tokens.proofs.Scanning.{inv_none, inv_some, inv_end, is_more, is_end}
use Rattle.ng_tokens.proofs.lexer.scan.Goals as goal

pub returns-in_default : goal.returns-in_default
returns-in_default c =
    inv_none _ c.loop-rest.found.items c.args.comments c.loop-rest.place c.loop-rest.rest.now c.loop-rest.invariant (is_more _ (sym c.loop-rest-test.ensures)) (sym c.in_ok-kind.ensures.value ∙ c.in_default.is)

pub loop-rest-preserved : goal.loop-rest-preserved
loop-rest-preserved c =
    rw c.in_ok-keep.ensures (inv_some _ c.loop-rest.found.items c.args.comments c.loop-rest.place c.loop-rest.rest.now c.in-Some.kind c.in-Some.len c.steps-place.result c.loop-rest.invariant
    (sym c.in_ok-kind.ensures.value ∙ c.in-Some.is) c.steps-place.ensures.value c.steps-place.ensures.bounds)

pub returns : goal.returns
returns c = inv_end _ c.loop-rest.found.items c.args.comments c.loop-rest.place c.loop-rest.rest.now c.loop-rest.invariant (is_end _ (sym c.loop-rest-test.ensures))
