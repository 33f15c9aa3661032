use Rattle.std.proofs.Common.{sym, ◌∙◌, arith}
use Rattle.ng_tokens.proofs.Scanning.{is_more, is_end}
use Rattle.ng_lex.proofs.Cutting.{refused_as, inv_none, inv_some, inv_end}
use Rattle.ng_lex.proofs.spans.cut.Goals as goal

pub returns-in_default : goal.returns-in_default
returns-in_default c =
    refused_as _ _ c.refused.result (λ _. inv_none _ c.loop-rest.found.items c.loop-rest.from c.loop-rest.rest.now c.loop-rest.invariant.1 (is_more _ (sym c.loop-rest-test.ensures)) (sym c.span.ensures.value ∙ c.in_default.is)) c.refused.ensures

pub loop-rest-preserved : goal.loop-rest-preserved
loop-rest-preserved c = (
  c.after-rest.utf8,
  rw (c.after-rest.ensures.value, c.in_ok-push.ensures.items) (inv_some _ c.loop-rest.found.items c.loop-rest.from c.loop-rest.rest.now c.in-Some.kind c.in-Some.len c.loop-rest.invariant.1 (sym c.span.ensures.value ∙ c.in-Some.is)),
  omega (arith, c.after-rest.ensures.len, c.loop-rest.invariant.2),
)

pub returns : goal.returns
returns c = inv_end _ c.loop-rest.found.items c.loop-rest.from c.loop-rest.rest.now c.loop-rest.invariant.1 (is_end _ (sym c.loop-rest-test.ensures))
