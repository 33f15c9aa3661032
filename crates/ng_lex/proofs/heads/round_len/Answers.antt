use Rattle.std.proofs.Common.{sym, ◌∙◌, ap, subst, arith}
use Rattle.std.specs.Prelude.{slice_get}
use Rattle.std.specs.Str.{IsUtf8}
use Rattle.ng_tokens.proofs.Scanning.{is_more, is_end}
use Rattle.ng_lex.proofs.Loops.{round_none, round_past, round_close, round_on, round_other, round_end, after_byte}
use Rattle.ng_lex.proofs.heads.round_len.Goals as goal

pub returns-in_err-len-clause-value : goal.returns-in_err-len-clause-value
returns-in_err-len-clause-value c =
    c.from_residual.ensures ∙ round_none _ c.loop-rest.at c.loop-rest.rest.now c.loop-rest.invariant.1 (is_more _ (sym c.loop-rest-test.ensures)) (sym c.end_of.ensures.value ∙ c.in_err-len.was)

pub returns-in-Some-eq41-clause-value : goal.returns-in-Some-eq41-clause-value
returns-in-Some-eq41-clause-value c =
    round_close _ c.loop-rest.at c.loop-rest.rest.now c.in_ok-len.len c.in-Some-eq41.field-0 c.loop-rest.invariant.1 (sym c.end_of.ensures.value ∙ c.in_ok-len.was)
    (ap (λ z. slice_get z c.in_ok-len.len) (sym c.as_bytes.ensures.value) ∙ sym c.byte_of.ensures.value ∙ c.in-Some-eq41.is) c.in-Some-eq41.field-0-test

pub after-rest-requires : goal.after-rest-requires
after-rest-requires c =
    after_byte c.loop-rest.rest.now c.in_ok-len.len c.in-Some-eq59.field-0 (ap (λ z. slice_get z c.in_ok-len.len) (sym c.as_bytes.ensures.value) ∙ sym c.byte_of.ensures.value ∙ c.in-Some-eq59.is)
    (omega (arith, c.in-Some-eq59.field-0-test)) (subst IsUtf8 c.as_bytes.ensures.value c.as_bytes.ensures.utf8)

pub loop-rest-preserved : goal.loop-rest-preserved
loop-rest-preserved c = (
  c.after-rest.utf8,
  rw c.after-rest.ensures.value (round_on _ c.loop-rest.at c.loop-rest.rest.now c.in_ok-len.len c.in-Some-eq59.field-0 c.loop-rest.invariant.1 (sym c.end_of.ensures.value ∙ c.in_ok-len.was)
      (ap (λ z. slice_get z c.in_ok-len.len) (sym c.as_bytes.ensures.value) ∙ sym c.byte_of.ensures.value ∙ c.in-Some-eq59.is) c.in-Some-eq59.field-0-test),
  omega (arith, c.after-rest.ensures.len, c.loop-rest.invariant.2),
)

pub returns-in_default-clause-value : goal.returns-in_default-clause-value
returns-in_default-clause-value c =
    round_other _ c.loop-rest.at c.loop-rest.rest.now c.in_ok-len.len _ c.loop-rest.invariant.1 (sym c.end_of.ensures.value ∙ c.in_ok-len.was)
    (ap (λ z. slice_get z c.in_ok-len.len) (sym c.as_bytes.ensures.value) ∙ sym c.in_default.ensures.value) c.in_default.field-0-test.0.1 c.in_default.field-0-test.1

pub returns-in_default-2-clause-value : goal.returns-in_default-2-clause-value
returns-in_default-2-clause-value c =
    round_past _ c.loop-rest.at c.loop-rest.rest.now c.in_ok-len.len c.loop-rest.invariant.1 (is_more _ (sym c.loop-rest-test.ensures)) (sym c.end_of.ensures.value ∙ c.in_ok-len.was)
    (ap (λ z. slice_get z c.in_ok-len.len) (sym c.as_bytes.ensures.value) ∙ sym c.byte_of.ensures.value ∙ c.in_default.is)

pub returns-clause-value : goal.returns-clause-value
returns-clause-value c = round_end _ c.loop-rest.at c.loop-rest.rest.now c.loop-rest.invariant.1 (is_end _ (sym c.loop-rest-test.ensures))
