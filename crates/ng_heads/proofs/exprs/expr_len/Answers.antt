use Rattle.std.proofs.Common.{sym, ◌∙◌, ap}
use Rattle.std.specs.Prelude.{slice_get}
use Rattle.ng_heads.specs.Fronts.{is_end}
use Rattle.ng_heads.proofs.FrontLaws.{ended, ended_boundary, unended, not_ended}
use Rattle.ng_heads.proofs.exprs.expr_len.Goals as goal

pub returns-in_err-len-clause-found : goal.returns-in_err-len-clause-found
returns-in_err-len-clause-found c = rw c.from_residual.ensures (unended c.args.text.now (sym c.end_of.ensures.value ∙ c.in_err-len.was))

pub returns-then-ends_at-clause-found : goal.returns-then-ends_at-clause-found
returns-then-ends_at-clause-found c =
    ended c.args.text.now c.in_ok-len.len (sym c.end_of.ensures.value ∙ c.in_ok-len.was) (ap (λ z. is_end (slice_get z c.in_ok-len.len)) (sym c.as_bytes.ensures.value) ∙ sym c.ends_at.ensures ∙ c.if-ends_at.true)

pub returns-then-ends_at-clause-boundary : goal.returns-then-ends_at-clause-boundary
returns-then-ends_at-clause-boundary c = ended_boundary c.args.text.now c.in_ok-len.len (ap (λ z. is_end (slice_get z c.in_ok-len.len)) (sym c.as_bytes.ensures.value) ∙ sym c.ends_at.ensures ∙ c.if-ends_at.true) c.utf8.text

pub returns-else-ends_at-clause-found : goal.returns-else-ends_at-clause-found
returns-else-ends_at-clause-found c =
    not_ended c.args.text.now c.in_ok-len.len (sym c.end_of.ensures.value ∙ c.in_ok-len.was) (ap (λ z. is_end (slice_get z c.in_ok-len.len)) (sym c.as_bytes.ensures.value) ∙ sym c.ends_at.ensures ∙ c.if-ends_at.false)
