use Rattle.std.proofs.Common.{sym, ◌∙◌, ap, arith}
use Rattle.ng_tokens.specs.declared.kinds.Sign.TheVariants as s
use Rattle.ng_tags.specs.Outlets.{is_colon}
use Rattle.ng_tags.proofs.OutletForms.{sign_within}
use Rattle.ng_tags.proofs.OutletAnswers.{colon_is, colon_some, colon_none}
use Rattle.ng_tags.proofs.outlets.colon.Goals as goal

pub skip-requires-clause-cursor : goal.skip-requires-clause-cursor
skip-requires-clause-cursor c = c.requires

pub skip-requires-clause-within : goal.skip-requires-clause-within
skip-requires-clause-within c =
    omega (arith, sign_within c.args.cursor.tokens.now 0 s.Colon (colon_is _ (ap is_colon (sym c.sign.ensures) ∙ sym c.is_colon.ensures ∙ c.if-is_colon.true)))

pub returns-then-is_colon : goal.returns-then-is_colon
returns-then-is_colon c = colon_some c.args.cursor c.skip.result (ap is_colon (sym c.sign.ensures) ∙ sym c.is_colon.ensures ∙ c.if-is_colon.true) c.skip.ensures

pub returns-else-is_colon : goal.returns-else-is_colon
returns-else-is_colon c = colon_none c.args.cursor (ap is_colon (sym c.sign.ensures) ∙ sym c.is_colon.ensures ∙ c.if-is_colon.false)
