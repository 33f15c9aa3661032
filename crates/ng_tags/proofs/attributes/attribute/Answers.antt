use Rattle.std.proofs.Common.{rules, refl, sym, ◌∙◌}
use Rattle.ng_attributes.proofs.WordLaws.{empty_is, some_is}
use Rattle.ng_tags.proofs.AttributeLaws.{no_name, no_form}
use Rattle.ng_tags.proofs.attributes.attribute.Goals as goal

pub take-requires : goal.take-requires
take-requires c = c.requires

pub is_empty-requires-text-self : goal.is_empty-requires-text-self
is_empty-requires-text-self c κs = search rules

pub returns-then-is_empty : goal.returns-then-is_empty
returns-then-is_empty c = no_name c.args.at.place c.args.at.text.now c.take.result.0.now c.take.result.1.text.now c.take.ensures.run (empty_is _ (sym c.is_empty.ensures ∙ c.if-is_empty.true))

pub form_of-requires : goal.form_of-requires
form_of-requires c = search rules

pub returns-in_err-form : goal.returns-in_err-form
returns-in_err-form c = search rules

pub behind-requires : goal.behind-requires
behind-requires c = c.take.ensures.fits

pub returns-in-Some : goal.returns-in-Some
returns-in-Some c =
    c.behind.ensures c.args.at c.take.result.0.now refl c.take.ensures.run c.take.ensures.place (some_is _ (sym c.is_empty.ensures ∙ c.if-is_empty.false)) (sym c.in_ok-form.ensures ∙ c.in-Some.is)

pub returns-in-None : goal.returns-in-None
returns-in-None c = no_form c.args.at.place c.args.at.text.now c.take.result.0.now c.take.result.1.text.now c.take.ensures.run (sym c.in_ok-form.ensures ∙ c.in-None.is)
