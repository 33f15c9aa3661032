use Rattle.std.proofs.Common.{sym, ◌∙◌, ap}
use Rattle.ng_lex.specs.Words.{at_front}
use Rattle.ng_tags.specs.Tags.{ends_attribute}
use Rattle.ng_tags.proofs.AttributeAnswers.{lone_followed}
use Rattle.ng_tags.proofs.attributes.alone.Goals as goal

pub returns-then-not-ends_attribute : goal.returns-then-not-ends_attribute
returns-then-not-ends_attribute c = lone_followed c.args.place c.args.form.now c.args.rest.text.now (ap (at_front ends_attribute) (sym c.as_bytes.ensures.value) ∙ sym c.ends_attribute.ensures ∙ c.if-not-ends_attribute.true)
