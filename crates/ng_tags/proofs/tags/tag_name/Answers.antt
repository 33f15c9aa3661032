use Rattle.std.proofs.Common.{sym, ◌∙◌, ap}
use Rattle.ng_tokens.specs.Lexis.{is_one_of}
use Rattle.ng_lex.specs.Words.{at_front}
use Rattle.ng_lex.specs.Attributes.{is_lower, refused_tags}
use Rattle.ng_tags.proofs.TagAnswers.{no_lower, refused_run, tag_run}
use Rattle.ng_tags.proofs.tags.tag_name.Goals as goal

pub returns-then-not-starts_lower : goal.returns-then-not-starts_lower
returns-then-not-starts_lower c = no_lower c.args.at.text.now (ap (at_front is_lower) (sym c.as_bytes.ensures.value) ∙ sym c.starts_lower.ensures ∙ c.if-not-starts_lower.true)

pub returns-then-is_refused : goal.returns-then-is_refused
returns-then-is_refused c =
    refused_run c.args.at.text.now c.take.result.0.now c.take.result.1.text.now c.take.ensures.run (ap (is_one_of refused_tags) (sym c.as_bytes-2.ensures.value) ∙ sym c.is_refused.ensures ∙ c.if-is_refused.true)

pub returns-else-is_refused : goal.returns-else-is_refused
returns-else-is_refused c = record {
  name = tag_run c.args.at.text.now c.take.result.0.now c.take.result.1.text.now c.take.ensures.run (ap (at_front is_lower) (sym c.as_bytes.ensures.value) ∙ sym c.starts_lower.ensures ∙ c.if-not-starts_lower.false)
      (ap (is_one_of refused_tags) (sym c.as_bytes-2.ensures.value) ∙ sym c.is_refused.ensures ∙ c.if-is_refused.false);
  run = c.take.ensures.run;
  place = c.take.ensures.place;
  fits = c.take.ensures.fits;
}
