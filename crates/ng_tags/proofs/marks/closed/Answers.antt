use Rattle.std.proofs.Common.{refl, sym, ◌∙◌, ap, ◌++◌}
use Rattle.ng_tokens.specs.Lexis.{steps}
use Rattle.ng_attributes.specs.Runs.{passes}
use Rattle.ng_attributes.proofs.Texts.{steps_append}
use Rattle.ng_attributes.proofs.Places.{fits_front}
use Rattle.ng_tags.proofs.MarkLaws.{closed_none}
use Rattle.ng_tags.proofs.marks.closed.Goals as goal

pub returns-in_default : goal.returns-in_default
returns-in_default c = closed_none (passes c.args.class) c.args.mark.now _ _ _ c.take.ensures.run c.requires.ends c.in_default.ensures

pub returns : goal.returns
returns c = record {
  passes = c.take.ensures.run.passes;
  is = c.take.ensures.run.is ∙ ap (λ k. c.take.result.0.now ++ k) c.in-Some.ensures.0;
  start = refl;
  end = c.in-Some.ensures.1 ∙ ap (λ k. steps k c.args.mark.now) c.take.ensures.place ∙ sym (steps_append c.args.at.place c.take.result.0.now c.args.mark.now);
  both = record { inside = fits_front c.args.at.place c.args.at.text.now c.take.result.0.now _ c.requires.fits c.take.ensures.run.is; rest = c.in-Some.ensures.2 };
}
