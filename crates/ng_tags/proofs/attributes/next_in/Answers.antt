use Rattle.std.proofs.Common.{rules, refl, sym, ◌∙◌}
use Rattle.std.specs.Prelude.{true, false}
use Rattle.ng_attributes.proofs.WordLaws.{empty_is, some_is}
use Rattle.ng_tags.proofs.AttributeSteps.{next_end, next_none, next_attribute}
use Rattle.ng_tags.proofs.attributes.next_in.Goals as goal

pub take-requires : goal.take-requires
take-requires c = c.requires

pub strip-requires-clause-fits : goal.strip-requires-clause-fits
strip-requires-clause-fits c = c.take.ensures.fits

pub strip-requires-clause-ascii : goal.strip-requires-clause-ascii
strip-requires-clause-ascii c = refl

pub strip-requires-in_default-clause-fits : goal.strip-requires-in_default-clause-fits
strip-requires-in_default-clause-fits c = c.take.ensures.fits

pub strip-requires-in_default-clause-ascii : goal.strip-requires-in_default-clause-ascii
strip-requires-in_default-clause-ascii c = refl

pub returns-in-Some : goal.returns-in-Some
returns-in-Some c = next_end c.args.at c.in-Some.after _ _ false c.take.ensures.run c.in-Some.ensures.0

pub returns-in-Some-strip : goal.returns-in-Some-strip
returns-in-Some-strip c = next_end c.args.at c.in-Some-strip.after _ _ true c.take.ensures.run c.in-Some-strip.ensures.0

pub returns-then-is_empty : goal.returns-then-is_empty
returns-then-is_empty c = next_none c.args.at _ _ c.take.ensures.run (empty_is _ (sym c.is_empty.ensures ∙ c.if-is_empty.true)) c.in_default.ensures c.in_default-strip.ensures

pub returns-else-is_empty : goal.returns-else-is_empty
returns-else-is_empty c =
    next_attribute c.args.at c.take.result.1 _ c.take.ensures.run (some_is _ (sym c.is_empty.ensures ∙ c.if-is_empty.false)) c.take.ensures.place c.in_default.ensures c.in_default-strip.ensures c.take.ensures.fits

pub is_empty-requires-text-self : goal.is_empty-requires-text-self
is_empty-requires-text-self c κs = search rules
