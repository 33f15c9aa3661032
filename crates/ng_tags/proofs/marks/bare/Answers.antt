use Rattle.std.proofs.Common.{sym, ◌∙◌, ap, inl, inr}
use Rattle.ng_lex.specs.Words.{at_front}
use Rattle.ng_lex.specs.Attributes.{ends_bare}
use Rattle.ng_attributes.proofs.WordLaws.{empty_is}
use Rattle.ng_tags.proofs.MarkLaws.{bare_none}
use Rattle.ng_tags.proofs.marks.bare.Goals as goal

pub returns-then-is_empty : goal.returns-then-is_empty
returns-then-is_empty c = bare_none _ _ _ c.take.ensures.run (inl (empty_is _ (sym c.is_empty.ensures ∙ c.if-is_empty.true)))

pub returns-then-not-ends_bare : goal.returns-then-not-ends_bare
returns-then-not-ends_bare c = bare_none _ _ _ c.take.ensures.run (inr (ap (at_front ends_bare) (sym c.as_bytes.ensures.value) ∙ sym c.ends_bare.ensures ∙ c.if-not-ends_bare.true))
