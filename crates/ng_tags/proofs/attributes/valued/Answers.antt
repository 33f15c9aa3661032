use Rattle.std.proofs.Common.{rules, sym, ◌∙◌, ap}
use Rattle.ng_lex.specs.Words.{at_front}
use Rattle.ng_tags.specs.Tags.{ends_attribute}
use Rattle.ng_tags.proofs.AttributeAnswers.{said_followed, said_undecoded, saying_halts, said_ok}
use Rattle.ng_tags.proofs.attributes.valued.Goals as goal

pub as_bytes-requires-text-self : goal.as_bytes-requires-text-self
as_bytes-requires-text-self c κs = search rules

pub decode_value-requires-text-text : goal.decode_value-requires-text-text
decode_value-requires-text-text c κs = search rules

pub returns-else-ends_attribute : goal.returns-else-ends_attribute
returns-else-ends_attribute c = said_followed _ _ _ _ c.args.rest.text.now (ap (at_front ends_attribute) (sym c.as_bytes.ensures.value) ∙ sym c.ends_attribute.ensures ∙ c.if-ends_attribute.false)

pub decode_value-requires : goal.decode_value-requires
decode_value-requires c = c.requires

pub returns-in_err-value : goal.returns-in_err-value
returns-in_err-value c = search rules

pub returns-in_default : goal.returns-in_default
returns-in_default c = let h = rw c.in_default.is at c.in_ok-value.ensures in said_undecoded _ _ _ _ _ h

pub returns-in_err-name : goal.returns-in_err-name
returns-in_err-name c = search rules

pub says-requires-clause-decoded : goal.says-requires-clause-decoded
says-requires-clause-decoded c = let h = rw c.in-Some.is at c.in_ok-value.ensures in h.1

pub says-requires-clause-fits : goal.says-requires-clause-fits
says-requires-clause-fits c = let h = rw c.in-Some.is at c.in_ok-value.ensures in h.2

pub returns-then-ends_attribute : goal.returns-then-ends_attribute
returns-then-ends_attribute c = let h = rw c.in-Some.is at c.in_ok-value.ensures in said_ok _ _ _ _ _ _ h.0 c.in-Ok.found _ c.in-Ok.ensures c.in_ok-name.ensures (ap (at_front ends_attribute) (sym c.as_bytes.ensures.value) ∙ sym c.ends_attribute.ensures ∙ c.if-ends_attribute.true)

pub returns-in-Err : goal.returns-in-Err
returns-in-Err c = let h = rw c.in-Some.is at c.in_ok-value.ensures in saying_halts _ _ _ _ _ _ h.0 c.in-Err.stop c.in-Err.ensures
