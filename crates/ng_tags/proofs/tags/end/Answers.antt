use Rattle.std.proofs.Common.{sym, ◌∙◌, ap}
use Rattle.ng_lex.specs.Attributes.{is_void}
use Rattle.ng_attributes.proofs.WordLaws.{empty_is, some_is}
use Rattle.ng_tags.proofs.Tagging.{no_close}
use Rattle.ng_tags.proofs.TagAnswers.{end_unnamed, void_end, end_open, end_more, end_whole}
use Rattle.ng_tags.proofs.tags.end.Goals as goal

pub returns-in_default : goal.returns-in_default
returns-in_default c = no_close c.args.at.place c.args.at.text.now c.in_default.ensures

pub returns-in_default-tag_name : goal.returns-in_default-tag_name
returns-in_default-tag_name c = end_unnamed c.args.at c.in-Some.inside c.in-Some.ensures.0 c.in_default-tag_name.ensures

pub returns-then-is_void : goal.returns-then-is_void
returns-then-is_void c = void_end c.args.at c.in-Some.inside c.in-Some.ensures.0 _ _ c.in-Some-tag_name.ensures (ap is_void (sym c.as_bytes.ensures.value) ∙ sym c.is_void.ensures ∙ c.if-is_void.true)

pub returns-in_default-strip : goal.returns-in_default-strip
returns-in_default-strip c = end_open c.args.at c.in-Some.inside c.in-Some.ensures.0 _ _ c.in-Some-tag_name.ensures _ c.take.result.1 c.take.ensures.run c.in_default-strip.ensures

pub returns-then-not-is_empty : goal.returns-then-not-is_empty
returns-then-not-is_empty c =
    end_more c.args.at c.in-Some.inside c.in-Some.ensures.0 _ _ c.in-Some-tag_name.ensures _ c.take.result.1 c.take.ensures.run c.in-Some-strip.after c.in-Some-strip.ensures.0 (some_is _ (sym c.is_empty.ensures ∙ c.if-not-is_empty.true))

pub returns : goal.returns
returns c =
    end_whole c.args.at c.in-Some.inside c.in-Some.ensures.0 _ _ c.in-Some-tag_name.ensures _ c.take.result.1 c.take.ensures.run c.in-Some-strip.after c.in-Some-strip.ensures.0 (ap is_void (sym c.as_bytes.ensures.value) ∙ sym c.is_void.ensures ∙ c.if-is_void.false)
    (empty_is _ (sym c.is_empty.ensures ∙ c.if-not-is_empty.false)) _ c.in_ok-new.ensures
