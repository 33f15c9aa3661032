use Rattle.std.proofs.Common.{sym, ◌∙◌, subst}
use Rattle.std.specs.Prelude.{Some, None}
use Rattle.ng_attributes.proofs.WordLaws.{empty_is, some_is}
use Rattle.ng_tags.specs.declared.tags.Element.TheVariants as e
use Rattle.ng_tags.specs.Tokens.{Chooses}
use Rattle.ng_tags.proofs.Tagging.{no_open}
use Rattle.ng_tags.proofs.TagAnswers.{unnamed, start_halts, more_behind, start_none, start_single, start_paired}
use Rattle.ng_tags.proofs.tags.start.Goals as goal

pub returns-in_default : goal.returns-in_default
returns-in_default c = no_open c.args.at.place c.args.at.text.now c.in_default.ensures

pub returns-in_default-tag_name : goal.returns-in_default-tag_name
returns-in_default-tag_name c = unnamed c.args.at c.in-Some.inside c.in-Some.ensures.0 c.in_default-tag_name.ensures

pub returns-in-Err : goal.returns-in-Err
returns-in-Err c = start_halts c.args.at c.in-Some.inside c.in-Some.ensures.0 c.in-Some.ensures.1 _ _ c.in-Some-tag_name.ensures c.in-Err.stop c.in-Err.ensures

pub returns-then-not-is_empty : goal.returns-then-not-is_empty
returns-then-not-is_empty c =
    more_behind c.args.at c.in-Some.inside c.in-Some.ensures.0 c.in-Some.ensures.1 _ _ c.in-Some-tag_name.ensures c.in-Ok.read c.in-Ok.ensures (some_is _ (sym c.is_empty.ensures ∙ c.if-not-is_empty.true))

pub returns-in-Some-Single : goal.returns-in-Some-Single
returns-in-Some-Single c =
    start_single c.args.at c.in-Some.inside c.in-Some.ensures.0 c.in-Some.ensures.1 _ _ c.in-Some-tag_name.ensures c.in-Ok.read c.in-Ok.ensures (empty_is _ (sym c.is_empty.ensures ∙ c.if-not-is_empty.false))
    (subst (λ k. Chooses k c.in-Ok.read.closed (Some e.Single)) c.as_bytes.ensures.value (rw c.in-Some-Single.field-0-is at c.in-Some-Single.ensures)) _ c.in_ok-name.ensures

pub returns-in-Some-Paired : goal.returns-in-Some-Paired
returns-in-Some-Paired c =
    start_paired c.args.at c.in-Some.inside c.in-Some.ensures.0 c.in-Some.ensures.1 _ _ c.in-Some-tag_name.ensures c.in-Ok.read c.in-Ok.ensures (empty_is _ (sym c.is_empty.ensures ∙ c.if-not-is_empty.false))
    (subst (λ k. Chooses k c.in-Ok.read.closed (Some e.Paired)) c.as_bytes.ensures.value (rw c.in-Some-Paired.field-0-is at c.in-Some-Paired.ensures)) _ c.in_ok-name.ensures

pub returns-in-None : goal.returns-in-None
returns-in-None c =
    start_none c.args.at c.in-Some.inside c.in-Some.ensures.0 c.in-Some.ensures.1 _ _ c.in-Some-tag_name.ensures c.in-Ok.read c.in-Ok.ensures (subst (λ k. Chooses k c.in-Ok.read.closed None) c.as_bytes.ensures.value c.in-None.ensures)
