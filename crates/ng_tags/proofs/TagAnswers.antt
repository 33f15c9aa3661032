-- Tags, as the code reads them piece by piece.
use Rattle.std.proofs.Common.{◌≡◌, [], ◌∷◌, ◌++◌, sym, ◌∙◌, ap, subst}
use Rattle.std.specs.Prelude.{true, false, Some, None, Ok, Err}
use Rattle.ng_tokens.specs.Lexis.{Text, is_blank, all, begins, is_one_of, steps}
use Rattle.ng_lex.specs.declared.kinds.TokenKind.TheVariants as kind
use Rattle.ng_lex.specs.declared.markup.Markup.TheVariants as m
use Rattle.ng_lex.specs.declared.markup.Shape.TheVariants as shape
use Rattle.ng_lex.specs.Words.{at_front}
use Rattle.ng_lex.specs.Attributes.{OverAttrs, is_lower, in_tag, refused_tags, IsTag, is_void}
use Rattle.ng_lex.specs.Heavy.{IsHeavy}
use Rattle.ng_attributes.specs.declared.at.At.{At}
use Rattle.ng_attributes.specs.declared.stop.Stop.{Stop}
use Rattle.ng_attributes.specs.declared.stop.Stop.TheVariants as stop
use Rattle.ng_attributes.specs.Answers.{Halts}
use Rattle.ng_attributes.specs.Runs.{Run}
use Rattle.ng_attributes.proofs.Texts.{both_true, no_true, not_both, same_runs}
use Rattle.ng_tags.specs.declared.tags.Element.TheVariants as e
use Rattle.ng_tags.specs.declared.attributes.Attributes.{Attributes}
use Rattle.ng_tags.specs.Tags.{ReadsTag}
use Rattle.ng_tags.specs.Reads.{NoTag}
use Rattle.ng_tags.specs.Tokens.{IsNoPart, AnswersTag, TagAt, IsTagAt, Chooses}
use Rattle.ng_tags.proofs.TokenLaws.{lower_in, tag_all}
use Rattle.ng_tags.proofs.Tagging.{no_name, rest_unread, heavy_tag, rest_left, no_element, single_tag, start_tag, no_end_name, end_void, end_other, end_tag}

-- ---- names of tags

-- no lower-case letter stands there
pub no_lower : (t : Text) → at_front is_lower t ≡ false → (tag x : Text) → IsTag tag → at_front in_tag x ≡ false → t ≡ tag ++ x → ⊥
no_lower t f [] x h stops e = no_true h.0
no_lower t f (b ∷ tag) x h stops e = not_both (is_lower b) (both_true (is_lower b) (all in_tag tag) h.0).0 (sym (ap (at_front is_lower) e) ∙ f)

-- the run is a tag that is refused
pub refused_run : (t a z : Text) → Run in_tag t a z → is_one_of refused_tags a ≡ true → (tag x : Text) → IsTag tag → at_front in_tag x ≡ false → t ≡ tag ++ x → ⊥
refused_run t a z run bad tag x h stops e =
    let g = same_runs in_tag tag a x z (sym e ∙ run.is) (tag_all tag h) run.passes stops run.stops in
    not_both (is_one_of refused_tags a) bad (ap (is_one_of refused_tags) (sym g.0) ∙ h.1)

-- a run that begins with a lower-case letter, and isn't refused
pub tag_run : (t a z : Text) → Run in_tag t a z → at_front is_lower t ≡ true → is_one_of refused_tags a ≡ false → IsTag a
tag_run t [] z run low fine = absurd (none z (ap (at_front is_lower) (sym run.is) ∙ low) run.stops)
  where
    none : (z : Text) → at_front is_lower z ≡ true → at_front in_tag z ≡ false → ⊥
    none [] e f = no_true e
    none (b ∷ z) e f = not_both (in_tag b) (lower_in b e) f
tag_run t (b ∷ a) z run low fine =
    let first : is_lower b ≡ true = ap (at_front is_lower) (sym run.is) ∙ low in
    let more : all in_tag a ≡ true = (both_true (in_tag b) (all in_tag a) run.passes).1 in
    (rw first more, fine)

-- ---- start tags

module _ (at inside : At) (opens : at.text.now ≡ (60 ∷ []) ++ inside.text.now) where
  pub unnamed : IsTagAt inside None → IsNoPart kind.Start at.place at.text.now
  unnamed none = no_name at.place at.text.now inside.text.now opens none

  module _ (inner : inside.place ≡ steps at.place (60 ∷ [])) (tag : Text) (rest : At) (name : TagAt inside tag rest) where
    here : rest.place ≡ steps at.place (60 ∷ tag)
    here = name.place ∙ ap (λ k. steps k tag) inner

    unread : NoTag rest → IsNoPart kind.Start at.place at.text.now
    unread none = rest_unread at.place at.text.now inside.text.now tag rest.text.now opens name.name name.run (λ i attrs h. none i attrs (subst (λ k. ReadsTag i (k, rest.text.now) attrs) (sym here) h))

    over : OverAttrs rest.place rest.text.now → (z : Text) → IsHeavy at.place (at.text.now ++ z) shape.Tag
    over h = heavy_tag at.place at.text.now inside.text.now tag rest.text.now opens name.name name.run (subst (λ k. OverAttrs k rest.text.now) here h)

    pub start_halts : (e : Stop) → Halts (NoTag rest) (OverAttrs rest.place rest.text.now) e → AnswersTag kind.Start at (Err e)
    start_halts (stop.Syntax q) h = unread h
    start_halts stop.Limit h = over h
    start_halts stop.Memory h = tt

    module _ (v : Attributes) (read : ReadsTag (v.closed, v.rest.text.now) (rest.place, rest.text.now) v.found × (OverAttrs rest.place rest.text.now → ⊥)) where
      moved : ReadsTag (v.closed, v.rest.text.now) (steps at.place (60 ∷ tag), rest.text.now) v.found
      moved = subst (λ k. ReadsTag (v.closed, v.rest.text.now) (k, rest.text.now) v.found) here read.0

      calm : OverAttrs (steps at.place (60 ∷ tag)) rest.text.now → ⊥
      calm h = read.1 (subst (λ k. OverAttrs k rest.text.now) (sym here) h)

      pub more_behind : (v.rest.text.now ≡ [] → ⊥) → IsNoPart kind.Start at.place at.text.now
      more_behind some = rest_left at.place at.text.now inside.text.now tag rest.text.now opens name.name name.run v.closed v.rest.text.now v.found moved some

      pub start_none : Chooses tag v.closed None → IsNoPart kind.Start at.place at.text.now
      start_none none = no_element at.place at.text.now inside.text.now tag rest.text.now opens name.name name.run v.closed v.rest.text.now v.found moved none

      pub start_single : v.rest.text.now ≡ [] → Chooses tag v.closed (Some e.Single) → (n : Text) → n ≡ tag → AnswersTag kind.Start at (Ok (m.Single n v.found))
      start_single end h n same =
          subst (λ k. AnswersTag kind.Start at (Ok (m.Single k v.found))) (sym same)
          (single_tag at.place at.text.now inside.text.now tag rest.text.now opens name.name name.run v.closed v.rest.text.now v.found moved end calm h)

      pub start_paired : v.rest.text.now ≡ [] → Chooses tag v.closed (Some e.Paired) → (n : Text) → n ≡ tag → AnswersTag kind.Start at (Ok (m.Start n v.found))
      start_paired end h n same =
          subst (λ k. AnswersTag kind.Start at (Ok (m.Start k v.found))) (sym same)
          (start_tag at.place at.text.now inside.text.now tag rest.text.now opens name.name name.run v.closed v.rest.text.now v.found moved end calm h)

-- ---- end tags

module _ (at inside : At) (opens : at.text.now ≡ (60 ∷ 47 ∷ []) ++ inside.text.now) where
  pub end_unnamed : IsTagAt inside None → IsNoPart kind.End at.place at.text.now
  end_unnamed none = no_end_name at.place at.text.now inside.text.now opens none

  module _ (tag : Text) (rest : At) (name : TagAt inside tag rest) where
    pub void_end : is_void tag ≡ true → IsNoPart kind.End at.place at.text.now
    void_end v = end_void at.place at.text.now inside.text.now tag rest.text.now opens name.name name.run v

    module _ (w : Text) (last : At) (blank : Run is_blank rest.text.now w last.text.now) where
      pub end_open : begins (62 ∷ []) last.text.now ≡ false → IsNoPart kind.End at.place at.text.now
      end_open none = end_other at.place at.text.now inside.text.now tag rest.text.now opens name.name name.run w last.text.now blank (λ r e f. not_both (begins (62 ∷ []) last.text.now) (ap (begins (62 ∷ [])) e) none)

      module _ (after : At) (closes : last.text.now ≡ (62 ∷ []) ++ after.text.now) where
        pub end_more : (after.text.now ≡ [] → ⊥) → IsNoPart kind.End at.place at.text.now
        end_more some = end_other at.place at.text.now inside.text.now tag rest.text.now opens name.name name.run w last.text.now blank (λ r e f. some (same e ∙ f))
          where
            same : {r : Text} → last.text.now ≡ (62 ∷ []) ++ r → after.text.now ≡ r
            same e = tail (sym closes ∙ e)
              where
                tail : {x y : Text} → 62 ∷ x ≡ 62 ∷ y → x ≡ y
                tail e = cc

        pub end_whole : is_void tag ≡ false → after.text.now ≡ [] → (n : Text) → n ≡ tag → AnswersTag kind.End at (Ok (m.End n))
        end_whole v none n same =
            subst (λ k. AnswersTag kind.End at (Ok (m.End k))) (sym same) (end_tag at.place at.text.now inside.text.now tag rest.text.now opens name.name name.run w last.text.now blank v after.text.now closes none)
