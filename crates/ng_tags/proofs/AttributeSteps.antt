-- Attributes as the code reads them, one after another.
use Rattle.std.proofs.Common.{◌≡◌, ◌<◌, List, [], ◌∷◌, ◌++◌, length, refl, sym, ◌∙◌, ap, subst, arith, length-append, inl, inr}
use Rattle.std.specs.Prelude.{Bool, true, false, Some, Ok, Err}
use Rattle.ng_ast.specs.declared.Place.{Place}
use Rattle.ng_ast.specs.declared.TAttr.{TAttr}
use Rattle.ng_tokens.specs.Lexis.{Text, is_blank, all, begins, steps}
use Rattle.ng_lex.specs.declared.attributes.NameForm.{NameForm}
use Rattle.ng_lex.specs.Words.{IsGap}
use Rattle.ng_lex.specs.Names.{in_attribute, form_of}
use Rattle.ng_lex.specs.Attributes.{ending, OverAttrs}
use Rattle.ng_attributes.specs.declared.at.At.{At}
use Rattle.ng_attributes.specs.declared.stop.Stop.{Stop}
use Rattle.ng_attributes.specs.declared.stop.Stop.TheVariants as stop
use Rattle.ng_attributes.specs.Answers.{Halts}
use Rattle.ng_attributes.specs.Places.{Fits}
use Rattle.ng_attributes.specs.Runs.{Run}
use Rattle.ng_tags.specs.Tags.{NoEquals, AttributeAt, OverAttributeAt, ReadsTag, OverTag, GoesTag}
use Rattle.ng_tags.specs.Marks.{AssignedAt, Both}
use Rattle.ng_tags.specs.Reads.{Lone, Said, OverSaid, Found, AnswersBehind, Begins, Ends, NoTag}
use Rattle.ng_attributes.proofs.Steps.{goes_none, goes_more, goes_end, goes_unread}
use Rattle.ng_attributes.proofs.Answering.{halts_as}
use Rattle.ng_tags.proofs.TagSteps.{attribute_goes, attribute_over, end_reads, end_calm, tag_unread}
use Rattle.ng_tags.proofs.AttributeLaws.{is_attribute, shorter, shorter_still, alone_reads, alone_calm, alone_halts, broken_unread, valued_reads, over_of, valued_halts}

-- ---- one attribute

module _ (at rest : At) (n : Text) (f : NameForm) (run : Run in_attribute at.text.now n rest.text.now) (place : rest.place ≡ steps at.place n) (some : n ≡ [] → ⊥) (form : form_of n ≡ Some f) where
  pub lone_found : Fits rest.place rest.text.now → NoEquals rest.text.now → (one : TAttr) → Lone at.place f rest.text.now one → Found at one rest
  lone_found fits none one h = record {
    reads = alone_reads at.place at.text.now n rest.text.now run f form (is_attribute n some run.passes) none one h rest.place place;
    calm = alone_calm at.place at.text.now n rest.text.now run f form none;
    fits = fits;
    shorter = shorter at.text.now n rest.text.now run.is some;
  }

  pub lone_halts : NoEquals rest.text.now → (e : Stop) → Halts ((one : TAttr) → Lone at.place f rest.text.now one → ⊥) ⊥ e
      → Halts ((one : TAttr) (q : Place) (r : Text) → AttributeAt at.place at.text.now one q r → ⊥) (OverAttributeAt at.place at.text.now) e
  lone_halts none e h = alone_halts at.place at.text.now n rest.text.now run f form none e h

  pub broken_none : (NoEquals rest.text.now → ⊥) → ((s q : Place) (x r : Text) → AssignedAt rest.place rest.text.now s x q r → ⊥) → (one : TAttr) (q : Place) (r : Text) → AttributeAt at.place at.text.now one q r → ⊥
  broken_none equals none = broken_unread at.place at.text.now n rest.text.now run f form equals (λ s q x r h. none s q x r (subst (λ k. AssignedAt k rest.text.now s x q r) (sym place) h))

  module _ (inside after : At) (assigned : AssignedAt rest.place rest.text.now inside.place inside.text.now after.place after.text.now) where
    here : AssignedAt (steps at.place n) rest.text.now inside.place inside.text.now after.place after.text.now
    here = subst (λ k. AssignedAt k rest.text.now inside.place inside.text.now after.place after.text.now) place assigned

    pub said_found : Fits after.place after.text.now → (one : TAttr) → Said at.place f inside.place inside.text.now after.text.now one → (OverSaid f inside.place inside.text.now → ⊥) → Found at one after
    said_found fits one h none = record {
      reads = valued_reads at.place at.text.now n rest.text.now run f form inside.place inside.text.now after.place after.text.now here (is_attribute n some run.passes) one h;
      calm = λ over. none (over_of at.place at.text.now n rest.text.now run f form inside.place inside.text.now after.place after.text.now here over);
      fits = fits;
      shorter = omega (arith, shorter at.text.now n rest.text.now run.is some, shorter_still rest.place rest.text.now inside.place inside.text.now after.place after.text.now assigned);
    }

    pub said_halts : (e : Stop) → Halts ((one : TAttr) → Said at.place f inside.place inside.text.now after.text.now one → ⊥) (OverSaid f inside.place inside.text.now) e
        → Halts ((one : TAttr) (q : Place) (r : Text) → AttributeAt at.place at.text.now one q r → ⊥) (OverAttributeAt at.place at.text.now) e
    said_halts e h = valued_halts at.place at.text.now n rest.text.now run f form inside.place inside.text.now after.place after.text.now here (is_attribute n some run.passes) e h

-- ---- behind the name

module _ (p : Place) (f : NameForm) (rest : At) where
  pub behind_lone : Fits rest.place rest.text.now → NoEquals rest.text.now → (one : TAttr) → Lone p f rest.text.now one → AnswersBehind p f rest (Ok (one, rest))
  behind_lone fits none one h at n starts run place some form = lone_found at rest n f run place some form fits none one (subst (λ k. Lone k f rest.text.now one) starts h)

  pub behind_unvalued : NoEquals rest.text.now → (e : Stop) → Halts ((one : TAttr) → Lone p f rest.text.now one → ⊥) ⊥ e → AnswersBehind p f rest (Err e)
  behind_unvalued none e h at n starts run place some form = lone_halts at rest n f run place some form none e (subst (λ k. Halts ((one : TAttr) → Lone k f rest.text.now one → ⊥) ⊥ e) starts h)

  pub behind_broken : (q : Place) → (NoEquals rest.text.now → ⊥) × ((s o : Place) (x r : Text) → AssignedAt rest.place rest.text.now s x o r → ⊥) → AnswersBehind p f rest (Err (stop.Syntax q))
  behind_broken q h at n starts run place some form = broken_none at rest n f run place some form h.0 h.1

  module _ (inside after : At) (assigned : AssignedAt rest.place rest.text.now inside.place inside.text.now after.place after.text.now × Both inside after) where
    pub behind_said : (one : TAttr) → Said p f inside.place inside.text.now after.text.now one → (OverSaid f inside.place inside.text.now → ⊥) → AnswersBehind p f rest (Ok (one, after))
    behind_said one h none at n starts run place some form =
        said_found at rest n f run place some form inside after assigned.0 assigned.1.rest one (subst (λ k. Said k f inside.place inside.text.now after.text.now one) starts h) none

    pub behind_unsaid : (e : Stop) → Halts ((one : TAttr) → Said p f inside.place inside.text.now after.text.now one → ⊥) (OverSaid f inside.place inside.text.now) e → AnswersBehind p f rest (Err e)
    behind_unsaid e h at n starts run place some form =
        said_halts at rest n f run place some form inside after assigned.0 e
        (subst (λ k. Halts ((one : TAttr) → Said k f inside.place inside.text.now after.text.now one → ⊥) (OverSaid f inside.place inside.text.now) e) starts h)

-- ---- what comes next

pub next_end : (at rest : At) (w y : Text) (closed : Bool) → Run is_blank at.text.now w y → y ≡ ending closed ++ rest.text.now → Ends at closed rest
next_end at rest w y closed run e = record { w = w; blank = run.passes; is = run.is ∙ ap (λ k. w ++ k) e }

pub next_none : (at : At) (w y : Text) → Run is_blank at.text.now w y → w ≡ [] → begins (ending false) y ≡ false → begins (ending true) y ≡ false → NoTag at
next_none at w y run e open_ shut i attrs h = tag_unread at.place at.text.now w y run open_ shut (inl e) i attrs h

pub next_attribute : (at one : At) (w : Text) → Run is_blank at.text.now w one.text.now → (w ≡ [] → ⊥) → one.place ≡ steps at.place w → begins (ending false) one.text.now ≡ false → begins (ending true) one.text.now ≡ false → Fits one.place one.text.now → Begins at one
next_attribute at one w run some place open_ shut fits = record { w = w; gap = gap w some run.passes; run = run; place = place; more = open_; shut = shut; fits = fits }
  where
    gap : (w : Text) → (w ≡ [] → ⊥) → all is_blank w ≡ true → IsGap w
    gap [] some h = absurd (some refl)
    gap (b ∷ w) some h = h

-- ---- all attributes

abbrev pub Goes : At → List TAttr → At → Type 0
Goes at found rest = GoesTag at.place at.text.now found rest.place rest.text.now

pub tag_start : (at : At) → Goes at [] at
tag_start at = goes_none ReadsTag OverTag (at.place, at.text.now)

pub tag_more : (at rest one after : At) (found : List TAttr) (attr : TAttr) → Goes at found rest → Begins rest one → Found one attr after → Goes at (found ++ (attr ∷ [])) after
tag_more at rest one after found attr g b h =
    goes_more _ _ (at.place, at.text.now) (rest.place, rest.text.now) (after.place, after.text.now) found (attr ∷ []) g
    (attribute_goes rest.place rest.text.now b.w one.text.now attr after.place after.text.now b.gap b.run.is (subst (λ k. AttributeAt k one.text.now attr after.place after.text.now) b.place h.reads)
    (λ over. h.calm (subst (λ k. OverAttributeAt k one.text.now) (sym b.place) over)))

pub tag_shorter : (rest one after : At) (attr : TAttr) → Begins rest one → Found one attr after → length after.text.now < length rest.text.now
tag_shorter rest one after attr b h = omega (arith, h.shorter, ap length b.run.is, length-append b.w one.text.now)

pub tag_end : (at rest after : At) (found : List TAttr) (closed : Bool) → Goes at found rest → Ends rest closed after → ReadsTag (closed, after.text.now) (at.place, at.text.now) found × (OverAttrs at.place at.text.now → ⊥)
tag_end at rest after found closed g e = (
  goes_end _ _ (at.place, at.text.now) (rest.place, rest.text.now) found g (closed, after.text.now) (end_reads rest.place rest.text.now e.w after.text.now closed e.blank e.is),
  λ over. end_calm rest.place rest.text.now e.w after.text.now closed e.blank e.is (g.calm over),
)

pub tag_none : (at rest : At) (found : List TAttr) → Goes at found rest → NoTag rest → NoTag at
tag_none at rest found g none i attrs h = goes_unread _ _ (at.place, at.text.now) (rest.place, rest.text.now) found g none i attrs h

pub tag_halts : (at rest one : At) (found : List TAttr) (e : Stop) → Goes at found rest → Begins rest one
    → Halts ((attr : TAttr) (q : Place) (r : Text) → AttributeAt one.place one.text.now attr q r → ⊥) (OverAttributeAt one.place one.text.now) e → Halts (NoTag at) (OverAttrs at.place at.text.now) e
tag_halts at rest one found e g b h =
    halts_as _ _ _ _ e
    (λ none. tag_none at rest found g (tag_unread rest.place rest.text.now b.w one.text.now b.run b.more b.shut (inr (λ attr q r i. none attr q r (subst (λ k. AttributeAt k one.text.now attr q r) (sym b.place) i)))))
    (λ over. g.heavy (attribute_over rest.place rest.text.now b.w one.text.now b.gap b.run.is (subst (λ k. OverAttributeAt k one.text.now) b.place over))) h
