-- Tokens of tags as the code reads them.
use Rattle.std.proofs.Common.{◌≡◌, List, [], ◌∷◌, ◌++◌, refl, sym, ◌∙◌, ap, subst, append_assoc, arith, inl, inr}
use Rattle.std.proofs.lemmas.List.{append-nil}
use Rattle.std.specs.Prelude.{Bool, true, false, ◌||◌, ◌&&◌, ◌⊎◌, Result, Ok, Err, IfOk, IfErr}
use Rattle.ng_ast.specs.declared.Place.{Place}
use Rattle.ng_ast.specs.declared.TAttr.{TAttr}
use Rattle.ng_tokens.specs.Lexis.{Text, is_blank, all, begins, steps}
use Rattle.ng_lex.specs.declared.kinds.TokenKind.{TokenKind}
use Rattle.ng_lex.specs.declared.kinds.TokenKind.TheVariants as kind
use Rattle.ng_lex.specs.declared.markup.Markup.{Markup}
use Rattle.ng_lex.specs.declared.markup.Markup.TheVariants as m
use Rattle.ng_lex.specs.declared.markup.Shape.TheVariants as s
use Rattle.ng_lex.specs.Words.{IsBlank, at_front}
use Rattle.ng_lex.specs.Attributes.{ReadsAttrs, OverAttrs, in_tag, IsTag, is_void, is_dashed, IsPaired, IsSingle}
use Rattle.ng_lex.specs.Lexis.{IsWritten}
use Rattle.ng_lex.specs.Heavy.{IsHeavy}
use Rattle.ng_lex.specs.Spans.{IsSpan}
use Rattle.ng_attributes.specs.declared.stop.Stop.{Stop}
use Rattle.ng_attributes.specs.declared.stop.Stop.TheVariants as stop
use Rattle.ng_tags.specs.declared.halt.Halt.{Halt}
use Rattle.ng_attributes.specs.declared.at.At.{At}
use Rattle.ng_attributes.specs.Runs.{Run}
use Rattle.ng_tags.specs.Tags.{ReadsTag}
use Rattle.ng_tags.specs.Tokens.{IsCalm, ReadsToken, IsNoPart, RefusesToken, IsOrMemory, AnswersTag, TellsStop, Tells}
use Rattle.ng_attributes.proofs.Texts.{no_true, not_both, both_true, same_runs}
use Rattle.ng_tags.proofs.TagLaws.{same_tail}
use Rattle.ng_tags.proofs.TagSteps.{attrs_follow, one_tag, over_more, calm_more}
use Rattle.ng_tags.proofs.TokenLaws.{tag_all, tag_stops, attrs_stop, same_tag, single_paired, Tagged, tagged, Ended, ended, span_starts, span_ends, tag_calm, end_calm_by}

-- ---- start tags

pub no_open : (p : Place) (a : Text) → begins (60 ∷ []) a ≡ false → IsNoPart kind.Start p a
no_open p a none z span c h = no_true (sym none ∙ ap (begins (60 ∷ [])) span.1)

pub no_name : (p : Place) (a inner : Text) → a ≡ (60 ∷ []) ++ inner → ((tag x : Text) → IsTag tag → at_front in_tag x ≡ false → inner ≡ tag ++ x → ⊥) → IsNoPart kind.Start p a
no_name p a inner e none z span c h = let t = tagged p a c (span_starts a z span) h in none t.tag t.x t.name (attrs_stop t.reads) (same_tail 60 (sym e ∙ t.is))

module _ (p : Place) (a inner tag rest : Text) (e : a ≡ (60 ∷ []) ++ inner) (name : IsTag tag) (run : Run in_tag inner tag rest) where
  whole : a ≡ 60 ∷ (tag ++ rest)
  whole = e ∙ ap (λ k. 60 ∷ k) run.is

  -- each part there has this tag
  same_name : (c : Markup) → (t : Tagged p a c) → (t.tag ≡ tag) × (t.x ≡ rest)
  same_name c t = same_runs in_tag t.tag tag t.x rest (same_tail 60 (sym t.is ∙ whole)) (tag_all t.tag t.name) run.passes (attrs_stop t.reads) run.stops

  moved : (c : Markup) → (t : Tagged p a c) → ReadsAttrs t.closed (steps p (60 ∷ tag)) rest t.attrs
  moved c t = let g = same_name c t in subst (λ k. ReadsAttrs t.closed (steps p (60 ∷ k)) rest t.attrs) g.0 (subst (λ k. ReadsAttrs t.closed (steps p (60 ∷ t.tag)) k t.attrs) g.1 t.reads)

  pub rest_unread : ((i : Bool × Text) (attrs : List TAttr) → ReadsTag i (steps p (60 ∷ tag), rest) attrs → ⊥) → IsNoPart kind.Start p a
  rest_unread none z span c h = let t = tagged p a c (span_starts a z span) h in none (t.closed, []) t.attrs (rest, sym (append-nil rest), moved c t)

  pub heavy_tag : OverAttrs (steps p (60 ∷ tag)) rest → (z : Text) → IsHeavy p (a ++ z) s.Tag
  heavy_tag over z = (tag, rest ++ z, ap (λ k. k ++ z) whole ∙ ap (λ k. 60 ∷ k) (append_assoc tag rest z), name, over_more over z)

  module _ (closed : Bool) (r : Text) (attrs : List TAttr) (read : ReadsTag (closed, r) (steps p (60 ∷ tag), rest) attrs) where
    left_by : (c : Markup) → (t : Tagged p a c) → (t.closed ≡ closed) × ([] ≡ r) × (t.attrs ≡ attrs)
    left_by c t = one_tag (moved c t) [] (closed, r) attrs (subst (λ k. ReadsTag (closed, r) (steps p (60 ∷ tag), k) attrs) (sym (append-nil rest)) read)

    -- more stands behind the tag
    pub rest_left : (r ≡ [] → ⊥) → IsNoPart kind.Start p a
    rest_left some z span c h = let t = tagged p a c (span_starts a z span) h in some (sym (left_by c t).1)

    -- it closes itself, and may not
    pub no_element : (is_void tag ≡ false) × (closed ≡ true) × (is_dashed tag ≡ false) → IsNoPart kind.Start p a
    no_element (v, cl, d) z span c h = let t = tagged p a c (span_starts a z span) h in by c t t.which
      where
        closes : (u w x : Bool) → u ≡ false → w ≡ true → x ≡ false → (u || (w && x)) ≡ true → ⊥
        closes true w x f g i j = no_true (sym f)
        closes false true true f g i j = no_true (sym i)
        closes false true false f g i j = no_true j
        closes false false x f g i j = no_true g

        by : (c : Markup) → (t : Tagged p a c) → ((c ≡ m.Single t.tag t.attrs) × IsSingle t.tag t.closed) ⊎ ((c ≡ m.Start t.tag t.attrs) × IsPaired t.tag × (t.closed ≡ false)) → ⊥
        by c t (inl g) = closes (is_void t.tag) t.closed (is_dashed t.tag) (ap is_void (same_name c t).0 ∙ v) ((left_by c t).0 ∙ cl) (ap is_dashed (same_name c t).0 ∙ d) g.1.1
        by c t (inr g) = no_true (sym (sym (left_by c t).0 ∙ g.2) ∙ cl)

    module _ (end : r ≡ []) (none : OverAttrs (steps p (60 ∷ tag)) rest → ⊥) where
      attributes : ReadsAttrs closed (steps p (60 ∷ tag)) rest attrs
      attributes = subst (λ k. ReadsAttrs closed (steps p (60 ∷ tag)) k attrs) (sym (read.1 ∙ ap (λ k. read.0 ++ k) end ∙ append-nil read.0)) read.2

      pub calm_tag : (z : Text) → IsCalm p a z
      calm_tag z = tag_calm p a tag rest z whole name (tag_stops (rest ++ z) (attrs_follow attributes z).0) (calm_more attributes [] z (λ o. none (subst (OverAttrs (steps p (60 ∷ tag))) (append-nil rest) o)))

      pub single_tag : (is_void tag || (closed && is_dashed tag)) ≡ true → IsWritten p a (m.Single tag attrs) × ((z : Text) → IsCalm p a z)
      single_tag h = ((rest, closed, whole, (name, h), attributes), calm_tag)

      pub start_tag : (is_void tag ≡ false) × (closed ≡ false) → IsWritten p a (m.Start tag attrs) × ((z : Text) → IsCalm p a z)
      start_tag (v, open_) = ((rest, whole, (name, v), subst (λ k. ReadsAttrs k (steps p (60 ∷ tag)) rest attrs) open_ attributes), calm_tag)

-- ---- one token

single_is : (tag other : Text) (attrs more : List TAttr) → tag ≡ other → attrs ≡ more → m.Single tag attrs ≡ m.Single other more
single_is tag other attrs more e d = ap (λ k. m.Single k attrs) e ∙ ap (m.Single other) d

start_is : (tag other : Text) (attrs more : List TAttr) → tag ≡ other → attrs ≡ more → m.Start tag attrs ≡ m.Start other more
start_is tag other attrs more e d = ap (λ k. m.Start k attrs) e ∙ ap (m.Start other) d

pub one_start : (p : Place) (a : Text) (c d : Markup) → Tagged p a c → Tagged p a d → c ≡ d
one_start p a c d t u = by t.which u.which
  where
    same : (t.tag ≡ u.tag) × (t.closed ≡ u.closed) × (t.attrs ≡ u.attrs)
    same = same_tag p t.tag u.tag t.x u.x t.closed u.closed t.attrs u.attrs t.name u.name t.reads u.reads (sym t.is ∙ u.is)

    by : ((c ≡ m.Single t.tag t.attrs) × IsSingle t.tag t.closed) ⊎ ((c ≡ m.Start t.tag t.attrs) × IsPaired t.tag × (t.closed ≡ false))
        → ((d ≡ m.Single u.tag u.attrs) × IsSingle u.tag u.closed) ⊎ ((d ≡ m.Start u.tag u.attrs) × IsPaired u.tag × (u.closed ≡ false)) → c ≡ d
    by (inl g) (inl h) = g.0 ∙ single_is t.tag u.tag t.attrs u.attrs same.0 same.2 ∙ sym h.0
    by (inl g) (inr h) = absurd (single_paired t.tag u.tag t.closed g.1 h.1 same.0 (same.1 ∙ h.2))
    by (inr g) (inl h) = absurd (single_paired u.tag t.tag u.closed h.1 g.1 (sym same.0) (sym same.1 ∙ g.2))
    by (inr g) (inr h) = g.0 ∙ start_is t.tag u.tag t.attrs u.attrs same.0 same.2 ∙ sym h.0

blank_stops : (w : Text) → IsBlank w → at_front in_tag (w ++ (62 ∷ [])) ≡ false
blank_stops [] h = refl
blank_stops (b ∷ w) h = blank_no (both_true (is_blank b) (all is_blank w) h).0
  where
    blank_no : is_blank b ≡ true → in_tag b ≡ false
    blank_no e = grind arith

pub one_end : (a : Text) (c d : Markup) → Ended a c → Ended a d → c ≡ d
one_end a c d t u =
    t.which ∙ ap m.End (same_runs in_tag t.tag u.tag (t.w ++ (62 ∷ [])) (u.w ++ (62 ∷ [])) (same_tail 47 (same_tail 60 (sym t.is ∙ u.is))) (tag_all t.tag t.name.0) (tag_all u.tag u.name.0) (blank_stops t.w t.blank) (blank_stops u.w u.blank)).0 ∙ sym u.which

-- ---- end tags

pub no_close : (p : Place) (a : Text) → begins (60 ∷ 47 ∷ []) a ≡ false → IsNoPart kind.End p a
no_close p a none z span c h = no_true (sym none ∙ span_ends a z span)

pub no_end_name : (p : Place) (a inner : Text) → a ≡ (60 ∷ 47 ∷ []) ++ inner → ((tag x : Text) → IsTag tag → at_front in_tag x ≡ false → inner ≡ tag ++ x → ⊥) → IsNoPart kind.End p a
no_end_name p a inner e none z span c h =
    let t = ended p a c (span_ends a z span) h in
    none t.tag (t.w ++ (62 ∷ [])) t.name.0 (blank_stops t.w t.blank) (same_tail 47 (same_tail 60 (sym e ∙ t.is)))

module _ (p : Place) (a inner tag rest : Text) (e : a ≡ (60 ∷ 47 ∷ []) ++ inner) (name : IsTag tag) (run : Run in_tag inner tag rest) where
  end_same : (c : Markup) → (t : Ended a c) → (t.tag ≡ tag) × (t.w ++ (62 ∷ []) ≡ rest)
  end_same c t = same_runs in_tag t.tag tag (t.w ++ (62 ∷ [])) rest (same_tail 47 (same_tail 60 (sym t.is ∙ e)) ∙ run.is) (tag_all t.tag t.name.0) run.passes (blank_stops t.w t.blank) run.stops

  pub end_void : is_void tag ≡ true → IsNoPart kind.End p a
  end_void v z span c h = let t = ended p a c (span_ends a z span) h in not_both (is_void tag) v (ap is_void (sym (end_same c t).0) ∙ t.name.1)

  module _ (w y : Text) (blank : Run is_blank rest w y) where
    -- more stands before `>`, or behind it
    pub end_other : ((r : Text) → y ≡ (62 ∷ []) ++ r → r ≡ [] → ⊥) → IsNoPart kind.End p a
    end_other none z span c h =
        let t = ended p a c (span_ends a z span) h in
        let g = same_runs is_blank t.w w (62 ∷ []) y ((end_same c t).1 ∙ blank.is) t.blank blank.passes refl blank.stops in
        none [] (sym g.1) refl

    pub end_tag : is_void tag ≡ false → (r : Text) → y ≡ (62 ∷ []) ++ r → r ≡ [] → IsWritten p a (m.End tag) × ((z : Text) → IsCalm p a z)
    end_tag v r f g = (
      (w, e ∙ ap (λ k. 60 ∷ 47 ∷ k) (run.is ∙ ap (λ k. tag ++ k) (blank.is ∙ ap (λ k. w ++ k) (f ∙ ap (λ k. 62 ∷ k) g))), (name, v), blank.passes),
      λ z. end_calm_by p a z (ap (begins (60 ∷ 47 ∷ [])) e),
    )

-- ---- what is told

pub told_ok : (r : Result Markup Stop) (c : Markup) → r ≡ Ok c → Tells r (Ok c)
told_ok r c e = subst (λ k. Tells k (Ok c)) (sym e) refl

pub told_err : (r : Result Markup Stop) (e : Stop) (o : Result Markup Halt) → r ≡ Err e → TellsStop e o → Tells r o
told_err r e o f h = subst (λ k. Tells k o) (sym f) h

-- ---- the public clauses

token_reads : (p : Place) (a : Text) (c : Markup) → IsWritten p a c → ((z : Text) → IsCalm p a z) → ReadsToken p a c
token_reads p a (m.Heavy shape) h k = absurd h
token_reads p a _ h k = (h, k)

pub reads_clause : (k : TokenKind) (at : At) (r : Result Markup Stop) (o : Result Markup Halt) → AnswersTag k at r → Tells r o → IfOk o (ReadsToken at.place at.text.now)
reads_clause k at (Ok c) o h t = subst (λ v. IfOk v (ReadsToken at.place at.text.now)) (sym t) (token_reads at.place at.text.now c h.0 h.1)
reads_clause k at (Err (stop.Syntax q)) o h t = subst (λ v. IfOk v (ReadsToken at.place at.text.now)) (sym t) tt
reads_clause k at (Err stop.Limit) o h t = subst (λ v. IfOk v (ReadsToken at.place at.text.now)) (sym t) h
reads_clause k at (Err stop.Memory) o h t = subst (λ v. IfOk v (ReadsToken at.place at.text.now)) (sym t) tt

pub refused_clause : (k : TokenKind) (at : At) (r : Result Markup Stop) (o : Result Markup Halt) → AnswersTag k at r → Tells r o → IfErr o (RefusesToken k at.place at.text.now)
refused_clause k at (Ok c) o h t = subst (λ v. IfErr v (RefusesToken k at.place at.text.now)) (sym t) tt
refused_clause k at (Err (stop.Syntax q)) o h t = subst (λ v. IfErr v (RefusesToken k at.place at.text.now)) (sym t) h
refused_clause k at (Err stop.Limit) o h t = subst (λ v. IfErr v (RefusesToken k at.place at.text.now)) (sym t) tt
refused_clause k at (Err stop.Memory) o h t = subst (λ v. IfErr v (RefusesToken k at.place at.text.now)) (sym t) tt

exact_by : (k : TokenKind) (at : At) (r : Result Markup Stop) (o : Result Markup Halt) → AnswersTag k at r → Tells r o → (z : Text) (c : Markup) → ((d : Markup) → IsWritten at.place at.text.now d → d ≡ c) → IsSpan k at.text.now z → IsWritten at.place at.text.now c
    → IsCalm at.place at.text.now z → IsOrMemory c o
exact_by k at (Ok d) o h t z c one span w calm = subst (IsOrMemory c) (sym t) (one d h.0)
exact_by k at (Err (stop.Syntax q)) o h t z c one span w calm = absurd (h z span c w)
exact_by k at (Err stop.Limit) o h t z c one span w calm = absurd (calm s.Tag (h z))
exact_by k at (Err stop.Memory) o h t z c one span w calm = subst (IsOrMemory c) (sym t) tt

pub start_exact : (at : At) (r : Result Markup Stop) (o : Result Markup Halt) → AnswersTag kind.Start at r → Tells r o → (z : Text) (c : Markup) → IsSpan kind.Start at.text.now z → IsWritten at.place at.text.now c → IsCalm at.place at.text.now z → IsOrMemory c o
start_exact at r o h t z c span w calm =
    exact_by kind.Start at r o h t z c (λ d i. one_start at.place at.text.now d c (tagged at.place at.text.now d (span_starts at.text.now z span) i) (tagged at.place at.text.now c (span_starts at.text.now z span) w)) span w calm

pub end_exact : (at : At) (r : Result Markup Stop) (o : Result Markup Halt) → AnswersTag kind.End at r → Tells r o → (z : Text) (c : Markup) → IsSpan kind.End at.text.now z → IsWritten at.place at.text.now c → IsCalm at.place at.text.now z → IsOrMemory c o
end_exact at r o h t z c span w calm =
    exact_by kind.End at r o h t z c (λ d i. one_end at.text.now d c (ended at.place at.text.now d (span_ends at.text.now z span) i) (ended at.place at.text.now c (span_ends at.text.now z span) w)) span w calm
