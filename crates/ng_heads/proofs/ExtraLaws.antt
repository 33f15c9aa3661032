-- The parts of the head of a `@for`, from left to right.
use Rattle.std.proofs.Common.{◌≡◌, ℕ, ◌<◌, List, [], ◌∷◌, ◌++◌, length, codes, refl, sym, ◌∙◌, ap, subst, append_assoc, arith, length-append, inl, inr}
use Rattle.std.specs.Prelude.{Bool, true, false, cond, ◌||◌, ◌==◌, Option, Some, None, Result, Ok, Err, MatchOption, is_some}
use Rattle.ng_ast.specs.declared.Place.{Place}
use Rattle.ng_ast.specs.declared.Expr.{Expr}
use Rattle.ng_ast.specs.declared.ForHead.{ForHead}
use Rattle.ng_tokens.specs.Lexis.{Text, is_blank, is_word, same_text, begins, steps}
use Rattle.ng_exprs.specs.Reading.{ReadsExpr, OverText}
use Rattle.ng_exprs.specs.Ends.{IsEnd}
use Rattle.ng_lex.specs.Words.{EndsWord, at_front}
use Rattle.ng_lex.specs.Attributes.{differs}
use Rattle.ng_lex.specs.Heads.{IsLetPart, ReadsPairs, ReadsParts, IsRow, ReadsFor, EndsAfter, OverFront, OverParts, OverFor}
use Rattle.ng_heads.specs.declared.at.At.{At}
use Rattle.ng_heads.specs.declared.extras.Extras.{Extras}
use Rattle.ng_heads.specs.declared.halt.Stop.{Stop}
use Rattle.ng_heads.specs.declared.halt.Stop.TheVariants as stop
use Rattle.ng_heads.specs.Runs.{in_piece}
use Rattle.ng_heads.specs.Parts.{merged, GoesParts}
use Rattle.ng_heads.specs.Steps.{Past, Skips, Splits}
use Rattle.ng_heads.specs.Fronts.{ReadFront, PastLimit, AnswersFront}
use Rattle.ng_heads.specs.Fors
use Rattle.ng_heads.proofs.Texts.{no_true, not_both, same_byte, same_runs, same_is, begins_is, all_weaker, steps_append}
use Rattle.ng_heads.proofs.Names.{same_tail}
use Rattle.ng_heads.proofs.HeadLaws.{StartsEnd, expr_ends, expr_then, in_pairs, let_pairs, round_ends}
use Rattle.ng_heads.proofs.ForLaws.{FirstPart, first_part, parts_ends, parts_stop, no_part, same_tracks, track_no_let, one_row}
use Rattle.ng_heads.proofs.ForSteps.{parts_none, parts_let, parts_track, parts_all, parts_calm, parts_unread}
use Rattle.ng_heads.proofs.PartFronts.{front_heavy, list_heavy}
use Rattle.ng_heads.proofs.FrontLaws.{starts_end, past_any}
use Rattle.ng_heads.proofs.TestLaws.{word_left, blank_left}
use Rattle.ng_heads.proofs.Cursor.{no_word}

-- ---- `let`

module _ (at front : At) (blank : Skips is_blank at front) where
  pub no_let_word : begins (codes "let") front.text.now ≡ false → Fors.NoLet at.text.now
  no_let_word e w t white is ahead = no_word (codes "let") front.text.now t e (blank_left at front w _ blank is white refl)

  module _ (rest : At) (word : Past front (codes "let") rest) where
    pub no_let_gap : at_front is_blank rest.text.now ≡ false → Fors.NoLet at.text.now
    no_let_gap e w t white is ahead =
        not_both (at_front is_blank t) ahead (ap (at_front is_blank) (sym (word_left front rest (codes "let") t word (blank_left at front w _ blank is white refl))) ∙ e)

    pub at_let : at_front is_blank rest.text.now ≡ true → Fors.AtLet at rest
    at_let e = record { w = blank.a; blank = blank.run.passes; is = blank.run.is ∙ ap (λ k. blank.a ++ k) word.is; front = e }

pub let_adds : {A : Type 0} (at rest : At) (old new : List (Text × Text)) (r : Result A Stop) → Fors.AtLet at rest → Fors.Adds (ReadsPairs rest.text.now) old new r → Fors.Adds (IsLetPart at.text.now) old new r
let_adds at rest old new (Ok u) k (vs, is, reads) = (vs, is, (k.w, rest.text.now, k.is, k.blank, k.front, reads))
let_adds at rest old new (Err (stop.Syntax q)) k none = λ vs h. inner vs h
  where
    inner : (vs : List (Text × Text)) → IsLetPart at.text.now vs → ⊥
    inner vs (w, t, is, white, ahead, pairs) =
        let g = same_runs is_blank k.w w (codes "let" ++ rest.text.now) (codes "let" ++ t) (sym k.is ∙ is) k.blank white refl refl in
        none vs (subst (λ v. ReadsPairs v vs) (sym (same_tail 116 (same_tail 101 (same_tail 108 g.1)))) pairs)
let_adds at rest old new (Err stop.Limit) k none = none
let_adds at rest old new (Err stop.Memory) k none = tt

pub let_none : (t : Text) → Fors.NoLet t → (vs : List (Text × Text)) → IsLetPart t vs → ⊥
let_none t none vs (w, s, is, white, ahead, pairs) = none w s white is ahead

-- ---- a part with `let`

in_piece_pairs : (b : ℕ) → in_pairs b ≡ true → in_piece b ≡ true
in_piece_pairs b e = by (b == 59) (b == 41) refl refl
  where
    by : (v w : Bool) → (b == 59) ≡ v → (b == 41) ≡ w → cond (v || w) false true ≡ true
    by true w f g = absurd (no_true (ap in_pairs (sym (same_byte b 59 f)) ∙ e))
    by false true f g = absurd (no_true (ap in_pairs (sym (same_byte b 41 g)) ∙ e))
    by false false f g = refl

-- what a part ends with ends a piece
piece_stops : (z : Text) → at_front (differs 59) z ≡ false → at_front in_piece (z ++ (41 ∷ [])) ≡ false
piece_stops [] h = refl
piece_stops (b ∷ z) h = by (b == 59) refl
  where
    by : (v : Bool) → (b == 59) ≡ v → in_piece b ≡ false
    by true f = rw f refl
    by false f = absurd (not_both (differs 59 b) (rw f refl) h)

pub no_part_sign : (t : Text) → begins (59 ∷ []) t ≡ false → Fors.NoLetPart t
no_part_sign t e u z vs is part stops = no_word (59 ∷ []) t _ e is

module _ (at part here rest : At) (sign : Past at (59 ∷ []) part) (piece : Splits in_piece part here rest) where
  piece_is : (u z : Text) (vs : List (Text × Text)) → at.text.now ≡ 59 ∷ (u ++ (z ++ (41 ∷ []))) → IsLetPart u vs → at_front (differs 59) z ≡ false → (here.text.now ≡ u) × (rest.text.now ≡ z ++ (41 ∷ []))
  piece_is u z vs is h stops =
      same_runs in_piece here.text.now u rest.text.now (z ++ (41 ∷ [])) (sym piece.run.is ∙ word_left at part (59 ∷ []) _ sign is) piece.run.passes (all_weaker in_pairs in_piece in_piece_pairs u (let_pairs u vs h)) piece.run.stops (piece_stops z stops)

  pub no_part_stop : same_text (41 ∷ []) rest.text.now ≡ false → begins (59 ∷ []) rest.text.now ≡ false → Fors.NoLetPart at.text.now
  no_part_stop e f u z vs is h stops = by z stops (piece_is u z vs is h stops).1
    where
      by : (z : Text) → at_front (differs 59) z ≡ false → rest.text.now ≡ z ++ (41 ∷ []) → ⊥
      by [] s same = not_both (same_text (41 ∷ []) rest.text.now) (ap (same_text (41 ∷ [])) same) e
      by (b ∷ z) s same = at_byte (b == 59) refl
        where
          at_byte : (v : Bool) → (b == 59) ≡ v → ⊥
          at_byte true g = no_word (59 ∷ []) rest.text.now (z ++ (41 ∷ [])) f (same ∙ ap (λ c. c ∷ (z ++ (41 ∷ []))) (same_byte b 59 g))
          at_byte false g = not_both (differs 59 b) (rw g refl) s

  pub no_part_names : ((vs : List (Text × Text)) → IsLetPart here.text.now vs → ⊥) → Fors.NoLetPart at.text.now
  no_part_names none u z vs is h stops = none vs (subst (λ k. IsLetPart k vs) (sym (piece_is u z vs is h stops).0) h)

  pub let_step : (old new vs : List (Text × Text)) → new ≡ old ++ vs → IsLetPart here.text.now vs → Fors.AtStop rest.text.now → Fors.LetStep at old new rest
  let_step old new vs same h stop_ = record {
    u = here.text.now;
    here = vs;
    is = sign.is ∙ ap (λ k. 59 ∷ k) piece.run.is;
    part = h;
    all_of = same;
    place = piece.place ∙ ap (λ q. steps q here.text.now) sign.place;
    stop = stop_;
  }

  pub let_answers : (old new : List (Text × Text)) (s : Stop) → Fors.Adds {A = Unit {0}} (IsLetPart here.text.now) old new (Err s) → Fors.AnswersLet at old new (Err s)
  let_answers old new (stop.Syntax q) none = no_part_names none
  let_answers old new stop.Limit none = none
  let_answers old new stop.Memory none = tt

pub at_round : (t : Text) → same_text (41 ∷ []) t ≡ true → Fors.AtStop t
at_round t e = inl (same_is (41 ∷ []) t e)

pub at_semicolon : (t : Text) → begins (59 ∷ []) t ≡ true → Fors.AtStop t
at_semicolon t e = let r : (r : Text) × (t ≡ (59 ∷ []) ++ r) = begins_is (59 ∷ []) t e in inr (r.0, r.1)

pub at_stop : (t : Text) → (same_text (41 ∷ []) t || begins (59 ∷ []) t) ≡ true → Fors.AtStop t
at_stop t e = by (same_text (41 ∷ []) t) refl e
  where
    by : (v : Bool) → same_text (41 ∷ []) t ≡ v → (v || begins (59 ∷ []) t) ≡ true → Fors.AtStop t
    by true f g = at_round t f
    by false f g = at_semicolon t g

pub no_stop : (u v : Bool) → (u || v) ≡ false → (u ≡ false) × (v ≡ false)
no_stop true v e = absurd (cc)
no_stop false v e = (refl, e)

pub untracked : (o : Option Expr) → is_some o ≡ false → o ≡ None
untracked None e = refl
untracked (Some x) e = absurd (cc)

-- ---- `track`

pub no_track_sign : (t : Text) → begins (59 ∷ []) t ≡ false → Fors.NoTrack t
no_track_sign t e w x white is word = no_word (59 ∷ []) t _ e is

module _ (at part front : At) (sign : Past at (59 ∷ []) part) (blank : Skips is_blank part front) where
  pub no_track_word : ((r : Text) → front.text.now ≡ codes "track" ++ r → at_front is_word r ≡ false → ⊥) → Fors.NoTrack at.text.now
  no_track_word none w x white is word = none x (blank_left part front w _ blank (word_left at part (59 ∷ []) _ sign is) white refl) word

  pub at_track : (next : At) → Past front (codes "track") next → at_front is_word next.text.now ≡ false → Fors.AtTrack at next
  at_track next word ends_ = record {
    w = blank.a;
    blank = blank.run.passes;
    is = sign.is ∙ ap (λ k. 59 ∷ k) (blank.run.is ∙ ap (λ k. blank.a ++ k) word.is);
    word = ends_;
    place = word.place ∙ ap (λ q. steps q (codes "track")) (blank.place ∙ ap (λ q. steps q blank.a) sign.place) ∙ sym (steps_append at.place (59 ∷ blank.a) (codes "track"));
  }

  pub track_clause : (r : Option At) → MatchOption r ((z : Text) → front.text.now ≡ codes "track" ++ z → at_front is_word z ≡ false → ⊥) (λ next. Past front (codes "track") next × (at_front is_word next.text.now ≡ false)) → MatchOption r (Fors.NoTrack at.text.now) (Fors.AtTrack at)
  track_clause None k = no_track_word k
  track_clause (Some next) k = at_track next k.0 k.1

-- ---- the step

pub track_step : (at inside next : At) (old new : Extras) (e : Expr) → Fors.AtTrack at inside → ReadFront inside e next → old.track ≡ None → new ≡ record old { track = Some e } → Fors.TrackStep at old new next
track_step at inside next old new e h k none same =
    let text : inside.text.now ≡ k.x ++ next.text.now = k.is ∙ ap (λ r. k.x ++ r) (sym k.left) in record {
      w = h.w;
      t = k.x;
      c = k.c;
      z = k.z;
      e = e;
      is = h.is ∙ ap (λ r. 59 ∷ (h.w ++ (codes "track" ++ r))) text;
      blank = h.blank;
      word = ap (at_front is_word) (sym text) ∙ h.word;
      reads = subst (λ q. ReadsExpr false q k.x e) h.place k.reads;
      calm = λ o. k.calm (subst (λ q. OverText false q k.x) (sym h.place) o);
      end = k.end;
      left = k.left;
      place = k.place ∙ ap (λ q. steps q k.x) h.place ∙ sym (steps_append at.place (59 ∷ (h.w ++ codes "track")) k.x) ∙ ap (λ r. steps at.place (59 ∷ r)) (append_assoc h.w (codes "track") k.x);
      none = none;
      here = same;
    }

pub track_taken : (at inside next : At) (old new : Extras) (e : Expr) → Fors.AtTrack at inside → ReadFront inside e next → old.track ≡ None → new ≡ record old { track = Some e } → Fors.AnswersPart at old new (Ok next)
track_taken at inside next old new e h k none same = inl (track_step at inside next old new e h k none same)

pub tracked_not : (o : Option Expr) → o ≡ None → is_some o ≡ false
tracked_not o e = ap is_some e

-- a text before the bracket, and what is left of it
pub closed_rest : (a n r : Text) → a ++ n ≡ r ++ (41 ∷ []) → (n ≡ [] → ⊥) → (s : Text) × (n ≡ s ++ (41 ∷ [])) × (r ≡ a ++ s)
closed_rest [] n r e some = (r, e, refl)
closed_rest (b ∷ a) n [] e some = absurd (some (empty a n (same a n e)))
  where
    same : (a n : Text) → b ∷ (a ++ n) ≡ 41 ∷ [] → a ++ n ≡ []
    same a n e = cc

    empty : (a n : Text) → a ++ n ≡ [] → n ≡ []
    empty [] n e = e
    empty (c ∷ a) n e = absurd (no_part c (a ++ n) (sym e))
closed_rest (b ∷ a) n (c ∷ r) e some =
    let f : b ≡ c = cc in
    let g : a ++ n ≡ r ++ (41 ∷ []) = cc in
    let k = closed_rest a n r g some in
    (k.0, k.1, ap (λ w. c ∷ w) k.2 ∙ ap (λ d. d ∷ (a ++ k.0)) (sym f))

not_nothing : (c : ℕ) (z t : Text) → t ≡ c ∷ z → t ≡ [] → ⊥
not_nothing c z t e f = no_part c z (sym f ∙ e)

word_front : (t n : Text) → at_front is_word (t ++ n) ≡ false → at_front is_word t ≡ false
word_front [] n h = refl
word_front (b ∷ t) n h = h

-- no part stands there
unread_track : (at : At) (track : Option Expr) → (track ≡ None → Fors.NoTrack at.text.now) → Fors.NoLetPart at.text.now → Fors.NoPart at track
unread_track at track no_track no_let x tr whole more is some reads merge = by (first_part reads)
  where
    ended : (t z : Text) → at_front is_word t ≡ false → StartsEnd (z ++ (41 ∷ [])) → at_front is_word (t ++ (z ++ (41 ∷ []))) ≡ false
    ended [] z h (c, y, e, inl f) = ap (at_front is_word) e ∙ ap is_word f
    ended [] z h (c, y, e, inr f) = ap (at_front is_word) e ∙ ap is_word f
    ended (b ∷ t) z h s = h

    twice : (track tr : Option Expr) (e : Expr) → tr ≡ Some e → merged track tr ≡ Some whole → track ≡ None
    twice None tr e f g = refl
    twice (Some d) tr e f g = absurd (none_some (ap (merged (Some d)) (sym f) ∙ g))
      where
        none_some : None ≡ Some whole → ⊥
        none_some h = cc

    by : FirstPart at.place x tr more → ⊥
    by (inl k) = some k.is
    by (inr (inl k)) =
        no_track (twice track tr k.e k.says merge) k.w (k.t ++ (k.z ++ (41 ∷ []))) k.blank
        (is ∙ ap (λ r. r ++ (41 ∷ [])) k.is ∙ ap (λ r. 59 ∷ r) (append_assoc k.w (codes "track" ++ (k.t ++ k.z)) (41 ∷ []) ∙ ap (λ r. k.w ++ (codes "track" ++ r)) (append_assoc k.t k.z (41 ∷ []))))
        (ended k.t k.z k.word (parts_ends k.more (41 ∷ []) (round_ends [])))
    by (inr (inr k)) = no_let k.u k.z k.here (is ∙ ap (λ r. r ++ (41 ∷ [])) k.is ∙ ap (λ r. 59 ∷ r) (append_assoc k.u k.z (41 ∷ []))) k.part (parts_stop k.more)

pub let_part_answers : (at : At) (old new : Extras) (r : Result At Stop) → (old.track ≡ None → Fors.NoTrack at.text.now) → new.track ≡ old.track → Fors.AnswersLet at old.vars new.vars r → Fors.AnswersPart at old new r
let_part_answers at old new (Ok next) no_track same h = inr (h, same)
let_part_answers at old new (Err (stop.Syntax q)) no_track same h = unread_track at old.track no_track h
let_part_answers at old new (Err stop.Limit) no_track same h = absurd h
let_part_answers at old new (Err stop.Memory) no_track same h = tt

-- a `track` that isn't read
pub track_answers : (at inside : At) (old new : Extras) (s : Stop) → old.track ≡ None → Fors.AtTrack at inside → AnswersFront inside (Err s) → Fors.AnswersPart at old new (Err s)
track_answers at inside old new (stop.Syntax q) none h a = unread
  where
    unread : Fors.NoPart at old.track
    unread x tr whole more is some reads merge = by (first_part reads)
      where
        by : FirstPart at.place x tr more → ⊥
        by (inl k) = some k.is
        by (inr (inl k)) =
            let text : at.text.now ≡ 59 ∷ (k.w ++ (codes "track" ++ (k.t ++ (k.z ++ (41 ∷ []))))) =
            is ∙ ap (λ r. r ++ (41 ∷ [])) k.is ∙ ap (λ r. 59 ∷ r) (append_assoc k.w (codes "track" ++ (k.t ++ k.z)) (41 ∷ []) ∙ ap (λ r. k.w ++ (codes "track" ++ r)) (append_assoc k.t k.z (41 ∷ []))) in
            let g = same_tracks h.w inside.text.now k.w (k.t ++ (k.z ++ (41 ∷ []))) h.blank k.blank (sym h.is ∙ text) in
            let end = parts_ends k.more (41 ∷ []) (round_ends []) in
            let place : inside.place ≡ steps at.place (59 ∷ (k.w ++ codes "track")) = h.place ∙ ap (λ w. steps at.place (59 ∷ (w ++ codes "track"))) g.0 in
            a k.t end.0 end.1 k.e (g.1 ∙ ap (λ r. k.t ++ r) end.2) end.3 (subst (λ q. ReadsExpr false q k.t k.e) (sym place) k.reads)
        by (inr (inr k)) =
            track_no_let h.w inside.text.now k.u (k.z ++ (41 ∷ [])) k.here h.blank k.part (sym h.is ∙ is ∙ ap (λ r. r ++ (41 ∷ [])) k.is ∙ ap (λ r. 59 ∷ r) (append_assoc k.u k.z (41 ∷ [])))
track_answers at inside old new stop.Limit none h k = (
  none,
  λ y. subst (OverParts at.place) (sym (ap (λ r. r ++ y) h.is ∙ ap (λ r. 59 ∷ r) (append_assoc h.w (codes "track" ++ inside.text.now) y)))
      (OverParts.in_track h.w (inside.text.now ++ y) h.blank (word_more inside.text.now y (some k) h.word) (subst (λ q. OverFront q (inside.text.now ++ y)) h.place (past_any inside.place inside.text.now k y))),
)
  where
    some : PastLimit inside.place inside.text.now → inside.text.now ≡ [] → ⊥
    some k e = not_nothing_at k.x k.c k.z (sym e ∙ k.is)
      where
        not_nothing_at : (x : Text) (c : ℕ) (z : Text) → [] ≡ x ++ (c ∷ z) → ⊥
        not_nothing_at [] c z f = no_part c z f
        not_nothing_at (b ∷ x) c z f = no_part b (x ++ (c ∷ z)) f

    word_more : (t y : Text) → (t ≡ [] → ⊥) → EndsWord t → EndsWord (t ++ y)
    word_more [] y none_ e = absurd (none_ refl)
    word_more (b ∷ t) y none_ e = e
track_answers at inside old new stop.Memory none h a = tt

-- ---- the loop

-- what was read stands before what is left
abbrev pub Loop : At → Extras → At → Type 0
Loop start extras at = (x : Text) → start.text.now ≡ x ++ (41 ∷ []) → (r : Text) × (at.text.now ≡ r ++ (41 ∷ [])) × ((y : Text) → GoesParts (41 ∷ y) start.place x extras.track extras.vars at.place r)

pub loop_start : (start : At) (extras : Extras) → extras.track ≡ None → extras.vars ≡ [] → Loop start extras start
loop_start start extras e f x is = (x, is, λ y. subst (λ t. GoesParts (41 ∷ y) start.place x t extras.vars start.place x) (sym e) (subst (λ v. GoesParts (41 ∷ y) start.place x None v start.place x) (sym f) (parts_none (41 ∷ y) start.place x)))

rest_ends : (s : Text) (c : ℕ) (z y : Text) → s ++ (41 ∷ []) ≡ c ∷ z → IsEnd c → StartsEnd (s ++ (41 ∷ y))
rest_ends [] c z y e i = round_ends y
rest_ends (b ∷ s) c z y e i = (b, s ++ (41 ∷ y), refl, subst IsEnd (sym (first e)) i)
  where
    first : b ∷ (s ++ (41 ∷ [])) ≡ c ∷ z → b ≡ c
    first f = cc

stop_front : (s t : Text) → t ≡ s ++ (41 ∷ []) → Fors.AtStop t → at_front (differs 59) s ≡ false
stop_front [] t e h = refl
stop_front (b ∷ s) t e (inl f) = absurd (too_long s (sym e ∙ f))
  where
    too_long : (s : Text) → b ∷ (s ++ (41 ∷ [])) ≡ 41 ∷ [] → ⊥
    too_long [] g = cc
    too_long (c ∷ s) g = cc
stop_front (b ∷ s) t e (inr (y, f)) = rw (first (sym e ∙ f)) refl
  where
    first : b ∷ (s ++ (41 ∷ [])) ≡ 59 ∷ y → b ≡ 59
    first g = cc

stop_some : (t : Text) → Fors.AtStop t → t ≡ [] → ⊥
stop_some t (inl e) f = no_part 41 [] (sym f ∙ e)
stop_some t (inr (y, e)) f = no_part 59 y (sym f ∙ e)

stop_end : (t : Text) → Fors.AtStop t → (c : ℕ) × (z : Text) × (t ≡ c ∷ z) × IsEnd c
stop_end t (inl e) = (41, [], e, inl refl)
stop_end t (inr (y, e)) = (59, y, e, inr refl)

track_goes : (start : At) (old new : Extras) (at next : At) → Loop start old at → Fors.TrackStep at old new next → Loop start new next
track_goes start old new at next loop k x is = (
  s.0,
  s.1,
  λ y. subst (λ (v : Extras). GoesParts (41 ∷ y) start.place x v.track v.vars next.place s.0) (sym k.here) (subst (λ q. GoesParts (41 ∷ y) start.place x (Some k.e) old.vars q s.0) (sym k.place)
      (parts_track (41 ∷ y) start.place x old.vars at.place r (subst (λ t. GoesParts (41 ∷ y) start.place x t old.vars at.place r) k.none (goes y)) k.w k.t s.0 k.e text k.blank (word_front k.t next.text.now k.word) k.reads (round_ends y) (end y) (calm y))),
)
  where
    r : Text
    r = (loop x is).0

    goes : (y : Text) → GoesParts (41 ∷ y) start.place x old.track old.vars at.place r
    goes = (loop x is).2

    s : (s : Text) × (next.text.now ≡ s ++ (41 ∷ [])) × (r ≡ (59 ∷ (k.w ++ (codes "track" ++ k.t))) ++ s)
    s = closed_rest (59 ∷ (k.w ++ (codes "track" ++ k.t))) next.text.now r
        (ap (λ v. 59 ∷ v) (append_assoc k.w (codes "track" ++ k.t) next.text.now) ∙ sym k.is ∙ (loop x is).1) (not_nothing k.c k.z next.text.now k.left)

    text : r ≡ 59 ∷ (k.w ++ (codes "track" ++ (k.t ++ s.0)))
    text = s.2 ∙ ap (λ v. 59 ∷ v) (append_assoc k.w (codes "track" ++ k.t) s.0)

    end : (y : Text) → StartsEnd (s.0 ++ (41 ∷ y))
    end y = rest_ends s.0 k.c k.z y (sym s.1 ∙ k.left) k.end

    calm : (y : Text) → OverFront (steps at.place (59 ∷ (k.w ++ codes "track"))) (k.t ++ (s.0 ++ (41 ∷ y))) → ⊥
    calm y over =
        let e = end y in
        k.calm (front_heavy _ k.t (s.0 ++ (41 ∷ y)) (expr_ends _ k.t (s.0 ++ (41 ∷ y)) k.e k.reads e) over)

let_goes : (start : At) (old new : Extras) (at next : At) → Loop start old at → Fors.LetsStep at old new next → Loop start new next
let_goes start old new at next loop (k, same) x is = (
  s.0,
  s.1,
  λ y. subst (λ t. GoesParts (41 ∷ y) start.place x t new.vars next.place s.0) (sym same) (subst (λ v. GoesParts (41 ∷ y) start.place x old.track v next.place s.0) (sym k.all_of) (subst (λ q. GoesParts (41 ∷ y) start.place x old.track (old.vars ++ k.here) q s.0) (sym k.place)
      (parts_let (41 ∷ y) start.place x old.track old.vars at.place r (goes y) k.u s.0 k.here s.2 k.part (stop_front s.0 next.text.now s.1 k.stop) (end y)))),
)
  where
    r : Text
    r = (loop x is).0

    goes : (y : Text) → GoesParts (41 ∷ y) start.place x old.track old.vars at.place r
    goes = (loop x is).2

    s : (s : Text) × (next.text.now ≡ s ++ (41 ∷ [])) × (r ≡ 59 ∷ (k.u ++ s))
    s = closed_rest (59 ∷ k.u) next.text.now r (sym k.is ∙ (loop x is).1) (stop_some next.text.now k.stop)

    end : (y : Text) → StartsEnd (s.0 ++ (41 ∷ y))
    end y = let e = stop_end next.text.now k.stop in rest_ends s.0 e.0 e.1 y (sym s.1 ∙ e.2) e.3

pub loop_more : (start : At) (old new : Extras) (at next : At) → Loop start old at → Fors.AnswersPart at old new (Ok next) → Loop start new next
loop_more start old new at next loop (inl k) = track_goes start old new at next loop k
loop_more start old new at next loop (inr k) = let_goes start old new at next loop k

pub loop_shorter : (at : At) (old new : Extras) (next : At) → Fors.AnswersPart at old new (Ok next) → length next.text.now < length at.text.now
loop_shorter at old new next (inl k) = shorter (k.w ++ (codes "track" ++ k.t)) next.text.now at.text.now (k.is ∙ ap (λ v. 59 ∷ v) (sym (append_assoc k.w (codes "track" ++ k.t) next.text.now)))
  where
    shorter : (a n t : Text) → t ≡ 59 ∷ (a ++ n) → length n < length t
    shorter a n t e = omega (arith, ap length e, length-append a n)
loop_shorter at old new next (inr (k, same)) = shorter k.u next.text.now at.text.now k.is
  where
    shorter : (a n t : Text) → t ≡ 59 ∷ (a ++ n) → length n < length t
    shorter a n t e = omega (arith, ap length e, length-append a n)

empty_rest : (r : Text) → r ++ (41 ∷ []) ≡ 41 ∷ [] → r ≡ []
empty_rest [] e = refl
empty_rest (b ∷ []) e = absurd (cc)
empty_rest (b ∷ c ∷ r) e = absurd (cc)

pub loop_end : (start : At) (extras : Extras) (at : At) → Loop start extras at → at.text.now ≡ 41 ∷ [] → Fors.AnswersExtras start (Ok extras)
loop_end start extras at loop e x is = (parts_all (41 ∷ []) start.place x extras.track extras.vars at.place (ended []), λ z over. parts_calm z start.place x extras.track extras.vars at.place (ended z) (subst (OverParts start.place) (ap (λ v. v ++ z) is ∙ append_assoc x (41 ∷ []) z) over))
  where
    ended : (y : Text) → GoesParts (41 ∷ y) start.place x extras.track extras.vars at.place []
    ended y = subst (GoesParts (41 ∷ y) start.place x extras.track extras.vars at.place) (empty_rest (loop x is).0 (sym (loop x is).1 ∙ e)) ((loop x is).2 y)

pub loop_stops : (start : At) (extras new : Extras) (at : At) (s : Stop) → Loop start extras at → (at.text.now ≡ 41 ∷ [] → ⊥) → Fors.AnswersPart at extras new (Err s) → Fors.AnswersExtras start (Err s)
loop_stops start extras new at (stop.Syntax q) loop some h x is = λ v reads.
    parts_unread (41 ∷ []) start.place x extras.track extras.vars at.place (loop x is).0 ((loop x is).2 []) (λ tr whole more k e. h (loop x is).0 tr whole more (loop x is).1 (λ none. some ((loop x is).1 ∙ ap (λ r. r ++ (41 ∷ [])) none)) k e) v.track v.vars reads
loop_stops start extras new at stop.Limit loop some (none, over) x is =
    λ z. subst (OverParts start.place) (sym (ap (λ v. v ++ z) is ∙ append_assoc x (41 ∷ []) z)) (((loop x is).2 z).heavy none (subst (OverParts at.place) (ap (λ v. v ++ z) (loop x is).1 ∙ append_assoc (loop x is).0 (41 ∷ []) z) (over z)))
loop_stops start extras new at stop.Memory loop some h x is = tt

-- ---- the whole head

row_more : (a n y r : Text) → IsRow a n y → at_front is_word r ≡ false → IsRow a n (y ++ r)
row_more a n y r (w, v, is, blank, gap, name, ends_) h = (w, v, is, blank, gap, name, more y ends_)
  where
    more : (y : Text) → at_front is_word y ≡ false → at_front is_word (y ++ r) ≡ false
    more [] e = h
    more (b ∷ y) e = e

pub for_unrowed : (at : At) (q : Place) → Fors.NoRow at.text.now → Fors.AnswersFor at (Err (stop.Syntax q))
for_unrowed at q none x is head (a, t, z, same, row, list, parts) =
    none a head.row ((t ++ z) ++ (41 ∷ [])) (is ∙ ap (λ v. v ++ (41 ∷ [])) same ∙ append_assoc a (t ++ z) (41 ∷ [])) (row_more a head.row (t ++ z) (41 ∷ []) row refl)

-- what stands before the list, and what of the text comes after
module _ (at name rest : At) (row : Fors.AtRow at name rest) where
  reading : (x : Text) → at.text.now ≡ x ++ (41 ∷ []) → (head : ForHead) → (h : ReadsFor at.place x head) → (row.a ≡ h.0) × (name.text.now ≡ head.row) × (rest.text.now ≡ h.1 ++ (h.2 ++ (41 ∷ [])))
  reading x is head (a, t, z, same, line, list, parts) =
      let whole : row.a ++ rest.text.now ≡ a ++ (t ++ (z ++ (41 ∷ []))) = sym row.past.is ∙ is ∙ ap (λ v. v ++ (41 ∷ [])) same ∙ append_assoc a (t ++ z) (41 ∷ []) ∙ ap (λ v. a ++ v) (append_assoc t z (41 ∷ [])) in
      one_row row.a a name.text.now head.row rest.text.now (t ++ (z ++ (41 ∷ []))) row.row (subst (IsRow a head.row) (append_assoc t z (41 ∷ [])) (row_more a head.row (t ++ z) (41 ∷ []) line refl)) whole

  -- the list isn't read
  pub for_list : (s : Stop) → AnswersFront rest (Err s) → Fors.AnswersFor at (Err s)
  for_list (stop.Syntax q) h x is = by
    where
      by : (head : ForHead) → ReadsFor at.place x head → ⊥
      by head (a, t, z, same, line, list, parts) =
          let g = reading x is head (a, t, z, same, line, list, parts) in
          let end = parts_ends parts (41 ∷ []) (round_ends []) in
          let place : rest.place ≡ steps at.place a = row.past.place ∙ ap (steps at.place) g.0 in
          h t end.0 end.1 head.list (g.2 ∙ ap (λ v. t ++ v) end.2) end.3 (subst (λ v. ReadsExpr false v t head.list) (sym place) list)
  for_list stop.Limit k x is = λ y. (
    row.a,
    name.text.now,
    rest.text.now ++ y,
    ap (λ v. v ++ y) row.past.is ∙ append_assoc row.a rest.text.now y,
    row_long y k,
    inl (subst (λ v. OverFront v (rest.text.now ++ y)) row.past.place (past_any rest.place rest.text.now k y)),
  )
    where
      row_long : (y : Text) → PastLimit rest.place rest.text.now → IsRow row.a name.text.now (rest.text.now ++ y)
      row_long y l = by (row.row)
        where
          long : (t : Text) → PastLimit rest.place t → at_front is_word t ≡ false → at_front is_word (t ++ y) ≡ false
          long [] m e = absurd (none m.x m.c m.z m.is)
            where
              none : (x : Text) (c : ℕ) (z : Text) → [] ≡ x ++ (c ∷ z) → ⊥
              none [] c z f = no_part c z f
              none (b ∷ x) c z f = no_part b (x ++ (c ∷ z)) f
          long (b ∷ t) m e = e

          by : IsRow row.a name.text.now rest.text.now → IsRow row.a name.text.now (rest.text.now ++ y)
          by (w, v, same, blank, gap, named, ends_) = (w, v, same, blank, gap, named, long rest.text.now l ends_)
  for_list stop.Memory h x is = tt

  module _ (e : Expr) (next : At) (k : ReadFront rest e next) where
    next_some : next.text.now ≡ [] → ⊥
    next_some f = no_part k.c k.z (sym f ∙ k.left)

    text_is : at.text.now ≡ (row.a ++ k.x) ++ next.text.now
    text_is = row.past.is ∙ ap (λ v. row.a ++ v) (k.is ∙ ap (λ v. k.x ++ v) (sym k.left)) ∙ sym (append_assoc row.a k.x next.text.now)

    left : (x : Text) → at.text.now ≡ x ++ (41 ∷ []) → (s : Text) × (next.text.now ≡ s ++ (41 ∷ [])) × (x ≡ (row.a ++ k.x) ++ s)
    left x is = closed_rest (row.a ++ k.x) next.text.now x (sym text_is ∙ is) next_some

    place_is : next.place ≡ steps at.place (row.a ++ k.x)
    place_is = k.place ∙ ap (λ q. steps q k.x) row.past.place ∙ sym (steps_append at.place row.a k.x)

    list_reads : ReadsExpr false (steps at.place row.a) k.x e
    list_reads = subst (λ q. ReadsExpr false q k.x e) row.past.place k.reads

    row_at : (y : Text) → IsRow row.a name.text.now (k.x ++ (next.text.now ++ y))
    row_at y = by row.row
      where
        text : rest.text.now ≡ k.x ++ next.text.now
        text = k.is ∙ ap (λ v. k.x ++ v) (sym k.left)

        long : (t n : Text) → (n ≡ [] → ⊥) → at_front is_word (t ++ n) ≡ false → at_front is_word (t ++ (n ++ y)) ≡ false
        long [] [] none f = absurd (none refl)
        long [] (b ∷ n) none f = f
        long (b ∷ t) n none f = f

        by : IsRow row.a name.text.now rest.text.now → IsRow row.a name.text.now (k.x ++ (next.text.now ++ y))
        by (w, v, same, blank, gap, named, ends_) = (w, v, same, blank, gap, named, long k.x next.text.now next_some (ap (at_front is_word) (sym text) ∙ ends_))

    over_is : (y : Text) → at.text.now ++ y ≡ row.a ++ (k.x ++ (next.text.now ++ y))
    over_is y = ap (λ v. v ++ y) text_is ∙ append_assoc (row.a ++ k.x) next.text.now y ∙ append_assoc row.a k.x (next.text.now ++ y)

    start_of : (y : Text) → StartsEnd (next.text.now ++ y)
    start_of y = (k.c, k.z ++ y, ap (λ v. v ++ y) k.left, k.end)

    list_ends : (y : Text) → EndsAfter k.x (next.text.now ++ y)
    list_ends y = expr_ends (steps at.place row.a) k.x (next.text.now ++ y) e list_reads (start_of y)

    -- what of a head's reading stands behind its list
    behind : (x : Text) → at.text.now ≡ x ++ (41 ∷ []) → (head : ForHead) → ReadsFor at.place x head → (s : Text) × (next.text.now ≡ s ++ (41 ∷ [])) × ReadsParts next.place s head.track head.vars
    behind x is head (a, t, z, same, line, list, parts) =
        let g = reading x is head (a, t, z, same, line, list, parts) in
        let end = parts_ends parts (41 ∷ []) (round_ends []) in
        let l = expr_then rest.place (steps at.place a) k.x t (k.c ∷ k.z) (z ++ (41 ∷ [])) e head.list k.reads list (starts_end k.c k.z (k.c ∷ k.z) k.end refl) end (sym k.is ∙ g.2) in
        let place : next.place ≡ steps at.place (a ++ t) = place_is ∙ ap (λ v. steps at.place (v ++ k.x)) g.0 ∙ ap (λ v. steps at.place (a ++ v)) l.0 in
        (z, k.left ∙ l.1, subst (λ q. ReadsParts q z head.track head.vars) (sym place) parts)

    -- the parts aren't read
    pub for_parts : (s : Stop) → Fors.AnswersExtras next (Err s) → Fors.AnswersFor at (Err s)
    for_parts (stop.Syntax q) h x is = λ head reads. let b = behind x is head reads in h b.0 b.1 (record { track = head.track; vars = head.vars }) b.2
    for_parts stop.Limit h x is = λ y. (
      row.a,
      name.text.now,
      k.x ++ (next.text.now ++ y),
      over_is y,
      row_at y,
      inr (k.x, next.text.now ++ y, e, refl, list_reads, subst (λ q. OverParts q (next.text.now ++ y)) place_is (h (left x is).0 (left x is).1 y)),
    )
    for_parts stop.Memory h x is = tt

    pub for_read : (extras : Extras) (head : ForHead) → head ≡ record { row = name.text.now; list = e; track = extras.track; vars = extras.vars } → Fors.AnswersExtras next (Ok extras) → Fors.AnswersFor at (Ok head)
    for_read extras head same h x is =
        let l = left x is in
        let g = h l.0 l.1 in (
          subst (ReadsFor at.place x) (sym same) (
            row.a,
            k.x,
            l.0,
            l.2 ∙ append_assoc row.a k.x l.0,
            short l.0 l.1,
            list_reads,
            subst (λ q. ReadsParts q l.0 extras.track extras.vars) place_is g.0,
          ),
          λ y over. g.1 y (subst (λ q. OverParts q (next.text.now ++ y)) (sym place_is)
              (list_heavy at.place row.a name.text.now k.x (next.text.now ++ y) e (row_at y) list_reads (list_ends y) (start_of y) (λ o. k.calm (subst (λ q. OverText false q k.x) (sym row.past.place) o)) (subst (OverFor at.place) (over_is y) over))),
        )
      where
        word : (t s : Text) → at_front is_word (t ++ (s ++ (41 ∷ []))) ≡ false → at_front is_word (t ++ s) ≡ false
        word [] [] f = refl
        word [] (b ∷ s) f = f
        word (b ∷ t) s f = f

        short : (s : Text) → next.text.now ≡ s ++ (41 ∷ []) → IsRow row.a name.text.now (k.x ++ s)
        short s f = by row.row
          where
            by : IsRow row.a name.text.now rest.text.now → IsRow row.a name.text.now (k.x ++ s)
            by (w, v, is_, blank, gap, named, ends_) = (w, v, is_, blank, gap, named, word k.x s (ap (at_front is_word) (sym (k.is ∙ ap (λ r. k.x ++ r) (sym k.left ∙ f))) ∙ ends_))

    pub for_all : (extras : Extras) (r : Result ForHead Stop) → Fors.WithRow name.text.now e extras r → Fors.AnswersExtras next (Ok extras) → Fors.AnswersFor at r
    for_all extras (Ok head) same h = for_read extras head same h
    for_all extras (Err (stop.Syntax q)) none h = absurd none
    for_all extras (Err stop.Limit) none h = absurd none
    for_all extras (Err stop.Memory) none h = λ x is. tt
