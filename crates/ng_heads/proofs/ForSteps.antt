-- The parts of the head of a `@for`, one after another.
use Rattle.std.proofs.Common.{◌≡◌, ℕ, List, [], ◌∷◌, ◌++◌, codes, refl, sym, ◌∙◌, ap, subst, append_assoc, arith, inl, inr}
use Rattle.std.proofs.lemmas.List.{append-nil}
use Rattle.std.specs.Prelude.{false, ◌⊎◌, Option, Some, None}
use Rattle.ng_ast.specs.declared.Place.{Place}
use Rattle.ng_ast.specs.declared.Expr.{Expr}
use Rattle.ng_tokens.specs.Lexis.{Text, all, steps}
use Rattle.ng_exprs.specs.Reading.{ReadsExpr}
use Rattle.ng_exprs.proofs.Whole.{text_reads_one}
use Rattle.ng_lex.specs.Words.{IsBlank, EndsWord, at_front}
use Rattle.ng_lex.specs.Attributes.{differs}
use Rattle.ng_lex.specs.Heads.{IsLetPart, ReadsParts, OverFront, OverParts}
use Rattle.ng_heads.specs.Parts.{merged, GoesParts}
use Rattle.ng_heads.proofs.Texts.{first_byte, same_runs}
use Rattle.ng_heads.proofs.Names.{some_one, same_tail}
use Rattle.ng_heads.proofs.HeadLaws.{StartsEnd, expr_then, in_pairs, let_pairs, one_let_part}
use Rattle.ng_heads.proofs.ForLaws.{FirstPart, first_part, parts_ends, parts_stop, no_part, track_no_let, same_tracks, same_lets, same_rest}

-- ---- parts that pass a limit

record OverTrack (p : Place) (x : Text) : Type 0 where
  w : Text
  t : Text
  is : x ≡ 59 ∷ (w ++ (codes "track" ++ t))
  blank : IsBlank w
  word : EndsWord t
  over : OverFront (steps p (59 ∷ (w ++ codes "track"))) t

record OverLet (p : Place) (x : Text) : Type 0 where
  u : Text
  z : Text
  vs : List (Text × Text)
  is : x ≡ 59 ∷ (u ++ z)
  part : IsLetPart u vs
  over : OverParts (steps p (59 ∷ u)) z

first_over : {p : Place} {x : Text} → OverParts p x → OverTrack p x ⊎ OverLet p x
first_over (OverParts.in_track w t blank word over) = inl (record { w = w; t = t; is = refl; blank = blank; word = word; over = over })
first_over (OverParts.after_let {vs = vs} u z part over) = inr (record { u = u; z = z; vs = vs; is = refl; part = part; over = over })

over_starts : {p : Place} {x : Text} → OverParts p x → (y : Text) × (x ≡ 59 ∷ y)
over_starts (OverParts.in_track w t blank word over) = (_, refl)
over_starts (OverParts.after_let u z part over) = (_, refl)

-- ---- no part yet

none_merged : (track whole : Option Expr) → merged None track ≡ Some whole → track ≡ whole
none_merged track whole e = some_one e

pub parts_none : (y : Text) (p : Place) (z : Text) → GoesParts y p z None [] p z
parts_none y p z = record {
  ahead = λ tr whole more h e. subst (λ v. ReadsParts p z v more) (none_merged tr whole e) h;
  back = λ whole all h. (whole, all, refl, refl, h);
  heavy = λ e h. h;
  calm = λ h. (refl, h);
}

-- ---- a part with names

-- where names end: at `)` or `;`
ends_no_pairs : (z : Text) → StartsEnd z → at_front in_pairs z ≡ false
ends_no_pairs z (c, y, e, inl d) = ap (at_front in_pairs) e ∙ ap in_pairs d
ends_no_pairs z (c, y, e, inr d) = ap (at_front in_pairs) e ∙ ap in_pairs d

module _ (y : Text) (p : Place) (z : Text) (track : Option Expr) (found : List (Text × Text)) (q : Place) (r : Text) (goes : GoesParts y p z track found q r)
    (u s : Text) (here : List (Text × Text)) (is : r ≡ 59 ∷ (u ++ s)) (part : IsLetPart u here) (stops : at_front (differs 59) s ≡ false) (ends : StartsEnd (s ++ y)) where
  let_back : (tr : Option Expr) (more : List (Text × Text)) → ReadsParts q r tr more → (rest : List (Text × Text)) × (more ≡ here ++ rest) × ReadsParts (steps q (59 ∷ u)) s tr rest
  let_back tr more h = by (first_part h)
    where
      by : FirstPart q r tr more → (rest : List (Text × Text)) × (more ≡ here ++ rest) × ReadsParts (steps q (59 ∷ u)) s tr rest
      by (inl k) = absurd (no_part 59 (u ++ s) (sym k.is ∙ is))
      by (inr (inl k)) = absurd (track_no_let k.w (k.t ++ k.z) u s here k.blank part (sym k.is ∙ is))
      by (inr (inr k)) =
          let g = same_lets u s k.u k.z here k.here part k.part (sym is ∙ k.is) stops (parts_stop k.more) in
          let one : k.here ≡ here = one_let_part u k.here here (subst (λ v. IsLetPart v k.here) (sym g.0) k.part) part in
          (k.others, k.all_of ∙ ap (λ v. v ++ k.others) one, subst (λ v. ReadsParts (steps q (59 ∷ v)) s tr k.others) (sym g.0) (subst (λ v. ReadsParts (steps q (59 ∷ k.u)) v tr k.others) (sym g.1) k.more))

  let_calm : OverParts q (r ++ y) → OverParts (steps q (59 ∷ u)) (s ++ y)
  let_calm h = by (first_over h)
    where
      whole : r ++ y ≡ 59 ∷ (u ++ (s ++ y))
      whole = ap (λ v. v ++ y) is ∙ ap (λ v. 59 ∷ v) (append_assoc u s y)

      by : OverTrack q (r ++ y) ⊎ OverLet q (r ++ y) → OverParts (steps q (59 ∷ u)) (s ++ y)
      by (inl k) = absurd (track_no_let k.w k.t u (s ++ y) here k.blank part (sym k.is ∙ whole))
      by (inr k) =
          let more = over_starts k.over in
          let g = same_runs in_pairs u k.u (s ++ y) k.z (same_tail 59 (sym whole ∙ k.is)) (let_pairs u here part) (let_pairs k.u k.vs k.part) (ends_no_pairs (s ++ y) ends) (ends_no_pairs k.z (59, more.0, more.1, inr refl)) in
          subst (λ v. OverParts (steps q (59 ∷ v)) (s ++ y)) (sym g.0) (subst (λ v. OverParts (steps q (59 ∷ k.u)) v) (sym g.1) k.over)

  pub parts_let : GoesParts y p z track (found ++ here) (steps q (59 ∷ u)) s
  parts_let = record {
    ahead = λ tr whole more h e. subst (ReadsParts p z whole) (sym (append_assoc found here more)) (goes.ahead tr whole (here ++ more) (subst (λ v. ReadsParts q v tr (here ++ more)) (sym is) (ReadsParts.let_part u s part h)) e);
    back = λ whole all h. again whole all (goes.back whole all h);
    heavy = λ e h. goes.heavy e (subst (OverParts q) (sym (ap (λ v. v ++ y) is ∙ ap (λ v. 59 ∷ v) (append_assoc u s y))) (OverParts.after_let u (s ++ y) part h));
    calm = λ h. let k = goes.calm h in (k.0, let_calm k.1);
  }
    where
      again : (whole : Option Expr) (all : List (Text × Text)) → ((tr : Option Expr) × (more : List (Text × Text)) × (merged track tr ≡ Some whole) × (all ≡ found ++ more) × ReadsParts q r tr more)
          → (tr : Option Expr) × (more : List (Text × Text)) × (merged track tr ≡ Some whole) × (all ≡ found ++ here ++ more) × ReadsParts (steps q (59 ∷ u)) s tr more
      again whole all (tr, more, e, same, h) = let k = let_back tr more h in (tr, k.0, e, same ∙ ap (λ v. found ++ v) k.1 ∙ sym (append_assoc found here k.0), k.2)

-- ---- a part with an expression

whole_merged : (e : Expr) (tr whole : Option Expr) → merged (Some e) tr ≡ Some whole → (tr ≡ None) × (Some e ≡ whole)
whole_merged e None whole h = (refl, some_one h)
whole_merged e (Some d) whole h = absurd (cc)

some_none : {A : Type 0} {a : A} → Some a ≡ None → ⊥
some_none e = cc

module _ (y : Text) (p : Place) (z : Text) (found : List (Text × Text)) (q : Place) (r : Text) (goes : GoesParts y p z None found q r)
    (w t s : Text) (e : Expr) (is : r ≡ 59 ∷ (w ++ (codes "track" ++ (t ++ s)))) (blank : IsBlank w) (word : EndsWord t) (reads : ReadsExpr false (steps q (59 ∷ (w ++ codes "track"))) t e) (end : StartsEnd y) (ends : StartsEnd (s ++ y)) where
  track_back : (tr : Option Expr) (more : List (Text × Text)) → ReadsParts q r tr more → (tr ≡ Some e) × ReadsParts (steps q (59 ∷ (w ++ (codes "track" ++ t)))) s None more
  track_back tr more h = by (first_part h)
    where
      by : FirstPart q r tr more → (tr ≡ Some e) × ReadsParts (steps q (59 ∷ (w ++ (codes "track" ++ t)))) s None more
      by (inl k) = absurd (no_part 59 _ (sym k.is ∙ is))
      by (inr (inr k)) = absurd (track_no_let w (t ++ s) k.u k.z k.here blank k.part (sym is ∙ k.is))
      by (inr (inl k)) =
          let g = same_tracks w (t ++ s) k.w (k.t ++ k.z) blank k.blank (sym is ∙ k.is) in
          let whole : t ++ (s ++ y) ≡ k.t ++ (k.z ++ y) = sym (append_assoc t s y) ∙ ap (λ v. v ++ y) g.1 ∙ append_assoc k.t k.z y in
          let x = expr_then _ _ t k.t (s ++ y) (k.z ++ y) e k.e reads k.reads ends (parts_ends k.more y end) whole in
          let rest : s ≡ k.z = same_rest t k.t s k.z x.0 g.1 in
          let other : ReadsExpr false (steps q (59 ∷ (w ++ codes "track"))) t k.e = subst (λ v. ReadsExpr false (steps q (59 ∷ (v ++ codes "track"))) t k.e) (sym g.0) (subst (λ v. ReadsExpr false (steps q (59 ∷ (k.w ++ codes "track"))) v k.e) (sym x.0) k.reads) in (
            k.says ∙ ap Some (text_reads_one false _ t k.e e other reads),
            subst (λ v. ReadsParts (steps q (59 ∷ (v ++ (codes "track" ++ t)))) s None more) (sym g.0)
                (subst (λ v. ReadsParts (steps q (59 ∷ (k.w ++ (codes "track" ++ v)))) s None more) (sym x.0) (subst (λ v. ReadsParts (steps q (59 ∷ (k.w ++ (codes "track" ++ k.t)))) v None more) (sym rest) k.more)),
          )

  track_calm : (OverFront (steps q (59 ∷ (w ++ codes "track"))) (t ++ (s ++ y)) → ⊥) → OverParts q (r ++ y) → ⊥
  track_calm none h = by (first_over h)
    where
      whole : r ++ y ≡ 59 ∷ (w ++ (codes "track" ++ (t ++ (s ++ y))))
      whole = ap (λ v. v ++ y) is ∙ ap (λ v. 59 ∷ v) (append_assoc w (codes "track" ++ (t ++ s)) y ∙ ap (λ v. w ++ (codes "track" ++ v)) (append_assoc t s y))

      by : OverTrack q (r ++ y) ⊎ OverLet q (r ++ y) → ⊥
      by (inl k) =
          let g = same_tracks w (t ++ (s ++ y)) k.w k.t blank k.blank (sym whole ∙ k.is) in
          none (subst (λ v. OverFront (steps q (59 ∷ (v ++ codes "track"))) (t ++ (s ++ y))) (sym g.0) (subst (OverFront (steps q (59 ∷ (k.w ++ codes "track")))) (sym g.1) k.over))
      by (inr k) = track_no_let w (t ++ (s ++ y)) k.u k.z k.vs blank k.part (sym whole ∙ k.is)

  pub parts_track : (OverFront (steps q (59 ∷ (w ++ codes "track"))) (t ++ (s ++ y)) → ⊥) → GoesParts y p z (Some e) found (steps q (59 ∷ (w ++ (codes "track" ++ t)))) s
  parts_track none = record {
    ahead = ahead;
    back = λ whole all h. again whole all (goes.back whole all h);
    heavy = λ same h. absurd (some_none same);
    calm = λ h. absurd (track_calm none (goes.calm h).1);
  }
    where
      ahead : (tr whole : Option Expr) (more : List (Text × Text)) → ReadsParts (steps q (59 ∷ (w ++ (codes "track" ++ t)))) s tr more → merged (Some e) tr ≡ Some whole → ReadsParts p z whole (found ++ more)
      ahead tr whole more h d =
          let m = whole_merged e tr whole d in
          goes.ahead (Some e) whole more (subst (λ v. ReadsParts q v (Some e) more) (sym is) (ReadsParts.track_part w t s blank word reads (subst (λ v. ReadsParts (steps q (59 ∷ (w ++ (codes "track" ++ t)))) s v more) m.0 h))) (ap Some m.1)

      again : (whole : Option Expr) (all : List (Text × Text)) → ((tr : Option Expr) × (more : List (Text × Text)) × (merged None tr ≡ Some whole) × (all ≡ found ++ more) × ReadsParts q r tr more)
          → (tr : Option Expr) × (more : List (Text × Text)) × (merged (Some e) tr ≡ Some whole) × (all ≡ found ++ more) × ReadsParts (steps q (59 ∷ (w ++ (codes "track" ++ t)))) s tr more
      again whole all (tr, more, d, same, h) = let k = track_back tr more h in (None, more, ap Some (sym k.0) ∙ d, same, k.1)

-- a `track` that passes a limit
pub track_over : (q : Place) (r w t : Text) → r ≡ 59 ∷ (w ++ (codes "track" ++ t)) → IsBlank w → EndsWord t → OverFront (steps q (59 ∷ (w ++ codes "track"))) t → OverParts q r
track_over q r w t is blank word over = subst (OverParts q) (sym is) (OverParts.in_track w t blank word over)

-- ---- the end, and what is no part

end_merged : (track : Option Expr) → merged track None ≡ Some track
end_merged None = refl
end_merged (Some e) = refl

no_round : {x y : Text} → 41 ∷ x ≡ 59 ∷ y → ⊥
no_round e = let b : ◌≡◌ {A = ℕ} 41 59 = first_byte e in absurd (omega arith)

pub parts_all : (y : Text) (p : Place) (z : Text) (track : Option Expr) (found : List (Text × Text)) (q : Place) → GoesParts y p z track found q [] → ReadsParts p z track found
parts_all y p z track found q goes = subst (ReadsParts p z track) (append-nil found) (goes.ahead None track [] ReadsParts.no_part (end_merged track))

pub parts_calm : (x : Text) (p : Place) (z : Text) (track : Option Expr) (found : List (Text × Text)) (q : Place) → GoesParts (41 ∷ x) p z track found q [] → OverParts p (z ++ (41 ∷ x)) → ⊥
parts_calm x p z track found q goes h = let k = over_starts (goes.calm h).1 in no_round k.1

pub parts_unread : (y : Text) (p : Place) (z : Text) (track : Option Expr) (found : List (Text × Text)) (q : Place) (r : Text) → GoesParts y p z track found q r
    → ((tr whole : Option Expr) (more : List (Text × Text)) → ReadsParts q r tr more → merged track tr ≡ Some whole → ⊥) → (whole : Option Expr) (all : List (Text × Text)) → ReadsParts p z whole all → ⊥
parts_unread y p z track found q r goes none whole all h = let k = goes.back whole all h in none k.0 whole k.1 k.4 k.2
