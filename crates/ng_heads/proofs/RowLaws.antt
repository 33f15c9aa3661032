-- The row of a `@for`, and names for its variables, from left to right.
use Rattle.std.proofs.Common.{◌≡◌, ◌<◌, List, length, length-append, [], ◌∷◌, ◌++◌, codes, refl, sym, ◌∙◌, ap, subst, append_assoc, arith, inl, inr}
use Rattle.std.proofs.lemmas.List.{append-nil}
use Rattle.std.specs.Prelude.{Bool, true, false, ◌==◌, Ok, Err}
use Rattle.ng_tokens.specs.Lexis.{Text, is_blank, is_letter, is_word, same_text, begins, all, is_one_of, steps}
use Rattle.ng_lex.specs.Words.{IsBlank, IsGap, IsName, Spaced, IsOneName, at_front}
use Rattle.ng_lex.specs.Attributes.{differs}
use Rattle.ng_lex.specs.Heads.{row_variables, IsPair, ReadsPairs, IsRow}
use Rattle.ng_heads.specs.declared.at.At.{At}
use Rattle.ng_heads.specs.declared.halt.Stop.{Stop}
use Rattle.ng_heads.specs.declared.halt.Stop.TheVariants as stop
use Rattle.ng_heads.specs.Runs.{in_word}
use Rattle.ng_heads.specs.Steps.{Past, Skips, Splits}
use Rattle.ng_heads.specs.Fors.{AtRow, NoRow, Adds, AddsPair, GoesPairs}
use Rattle.ng_heads.proofs.Texts.{both_true, not_both, same_byte, same_runs, same_is, steps_append}
use Rattle.ng_heads.proofs.Names.{same_tail, gap_blank, name_letter, name_no_blank, blank_ends, blank_no_word}
use Rattle.ng_heads.proofs.HeadLaws.{FirstPair, first_pair, one_pair, same_pair, name_free, no_comma, pair_free, variable_no_blank, variable_dark}
use Rattle.ng_heads.proofs.TestLaws.{word_left, blank_left, name_left}
use Rattle.ng_heads.proofs.Cursor.{no_word}

-- ---- the row

row_text : (a n z t : Text) → t ≡ a ++ z → (r : IsRow a n z) → t ≡ r.0 ++ (n ++ (r.1 ++ (codes "of" ++ z)))
row_text a n z t e (w, v, is, blank, gap, name, ends) =
    e ∙ ap (λ k. k ++ z) is ∙ append_assoc w (n ++ (v ++ codes "of")) z ∙ ap (λ k. w ++ k) (append_assoc n (v ++ codes "of") z ∙ ap (λ k. n ++ k) (append_assoc v (codes "of") z))

pub gap_front : (w r : Text) → IsGap w → at_front is_blank (w ++ r) ≡ true
gap_front [] r h = absurd h
gap_front (b ∷ w) r h = (both_true (is_blank b) (all is_blank w) h).0

gap_word : (w r : Text) → IsGap w → at_front is_word (w ++ r) ≡ false
gap_word [] r h = absurd h
gap_word (b ∷ w) r h = blank_no_word b (both_true (is_blank b) (all is_blank w) h).0

-- white space of which some stands
pub gap_of : (t a z : Text) → t ≡ a ++ z → all is_blank a ≡ true → at_front is_blank z ≡ false → at_front is_blank t ≡ true → IsGap a
gap_of t [] z e h stops front = absurd (not_both (at_front is_blank z) (ap (at_front is_blank) (sym e) ∙ front) stops)
gap_of t (b ∷ a) z e h stops front = h

module _ (at front : At) (blank : Skips is_blank at front) where
  front_is : (a n z : Text) → at.text.now ≡ a ++ z → (r : IsRow a n z) → front.text.now ≡ n ++ (r.1 ++ (codes "of" ++ z))
  front_is a n z e r = blank_left at front r.0 _ blank (row_text a n z at.text.now e r) r.3 (name_no_blank n _ r.5)

  pub unnamed_row : at_front is_letter front.text.now ≡ false → NoRow at.text.now
  unnamed_row h a n z e r = not_both (at_front is_letter front.text.now) (ap (at_front is_letter) (front_is a n z e r) ∙ name_letter n _ r.5) h

  module _ (name rest : At) (word : Splits is_word front name rest) where
    rest_is : (a n z : Text) → at.text.now ≡ a ++ z → (r : IsRow a n z) → (name.text.now ≡ n) × (rest.text.now ≡ r.1 ++ (codes "of" ++ z))
    rest_is a n z e r = name_left front name rest n _ word (front_is a n z e r) r.5 (gap_word r.1 _ r.4)

    pub ungapped_row : at_front is_blank rest.text.now ≡ false → NoRow at.text.now
    ungapped_row h a n z e r = not_both (at_front is_blank rest.text.now) (ap (at_front is_blank) (rest_is a n z e r).1 ∙ gap_front r.1 _ r.4) h

    module _ (gap : At) (white : Skips is_blank rest gap) where
      pub row_without_of : ((r : Text) → gap.text.now ≡ codes "of" ++ r → at_front is_word r ≡ false → ⊥) → NoRow at.text.now
      row_without_of none a n z e r = none z (blank_left rest gap r.1 _ white (rest_is a n z e r).1 (gap_blank r.1 r.4) refl) r.6

      pub at_row : (next : At) → at_front is_blank rest.text.now ≡ true → IsName name.text.now → Past gap (codes "of") next → at_front is_word next.text.now ≡ false → AtRow at name next
      at_row next spaced named of_ ends = record {
        a = blank.a ++ (name.text.now ++ (white.a ++ codes "of"));
        row = (blank.a, white.a, refl, blank.run.passes, gap_of rest.text.now white.a gap.text.now white.run.is white.run.passes white.run.stops spaced, named, ends);
        past = record {
          is = blank.run.is ∙ ap (λ k. blank.a ++ k) (word.run.is ∙ ap (λ k. name.text.now ++ k) (white.run.is ∙ ap (λ k. white.a ++ k) of_.is ∙ sym (append_assoc white.a (codes "of") next.text.now)) ∙ sym (append_assoc name.text.now (white.a ++ codes "of") next.text.now))
              ∙ sym (append_assoc blank.a (name.text.now ++ (white.a ++ codes "of")) next.text.now);
          place = of_.place ∙ ap (λ q. steps q (codes "of")) (white.place ∙ ap (λ q. steps q white.a) (word.place ∙ ap (λ q. steps q name.text.now) blank.place))
              ∙ sym (steps_append at.place blank.a (name.text.now ++ (white.a ++ codes "of")) ∙ steps_append (steps at.place blank.a) name.text.now (white.a ++ codes "of") ∙ steps_append (steps (steps at.place blank.a) name.text.now) white.a (codes "of"));
        };
      }

-- ---- one name

pub nothing : (t : Text) → same_text [] t ≡ true → t ≡ []
nothing t e = same_is [] t e

something : (t : Text) → same_text [] t ≡ false → t ≡ [] → ⊥
something t e f = not_both (same_text [] t) (ap (same_text []) f) e

module _ (at front : At) (blank : Skips is_blank at front) where
  one_front : (n : Text) (h : IsOneName at.text.now n) → front.text.now ≡ n ++ h.0.1
  one_front n h = blank_left at front h.0.0 _ blank h.0.2 h.0.3 (name_no_blank n _ h.1)

  pub no_one_name : at_front is_letter front.text.now ≡ false → (n : Text) → IsOneName at.text.now n → ⊥
  no_one_name e n h = not_both (at_front is_letter front.text.now) (ap (at_front is_letter) (one_front n h) ∙ name_letter n _ h.1) e

  module _ (name rest : At) (word : Splits is_word front name rest) (end : At) (behind : Skips is_blank rest end) where
    pub more_than_name : same_text [] end.text.now ≡ false → (n : Text) → IsOneName at.text.now n → ⊥
    more_than_name e n h =
        let left : rest.text.now ≡ h.0.1 = (name_left front name rest n h.0.1 word (one_front n h) h.1 (blank_ends h.0.1 h.0.4)).1 in
        something end.text.now e (blank_left rest end h.0.1 [] behind (left ∙ sym (append-nil h.0.1)) h.0.4 refl)

    pub one_name_is : IsName name.text.now → same_text [] end.text.now ≡ true → IsOneName at.text.now name.text.now
    one_name_is i e =
        let last : end.text.now ≡ [] = nothing end.text.now e in
        ((blank.a, behind.a, blank.run.is ∙ ap (λ k. blank.a ++ k) (word.run.is ∙ ap (λ k. name.text.now ++ k) (behind.run.is ∙ ap (λ k. behind.a ++ k) last ∙ append-nil behind.a)), blank.run.passes, behind.run.passes), i)

-- ---- one variable

IsVariableText : Text → Type 0
IsVariableText v = is_one_of row_variables v ≡ true

blank_not_dark : (v : Text) → IsBlank v → at_front in_word v ≡ false
blank_not_dark [] h = refl
blank_not_dark (b ∷ v) h = rw (both_true (is_blank b) (all is_blank v) h).0 refl

module _ (at front : At) (blank : Skips is_blank at front) (word rest : At) (dark : Splits in_word front word rest) (end : At) (behind : Skips is_blank rest end) where
  variable_front : (v : Text) (h : Spaced at.text.now v) → is_one_of row_variables v ≡ true → front.text.now ≡ v ++ h.1
  variable_front v h i = blank_left at front h.0 _ blank h.2 h.3 (variable_no_blank v i h.1)

  variable_word : (v : Text) (h : Spaced at.text.now v) → is_one_of row_variables v ≡ true → (word.text.now ≡ v) × (rest.text.now ≡ h.1)
  variable_word v h i = same_runs in_word word.text.now v rest.text.now h.1 (sym dark.run.is ∙ variable_front v h i) dark.run.passes (variable_dark v i) dark.run.stops (blank_not_dark h.1 h.4)

  pub no_variable : is_one_of row_variables word.text.now ≡ false → (v : Text) → Spaced at.text.now v → is_one_of row_variables v ≡ true → ⊥
  no_variable e v h i = not_both (is_one_of row_variables word.text.now) (ap (is_one_of row_variables) (variable_word v h i).0 ∙ i) e

  pub more_than_variable : same_text [] end.text.now ≡ false → (v : Text) → Spaced at.text.now v → is_one_of row_variables v ≡ true → ⊥
  more_than_variable e v h i =
      let left : rest.text.now ≡ h.1 = (variable_word v h i).1 in
      something end.text.now e (blank_left rest end h.1 [] behind (left ∙ sym (append-nil h.1)) h.4 refl)

  pub spaced_is : same_text [] end.text.now ≡ true → Spaced at.text.now word.text.now
  spaced_is e =
      let last : end.text.now ≡ [] = nothing end.text.now e in
      (blank.a, behind.a, blank.run.is ∙ ap (λ k. blank.a ++ k) (dark.run.is ∙ ap (λ k. word.text.now ++ k) (behind.run.is ∙ ap (λ k. behind.a ++ k) last ∙ append-nil behind.a)), blank.run.passes, behind.run.passes)

-- ---- one pair

module _ (at left rest : At) (cut : Splits (differs 61) at left rest) where
  pair_left : (n v : Text) (h : IsPair at.text.now n v) → (left.text.now ≡ h.0) × (rest.text.now ≡ 61 ∷ h.1)
  pair_left n v h = same_runs (differs 61) left.text.now h.0 rest.text.now (61 ∷ h.1) (sym cut.run.is ∙ h.2) cut.run.passes (name_free h.0 n h.3) cut.run.stops refl

  pub no_equals : begins (61 ∷ []) rest.text.now ≡ false → (n v : Text) → IsPair at.text.now n v → ⊥
  no_equals e n v h = no_word (61 ∷ []) rest.text.now h.1 e (pair_left n v h).1

  module _ (right : At) (sign : Past rest (61 ∷ []) right) where
    pub no_pair_name : ((n : Text) → IsOneName left.text.now n → ⊥) → (n v : Text) → IsPair at.text.now n v → ⊥
    no_pair_name none n v h = none n (subst (λ k. IsOneName k n) (sym (pair_left n v h).0) h.3)

    pub no_pair_variable : ((v : Text) → Spaced right.text.now v → is_one_of row_variables v ≡ true → ⊥) → (n v : Text) → IsPair at.text.now n v → ⊥
    no_pair_variable none n v h = none v (subst (λ k. Spaced k v) (sym (word_left rest right (61 ∷ []) h.1 sign (pair_left n v h).1)) h.4) h.5

    pub pair_is : (n v : Text) → IsOneName left.text.now n → Spaced right.text.now v → is_one_of row_variables v ≡ true → IsPair at.text.now n v
    pair_is n v i j k = (left.text.now, right.text.now, cut.run.is ∙ ap (λ r. left.text.now ++ r) sign.is, i, j, k)

-- ---- several pairs

pub goes_none : (t : Text) → GoesPairs t [] t
goes_none t = record { ahead = λ more h. h; back = λ all h. (all, refl, h) }

-- one more pair, after which a comma stands
pub goes_more : (t s x r n v : Text) (found : List (Text × Text)) → GoesPairs t found s → s ≡ x ++ (44 ∷ r) → IsPair x n v → GoesPairs t (found ++ ((n, v) ∷ [])) r
goes_more t s x r n v found g e pair = record {
  ahead = λ more h. subst (ReadsPairs t) (sym (append_assoc found ((n, v) ∷ []) more)) (g.ahead ((n, v) ∷ more) (subst (λ k. ReadsPairs k ((n, v) ∷ more)) (sym e) (ReadsPairs.next_pair x r n v pair h)));
  back = λ all h. back all (g.back all h);
}
  where
    first : (more : List (Text × Text)) → FirstPair s more → (rest : List (Text × Text)) × (more ≡ (n, v) ∷ rest) × ReadsPairs r rest
    first more (inl (k, u, h, is)) = absurd (no_comma s x r k u h e)
    first more (inr (y, z, k, u, rest, is, h, reads, all_of)) =
        let g2 = same_runs (differs 44) x y (44 ∷ r) (44 ∷ z) (sym e ∙ is) (pair_free 44 refl x n v pair) (pair_free 44 refl y k u h) refl refl in
        let one = one_pair x n v k u pair (subst (λ w. IsPair w k u) (sym g2.0) h) in
        let left : r ≡ z = same_tail 44 g2.1 in
        (rest, all_of ∙ ap (λ w. w ∷ rest) (sym (same_pair one.0 one.1)), subst (λ w. ReadsPairs w rest) (sym left) reads)

    back : (all : List (Text × Text)) → ((more : List (Text × Text)) × (all ≡ found ++ more) × ReadsPairs s more) → (rest : List (Text × Text)) × (all ≡ found ++ ((n, v) ∷ []) ++ rest) × ReadsPairs r rest
    back all (more, is, h) = let k = first more (first_pair h) in (k.0, is ∙ ap (λ w. found ++ w) k.1 ∙ sym (append_assoc found ((n, v) ∷ []) k.0), k.2)

-- no pair stands before the comma, or at the end
pub goes_unread : (t s x r : Text) (found : List (Text × Text)) → GoesPairs t found s → s ≡ x ++ r → all (differs 44) x ≡ true → at_front (differs 44) r ≡ false → ((n v : Text) → IsPair x n v → ⊥) → (all : List (Text × Text)) → ReadsPairs t all → ⊥
goes_unread t s x r found g e free stops none all h = by (first_pair (g.back all h).2)
  where
    by : FirstPair s (g.back all h).0 → ⊥
    by (inl (n, v, i, is)) = none n v (subst (λ w. IsPair w n v) (sym (same_runs (differs 44) x s r [] (sym e ∙ sym (append-nil s)) free (pair_free 44 refl s n v i) stops refl).0) i)
    by (inr (y, z, n, v, rest, is, i, reads, all_of)) = none n v (subst (λ w. IsPair w n v) (sym (same_runs (differs 44) x y r (44 ∷ z) (sym e ∙ is) free (pair_free 44 refl y n v i) stops refl).0) i)

-- the last pair
pub goes_last : (t s x r n v : Text) (found : List (Text × Text)) → GoesPairs t found s → s ≡ x ++ r → at_front (differs 44) r ≡ false → begins (44 ∷ []) r ≡ false → IsPair x n v → ReadsPairs t (found ++ ((n, v) ∷ []))
goes_last t s x r n v found g e stops none pair =
    let end : r ≡ [] = empty r stops none in
    g.ahead ((n, v) ∷ []) (subst (λ k. ReadsPairs k ((n, v) ∷ [])) (sym (e ∙ ap (λ k. x ++ k) end ∙ append-nil x)) (ReadsPairs.last_pair x n v pair))
  where
    empty : (r : Text) → at_front (differs 44) r ≡ false → begins (44 ∷ []) r ≡ false → r ≡ []
    empty [] h i = refl
    empty (b ∷ r) h i = absurd (by (b == 44) refl)
      where
        by : (w : Bool) → (b == 44) ≡ w → ⊥
        by true f = no_word (44 ∷ []) (b ∷ r) r i (ap (λ k. k ∷ r) (same_byte b 44 f))
        by false f = not_both (differs 44 b) (rw f refl) h

-- ---- the loop over pairs

-- what the list had, and pairs that were read
pub record Pairs (t : Text) (old now : List (Text × Text)) (s : Text) : Type 0 where
  pub found : List (Text × Text)
  pub same : now ≡ old ++ found
  pub goes : GoesPairs t found s

pub pairs_none : (t : Text) (old : List (Text × Text)) → Pairs t old old t
pairs_none t old = record { found = []; same = sym (append-nil old); goes = goes_none t }

pub pairs_more : (t : Text) (old now new : List (Text × Text)) (left here rest next : At) → Pairs t old now left.text.now → Splits (differs 44) left here rest → AddsPair here.text.now now new (Ok tt) → Past rest (44 ∷ []) next → Pairs t old new next.text.now
pairs_more t old now new left here rest next k cut (vs, same, (n, v, pair, one)) sign = record {
  found = k.found ++ ((n, v) ∷ []);
  same = same ∙ ap (λ w. now ++ w) one ∙ ap (λ w. w ++ ((n, v) ∷ [])) k.same ∙ append_assoc old k.found ((n, v) ∷ []);
  goes = goes_more t left.text.now here.text.now next.text.now n v k.found k.goes (cut.run.is ∙ ap (λ r. here.text.now ++ r) sign.is) pair;
}

pub pairs_last : (t : Text) (old now new : List (Text × Text)) (left here rest : At) → Pairs t old now left.text.now → Splits (differs 44) left here rest → AddsPair here.text.now now new (Ok tt) → begins (44 ∷ []) rest.text.now ≡ false
    → Adds {A = Unit {0}} (ReadsPairs t) old new (Ok tt)
pairs_last t old now new left here rest k cut (vs, same, (n, v, pair, one)) none =
    (k.found ++ ((n, v) ∷ []), same ∙ ap (λ w. now ++ w) one ∙ ap (λ w. w ++ ((n, v) ∷ [])) k.same ∙ append_assoc old k.found ((n, v) ∷ []), goes_last t left.text.now here.text.now rest.text.now n v k.found k.goes cut.run.is cut.run.stops none pair)

pub pairs_stops : (t : Text) (old now new : List (Text × Text)) (left here rest : At) (st : Stop) → Pairs t old now left.text.now → Splits (differs 44) left here rest → AddsPair here.text.now now new (Err st) → Adds {A = Unit {0}} (ReadsPairs t) old new (Err st)
pairs_stops t old now new left here rest (stop.Syntax q) k cut none = λ vs h. goes_unread t left.text.now here.text.now rest.text.now k.found k.goes cut.run.is cut.run.passes cut.run.stops (λ n v pair. none ((n, v) ∷ []) (n, v, pair, refl)) vs h
pairs_stops t old now new left here rest stop.Limit k cut none = none
pairs_stops t old now new left here rest stop.Memory k cut none = tt

pub pairs_shorter : (left here rest next : At) → Splits (differs 44) left here rest → Past rest (44 ∷ []) next → length next.text.now < length left.text.now
pairs_shorter left here rest next cut sign = size left.text.now here.text.now rest.text.now next.text.now cut.run.is sign.is
  where
    size : (a b c d : Text) → a ≡ b ++ c → c ≡ 44 ∷ d → length d < length a
    size a b c d e f = omega (arith, ap length e, length-append b c, ap length f)

-- one pair more
pub add_one : (t : Text) (old new : List (Text × Text)) (n v l r : Text) → IsPair t n v → l ≡ n → r ≡ v → new ≡ old ++ ((l, r) ∷ []) → AddsPair t old new (Ok tt)
add_one t old new n v l r pair e f same = ((l, r) ∷ [], same, (l, r, subst (λ w. IsPair t l w) (sym f) (subst (λ w. IsPair t w v) (sym e) pair), refl))

pub add_none : (t : Text) → ((n v : Text) → IsPair t n v → ⊥) → (vs : List (Text × Text)) → ((n v : Text) × IsPair t n v × (vs ≡ (n, v) ∷ [])) → ⊥
add_none t none vs (n, v, pair, e) = none n v pair
