-- What brackets hold: tests with names, and expressions alone.
use Rattle.std.proofs.Common.{◌≡◌, [], ◌∷◌, ◌++◌, codes, refl, sym, ◌∙◌, ap, subst, append_assoc, inl, inr}
use Rattle.std.specs.Prelude.{true, false, Option, Some, None, Ok, Err}
use Rattle.ng_ast.specs.declared.Place.{Place}
use Rattle.ng_ast.specs.declared.Expr.{Expr}
use Rattle.ng_tokens.specs.Lexis.{Text, is_blank, is_letter, is_word, same_text, begins}
use Rattle.ng_exprs.specs.Reading.{ReadsExpr}
use Rattle.ng_lex.specs.Words.{IsBlank, IsName, at_front}
use Rattle.ng_lex.specs.Heads.{IsAs, ReadsTest}
use Rattle.ng_heads.specs.declared.at.At.{At}
use Rattle.ng_heads.specs.declared.halt.Stop.{Stop}
use Rattle.ng_heads.specs.declared.halt.Stop.TheVariants as stop
use Rattle.ng_heads.specs.Fronts.{ReadFront, AnswersFront}
use Rattle.ng_heads.specs.Steps.{Past, Skips, Splits}
use Rattle.ng_heads.specs.Tests.{Named, NotNamed, AnswersName, AnswersTest, AnswersAlone}
use Rattle.ng_heads.proofs.Texts.{not_both, no_true, same_front, same_runs, same_is}
use Rattle.ng_heads.proofs.Names.{name_words, name_letter, name_no_blank, blank_ends}
use Rattle.ng_heads.proofs.Closing.{last_same}
use Rattle.ng_heads.proofs.Cursor.{no_word}
use Rattle.ng_heads.proofs.FrontLaws.{past_any, read_calm, read_same}

-- ---- what is left after a word, white space, a name

pub word_left : (at next : At) (w r : Text) → Past at w next → at.text.now ≡ w ++ r → next.text.now ≡ r
word_left at next w r h e = (same_front w w next.text.now r (sym h.is ∙ e) refl).1

pub blank_left : (at next : At) (w r : Text) → Skips is_blank at next → at.text.now ≡ w ++ r → IsBlank w → at_front is_blank r ≡ false → next.text.now ≡ r
blank_left at next w r h e blank stops = (same_runs is_blank h.a w next.text.now r (sym h.run.is ∙ e) h.run.passes blank h.run.stops stops).1

pub name_left : (at name next : At) (n r : Text) → Splits is_word at name next → at.text.now ≡ n ++ r → IsName n → at_front is_word r ≡ false → (name.text.now ≡ n) × (next.text.now ≡ r)
name_left at name next n r h e i stops = same_runs is_word name.text.now n next.text.now r (sym h.run.is ∙ e) h.run.passes (name_words n i) h.run.stops stops

-- ---- the name after `as`

-- what a name's text is, from left to right
record NameText (t n : Text) : Type 0 where
  w : Text
  g : Text
  v : Text
  is : t ≡ 59 ∷ (w ++ (codes "as" ++ (g ++ (n ++ (v ++ (41 ∷ []))))))
  blank : IsBlank w
  white : IsBlank g
  front : at_front is_blank (g ++ (n ++ v)) ≡ true
  name : IsName n
  behind : IsBlank v

name_text : (t n : Text) → Named t n → NameText t n
name_text t n h = by h.named
  where
    regroup : (w g v : Text) → (w ++ (codes "as" ++ (g ++ (n ++ v)))) ++ (41 ∷ []) ≡ w ++ (codes "as" ++ (g ++ (n ++ (v ++ (41 ∷ [])))))
    regroup w g v = append_assoc w (codes "as" ++ (g ++ (n ++ v))) (41 ∷ []) ∙ ap (λ k. w ++ (codes "as" ++ k)) (append_assoc g (n ++ v) (41 ∷ []) ∙ ap (λ k. g ++ k) (append_assoc n v (41 ∷ [])))

    by : IsAs h.u n → NameText t n
    by (w, s, is, blank, front, ((g, v, same, white, behind), name)) = record {
      w = w;
      g = g;
      v = v;
      is = h.is ∙ ap (λ k. 59 ∷ (k ++ (41 ∷ []))) (is ∙ ap (λ k. w ++ (codes "as" ++ k)) same) ∙ ap (λ k. 59 ∷ k) (regroup w g v);
      blank = blank;
      white = white;
      front = ap (at_front is_blank) (sym same) ∙ front;
      name = name;
      behind = behind;
    }

front_long : (t r : Text) → at_front is_blank t ≡ true → at_front is_blank (t ++ r) ≡ true
front_long [] r h = absurd (no_true h)
front_long (b ∷ t) r h = h

blank_round : (v : Text) → IsBlank v → at_front is_word (v ++ (41 ∷ [])) ≡ false
blank_round [] h = refl
blank_round (b ∷ v) h = blank_ends (b ∷ v) h

pub unnamed_sign : (t : Text) → begins (59 ∷ []) t ≡ false → NotNamed t
unnamed_sign t e n h = no_word (59 ∷ []) t (h.u ++ (41 ∷ [])) e h.is

module _ (at part : At) (sign : Past at (59 ∷ []) part) where
  part_is : (n : Text) (k : NameText at.text.now n) → part.text.now ≡ k.w ++ (codes "as" ++ (k.g ++ (n ++ (k.v ++ (41 ∷ [])))))
  part_is n k = word_left at part (59 ∷ []) _ sign k.is

  module _ (word : At) (blank : Skips is_blank part word) where
    word_is : (n : Text) (k : NameText at.text.now n) → word.text.now ≡ codes "as" ++ (k.g ++ (n ++ (k.v ++ (41 ∷ []))))
    word_is n k = blank_left part word k.w _ blank (part_is n k) k.blank refl

    pub unnamed_as : begins (codes "as") word.text.now ≡ false → NotNamed at.text.now
    unnamed_as e n h = let k = name_text at.text.now n h in no_word (codes "as") word.text.now _ e (word_is n k)

    module _ (name : At) (as_ : Past word (codes "as") name) where
      name_is : (n : Text) (k : NameText at.text.now n) → name.text.now ≡ k.g ++ (n ++ (k.v ++ (41 ∷ [])))
      name_is n k = word_left word name (codes "as") _ as_ (word_is n k)

      front_is : (n : Text) (k : NameText at.text.now n) → at_front is_blank name.text.now ≡ true
      front_is n k =
          ap (at_front is_blank) (name_is n k ∙ sym (ap (λ r. k.g ++ r) (append_assoc n k.v (41 ∷ []))) ∙ sym (append_assoc k.g (n ++ k.v) (41 ∷ []))) ∙ front_long (k.g ++ (n ++ k.v)) (41 ∷ []) k.front

      pub unnamed_gap : at_front is_blank name.text.now ≡ false → NotNamed at.text.now
      unnamed_gap e n h = let k = name_text at.text.now n h in not_both (at_front is_blank name.text.now) (front_is n k) e

      module _ (here : At) (gap : Skips is_blank name here) where
        here_is : (n : Text) (k : NameText at.text.now n) → here.text.now ≡ n ++ (k.v ++ (41 ∷ []))
        here_is n k = blank_left name here k.g _ gap (name_is n k) k.white (name_no_blank n _ k.name)

        pub unnamed_name : at_front is_letter here.text.now ≡ false → NotNamed at.text.now
        unnamed_name e n h = let k = name_text at.text.now n h in not_both (at_front is_letter here.text.now) (ap (at_front is_letter) (here_is n k) ∙ name_letter n _ k.name) e

        module _ (m rest : At) (word_of : Splits is_word here m rest) (end : At) (behind : Skips is_blank rest end) where
          end_is : (n : Text) (k : NameText at.text.now n) → end.text.now ≡ 41 ∷ []
          end_is n k = blank_left rest end k.v _ behind (name_left here m rest n _ word_of (here_is n k) k.name (blank_round k.v k.behind)).1 k.behind refl

          pub unnamed_end : same_text (41 ∷ []) end.text.now ≡ false → NotNamed at.text.now
          unnamed_end e n h = let k = name_text at.text.now n h in not_both (same_text (41 ∷ []) end.text.now) (ap (same_text (41 ∷ [])) (end_is n k)) e

          pub named : at_front is_blank name.text.now ≡ true → IsName m.text.now → same_text (41 ∷ []) end.text.now ≡ true → Named at.text.now m.text.now
          named front i e =
              let last : end.text.now ≡ 41 ∷ [] = same_is (41 ∷ []) end.text.now e in
              let inner : Text = gap.a ++ (m.text.now ++ behind.a) in
              let tail : name.text.now ≡ inner ++ (41 ∷ []) =
              gap.run.is ∙ ap (λ r. gap.a ++ r) (word_of.run.is ∙ ap (λ r. m.text.now ++ r) (behind.run.is ∙ ap (λ r. behind.a ++ r) last) ∙ sym (append_assoc m.text.now behind.a (41 ∷ []))) ∙ sym (append_assoc gap.a (m.text.now ++ behind.a) (41 ∷ [])) in
              let whole : at.text.now ≡ 59 ∷ ((blank.a ++ (codes "as" ++ inner)) ++ (41 ∷ [])) =
              sign.is ∙ ap (λ r. 59 ∷ r) (blank.run.is ∙ ap (λ r. blank.a ++ r) (as_.is ∙ ap (λ r. codes "as" ++ r) tail) ∙ sym (append_assoc blank.a (codes "as" ++ inner) (41 ∷ []))) in record {
                u = blank.a ++ (codes "as" ++ inner);
                is = whole;
                named = (blank.a, inner, refl, blank.run.passes, front_short inner (ap (at_front is_blank) (sym tail) ∙ front), ((gap.a, behind.a, refl, gap.run.passes, behind.run.passes), i));
              }
            where
              front_short : (t : Text) → at_front is_blank (t ++ (41 ∷ [])) ≡ true → at_front is_blank t ≡ true
              front_short [] f = absurd (no_true f)
              front_short (b ∷ t) f = f

-- ---- tests

pub is_round : (t : Text) → same_text (41 ∷ []) t ≡ true → t ≡ 41 ∷ []
is_round t e = same_is (41 ∷ []) t e

pub not_round : (t : Text) → same_text (41 ∷ []) t ≡ false → t ≡ 41 ∷ [] → ⊥
not_round t e f = not_both (same_text (41 ∷ []) t) (ap (same_text (41 ∷ [])) f) e

-- the expression before the last bracket
alone_is : (at rest : At) (e : Expr) (k : ReadFront at e rest) → rest.text.now ≡ 41 ∷ [] → (x : Text) → at.text.now ≡ x ++ (41 ∷ []) → k.x ≡ x
alone_is at rest e k end x is = last_same k.x x 41 (ap (λ r. k.x ++ r) (sym end ∙ k.left) ∙ sym k.is ∙ is)

pub alone_read : (at rest : At) (e : Expr) → ReadFront at e rest → rest.text.now ≡ 41 ∷ [] → AnswersAlone at (Ok e)
alone_read at rest e k end x is = (subst (λ v. ReadsExpr false at.place v e) (alone_is at rest e k end x is) k.reads, λ z. read_calm at rest e k z)

pub alone_unread : (at rest : At) (e : Expr) (q : Place) → ReadFront at e rest → (rest.text.now ≡ 41 ∷ [] → ⊥) → AnswersAlone at (Err (stop.Syntax q))
alone_unread at rest e q k none x is d reads = none (read_same at rest e d k at.place x [] 41 is (inl refl) reads).1

pub alone_stops : (at : At) (s : Stop) → AnswersFront at (Err s) → AnswersAlone at (Err s)
alone_stops at (stop.Syntax q) h x is = λ d reads. h x 41 [] d is (inl refl) reads
alone_stops at stop.Limit h x is = λ z. past_any at.place at.text.now h z
alone_stops at stop.Memory h x is = tt

pub test_alone : (at rest : At) (e : Expr) → ReadFront at e rest → rest.text.now ≡ 41 ∷ [] → AnswersTest at (Ok (e, None))
test_alone at rest e k end x is = alone_read at rest e k end x is

-- a test with a name, before the last bracket
split_is : (at : At) (x t u : Text) → at.text.now ≡ x ++ (41 ∷ []) → x ≡ t ++ (59 ∷ u) → at.text.now ≡ t ++ (59 ∷ (u ++ (41 ∷ [])))
split_is at x t u is same = is ∙ ap (λ r. r ++ (41 ∷ [])) same ∙ append_assoc t (59 ∷ u) (41 ∷ [])

pub test_named : (at rest : At) (e : Expr) (n : Text) → ReadFront at e rest → Named rest.text.now n → AnswersTest at (Ok (e, Some n))
test_named at rest e n k h x is =
    let whole : at.text.now ≡ (k.x ++ (59 ∷ h.u)) ++ (41 ∷ []) = k.is ∙ ap (λ r. k.x ++ r) (sym k.left ∙ h.is) ∙ sym (append_assoc k.x (59 ∷ h.u) (41 ∷ [])) in
    ((k.x, h.u, last_same x (k.x ++ (59 ∷ h.u)) 41 (sym is ∙ whole), k.reads, h.named), λ z. read_calm at rest e k z)

pub test_unread : (at rest : At) (e : Expr) (q : Place) → ReadFront at e rest → (rest.text.now ≡ 41 ∷ [] → ⊥) → NotNamed rest.text.now → AnswersTest at (Err (stop.Syntax q))
test_unread at rest e q k none unnamed x is (d, None) reads = none (read_same at rest e d k at.place x [] 41 is (inl refl) reads).1
test_unread at rest e q k none unnamed x is (d, Some n) (t, u, same, reads, named_) =
    let left = (read_same at rest e d k at.place t (u ++ (41 ∷ [])) 59 (split_is at x t u is same) (inr refl) reads).1 in
    unnamed n (record { u = u; is = left; named = named_ })

-- a test by what stands behind its expression
pub test_read : (at rest : At) (e : Expr) (o : Option Text) → ReadFront at e rest → AnswersName rest (Ok o) → AnswersTest at (Ok (e, o))
test_read at rest e None k end = test_alone at rest e k end
test_read at rest e (Some n) k h = test_named at rest e n k h

pub test_nameless : (at rest : At) (e : Expr) (s : Stop) → ReadFront at e rest → AnswersName rest (Err s) → AnswersTest at (Err s)
test_nameless at rest e (stop.Syntax q) k none = test_unread at rest e q k none.0 none.1
test_nameless at rest e stop.Limit k none = absurd none
test_nameless at rest e stop.Memory k none = λ x is. tt

pub test_stops : (at : At) (s : Stop) → AnswersFront at (Err s) → AnswersTest at (Err s)
test_stops at (stop.Syntax q) h x is = unread_all
  where
    unread_all : (v : Expr × Option Text) → ReadsTest at.place x v.0 v.1 → ⊥
    unread_all (d, None) reads = h x 41 [] d is (inl refl) reads
    unread_all (d, Some n) (t, u, same, reads, named_) = h t 59 (u ++ (41 ∷ [])) d (split_is at x t u is same) (inr refl) reads
test_stops at stop.Limit h x is = λ z. past_any at.place at.text.now h z
test_stops at stop.Memory h x is = tt
