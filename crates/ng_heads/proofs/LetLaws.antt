-- `@let` and interpolations.
use Rattle.std.proofs.Common.{◌≡◌, ◌+◌, ◌≤◌, ◌-◌, take, length, [], ◌∷◌, ◌++◌, codes, refl, sym, ◌∙◌, ap, subst, append_assoc, arith, length-append, inr}
use Rattle.std.proofs.Math.Seq.{take-append_seam}
use Rattle.std.proofs.lemmas.Str.{IsCharBoundary-at_seam}
use Rattle.std.specs.Str.{IsUtf8, IsCharBoundary}
use Rattle.std.specs.Prelude.{true, false, Result, Ok, Err}
use Rattle.ng_ast.specs.declared.Place.{Place}
use Rattle.ng_ast.specs.declared.Expr.{Expr}
use Rattle.ng_tokens.specs.Lexis.{Text, is_blank, is_letter, is_word, same_text, begins, steps}
use Rattle.ng_exprs.specs.Reading.{ReadsExpr, OverText}
use Rattle.ng_lex.specs.declared.kinds.TokenKind.TheVariants as kind
use Rattle.ng_lex.specs.declared.markup.Markup.{Markup}
use Rattle.ng_lex.specs.declared.markup.Markup.TheVariants as m
use Rattle.ng_lex.specs.declared.markup.Shape.{Shape}
use Rattle.ng_lex.specs.declared.markup.Shape.TheVariants as s
use Rattle.ng_lex.specs.declared.quotes.Quoting.TheVariants.{Outside}
use Rattle.ng_lex.specs.Words.{IsName, at_front, literal, First, opening, closing}
use Rattle.ng_lex.specs.Heads.{IsLetFront, OverFront}
use Rattle.ng_lex.specs.Lexis.{IsWritten}
use Rattle.ng_lex.specs.Heavy.{IsHeavy}
use Rattle.ng_lex.specs.Spans.{IsSpan, kind_of}
use Rattle.ng_heads.specs.declared.at.At.{At}
use Rattle.ng_heads.specs.declared.halt.Halt.{Halt}
use Rattle.ng_heads.specs.declared.halt.Halt.TheVariants as h
use Rattle.ng_heads.specs.declared.halt.Stop.{Stop}
use Rattle.ng_heads.specs.declared.halt.Stop.TheVariants as stop
use Rattle.ng_heads.specs.Answers.{IsCalm, Answers, Turns}
use Rattle.ng_heads.specs.Fronts.{ReadFront, AnswersFront, AnswersExpr}
use Rattle.ng_heads.specs.Lets.{AtLetFront, NoLetFront}
use Rattle.ng_heads.specs.Steps.{Past, Skips, Splits}
use Rattle.ng_heads.proofs.Texts.{apart, utf8_before, utf8_from, utf8_tail, not_both, same_front, same_is, steps_append}
use Rattle.ng_heads.proofs.Names.{gap_blank, name_letter, name_no_blank, first_once}
use Rattle.ng_heads.proofs.PartFronts.{way, way_of_shape, heavy_way, one_let_front, let_heavy, interpolation_heavy, opening_tail, equals_stops}
use Rattle.ng_heads.proofs.Cursor.{no_word}
use Rattle.ng_heads.proofs.FrontLaws.{past_any, read_calm, read_same}
use Rattle.ng_heads.proofs.TestLaws.{word_left, blank_left, name_left}
use Rattle.ng_heads.proofs.RowLaws.{gap_of, gap_front}

-- ---- before the expression

front_text : (x n z t : Text) → t ≡ x ++ z → (f : IsLetFront x n) → t ≡ codes "@let" ++ (f.0 ++ (n ++ (f.1 ++ (61 ∷ z))))
front_text x n z t e (w, v, is, gap, blank, name) =
    e ∙ ap (λ k. k ++ z) is ∙ ap (λ k. codes "@let" ++ k) (append_assoc w (n ++ (v ++ (61 ∷ []))) z ∙ ap (λ k. w ++ k) (append_assoc n (v ++ (61 ∷ [])) z ∙ ap (λ k. n ++ k) (append_assoc v (61 ∷ []) z)))

pub no_let : (at : At) → begins (codes "@let") at.text.now ≡ false → NoLetFront at.text.now
no_let at e x n z is f = no_word (codes "@let") at.text.now _ e (front_text x n z at.text.now is f)

module _ (at word : At) (sign : Past at (codes "@let") word) where
  word_is : (x n z : Text) → at.text.now ≡ x ++ z → (f : IsLetFront x n) → word.text.now ≡ f.0 ++ (n ++ (f.1 ++ (61 ∷ z)))
  word_is x n z is f = word_left at word (codes "@let") _ sign (front_text x n z at.text.now is f)

  pub no_let_gap : at_front is_blank word.text.now ≡ false → NoLetFront at.text.now
  no_let_gap e x n z is f = not_both (at_front is_blank word.text.now) (ap (at_front is_blank) (word_is x n z is f) ∙ gap_front f.0 _ f.3) e

  module _ (gap : At) (white : Skips is_blank word gap) where
    gap_is : (x n z : Text) → at.text.now ≡ x ++ z → (f : IsLetFront x n) → gap.text.now ≡ n ++ (f.1 ++ (61 ∷ z))
    gap_is x n z is f = blank_left word gap f.0 _ white (word_is x n z is f) (gap_blank f.0 f.3) (name_no_blank n _ f.5)

    pub no_let_name : at_front is_letter gap.text.now ≡ false → NoLetFront at.text.now
    no_let_name e x n z is f = not_both (at_front is_letter gap.text.now) (ap (at_front is_letter) (gap_is x n z is f) ∙ name_letter n _ f.5) e

    module _ (name rest : At) (named : Splits is_word gap name rest) (end : At) (behind : Skips is_blank rest end) where
      end_is : (x n z : Text) → at.text.now ≡ x ++ z → (f : IsLetFront x n) → end.text.now ≡ 61 ∷ z
      end_is x n z is f = blank_left rest end f.1 (61 ∷ z) behind (name_left gap name rest n _ named (gap_is x n z is f) f.5 (equals_stops f.1 z f.4)).1 f.4 refl

      pub no_let_equals : begins (61 ∷ []) end.text.now ≡ false → NoLetFront at.text.now
      no_let_equals e x n z is f = no_word (61 ∷ []) end.text.now z e (end_is x n z is f)

      pub at_let_front : (value : At) → at_front is_blank word.text.now ≡ true → IsName name.text.now → Past end (61 ∷ []) value → AtLetFront at name value
      at_let_front value front i equals = record {
        x = codes "@let" ++ (white.a ++ (name.text.now ++ (behind.a ++ (61 ∷ []))));
        front = (white.a, behind.a, refl, gap_of word.text.now white.a gap.text.now white.run.is white.run.passes white.run.stops front, behind.run.passes, i);
        past = record {
          is = sign.is ∙ ap (λ k. codes "@let" ++ k) (
              white.run.is ∙ ap (λ k. white.a ++ k) (named.run.is ∙ ap (λ k. name.text.now ++ k) (behind.run.is ∙ ap (λ k. behind.a ++ k) equals.is ∙ sym (append_assoc behind.a (61 ∷ []) value.text.now)) ∙ sym (append_assoc name.text.now (behind.a ++ (61 ∷ [])) value.text.now))
              ∙ sym (append_assoc white.a (name.text.now ++ (behind.a ++ (61 ∷ []))) value.text.now)
              );
          place = equals.place ∙ ap (λ q. steps q (61 ∷ [])) (behind.place ∙ ap (λ q. steps q behind.a) (named.place ∙ ap (λ q. steps q name.text.now) (white.place ∙ ap (λ q. steps q white.a) sign.place)))
              ∙ sym (steps_append at.place (codes "@let") (white.a ++ (name.text.now ++ (behind.a ++ (61 ∷ [])))) ∙ steps_append (steps at.place (codes "@let")) white.a (name.text.now ++ (behind.a ++ (61 ∷ [])))
              ∙ steps_append (steps (steps at.place (codes "@let")) white.a) name.text.now (behind.a ++ (61 ∷ [])) ∙ steps_append (steps (steps (steps at.place (codes "@let")) white.a) name.text.now) behind.a (61 ∷ []));
        };
      }

-- ---- all of a `@let`

let_kind : (p : Place) (a : Text) (c : Markup) → kind_of c ≡ kind.Let → IsWritten p a c → (n : Text) × (e : Expr) × (x t : Text) × (a ≡ x ++ (t ++ (59 ∷ []))) × IsLetFront x n × ReadsExpr false (steps p x) t e
let_kind p a (m.Let n e) i (x, t, is, front, reads) = (n, e, x, t, is, front, reads)
let_kind p a (m.Literal cs) i w = absurd w
let_kind p a (m.Interpolation e) i w = absurd (cc)
let_kind p a m.Comment i w = absurd (cc)
let_kind p a (m.Single tag attrs) i w = absurd (cc)
let_kind p a (m.Start tag attrs) i w = absurd (cc)
let_kind p a (m.End tag) i w = absurd (cc)
let_kind p a (m.If e n) i w = absurd (cc)
let_kind p a (m.ElseIf e n) i w = absurd (cc)
let_kind p a m.Else i w = absurd (cc)
let_kind p a (m.For head) i w = absurd (cc)
let_kind p a m.Empty i w = absurd (cc)
let_kind p a (m.Switch e) i w = absurd (cc)
let_kind p a (m.Case e) i w = absurd (cc)
let_kind p a m.Default i w = absurd (cc)
let_kind p a m.Close i w = absurd (cc)
let_kind p a (m.Heavy shape) i w = absurd w

pub let_unfronted : (at : At) (q : Place) → NoLetFront at.text.now → Answers kind.Let at.place at.text.now (Err (h.Syntax q))
let_unfronted at q none c i w = let k = let_kind at.place at.text.now c i w in none k.2 k.0 (k.3 ++ (59 ∷ [])) k.4 k.5

let_way : (x n t : Text) → IsLetFront x n → way (x ++ t) ≡ 8
let_way x n t (w, v, is, gap, blank, name) = ap (λ k. way (k ++ t)) is

shape_let : (o : Shape) → way_of_shape o ≡ 8 → o ≡ s.Let
shape_let s.Let e = refl
shape_let _ e = absurd (apart e refl)

module _ (at name rest : At) (front : AtLetFront at name rest) where
  -- the front of another reading
  other_front : (x n t : Text) → at.text.now ≡ x ++ t → IsLetFront x n → (front.x ≡ x) × (name.text.now ≡ n) × (rest.text.now ≡ t)
  other_front x n t is f = one_let_front front.x x name.text.now n rest.text.now t front.front f (sym front.past.is ∙ is)

  over_text : (z : Text) → at.text.now ++ z ≡ front.x ++ (rest.text.now ++ z)
  over_text z = ap (λ k. k ++ z) front.past.is ∙ append_assoc front.x rest.text.now z

  heavy : ((z : Text) → OverFront rest.place (rest.text.now ++ z)) → (z : Text) → IsHeavy at.place (at.text.now ++ z) s.Let
  heavy over z = (front.x, rest.text.now ++ z, name.text.now, over_text z, front.front, subst (λ q. OverFront q (rest.text.now ++ z)) front.past.place (over z))

  calm : ((z : Text) → OverFront rest.place (rest.text.now ++ z) → ⊥) → IsCalm at.place at.text.now
  calm none z shape j =
      let only : shape ≡ s.Let = shape_let shape (sym (heavy_way at.place (at.text.now ++ z) shape j) ∙ ap way (over_text z) ∙ let_way front.x name.text.now (rest.text.now ++ z) front.front) in
      none z (subst (λ q. OverFront q (rest.text.now ++ z)) (sym front.past.place) (let_heavy at.place front.x name.text.now (rest.text.now ++ z) front.front (subst (λ t. IsHeavy at.place t s.Let) (over_text z) (subst (IsHeavy at.place (at.text.now ++ z)) only j))))

  pub let_turned : (st : Stop) (r : Result Markup Halt) → AnswersFront rest (Err st) → Turns s.Let st r → Answers kind.Let at.place at.text.now r
  let_turned (stop.Syntax q) r none e = subst (Answers kind.Let at.place at.text.now) (sym e) unread
    where
      unread : (c : Markup) → kind_of c ≡ kind.Let → IsWritten at.place at.text.now c → ⊥
      unread c i w =
          let k = let_kind at.place at.text.now c i w in
          let g = other_front k.2 k.0 (k.3 ++ (59 ∷ [])) k.4 k.5 in
          none k.3 59 [] k.1 g.2 (inr refl) (subst (λ q. ReadsExpr false q k.3 k.1) (sym (front.past.place ∙ ap (steps at.place) g.0)) k.6)
  let_turned stop.Limit r over e = subst (Answers kind.Let at.place at.text.now) (sym e) (refl, heavy (past_any rest.place rest.text.now over))
  let_turned stop.Memory r none e = subst (Answers kind.Let at.place at.text.now) (sym e) tt

  module _ (value : Expr) (end : At) (k : ReadFront rest value end) where
    pub let_read : same_text (59 ∷ []) end.text.now ≡ true → Answers kind.Let at.place at.text.now (Ok (m.Let name.text.now value))
    let_read e =
        let last : end.text.now ≡ 59 ∷ [] = same_is (59 ∷ []) end.text.now e in
        let text : rest.text.now ≡ k.x ++ (59 ∷ []) = k.is ∙ ap (λ t. k.x ++ t) (sym k.left ∙ last) in
        (refl, (front.x, k.x, front.past.is ∙ ap (λ t. front.x ++ t) text, front.front, subst (λ q. ReadsExpr false q k.x value) front.past.place k.reads), calm (read_calm rest end value k))

    pub let_unread : (q : Place) → same_text (59 ∷ []) end.text.now ≡ false → Answers kind.Let at.place at.text.now (Err (h.Syntax q))
    let_unread q e c i w =
        let l = let_kind at.place at.text.now c i w in
        let g = other_front l.2 l.0 (l.3 ++ (59 ∷ [])) l.4 l.5 in
        let t = (read_same rest end value l.1 k (steps at.place l.2) l.3 [] 59 g.2 (inr refl) l.6).1 in
        not_both (same_text (59 ∷ []) end.text.now) (ap (same_text (59 ∷ [])) t) e

-- ---- interpolations

interpolation_kind : (p : Place) (a : Text) (c : Markup) → kind_of c ≡ kind.Interpolation → IsWritten p a c → (e : Expr) × (t : Text) × (a ≡ opening ++ (t ++ closing)) × First literal closing t × ReadsExpr false (steps p opening) t e
interpolation_kind p a (m.Interpolation e) i (t, is, first, reads) = (e, t, is, first, reads)
interpolation_kind p a (m.Let n e) i w = absurd (cc)
interpolation_kind p a (m.Literal cs) i w = absurd w
interpolation_kind p a m.Comment i w = absurd (cc)
interpolation_kind p a (m.Single tag attrs) i w = absurd (cc)
interpolation_kind p a (m.Start tag attrs) i w = absurd (cc)
interpolation_kind p a (m.End tag) i w = absurd (cc)
interpolation_kind p a (m.If e n) i w = absurd (cc)
interpolation_kind p a (m.ElseIf e n) i w = absurd (cc)
interpolation_kind p a m.Else i w = absurd (cc)
interpolation_kind p a (m.For head) i w = absurd (cc)
interpolation_kind p a m.Empty i w = absurd (cc)
interpolation_kind p a (m.Switch e) i w = absurd (cc)
interpolation_kind p a (m.Case e) i w = absurd (cc)
interpolation_kind p a m.Default i w = absurd (cc)
interpolation_kind p a m.Close i w = absurd (cc)
interpolation_kind p a (m.Heavy shape) i w = absurd w

shape_interpolation : (o : Shape) → way_of_shape o ≡ 10 → o ≡ s.Interpolation
shape_interpolation s.Interpolation e = refl
shape_interpolation _ e = absurd (apart e refl)

-- a text that is an interpolation, and what stands in it
module _ (p : Place) (a : Text) (token : IsSpan kind.Interpolation a []) (q : Place) (u : Text) (place : q ≡ steps p opening) (text : u ≡ token.0) where
  same_inside : (t : Text) → a ≡ opening ++ (t ++ closing) → First literal closing t → t ≡ u
  same_inside t is first = first_once literal closing Outside t token.0 [] [] inner first.1 first.0 token.2.1 token.2.0 ∙ sym text
    where
      inner : t ++ (closing ++ []) ≡ token.0 ++ (closing ++ [])
      inner = opening_tail (sym is ∙ token.1)

  over_text_is : (z : Text) → a ++ z ≡ opening ++ (token.0 ++ (closing ++ z))
  over_text_is z = ap (λ k. k ++ z) token.1 ∙ ap (λ k. opening ++ k) (append_assoc token.0 closing z)

  inside_place : (A : Place → Text → Type 0) → A q u → A (steps p opening) token.0
  inside_place A h = subst (λ v. A (steps p opening) v) text (subst (λ v. A v u) place h)

  inside_back : (A : Place → Text → Type 0) → A (steps p opening) token.0 → A q u
  inside_back A h = subst (λ v. A v u) (sym place) (subst (λ v. A (steps p opening) v) (sym text) h)

  pub interpolation_read : (e : Expr) → AnswersExpr q u (Ok e) → Answers kind.Interpolation p a (Ok (m.Interpolation e))
  interpolation_read e (reads, none) = (refl, (token.0, token.1, token.2, inside_place (λ v w. ReadsExpr false v w e) reads), quiet)
    where
      quiet : IsCalm p a
      quiet z shape j =
          let only : shape ≡ s.Interpolation = shape_interpolation shape (sym (heavy_way p (a ++ z) shape j) ∙ ap way (over_text_is z)) in
          none (inside_back (OverText false) (interpolation_heavy p token.0 z token.2 (subst (λ t. IsHeavy p t s.Interpolation) (over_text_is z) (subst (IsHeavy p (a ++ z)) only j))))

  pub interpolation_turned : (st : Stop) (r : Result Markup Halt) → AnswersExpr q u (Err st) → Turns s.Interpolation st r → Answers kind.Interpolation p a r
  interpolation_turned (stop.Syntax x) r none e = subst (Answers kind.Interpolation p a) (sym e) unread
    where
      unread : (c : Markup) → kind_of c ≡ kind.Interpolation → IsWritten p a c → ⊥
      unread c i w =
          let k = interpolation_kind p a c i w in
          none k.0 (subst (λ v. ReadsExpr false v u k.0) (sym place) (subst (λ t. ReadsExpr false (steps p opening) t k.0) (same_inside k.1 k.2 k.3) k.4))
  interpolation_turned stop.Limit r over e = subst (Answers kind.Interpolation p a) (sym e) (refl, λ z. (token.0, z, over_text_is z, token.2, inside_place (OverText false) over))
  interpolation_turned stop.Memory r none e = subst (Answers kind.Interpolation p a) (sym e) tt

-- ---- where an interpolation is cut

inner_is : (a : Text) (k : IsSpan kind.Interpolation a []) → a ≡ (opening ++ k.0) ++ closing
inner_is a k = k.1 ∙ sym (append_assoc opening k.0 closing)

inner_long : (a : Text) (k : IsSpan kind.Interpolation a []) → length a ≡ length (opening ++ k.0) + 2
inner_long a k = ap length (inner_is a k) ∙ length-append (opening ++ k.0) closing

pub inner_size : (a : Text) (k : IsSpan kind.Interpolation a []) → 2 ≤ length a
inner_size a k = omega (arith, inner_long a k)

inner_end : (a : Text) (k : IsSpan kind.Interpolation a []) → length (opening ++ k.0) ≡ length a - 2
inner_end a k = omega (arith, inner_long a k)

pub outer_boundary : (a : Text) → IsSpan kind.Interpolation a [] → IsUtf8 a → IsCharBoundary a (length a - 2)
outer_boundary a k u =
    subst (λ n. IsCharBoundary a n) (inner_end a k) (IsCharBoundary-at_seam a (opening ++ k.0) closing (inner_is a k) (utf8_from (opening ++ k.0) (125 ∷ []) 125 (omega arith) (subst IsUtf8 (inner_is a k) u)))

outer_text : (a b : Text) (k : IsSpan kind.Interpolation a []) → b ≡ take (length a - 2) a → b ≡ opening ++ k.0
outer_text a b k e = e ∙ ap (λ n. take n a) (sym (inner_end a k)) ∙ ap (take (length (opening ++ k.0))) (inner_is a k) ∙ take-append_seam (opening ++ k.0) closing

pub inner_boundary : (a b : Text) → IsSpan kind.Interpolation a [] → IsUtf8 a → b ≡ take (length a - 2) a → IsCharBoundary b 2
inner_boundary a b k u e =
    let text : b ≡ opening ++ k.0 = outer_text a b k e in
    let front : IsUtf8 (opening ++ k.0) = utf8_before (opening ++ k.0) (125 ∷ []) 125 (omega arith) (subst IsUtf8 (inner_is a k) u) in
    IsCharBoundary-at_seam b opening k.0 text (utf8_tail 123 k.0 (omega arith) (utf8_tail 123 (123 ∷ k.0) (omega arith) front))

pub inner_text : (a : Text) (front inside : At) (k : IsSpan kind.Interpolation a []) → front.text.now ≡ take (length a - 2) a → Past front (take 2 front.text.now) inside → inside.text.now ≡ k.0
inner_text a front inside k e h =
    let text : front.text.now ≡ opening ++ k.0 = outer_text a front.text.now k e in
    let two : take 2 front.text.now ≡ opening = ap (take 2) text ∙ take-append_seam opening k.0 in
    (same_front (take 2 front.text.now) opening inside.text.now k.0 (sym h.is ∙ text) (ap length two)).1

pub inner_place : (a : Text) (at front inside : At) → IsSpan kind.Interpolation a [] → front.text.now ≡ take (length a - 2) a → front.place ≡ at.place → Past front (take 2 front.text.now) inside → inside.place ≡ steps at.place opening
inner_place a at front inside k e f h =
    let text : front.text.now ≡ opening ++ k.0 = outer_text a front.text.now k e in
    h.place ∙ ap (λ w. steps front.place w) (ap (take 2) text ∙ take-append_seam opening k.0) ∙ ap (λ q. steps q opening) f
