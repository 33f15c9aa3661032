-- Heads of blocks: what a head's word and its brackets make of it.
use Rattle.std.proofs.Common.{◌≡◌, ℕ, take, [], ◌∷◌, ◌++◌, codes, refl, sym, ◌∙◌, ap, subst, append_assoc}
use Rattle.std.proofs.lemmas.List.{append-nil}
use Rattle.std.specs.Prelude.{Bool, true, false, Option, Some, None, Result, Ok, Err, MatchBool, MatchOption}
use Rattle.ng_ast.specs.declared.Place.{Place}
use Rattle.ng_ast.specs.declared.Expr.{Expr}
use Rattle.ng_ast.specs.declared.ForHead.{ForHead}
use Rattle.ng_tokens.specs.Lexis.{Text, is_blank, all, same_text, begins, steps}
use Rattle.ng_exprs.specs.Reading.{ReadsExpr}
use Rattle.ng_lex.specs.declared.kinds.TokenKind.TheVariants as kind
use Rattle.ng_lex.specs.declared.markup.Markup.{Markup}
use Rattle.ng_lex.specs.declared.markup.Markup.TheVariants as m
use Rattle.ng_lex.specs.declared.markup.Shape.{Shape}
use Rattle.ng_lex.specs.declared.markup.Shape.TheVariants as s
use Rattle.ng_lex.specs.Words.{IsBlank, at_front}
use Rattle.ng_lex.specs.Heads.{Bracketed, Braced, IsElseIf, ReadsTest, ReadsFor, OverFront, OverFor}
use Rattle.ng_lex.specs.Lexis.{IsWritten}
use Rattle.ng_lex.specs.Heavy.{IsHeavy}
use Rattle.ng_lex.specs.Spans.{kind_of, kind_of_shape}
use Rattle.ng_heads.specs.declared.at.At.{At}
use Rattle.ng_heads.specs.declared.halt.Halt.{Halt}
use Rattle.ng_heads.specs.declared.halt.Halt.TheVariants as h
use Rattle.ng_heads.specs.declared.halt.Stop.{Stop}
use Rattle.ng_heads.specs.declared.halt.Stop.TheVariants as stop
use Rattle.ng_heads.specs.Answers.{IsCalm, Answers, Reads, Turns}
use Rattle.ng_heads.specs.Closes.{ClosedAt, NotClosed}
use Rattle.ng_heads.specs.Brackets.{InBrackets, NoBrackets}
use Rattle.ng_heads.specs.Blocks.{AnswersAfter, AnswersElseIf, IsBrace, AtIf, NoIf}
use Rattle.ng_heads.specs.Steps.{Past, Skips}
use Rattle.ng_heads.proofs.Texts.{apart, both_true, not_both, same_front, same_is, steps_append}
use Rattle.ng_heads.proofs.Names.{gap_blank}
use Rattle.ng_heads.proofs.PartFronts.{else_tail, way, way_of, way_of_shape, written_way, heavy_way, else_apart, same_else, one_bracket, bracket_heavy, else_heavy, for_heavy}
use Rattle.ng_heads.proofs.TestLaws.{word_left, blank_left}
use Rattle.ng_heads.proofs.Cursor.{no_word}
use Rattle.ng_heads.proofs.RowLaws.{gap_of}
use Rattle.ng_heads.proofs.Closing.{closed_text}

-- ---- brackets

pub no_bracket_sign : (at front : At) → Skips is_blank at front → begins (40 ∷ []) front.text.now ≡ false → NoBrackets at
no_bracket_sign at front blank e w x v before behind is = no_word (40 ∷ []) front.text.now _ e (blank_left at front w _ blank is before refl)

pub not_in_brackets : (at front inside : At) → Skips is_blank at front → Past front (40 ∷ []) inside → NotClosed inside.text.now → NoBrackets at
not_in_brackets at front inside blank sign none w x v before behind is = none x v behind (word_left front inside (40 ∷ []) _ sign (blank_left at front w _ blank is before refl))

pub in_brackets : (at front inside kept : At) (n : ℕ) → Skips is_blank at front → Past front (40 ∷ []) inside → ClosedAt inside.text.now n → kept.text.now ≡ take n inside.text.now → kept.place ≡ inside.place → InBrackets at kept
in_brackets at front inside kept n blank sign k same place = record {
  w = blank.a;
  x = k.x;
  v = k.v;
  before = blank.run.passes;
  behind = k.blank;
  is = blank.run.is ∙ ap (λ r. blank.a ++ r) (sign.is ∙ ap (λ r. 40 ∷ r) k.is);
  kept = same ∙ closed_text inside.text.now n k;
  place = place ∙ sign.place ∙ ap (λ q. steps q (40 ∷ [])) blank.place ∙ sym (steps_append at.place blank.a (40 ∷ []));
}

-- the brackets of a head after its word
bracketed : (p : Place) (word : Text) (at inside : At) → at.place ≡ steps p word → (k : InBrackets at inside) → Bracketed p word (word ++ at.text.now) inside.place k.x
bracketed p word at inside e k = record {
  before_round = k.w;
  before_brace = k.v;
  blank_round = k.before;
  blank_brace = k.behind;
  is = ap (λ r. word ++ r) k.is;
  at = k.place ∙ ap (λ q. steps q (k.w ++ (40 ∷ []))) e ∙ sym (steps_append p word (k.w ++ (40 ∷ [])));
}

no_bracketed : (p q : Place) (word : Text) (at : At) (x : Text) → NoBrackets at → Bracketed p word (word ++ at.text.now) q x → ⊥
no_bracketed p q word at x none b = none b.before_round x b.before_brace b.blank_round b.blank_brace (same_front word word at.text.now _ b.is refl).1

-- what comes after the brackets' first sign
whole_is : (word : Text) (at inside : At) (k : InBrackets at inside) (z : Text) → (word ++ at.text.now) ++ z ≡ word ++ (k.w ++ (40 ∷ (inside.text.now ++ (k.v ++ (123 ∷ z)))))
whole_is word at inside k z =
    append_assoc word at.text.now z ∙ ap (λ r. word ++ r) (
    ap (λ r. r ++ z) k.is ∙ append_assoc k.w (40 ∷ (k.x ++ (41 ∷ (k.v ++ (123 ∷ []))))) z
    ∙ ap (λ r. k.w ++ (40 ∷ r)) (append_assoc k.x (41 ∷ (k.v ++ (123 ∷ []))) z ∙ ap (λ r. k.x ++ (41 ∷ r)) (append_assoc k.v (123 ∷ []) z) ∙ sym (append_assoc k.x (41 ∷ []) (k.v ++ (123 ∷ z))) ∙ ap (λ r. r ++ (k.v ++ (123 ∷ z))) (sym k.kept))
    )

round_place : (p : Place) (word : Text) (at inside : At) → at.place ≡ steps p word → (k : InBrackets at inside) → inside.place ≡ steps p (word ++ (k.w ++ (40 ∷ [])))
round_place p word at inside e k = k.place ∙ ap (λ q. steps q (k.w ++ (40 ∷ []))) e ∙ sym (steps_append p word (k.w ++ (40 ∷ [])))

-- ---- answers

-- only what begins so
same_way : (p : Place) (a : Text) (n : ℕ) (c : Markup) → way a ≡ n → IsWritten p a c → way_of c ≡ n
same_way p a n c e w = sym (written_way p a c w) ∙ e

heavy_only : (p : Place) (a z : Text) (n : ℕ) (shape : Shape) → way (a ++ z) ≡ n → IsHeavy p (a ++ z) shape → way_of_shape shape ≡ n
heavy_only p a z n shape e h = sym (heavy_way p (a ++ z) shape h) ∙ e

-- what a head answers, by its word and what its brackets hold
module _ {A : Type 0} (p : Place) (word : Text) (at : At) (here : at.place ≡ steps p word) (shape : Shape) (reads : Place → Text → A → Type 0) (over : Place → Text → Type 0)
    (kind_is : kind_of_shape shape ≡ kind.Head)
    (only : (c : Markup) → kind_of c ≡ kind.Head → IsWritten p (word ++ at.text.now) c → (v : A) × (q : Place) × (x : Text) × Bracketed p word (word ++ at.text.now) q x × reads q x v)
    (into : (w x : Text) → IsBlank w → over (steps p (word ++ (w ++ (40 ∷ [])))) x → IsHeavy p (word ++ (w ++ (40 ∷ x))) shape)
    (back : (w x : Text) → IsBlank w → IsHeavy p (word ++ (w ++ (40 ∷ x))) shape → over (steps p (word ++ (w ++ (40 ∷ [])))) x)
    (alone : (z : Text) (other : Shape) → IsHeavy p ((word ++ at.text.now) ++ z) other → other ≡ shape) where
  unbracketed : (q : Place) → NoBrackets at → Answers kind.Head p (word ++ at.text.now) (Err (h.Syntax q))
  unbracketed q none c i w = let v = only c i w in no_bracketed p v.1 word at v.2 none v.3

  calm : (inside : At) (k : InBrackets at inside) → ((z : Text) → over inside.place (inside.text.now ++ z) → ⊥) → IsCalm p (word ++ at.text.now)
  calm inside k none z other j =
      let i : IsHeavy p (word ++ (k.w ++ (40 ∷ (inside.text.now ++ (k.v ++ (123 ∷ z)))))) shape = subst (λ t. IsHeavy p t shape) (whole_is word at inside k z) (subst (IsHeavy p ((word ++ at.text.now) ++ z)) (alone z other j) j) in
      none (k.v ++ (123 ∷ z)) (subst (λ q. over q (inside.text.now ++ (k.v ++ (123 ∷ z)))) (sym (round_place p word at inside here k)) (back k.w (inside.text.now ++ (k.v ++ (123 ∷ z))) k.before i))

  turned : (inside : At) (k : InBrackets at inside) (st : Stop) (r : Result Markup Halt) → Reads (reads inside.place k.x) (λ z. over inside.place (inside.text.now ++ z)) (Err st) → Turns shape st r → Answers kind.Head p (word ++ at.text.now) r
  turned inside k (stop.Syntax q) r none e = subst (Answers kind.Head p (word ++ at.text.now)) (sym e) unread
    where
      unread : (c : Markup) → kind_of c ≡ kind.Head → IsWritten p (word ++ at.text.now) c → ⊥
      unread c i w =
          let v = only c i w in
          let g = one_bracket p inside.place v.1 word (word ++ at.text.now) k.x v.2 (bracketed p word at inside here k) v.3 in
          none v.0 (subst (λ y. reads y k.x v.0) (sym g.0) (subst (λ x. reads v.1 x v.0) (sym g.1) v.4))
  turned inside k stop.Limit r all e = subst (Answers kind.Head p (word ++ at.text.now)) (sym e) (kind_is, heavy)
    where
      heavy : (z : Text) → IsHeavy p ((word ++ at.text.now) ++ z) shape
      heavy z =
          subst (λ t. IsHeavy p t shape) (sym (whole_is word at inside k z))
          (into k.w (inside.text.now ++ (k.v ++ (123 ∷ z))) k.before (subst (λ q. over q (inside.text.now ++ (k.v ++ (123 ∷ z)))) (round_place p word at inside here k) (all (k.v ++ (123 ∷ z)))))
  turned inside k stop.Memory r none e = subst (Answers kind.Head p (word ++ at.text.now)) (sym e) tt

shape_if : (o : Shape) → way_of_shape o ≡ 1 → o ≡ s.If
shape_if s.If e = refl
shape_if _ e = absurd (apart e refl)

shape_else_if : (o : Shape) → way_of_shape o ≡ 2 → o ≡ s.ElseIf
shape_else_if s.ElseIf e = refl
shape_else_if _ e = absurd (apart e refl)

shape_for : (o : Shape) → way_of_shape o ≡ 3 → o ≡ s.For
shape_for s.For e = refl
shape_for _ e = absurd (apart e refl)

shape_switch : (o : Shape) → way_of_shape o ≡ 5 → o ≡ s.Switch
shape_switch s.Switch e = refl
shape_switch _ e = absurd (apart e refl)

shape_case : (o : Shape) → way_of_shape o ≡ 6 → o ≡ s.Case
shape_case s.Case e = refl
shape_case _ e = absurd (apart e refl)

abbrev Test : Type 0
Test = Expr × Option Text

abbrev reads_test : Place → Text → Test → Type 0
reads_test q x v = ReadsTest q x v.0 v.1

-- ---- @if

module _ (p : Place) (at : At) (here : at.place ≡ steps p (codes "@if")) where
  only_if : (c : Markup) → kind_of c ≡ kind.Head → IsWritten p (codes "@if" ++ at.text.now) c → (v : Test) × (q : Place) × (x : Text) × Bracketed p (codes "@if") (codes "@if" ++ at.text.now) q x × reads_test q x v
  only_if c i w = by c (same_way p (codes "@if" ++ at.text.now) 1 c refl w) w
    where
      by : (c : Markup) → way_of c ≡ 1 → IsWritten p (codes "@if" ++ at.text.now) c → (v : Test) × (q : Place) × (x : Text) × Bracketed p (codes "@if") (codes "@if" ++ at.text.now) q x × reads_test q x v
      by (m.If e n) i (q, x, b, reads) = ((e, n), q, x, b, reads)
      by _ i j = absurd (apart i refl)

  into_if : (w x : Text) → IsBlank w → OverFront (steps p (codes "@if" ++ (w ++ (40 ∷ [])))) x → IsHeavy p (codes "@if" ++ (w ++ (40 ∷ x))) s.If
  into_if w x blank over = (w, x, refl, blank, over)

  alone_if : (z : Text) (other : Shape) → IsHeavy p ((codes "@if" ++ at.text.now) ++ z) other → other ≡ s.If
  alone_if z other j = shape_if other (heavy_only p (codes "@if" ++ at.text.now) z 1 other refl j)

  pub if_unbracketed : (q : Place) → NoBrackets at → Answers kind.Head p (codes "@if" ++ at.text.now) (Err (h.Syntax q))
  if_unbracketed = unbracketed p (codes "@if") at here s.If reads_test OverFront refl only_if into_if (bracket_heavy p (codes "@if")) alone_if

  pub if_read : (inside : At) (k : InBrackets at inside) (e : Expr) (n : Option Text) → Reads (λ (v : Test). reads_test inside.place k.x v) (λ z. OverFront inside.place (inside.text.now ++ z)) (Ok (e, n)) → Answers kind.Head p (codes "@if" ++ at.text.now) (Ok (m.If e n))
  if_read inside k e n (reads, none) = (refl, (inside.place, k.x, bracketed p (codes "@if") at inside here k, reads), calm p (codes "@if") at here s.If reads_test OverFront refl only_if into_if (bracket_heavy p (codes "@if")) alone_if inside k none)

  pub if_turned : (inside : At) (k : InBrackets at inside) (st : Stop) (r : Result Markup Halt) → Reads (λ (v : Test). reads_test inside.place k.x v) (λ z. OverFront inside.place (inside.text.now ++ z)) (Err st) → Turns s.If st r → Answers kind.Head p (codes "@if" ++ at.text.now) r
  if_turned = turned p (codes "@if") at here s.If reads_test OverFront refl only_if into_if (bracket_heavy p (codes "@if")) alone_if

-- ---- @else if

else_way : (word t : Text) → IsElseIf word → way (word ++ t) ≡ 2
else_way word t (w, gap, is) = ap (λ k. way (k ++ t)) is

module _ (p : Place) (word : Text) (is : IsElseIf word) (at : At) (here : at.place ≡ steps p word) where
  only_else_if : (c : Markup) → kind_of c ≡ kind.Head → IsWritten p (word ++ at.text.now) c → (v : Test) × (q : Place) × (x : Text) × Bracketed p word (word ++ at.text.now) q x × reads_test q x v
  only_else_if c i w = by c (same_way p (word ++ at.text.now) 2 c (else_way word at.text.now is) w) w
    where
      by : (c : Markup) → way_of c ≡ 2 → IsWritten p (word ++ at.text.now) c → (v : Test) × (q : Place) × (x : Text) × Bracketed p word (word ++ at.text.now) q x × reads_test q x v
      by (m.ElseIf e n) i (other, q, x, also, b, reads) = ((e, n), q, x, subst (λ k. Bracketed p k (word ++ at.text.now) q x) (sym (same_else word other at.text.now _ is also b.is)) b, reads)
      by m.Else i j = absurd (else_apart (word ++ at.text.now) word at.text.now j is [] (append-nil (word ++ at.text.now)))
      by _ i j = absurd (apart i refl)

  into_else_if : (w x : Text) → IsBlank w → OverFront (steps p (word ++ (w ++ (40 ∷ [])))) x → IsHeavy p (word ++ (w ++ (40 ∷ x))) s.ElseIf
  into_else_if w x blank over = (word, is, (w, x, refl, blank, over))

  back_else_if : (w x : Text) → IsBlank w → IsHeavy p (word ++ (w ++ (40 ∷ x))) s.ElseIf → OverFront (steps p (word ++ (w ++ (40 ∷ [])))) x
  back_else_if w x blank j = else_heavy p word w x is blank j

  alone_else_if : (z : Text) (other : Shape) → IsHeavy p ((word ++ at.text.now) ++ z) other → other ≡ s.ElseIf
  alone_else_if z other j = shape_else_if other (heavy_only p (word ++ at.text.now) z 2 other (ap way (append_assoc word at.text.now z) ∙ else_way word (at.text.now ++ z) is) j)

  pub else_if_unbracketed : (q : Place) → NoBrackets at → Answers kind.Head p (word ++ at.text.now) (Err (h.Syntax q))
  else_if_unbracketed = unbracketed p word at here s.ElseIf reads_test OverFront refl only_else_if into_else_if back_else_if alone_else_if

  pub else_if_read : (inside : At) (k : InBrackets at inside) (e : Expr) (n : Option Text) → Reads (λ (v : Test). reads_test inside.place k.x v) (λ z. OverFront inside.place (inside.text.now ++ z)) (Ok (e, n)) → Answers kind.Head p (word ++ at.text.now) (Ok (m.ElseIf e n))
  else_if_read inside k e n (reads, none) = (refl, (word, inside.place, k.x, is, bracketed p word at inside here k, reads), calm p word at here s.ElseIf reads_test OverFront refl only_else_if into_else_if back_else_if alone_else_if inside k none)

  pub else_if_turned : (inside : At) (k : InBrackets at inside) (st : Stop) (r : Result Markup Halt) → Reads (λ (v : Test). reads_test inside.place k.x v) (λ z. OverFront inside.place (inside.text.now ++ z)) (Err st) → Turns s.ElseIf st r → Answers kind.Head p (word ++ at.text.now) r
  else_if_turned = turned p word at here s.ElseIf reads_test OverFront refl only_else_if into_else_if back_else_if alone_else_if

-- ---- @for

module _ (p : Place) (at : At) (here : at.place ≡ steps p (codes "@for")) where
  only_for : (c : Markup) → kind_of c ≡ kind.Head → IsWritten p (codes "@for" ++ at.text.now) c → (v : ForHead) × (q : Place) × (x : Text) × Bracketed p (codes "@for") (codes "@for" ++ at.text.now) q x × ReadsFor q x v
  only_for c i w = by c (same_way p (codes "@for" ++ at.text.now) 3 c refl w) w
    where
      by : (c : Markup) → way_of c ≡ 3 → IsWritten p (codes "@for" ++ at.text.now) c → (v : ForHead) × (q : Place) × (x : Text) × Bracketed p (codes "@for") (codes "@for" ++ at.text.now) q x × ReadsFor q x v
      by (m.For head) i (q, x, b, reads) = (head, q, x, b, reads)
      by _ i j = absurd (apart i refl)

  into_for : (w x : Text) → IsBlank w → OverFor (steps p (codes "@for" ++ (w ++ (40 ∷ [])))) x → IsHeavy p (codes "@for" ++ (w ++ (40 ∷ x))) s.For
  into_for w x blank over = (w, x, refl, blank, over)

  alone_for : (z : Text) (other : Shape) → IsHeavy p ((codes "@for" ++ at.text.now) ++ z) other → other ≡ s.For
  alone_for z other j = shape_for other (heavy_only p (codes "@for" ++ at.text.now) z 3 other refl j)

  pub for_unbracketed : (q : Place) → NoBrackets at → Answers kind.Head p (codes "@for" ++ at.text.now) (Err (h.Syntax q))
  for_unbracketed = unbracketed p (codes "@for") at here s.For ReadsFor OverFor refl only_for into_for (for_heavy p) alone_for

  pub for_read_head : (inside : At) (k : InBrackets at inside) (head : ForHead) → Reads (ReadsFor inside.place k.x) (λ z. OverFor inside.place (inside.text.now ++ z)) (Ok head) → Answers kind.Head p (codes "@for" ++ at.text.now) (Ok (m.For head))
  for_read_head inside k head (reads, none) = (refl, (inside.place, k.x, bracketed p (codes "@for") at inside here k, reads), calm p (codes "@for") at here s.For ReadsFor OverFor refl only_for into_for (for_heavy p) alone_for inside k none)

  pub for_turned : (inside : At) (k : InBrackets at inside) (st : Stop) (r : Result Markup Halt) → Reads (ReadsFor inside.place k.x) (λ z. OverFor inside.place (inside.text.now ++ z)) (Err st) → Turns s.For st r → Answers kind.Head p (codes "@for" ++ at.text.now) r
  for_turned = turned p (codes "@for") at here s.For ReadsFor OverFor refl only_for into_for (for_heavy p) alone_for

-- ---- @switch

module _ (p : Place) (at : At) (here : at.place ≡ steps p (codes "@switch")) where
  only_switch : (c : Markup) → kind_of c ≡ kind.Head → IsWritten p (codes "@switch" ++ at.text.now) c → (v : Expr) × (q : Place) × (x : Text) × Bracketed p (codes "@switch") (codes "@switch" ++ at.text.now) q x × ReadsExpr false q x v
  only_switch c i w = by c (same_way p (codes "@switch" ++ at.text.now) 5 c refl w) w
    where
      by : (c : Markup) → way_of c ≡ 5 → IsWritten p (codes "@switch" ++ at.text.now) c → (v : Expr) × (q : Place) × (x : Text) × Bracketed p (codes "@switch") (codes "@switch" ++ at.text.now) q x × ReadsExpr false q x v
      by (m.Switch e) i (q, x, b, reads) = (e, q, x, b, reads)
      by _ i j = absurd (apart i refl)

  into_switch : (w x : Text) → IsBlank w → OverFront (steps p (codes "@switch" ++ (w ++ (40 ∷ [])))) x → IsHeavy p (codes "@switch" ++ (w ++ (40 ∷ x))) s.Switch
  into_switch w x blank over = (w, x, refl, blank, over)

  alone_switch : (z : Text) (other : Shape) → IsHeavy p ((codes "@switch" ++ at.text.now) ++ z) other → other ≡ s.Switch
  alone_switch z other j = shape_switch other (heavy_only p (codes "@switch" ++ at.text.now) z 5 other refl j)

  pub switch_unbracketed : (q : Place) → NoBrackets at → Answers kind.Head p (codes "@switch" ++ at.text.now) (Err (h.Syntax q))
  switch_unbracketed = unbracketed p (codes "@switch") at here s.Switch (ReadsExpr false) OverFront refl only_switch into_switch (bracket_heavy p (codes "@switch")) alone_switch

  pub switch_read : (inside : At) (k : InBrackets at inside) (e : Expr) → Reads (ReadsExpr false inside.place k.x) (λ z. OverFront inside.place (inside.text.now ++ z)) (Ok e) → Answers kind.Head p (codes "@switch" ++ at.text.now) (Ok (m.Switch e))
  switch_read inside k e (reads, none) = (refl, (inside.place, k.x, bracketed p (codes "@switch") at inside here k, reads), calm p (codes "@switch") at here s.Switch (ReadsExpr false) OverFront refl only_switch into_switch (bracket_heavy p (codes "@switch")) alone_switch inside k none)

  pub switch_turned : (inside : At) (k : InBrackets at inside) (st : Stop) (r : Result Markup Halt) → Reads (ReadsExpr false inside.place k.x) (λ z. OverFront inside.place (inside.text.now ++ z)) (Err st) → Turns s.Switch st r → Answers kind.Head p (codes "@switch" ++ at.text.now) r
  switch_turned = turned p (codes "@switch") at here s.Switch (ReadsExpr false) OverFront refl only_switch into_switch (bracket_heavy p (codes "@switch")) alone_switch

-- ---- @case

module _ (p : Place) (at : At) (here : at.place ≡ steps p (codes "@case")) where
  only_case : (c : Markup) → kind_of c ≡ kind.Head → IsWritten p (codes "@case" ++ at.text.now) c → (v : Expr) × (q : Place) × (x : Text) × Bracketed p (codes "@case") (codes "@case" ++ at.text.now) q x × ReadsExpr false q x v
  only_case c i w = by c (same_way p (codes "@case" ++ at.text.now) 6 c refl w) w
    where
      by : (c : Markup) → way_of c ≡ 6 → IsWritten p (codes "@case" ++ at.text.now) c → (v : Expr) × (q : Place) × (x : Text) × Bracketed p (codes "@case") (codes "@case" ++ at.text.now) q x × ReadsExpr false q x v
      by (m.Case e) i (q, x, b, reads) = (e, q, x, b, reads)
      by _ i j = absurd (apart i refl)

  into_case : (w x : Text) → IsBlank w → OverFront (steps p (codes "@case" ++ (w ++ (40 ∷ [])))) x → IsHeavy p (codes "@case" ++ (w ++ (40 ∷ x))) s.Case
  into_case w x blank over = (w, x, refl, blank, over)

  alone_case : (z : Text) (other : Shape) → IsHeavy p ((codes "@case" ++ at.text.now) ++ z) other → other ≡ s.Case
  alone_case z other j = shape_case other (heavy_only p (codes "@case" ++ at.text.now) z 6 other refl j)

  pub case_unbracketed : (q : Place) → NoBrackets at → Answers kind.Head p (codes "@case" ++ at.text.now) (Err (h.Syntax q))
  case_unbracketed = unbracketed p (codes "@case") at here s.Case (ReadsExpr false) OverFront refl only_case into_case (bracket_heavy p (codes "@case")) alone_case

  pub case_read : (inside : At) (k : InBrackets at inside) (e : Expr) → Reads (ReadsExpr false inside.place k.x) (λ z. OverFront inside.place (inside.text.now ++ z)) (Ok e) → Answers kind.Head p (codes "@case" ++ at.text.now) (Ok (m.Case e))
  case_read inside k e (reads, none) = (refl, (inside.place, k.x, bracketed p (codes "@case") at inside here k, reads), calm p (codes "@case") at here s.Case (ReadsExpr false) OverFront refl only_case into_case (bracket_heavy p (codes "@case")) alone_case inside k none)

  pub case_turned : (inside : At) (k : InBrackets at inside) (st : Stop) (r : Result Markup Halt) → Reads (ReadsExpr false inside.place k.x) (λ z. OverFront inside.place (inside.text.now ++ z)) (Err st) → Turns s.Case st r → Answers kind.Head p (codes "@case" ++ at.text.now) r
  case_turned = turned p (codes "@case") at here s.Case (ReadsExpr false) OverFront refl only_case into_case (bracket_heavy p (codes "@case")) alone_case

-- ---- @empty

module _ (p : Place) (at : At) where
  pub empty_read : IsBrace at.text.now → Answers kind.Head p (codes "@empty" ++ at.text.now) (Ok m.Empty)
  empty_read (w, blank, is) = (refl, (w, blank, ap (λ t. codes "@empty" ++ t) is), quiet)
    where
      none : (o : Shape) → way_of_shape o ≡ 4 → ⊥
      none s.If e = apart e refl
      none _ e = apart e refl

      quiet : IsCalm p (codes "@empty" ++ at.text.now)
      quiet z other j = none other (heavy_only p (codes "@empty" ++ at.text.now) z 4 other refl j)

  pub empty_unread : (q : Place) → (IsBrace at.text.now → ⊥) → Answers kind.Head p (codes "@empty" ++ at.text.now) (Err (h.Syntax q))
  empty_unread q none c i w = by c (same_way p (codes "@empty" ++ at.text.now) 4 c refl w) w
    where
      by : (c : Markup) → way_of c ≡ 4 → IsWritten p (codes "@empty" ++ at.text.now) c → ⊥
      by m.Empty i (v, blank, is) = none (v, blank, (same_front (codes "@empty") (codes "@empty") at.text.now (v ++ (123 ∷ [])) is refl).1)
      by _ i j = absurd (apart i refl)

-- ---- @default

module _ (p : Place) (at : At) where
  pub default_read : IsBrace at.text.now → Answers kind.Head p (codes "@default" ++ at.text.now) (Ok m.Default)
  default_read (w, blank, is) = (refl, (w, blank, ap (λ t. codes "@default" ++ t) is), quiet)
    where
      none : (o : Shape) → way_of_shape o ≡ 7 → ⊥
      none s.If e = apart e refl
      none _ e = apart e refl

      quiet : IsCalm p (codes "@default" ++ at.text.now)
      quiet z other j = none other (heavy_only p (codes "@default" ++ at.text.now) z 7 other refl j)

  pub default_unread : (q : Place) → (IsBrace at.text.now → ⊥) → Answers kind.Head p (codes "@default" ++ at.text.now) (Err (h.Syntax q))
  default_unread q none c i w = by c (same_way p (codes "@default" ++ at.text.now) 7 c refl w) w
    where
      by : (c : Markup) → way_of c ≡ 7 → IsWritten p (codes "@default" ++ at.text.now) c → ⊥
      by m.Default i (v, blank, is) = none (v, blank, (same_front (codes "@default") (codes "@default") at.text.now (v ++ (123 ∷ [])) is refl).1)
      by _ i j = absurd (apart i refl)

-- ---- @else

module _ (p : Place) (at : At) where
  pub else_read : IsBrace at.text.now → Answers kind.Head p (codes "@else" ++ at.text.now) (Ok m.Else)
  else_read (w, blank, is) = (refl, (w, blank, ap (λ t. codes "@else" ++ t) is), quiet)
    where
      braced : Braced (codes "@else") (codes "@else" ++ at.text.now)
      braced = (w, blank, ap (λ t. codes "@else" ++ t) is)

      none : (z : Text) (o : Shape) → way_of_shape o ≡ 2 → IsHeavy p ((codes "@else" ++ at.text.now) ++ z) o → ⊥
      none z s.ElseIf e (word, also, (u, x, same, white, over)) = else_apart (codes "@else" ++ at.text.now) word (u ++ (40 ∷ x)) braced also z same
      none z _ e j = apart e refl

      quiet : IsCalm p (codes "@else" ++ at.text.now)
      quiet z other j = none z other (heavy_only p (codes "@else" ++ at.text.now) z 2 other refl j) j

  pub else_unread : (q : Place) → NoIf at.text.now → (IsBrace at.text.now → ⊥) → Answers kind.Head p (codes "@else" ++ at.text.now) (Err (h.Syntax q))
  else_unread q no_if none c i w = by c (same_way p (codes "@else" ++ at.text.now) 2 c refl w) w
    where
      by : (c : Markup) → way_of c ≡ 2 → IsWritten p (codes "@else" ++ at.text.now) c → ⊥
      by m.Else i (v, blank, is) = none (v, blank, (same_front (codes "@else") (codes "@else") at.text.now (v ++ (123 ∷ [])) is refl).1)
      by (m.ElseIf e n) i (word, x, y, (v, gap, is), b, reads) =
          no_if v _ gap (else_tail (b.is ∙ ap (λ k. k ++ (b.before_round ++ (40 ∷ (y ++ (41 ∷ (b.before_brace ++ (123 ∷ []))))))) is ∙ ap (λ k. codes "@else" ++ k) (append_assoc v (codes "if") _)))
      by _ i j = absurd (apart i refl)

  -- a head with `@else if` by its text after `@else`
  pub else_if_answers : (rest : At) (r : Result Markup Halt) → at.place ≡ steps p (codes "@else") → AtIf at rest → AnswersElseIf rest r → Answers kind.Head p (codes "@else" ++ at.text.now) r
  else_if_answers rest r here k a =
      let word : Text = codes "@else" ++ (k.w ++ codes "if") in
      let place : rest.place ≡ steps p word = k.past.place ∙ ap (λ q. steps q (k.w ++ codes "if")) here ∙ sym (steps_append p (codes "@else") (k.w ++ codes "if")) in
      let text : word ++ rest.text.now ≡ codes "@else" ++ at.text.now = append_assoc (codes "@else") (k.w ++ codes "if") rest.text.now ∙ ap (λ t. codes "@else" ++ t) (sym k.past.is) in
      subst (λ t. Answers kind.Head p t r) text (a word (k.w, k.gap, refl) p place)

-- white space and `{`
pub is_brace : (at end : At) → Skips is_blank at end → same_text (123 ∷ []) end.text.now ≡ true → IsBrace at.text.now
is_brace at end blank e = (blank.a, blank.run.passes, blank.run.is ∙ ap (λ t. blank.a ++ t) (same_is (123 ∷ []) end.text.now e))

pub no_brace : (at end : At) → Skips is_blank at end → same_text (123 ∷ []) end.text.now ≡ false → IsBrace at.text.now → ⊥
no_brace at end blank e (w, white, is) = not_both (same_text (123 ∷ []) end.text.now) (ap (same_text (123 ∷ [])) (blank_left at end w (123 ∷ []) blank is white refl)) e

pub brace_clause : (at end : At) (r : Bool) → Skips is_blank at end → r ≡ same_text (123 ∷ []) end.text.now → MatchBool r (IsBrace at.text.now) (IsBrace at.text.now → ⊥)
brace_clause at end true blank e = is_brace at end blank (sym e)
brace_clause at end false blank e = no_brace at end blank (sym e)

-- white space and `if`
pub no_gap : (at : At) → at_front is_blank at.text.now ≡ false → NoIf at.text.now
no_gap at e [] z gap is = absurd gap
no_gap at e (b ∷ w) z gap is = not_both (is_blank b) (both_true (is_blank b) (all is_blank w) gap).0 (ap (at_front is_blank) (sym is) ∙ e)

pub no_if_word : (at rest : At) → Skips is_blank at rest → begins (codes "if") rest.text.now ≡ false → NoIf at.text.now
no_if_word at rest blank e w z gap is = no_word (codes "if") rest.text.now z e (blank_left at rest w _ blank is (gap_blank w gap) refl)

pub at_if : (at rest next : At) → at_front is_blank at.text.now ≡ true → Skips is_blank at rest → Past rest (codes "if") next → AtIf at next
at_if at rest next front blank word = record {
  w = blank.a;
  gap = gap_of at.text.now blank.a rest.text.now blank.run.is blank.run.passes blank.run.stops front;
  past = record {
    is = blank.run.is ∙ ap (λ t. blank.a ++ t) word.is ∙ sym (append_assoc blank.a (codes "if") next.text.now);
    place = word.place ∙ ap (λ q. steps q (codes "if")) blank.place ∙ sym (steps_append at.place blank.a (codes "if"));
  };
}

pub if_clause : (at rest : At) (r : Option At) → at_front is_blank at.text.now ≡ true → Skips is_blank at rest → MatchOption r (begins (codes "if") rest.text.now ≡ false) (λ next. Past rest (codes "if") next) → MatchOption r (NoIf at.text.now) (AtIf at)
if_clause at rest None front blank k = no_if_word at rest blank k
if_clause at rest (Some next) front blank k = at_if at rest next front blank k

-- ---- all heads

pub by_word : (word : Text) (at rest : At) (r : Result Markup Halt) → Past at word rest → AnswersAfter word rest r → Answers kind.Head at.place at.text.now r
by_word word at rest r k a = subst (λ t. Answers kind.Head at.place t r) (sym k.is) (a at.place k.place)

no_else : (p q : Place) (word a x : Text) → IsElseIf word → Bracketed p word a q x → begins (codes "@else") a ≡ false → ⊥
no_else p q word a x (v, gap, is) k e =
    let rest : Text = k.before_round ++ (40 ∷ (x ++ (41 ∷ (k.before_brace ++ (123 ∷ []))))) in
    no_word (codes "@else") a ((v ++ codes "if") ++ rest) e (k.is ∙ ap (λ t. t ++ rest) is ∙ append_assoc (codes "@else") (v ++ codes "if") rest)

-- no head's word stands at the front
pub no_head : (at : At) (q : Place) → begins (codes "@if") at.text.now ≡ false → begins (codes "@for") at.text.now ≡ false → begins (codes "@switch") at.text.now ≡ false → begins (codes "@case") at.text.now ≡ false
    → begins (codes "@else") at.text.now ≡ false → begins (codes "@empty") at.text.now ≡ false → begins (codes "@default") at.text.now ≡ false → Answers kind.Head at.place at.text.now (Err (h.Syntax q))
no_head at q a b c d e f g markup i w = by markup i w
  where
    front : (word x : Text) (p : Place) (y : Text) → begins word at.text.now ≡ false → Bracketed at.place word at.text.now p y → ⊥
    front word x p y none k = no_word word at.text.now _ none k.is

    by : (c : Markup) → kind_of c ≡ kind.Head → IsWritten at.place at.text.now c → ⊥
    by (m.If t n) i (p, y, k, reads) = front (codes "@if") [] p y a k
    by (m.ElseIf t n) i (word, p, y, is, k, reads) = no_else at.place p word at.text.now y is k e
    by m.Else i (v, blank, is) = no_word (codes "@else") at.text.now _ e is
    by (m.For head) i (p, y, k, reads) = front (codes "@for") [] p y b k
    by m.Empty i (v, blank, is) = no_word (codes "@empty") at.text.now _ f is
    by (m.Switch t) i (p, y, k, reads) = front (codes "@switch") [] p y c k
    by (m.Case t) i (p, y, k, reads) = front (codes "@case") [] p y d k
    by m.Default i (v, blank, is) = no_word (codes "@default") at.text.now _ g is
    by (m.Literal cs) i j = j
    by (m.Interpolation t) i j = no_kind i
      where
        no_kind : kind.Interpolation ≡ kind.Head → ⊥
        no_kind n = cc
    by m.Comment i j = no_kind i
      where
        no_kind : kind.Comment ≡ kind.Head → ⊥
        no_kind n = cc
    by (m.Single tag attrs) i j = no_kind i
      where
        no_kind : kind.Start ≡ kind.Head → ⊥
        no_kind n = cc
    by (m.Start tag attrs) i j = no_kind i
      where
        no_kind : kind.Start ≡ kind.Head → ⊥
        no_kind n = cc
    by (m.End tag) i j = no_kind i
      where
        no_kind : kind.End ≡ kind.Head → ⊥
        no_kind n = cc
    by (m.Let n t) i j = no_kind i
      where
        no_kind : kind.Let ≡ kind.Head → ⊥
        no_kind n = cc
    by m.Close i j = no_kind i
      where
        no_kind : kind.Close ≡ kind.Head → ⊥
        no_kind n = cc
    by (m.Heavy shape) i j = j
