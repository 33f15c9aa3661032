-- The clauses of the readers of heads, `@let` and interpolations.
use Rattle.std.proofs.Common.{◌≡◌, [], ◌∷◌, ◌++◌, codes, refl, sym, ◌∙◌, ap, subst}
use Rattle.std.proofs.lemmas.List.{append-nil}
use Rattle.std.specs.Prelude.{false, Option, Result, Ok, Err, IfOk, IfErr}
use Rattle.ng_ast.specs.declared.Place.{Place}
use Rattle.ng_ast.specs.declared.Expr.{Expr}
use Rattle.ng_ast.specs.declared.ForHead.{ForHead}
use Rattle.ng_tokens.specs.Lexis.{Text, steps}
use Rattle.ng_exprs.specs.Reading.{ReadsExpr}
use Rattle.ng_exprs.proofs.Whole.{text_reads_one}
use Rattle.ng_lex.specs.declared.kinds.TokenKind.{TokenKind}
use Rattle.ng_lex.specs.declared.kinds.TokenKind.TheVariants as kind
use Rattle.ng_lex.specs.declared.markup.Markup.{Markup}
use Rattle.ng_lex.specs.declared.markup.Markup.TheVariants as m
use Rattle.ng_lex.specs.declared.quotes.Quoting.TheVariants.{Outside}
use Rattle.ng_lex.specs.Words.{literal, opening, closing}
use Rattle.ng_lex.specs.Heads.{Bracketed, ReadsTest, ReadsFor}
use Rattle.ng_lex.specs.Lexis.{IsWritten}
use Rattle.ng_lex.specs.Spans.{kind_of}
use Rattle.ng_heads.specs.declared.halt.Halt.{Halt}
use Rattle.ng_heads.specs.declared.halt.Halt.TheVariants as h
use Rattle.ng_heads.specs.Answers.{IsCalm, Says, Refuses, IsOrMemory, Answers}
use Rattle.ng_heads.proofs.Texts.{apart}
use Rattle.ng_heads.proofs.Names.{first_once}
use Rattle.ng_heads.proofs.HeadLaws.{expr_then, one_test, semicolon_ends}
use Rattle.ng_heads.proofs.ForLaws.{one_for}
use Rattle.ng_heads.proofs.PartFronts.{way_of, written_way, else_apart, same_else, one_bracket, one_let_front, opening_tail}

-- ---- a text is one of these parts at most

test_is : (make : Expr → Option Text → Markup) (a b : Expr) (n k : Option Text) → (a ≡ b) × (n ≡ k) → make a n ≡ make b k
test_is make a b n k e = ap (λ v. make v n) e.0 ∙ ap (make b) e.1

-- this kind of part is one of those that are read here
abbrev pub IsRead : TokenKind → Type 0
IsRead kind.Head = Unit {0}
IsRead kind.Let = Unit {0}
IsRead kind.Interpolation = Unit {0}
IsRead _ = ⊥

module _ (p : Place) (a : Text) where
  one_interpolation : (e : Expr) (c : Markup) → 10 ≡ way_of c → IsWritten p a (m.Interpolation e) → IsWritten p a c → m.Interpolation e ≡ c
  one_interpolation e (m.Interpolation d) n (t, is, first, reads) (x, same, other, also) =
      let inner : t ++ closing ≡ x ++ closing = opening_tail (sym is ∙ same) in
      let g : t ≡ x = first_once literal closing Outside t x [] [] inner first.1 first.0 other.1 other.0 in
      ap m.Interpolation (text_reads_one false (steps p opening) t e d reads (subst (λ v. ReadsExpr false (steps p opening) v d) (sym g) also))
  one_interpolation e _ n h i = absurd (apart n refl)

  one_if : (e : Expr) (k : Option Text) (c : Markup) → 1 ≡ way_of c → IsWritten p a (m.If e k) → IsWritten p a c → m.If e k ≡ c
  one_if e k (m.If d j) n (q, x, b, reads) (r, y, s, also) =
      let g = one_bracket p q r (codes "@if") a x y b s in
      test_is m.If e d k j (one_test q x e d k j reads (subst (λ v. ReadsTest v x d j) (sym g.0) (subst (λ v. ReadsTest r v d j) (sym g.1) also)))
  one_if e k _ n h i = absurd (apart n refl)

  one_else_if : (e : Expr) (k : Option Text) (c : Markup) → 2 ≡ way_of c → IsWritten p a (m.ElseIf e k) → IsWritten p a c → m.ElseIf e k ≡ c
  one_else_if e k (m.ElseIf d j) n (word, q, x, is, b, reads) (other, r, y, also, s, more) =
      let w : other ≡ word = same_else other word _ _ also is (sym s.is ∙ b.is) in
      let g = one_bracket p q r word a x y b (subst (λ v. Bracketed p v a r y) w s) in
      test_is m.ElseIf e d k j (one_test q x e d k j reads (subst (λ v. ReadsTest v x d j) (sym g.0) (subst (λ v. ReadsTest r v d j) (sym g.1) more)))
  one_else_if e k m.Else n (word, q, x, is, b, reads) h = absurd (else_apart a word _ h is [] (append-nil a ∙ b.is))
  one_else_if e k _ n h i = absurd (apart n refl)

  one_else : (c : Markup) → 2 ≡ way_of c → IsWritten p a m.Else → IsWritten p a c → m.Else ≡ c
  one_else m.Else n h i = refl
  one_else (m.ElseIf d j) n h (word, q, x, is, b, reads) = absurd (else_apart a word _ h is [] (append-nil a ∙ b.is))
  one_else _ n h i = absurd (apart n refl)

  one_for_head : (head : ForHead) (c : Markup) → 3 ≡ way_of c → IsWritten p a (m.For head) → IsWritten p a c → m.For head ≡ c
  one_for_head head (m.For other) n (q, x, b, reads) (r, y, s, also) =
      let g = one_bracket p q r (codes "@for") a x y b s in
      ap m.For (one_for q x head other reads (subst (λ v. ReadsFor v x other) (sym g.0) (subst (λ v. ReadsFor r v other) (sym g.1) also)))
  one_for_head head _ n h i = absurd (apart n refl)

  one_empty : (c : Markup) → 4 ≡ way_of c → m.Empty ≡ c
  one_empty m.Empty n = refl
  one_empty _ n = absurd (apart n refl)

  one_switch : (e : Expr) (c : Markup) → 5 ≡ way_of c → IsWritten p a (m.Switch e) → IsWritten p a c → m.Switch e ≡ c
  one_switch e (m.Switch d) n (q, x, b, reads) (r, y, s, also) =
      let g = one_bracket p q r (codes "@switch") a x y b s in
      ap m.Switch (text_reads_one false q x e d reads (subst (λ v. ReadsExpr false v x d) (sym g.0) (subst (λ v. ReadsExpr false r v d) (sym g.1) also)))
  one_switch e _ n h i = absurd (apart n refl)

  one_case : (e : Expr) (c : Markup) → 6 ≡ way_of c → IsWritten p a (m.Case e) → IsWritten p a c → m.Case e ≡ c
  one_case e (m.Case d) n (q, x, b, reads) (r, y, s, also) =
      let g = one_bracket p q r (codes "@case") a x y b s in
      ap m.Case (text_reads_one false q x e d reads (subst (λ v. ReadsExpr false v x d) (sym g.0) (subst (λ v. ReadsExpr false r v d) (sym g.1) also)))
  one_case e _ n h i = absurd (apart n refl)

  one_default : (c : Markup) → 7 ≡ way_of c → m.Default ≡ c
  one_default m.Default n = refl
  one_default _ n = absurd (apart n refl)

  one_let : (k : Text) (e : Expr) (c : Markup) → 8 ≡ way_of c → IsWritten p a (m.Let k e) → IsWritten p a c → m.Let k e ≡ c
  one_let k e (m.Let j d) n (x, t, is, front, reads) (y, s, same, ahead, also) =
      let f = one_let_front x y k j (t ++ (59 ∷ [])) (s ++ (59 ∷ [])) front ahead (sym is ∙ same) in
      let g = expr_then (steps p x) (steps p y) t s (59 ∷ []) (59 ∷ []) e d reads also (semicolon_ends []) (semicolon_ends []) f.2 in
      let moved : ReadsExpr false (steps p x) t d = subst (λ v. ReadsExpr false (steps p v) t d) (sym f.0) (subst (λ v. ReadsExpr false (steps p y) v d) (sym g.0) also) in
      ap (λ v. m.Let v e) f.1 ∙ ap (m.Let j) (text_reads_one false (steps p x) t e d reads moved)
  one_let k e _ n h i = absurd (apart n refl)

  by_way : (c d : Markup) → way_of c ≡ way_of d → IsRead (kind_of c) → IsWritten p a c → IsWritten p a d → c ≡ d
  by_way (m.Interpolation e) d n r h i = one_interpolation e d n h i
  by_way (m.If e k) d n r h i = one_if e k d n h i
  by_way (m.ElseIf e k) d n r h i = one_else_if e k d n h i
  by_way m.Else d n r h i = one_else d n h i
  by_way (m.For head) d n r h i = one_for_head head d n h i
  by_way m.Empty d n r h i = one_empty d n
  by_way (m.Switch e) d n r h i = one_switch e d n h i
  by_way (m.Case e) d n r h i = one_case e d n h i
  by_way m.Default d n r h i = one_default d n
  by_way (m.Let k e) d n r h i = one_let k e d n h i
  by_way (m.Heavy shape) d n r h i = absurd h
  by_way (m.Literal cs) d n r h i = absurd h
  by_way m.Comment d n r h i = absurd r
  by_way (m.Single tag attrs) d n r h i = absurd r
  by_way (m.Start tag attrs) d n r h i = absurd r
  by_way (m.End tag) d n r h i = absurd r
  by_way m.Close d n r h i = absurd r

  pub one_part : (c d : Markup) → IsRead (kind_of c) → IsWritten p a c → IsWritten p a d → c ≡ d
  one_part c d r h i = by_way c d (sym (written_way p a c h) ∙ written_way p a d i) r h i

-- ---- the clauses

pub reads_clause : (k : TokenKind) (p : Place) (a : Text) (r : Result Markup Halt) → Answers k p a r → IfOk r (Says k p a)
reads_clause k p a (Ok c) h = h
reads_clause k p a (Err e) h = tt

pub refused_clause : (k : TokenKind) (p : Place) (a : Text) (r : Result Markup Halt) → Answers k p a r → IfErr r (Refuses k p a)
refused_clause k p a (Ok c) h = tt
refused_clause k p a (Err e) h = h

said_one : (k : TokenKind) (p : Place) (a : Text) (c d : Markup) → IsRead (kind_of c) → IsWritten p a c → IsCalm p a → Says k p a d → d ≡ c
said_one k p a c (m.Heavy shape) r w calm says = absurd (calm [] shape (says.1 []))
said_one k p a c (m.Literal cs) r w calm says = sym (one_part p a c (m.Literal cs) r w says.1)
said_one k p a c (m.Interpolation e) r w calm says = sym (one_part p a c (m.Interpolation e) r w says.1)
said_one k p a c m.Comment r w calm says = sym (one_part p a c m.Comment r w says.1)
said_one k p a c (m.Single tag attrs) r w calm says = sym (one_part p a c (m.Single tag attrs) r w says.1)
said_one k p a c (m.Start tag attrs) r w calm says = sym (one_part p a c (m.Start tag attrs) r w says.1)
said_one k p a c (m.End tag) r w calm says = sym (one_part p a c (m.End tag) r w says.1)
said_one k p a c (m.If e n) r w calm says = sym (one_part p a c (m.If e n) r w says.1)
said_one k p a c (m.ElseIf e n) r w calm says = sym (one_part p a c (m.ElseIf e n) r w says.1)
said_one k p a c m.Else r w calm says = sym (one_part p a c m.Else r w says.1)
said_one k p a c (m.For head) r w calm says = sym (one_part p a c (m.For head) r w says.1)
said_one k p a c m.Empty r w calm says = sym (one_part p a c m.Empty r w says.1)
said_one k p a c (m.Switch e) r w calm says = sym (one_part p a c (m.Switch e) r w says.1)
said_one k p a c (m.Case e) r w calm says = sym (one_part p a c (m.Case e) r w says.1)
said_one k p a c m.Default r w calm says = sym (one_part p a c m.Default r w says.1)
said_one k p a c (m.Let n e) r w calm says = sym (one_part p a c (m.Let n e) r w says.1)
said_one k p a c m.Close r w calm says = sym (one_part p a c m.Close r w says.1)

pub exact_clause : (k : TokenKind) → IsRead k → (p : Place) (a : Text) (r : Result Markup Halt) → Answers k p a r → (c : Markup) → kind_of c ≡ k → IsWritten p a c → IsCalm p a → IsOrMemory c r
exact_clause k read p a (Ok d) says c e w calm = said_one k p a c d (subst IsRead (sym e) read) w calm says
exact_clause k read p a (Err (h.Syntax q)) none c e w calm = none c e w
exact_clause k read p a (Err h.Memory) none c e w calm = tt
