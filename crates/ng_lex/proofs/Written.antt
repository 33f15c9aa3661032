-- A part is written as a token of its kind is.
use Rattle.std.proofs.Common.{◌≡◌, ℕ, List, [], ◌∷◌, ◌++◌, codes, refl, sym, ◌∙◌, ap, subst, append_assoc, arith, inl, inr}
use Rattle.std.specs.Prelude.{Bool, true, false, ◌==◌, ◌⊎◌}
use Rattle.ng_ast.specs.declared.Place.{Place}
use Rattle.ng_ast.specs.declared.Expr.{Expr}
use Rattle.ng_ast.specs.declared.TAttr.{TAttr}
use Rattle.ng_tokens.specs.Lexis.{Text, is_blank, all, is_one_of}
use Rattle.ng_exprs.specs.Reading.{ReadsExpr}
use Rattle.ng_exprs.proofs.Closing.{ends}
use Rattle.ng_lex.specs.declared.markup.Markup.{Markup}
use Rattle.ng_lex.specs.declared.markup.Markup.TheVariants as m
use Rattle.ng_lex.specs.declared.kinds.TokenKind.TheVariants as kind
use Rattle.ng_lex.specs.declared.quotes.Quoting.TheVariants.{Outside}
use Rattle.ng_lex.specs.Words.{IsBlank, unquoted, after, Clear, First, is_run, at_front}
use Rattle.ng_lex.specs.Attributes.{ReadsAttrs, is_lower, in_tag}
use Rattle.ng_lex.specs.Heads.{Bracketed, Braced, IsElseIf}
use Rattle.ng_lex.specs.Lexis.{IsWritten}
use Rattle.ng_lex.specs.Spans.{Fills, braced_words, bracketed_words, IsHead, IsSpan, kind_of}
use Rattle.ng_lex.proofs.Texts.{both_true, no_true}
use Rattle.ng_lex.proofs.Ends.{expr_piece, test_fills, for_fills, fills_one}
use Rattle.ng_lex.proofs.Tags.{EndsQuiet, quiet_attrs, quiet_whole}

-- ---- tags

first_lower : (t x : Text) → is_run is_lower in_tag t ≡ true → at_front is_lower (t ++ x) ≡ true
first_lower [] x h = absurd (no_true h)
first_lower (b ∷ t) x h = (both_true (is_lower b) (all in_tag t) h).0

last_after : (t y : Text) → t ++ (y ++ (62 ∷ [])) ≡ (t ++ y) ++ (62 ∷ [])
last_after t y = sym (append_assoc t y (62 ∷ []))

tag_span : {closed : Bool} {p : Place} {attrs : List TAttr} (tag x z : Text) → is_run is_lower in_tag tag ≡ true → ReadsAttrs closed p x attrs → IsSpan kind.Start (60 ∷ (tag ++ x)) z
tag_span tag x z h reads =
    let q : EndsQuiet x = quiet_attrs reads in
    let all : EndsQuiet (tag ++ x) = quiet_whole tag x h q in
    (all.0, ap (λ k. 60 ∷ k) all.1, front all.0 all.1, (all.2.1, all.2.0 (62 ∷ [])))
  where
    same_front : (s : Text) → at_front is_lower (s ++ (62 ∷ [])) ≡ true → at_front is_lower s ≡ true
    same_front [] e = absurd (no_true e)
    same_front (b ∷ s) e = e

    front : (y : Text) → tag ++ x ≡ y ++ (62 ∷ []) → at_front is_lower y ≡ true
    front y e = same_front y (ap (at_front is_lower) (sym e) ∙ first_lower tag x h)

-- no `>` stands in the text
abbrev Free : Text → Type 0
Free [] = Unit {0}
Free (b ∷ x) = ((62 == b) ≡ false) × Free x

free_all : (p : ℕ → Bool) → ((b : ℕ) → p b ≡ true → (62 == b) ≡ false) → (x : Text) → all p x ≡ true → Free x
free_all p law [] h = tt
free_all p law (b ∷ x) h = let g : (p b ≡ true) × (all p x ≡ true) = both_true (p b) (all p x) h in (law b g.0, free_all p law x g.1)

free_append : (x y : Text) → Free x → Free y → Free (x ++ y)
free_append [] y h i = i
free_append (b ∷ x) y h i = (h.0, free_append x y h.1 i)

free_first : (x : Text) → Free x → First unquoted (62 ∷ []) x
free_first x h = (calm x, clear x h)
  where
    calm : (x : Text) → after unquoted Outside x ≡ Outside
    calm [] = refl
    calm (b ∷ x) = calm x

    clear : (x : Text) → Free x → Clear unquoted (62 ∷ []) Outside x (62 ∷ [])
    clear [] h = tt
    clear (b ∷ x) h = (rw h.0 refl, clear x h.1)

blank_free : (b : ℕ) → is_blank b ≡ true → (62 == b) ≡ false
blank_free b e = grind arith

lower_free : (b : ℕ) → is_lower b ≡ true → (62 == b) ≡ false
lower_free b e = grind arith

tag_free : (b : ℕ) → in_tag b ≡ true → (62 == b) ≡ false
tag_free b e = grind arith

run_free : (t : Text) → is_run is_lower in_tag t ≡ true → Free t
run_free [] h = absurd (no_true h)
run_free (b ∷ t) h = let g : (is_lower b ≡ true) × (all in_tag t ≡ true) = both_true (is_lower b) (all in_tag t) h in (lower_free b g.0, free_all in_tag tag_free t g.1)

end_span : (tag w z : Text) → is_run is_lower in_tag tag ≡ true → IsBlank w → IsSpan kind.End (60 ∷ 47 ∷ (tag ++ (w ++ (62 ∷ [])))) z
end_span tag w z h blank = (tag ++ w, ap (λ k. 60 ∷ 47 ∷ k) (last_after tag w), free_first (tag ++ w) (free_append tag w (run_free tag h) (free_all is_blank blank_free w blank)))

-- ---- heads

braced_span : (word a z : Text) → is_one_of braced_words word ≡ true → Braced word a → IsHead a z
braced_span word a z h (w, blank, e) = subst (λ k. IsHead k z) (sym e) (IsHead.braced word w z h blank)

bracketed_span : (p q : Place) (word a x z : Text) → ((is_one_of bracketed_words word ≡ true) ⊎ IsElseIf word) → Bracketed p word a q x → ((r : Text) → Fills x r) → IsHead a z
bracketed_span p q word a x z h b fills =
    subst (λ k. IsHead k z) (sym b.is) (IsHead.bracketed word b.before_round x b.before_brace z h b.blank_round b.blank_brace (fills (b.before_brace ++ (123 ∷ z))))

expr_fills : (p : Place) (x : Text) (e : Expr) → ReadsExpr false p x e → (r : Text) → Fills x r
expr_fills p x e h r = fills_one x (expr_piece p x e h) r

is_if : is_one_of bracketed_words (codes "@if") ≡ true
unfolding bracketed_words
is_if = refl

is_for : is_one_of bracketed_words (codes "@for") ≡ true
unfolding bracketed_words
is_for = refl

is_switch : is_one_of bracketed_words (codes "@switch") ≡ true
unfolding bracketed_words
is_switch = refl

is_case : is_one_of bracketed_words (codes "@case") ≡ true
unfolding bracketed_words
is_case = refl

is_else : is_one_of braced_words (codes "@else") ≡ true
unfolding braced_words
is_else = refl

is_empty : is_one_of braced_words (codes "@empty") ≡ true
unfolding braced_words
is_empty = refl

is_default : is_one_of braced_words (codes "@default") ≡ true
unfolding braced_words
is_default = refl

-- ---- parts

pub written_span : (p : Place) (a : Text) (markup : Markup) → IsWritten p a markup → (z : Text) → IsSpan (kind_of markup) a z
written_span p a (m.Literal cs) h z = absurd h
written_span p a (m.Interpolation e) (t, same, first, reads) z = (t, same, first)
written_span p a m.Comment h z = h
written_span p a (m.Single tag attrs) (x, closed, same, single, reads) z = subst (λ k. IsSpan kind.Start k z) (sym same) (tag_span tag x z single.0.0 reads)
written_span p a (m.Start tag attrs) (x, same, paired, reads) z = subst (λ k. IsSpan kind.Start k z) (sym same) (tag_span tag x z paired.0.0 reads)
written_span p a (m.End tag) (w, same, paired, blank) z = subst (λ k. IsSpan kind.End k z) (sym same) (end_span tag w z paired.0.0 blank)
written_span p a (m.If e n) (q, x, b, reads) z = bracketed_span p q (codes "@if") a x z (inl is_if) b (test_fills q x e n reads)
written_span p a (m.ElseIf e n) (word, q, x, is, b, reads) z = bracketed_span p q word a x z (inr is) b (test_fills q x e n reads)
written_span p a m.Else h z = braced_span (codes "@else") a z is_else h
written_span p a (m.For head) (q, x, b, reads) z = bracketed_span p q (codes "@for") a x z (inl is_for) b (for_fills q x head reads)
written_span p a m.Empty h z = braced_span (codes "@empty") a z is_empty h
written_span p a (m.Switch e) (q, x, b, reads) z = bracketed_span p q (codes "@switch") a x z (inl is_switch) b (expr_fills q x e reads)
written_span p a (m.Case e) (q, x, b, reads) z = bracketed_span p q (codes "@case") a x z (inl is_case) b (expr_fills q x e reads)
written_span p a m.Default h z = braced_span (codes "@default") a z is_default h
written_span p a (m.Let n e) (x, t, same, front, reads) z = (x, t, n, same, front, ends _ t e 59 z reads (inr refl))
written_span p a m.Close h z = h
written_span p a (m.Heavy shape) h z = absurd h
