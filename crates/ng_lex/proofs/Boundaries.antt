-- Tokens and words end between characters.
use Rattle.std.proofs.Common.{◌≡◌, ℕ, ◌+◌, ◌<◌, [], ◌∷◌, ◌++◌, length, get_or, refl, sym, ◌∙◌, ap, subst, append_assoc, arith, length-append}
use Rattle.std.proofs.Math.Seq.{get_or-append_seam}
use Rattle.std.specs.Prelude.{Bool, true, false, cond, ◌||◌, ◌==◌, Option, Some, None, IfSome}
use Rattle.std.specs.Str.{IsUtf8, IsCharBoundary}
use Rattle.std.proofs.lemmas.Str.{IsCharBoundary-at_seam, IsCharBoundary-before_ascii, IsCharBoundary-end}
use Rattle.ng_tokens.specs.Lexis.{Text, all, begins}
use Rattle.ng_tokens.proofs.Utf8.{after_ascii}
use Rattle.ng_lex.specs.declared.kinds.TokenKind.{TokenKind}
use Rattle.ng_lex.specs.declared.kinds.TokenKind.TheVariants as kind
use Rattle.ng_lex.specs.Words.{closing}
use Rattle.ng_lex.specs.Lexis.{is_plain, NotPlain, comment_closing}
use Rattle.ng_lex.specs.Spans.{IsHead, IsSpan}
use Rattle.ng_lex.specs.Span.{is_ascii, front_len, span}
use Rattle.ng_lex.proofs.Texts.{both_true, begins_is}
use Rattle.ng_lex.proofs.Utf8.{utf8_after}
use Rattle.ng_lex.proofs.Sound.{Takes, takes, Front, front}

below : (b : ℕ) → is_ascii b ≡ true → b < 128
below b e = grind arith

-- ---- words

after_word : (w r : Text) → all is_ascii w ≡ true → IsUtf8 (w ++ r) → IsUtf8 r
after_word [] r e u = u
after_word (b ∷ w) r e u = let g = both_true (is_ascii b) (all is_ascii w) e in after_word w r g.1 (after_ascii b (w ++ r) (below b g.0) u)

pub word_boundary : (w t : Text) → begins w t ≡ true → all is_ascii w ≡ true → IsUtf8 t → IsCharBoundary t (length w)
word_boundary w t b e u = let r : (r : Text) × (t ≡ w ++ r) = begins_is w t b in IsCharBoundary-at_seam t w r.0 r.1 (after_word w r.0 e (subst IsUtf8 r.1 u))

-- ---- a byte of ASCII at the end

-- the text, and whatever comes after it
abbrev EndsAscii : Text → Type 0
EndsAscii a = (x : Text) × (c : ℕ) × (a ≡ x ++ (c ∷ [])) × (c < 128)

ascii_utf8 : (a r : Text) → EndsAscii a → IsUtf8 (a ++ r) → IsUtf8 r
ascii_utf8 a r (x, c, e, h) u = utf8_after x c r h (subst IsUtf8 (ap (λ k. k ++ r) e ∙ append_assoc x (c ∷ []) r) u)

ascii_boundary : (t a r : Text) → t ≡ a ++ r → EndsAscii a → IsUtf8 t → IsCharBoundary t (length a)
ascii_boundary t a r e h u = IsCharBoundary-at_seam t a r e (ascii_utf8 a r h (subst IsUtf8 e u))

longer : (w a : Text) → EndsAscii a → EndsAscii (w ++ a)
longer w a (x, c, e, h) = (w ++ x, c, ap (λ k. w ++ k) e ∙ sym (append_assoc w x (c ∷ [])), h)

one : (c : ℕ) → c < 128 → EndsAscii (c ∷ [])
one c h = ([], c, refl, h)

-- ---- what stands before an expression of `@let`

pub front_boundary : (t : Text) (n : ℕ) → front_len t ≡ Some n → IsUtf8 t → IsCharBoundary t n
front_boundary t n e u =
    let f : Front t n = front t n e in
    subst (λ m. IsCharBoundary t m) (size f.white f.name f.blank ∙ sym f.long) (ascii_boundary t (f.white ++ (f.name ++ (f.blank ++ (61 ∷ [])))) f.rest (f.is ∙ regroup f.white f.name f.blank f.rest)
    (longer f.white (f.name ++ (f.blank ++ (61 ∷ []))) (longer f.name (f.blank ++ (61 ∷ [])) (longer f.blank (61 ∷ []) (one 61 (omega arith))))) u)
  where
    regroup : (a b c r : Text) → a ++ (b ++ (c ++ (61 ∷ r))) ≡ (a ++ (b ++ (c ++ (61 ∷ [])))) ++ r
    regroup a b c r = simp append_assoc refl

    size : (a b c : Text) → length (a ++ (b ++ (c ++ (61 ∷ [])))) ≡ length a + (length b + (length c + 1))
    size a b c = omega (arith, length-append a (b ++ (c ++ (61 ∷ []))), length-append b (c ++ (61 ∷ [])), length-append c (61 ∷ []))

-- ---- tokens

head_ascii : {a z : Text} → IsHead a z → EndsAscii a
head_ascii (IsHead.braced word w z e h) = longer word (w ++ (123 ∷ [])) (longer w (123 ∷ []) (one 123 (omega arith)))
head_ascii (IsHead.bracketed word w x v z e h i f) =
    longer word (w ++ (40 ∷ (x ++ (41 ∷ (v ++ (123 ∷ [])))))) (longer w (40 ∷ (x ++ (41 ∷ (v ++ (123 ∷ []))))) (longer (40 ∷ []) (x ++ (41 ∷ (v ++ (123 ∷ [])))) (longer x (41 ∷ (v ++ (123 ∷ []))) (longer (41 ∷ []) (v ++ (123 ∷ [])) (longer v (123 ∷ []) (one 123 (omega arith)))))))

along : (a b : Text) → a ≡ b → EndsAscii b → EndsAscii a
along a b e h = subst EndsAscii (sym e) h

closing_ascii : EndsAscii closing
closing_ascii = longer (125 ∷ []) (125 ∷ []) (one 125 (omega arith))

comment_ascii : EndsAscii comment_closing
comment_ascii = longer (45 ∷ 45 ∷ []) (62 ∷ []) (one 62 (omega arith))

-- the byte after literal text is one of ASCII
not_plain_low : (b : ℕ) (z : Text) → is_plain b z ≡ false → b < 128
not_plain_low b z e = by (b == 60) (b == 64) (b == 125) (123 == b) refl refl refl refl e
  where
    by : (u v w x : Bool) → (b == 60) ≡ u → (b == 64) ≡ v → (b == 125) ≡ w → (123 == b) ≡ x
        → cond ((u || v) || w) false (cond (cond x (begins (123 ∷ []) z) false) false true) ≡ false → b < 128
    by true v w x i j k l e = grind arith
    by false true w x i j k l e = grind arith
    by false false true x i j k l e = grind arith
    by false false false true i j k l e = grind arith
    by false false false false i j k l e = absurd (cc)

literal_boundary : (t a z : Text) → t ≡ a ++ z → NotPlain z → IsCharBoundary t (length a)
literal_boundary t a [] e h = subst (λ n. IsCharBoundary t n) (omega (arith, ap length e, length-append a [])) (IsCharBoundary-end t)
literal_boundary t a (b ∷ z) e h =
    IsCharBoundary-before_ascii t (length a) (omega (arith, ap length e, length-append a (b ∷ z))) (subst (λ d. d < 128) (sym (ap (λ k. get_or k (length a) 0) e ∙ get_or-append_seam a b z 0)) (not_plain_low b z h))

span_boundary_at : (k : TokenKind) (t a z : Text) → t ≡ a ++ z → IsSpan k a z → IsUtf8 t → IsCharBoundary t (length a)
span_boundary_at kind.Literal t [] z e h u = absurd h
span_boundary_at kind.Literal t (b ∷ a) z e h u = literal_boundary t (b ∷ a) z e h.1
span_boundary_at kind.Interpolation t a z e (x, same, first) u = ascii_boundary t a z e (along a _ same (longer (123 ∷ 123 ∷ []) (x ++ closing) (longer x closing closing_ascii))) u
span_boundary_at kind.Start t a z e (x, same, lower, first) u = ascii_boundary t a z e (along a _ same (longer (60 ∷ []) (x ++ (62 ∷ [])) (longer x (62 ∷ []) (one 62 (omega arith))))) u
span_boundary_at kind.End t a z e (x, same, first) u = ascii_boundary t a z e (along a _ same (longer (60 ∷ 47 ∷ []) (x ++ (62 ∷ [])) (longer x (62 ∷ []) (one 62 (omega arith))))) u
span_boundary_at kind.Comment t a z e (x, same, first) u = ascii_boundary t a z e (along a _ same (longer (60 ∷ 33 ∷ 45 ∷ 45 ∷ []) (x ++ comment_closing) (longer x comment_closing comment_ascii))) u
span_boundary_at kind.Head t a z e h u = ascii_boundary t a z e (head_ascii h) u
span_boundary_at kind.Close t a z e h u = ascii_boundary t a z e (along a _ h (one 125 (omega arith))) u
span_boundary_at kind.Let t a z e (x, y, n, same, front, ends) u = ascii_boundary t a z e (along a _ same (longer x (y ++ (59 ∷ [])) (longer y (59 ∷ []) (one 59 (omega arith))))) u

pub span_boundary : (t : Text) (q : TokenKind × ℕ) → span t ≡ Some q → IsUtf8 t → IsCharBoundary t q.1
span_boundary t q e u = let h : Takes q.0 t q.1 = takes t q e in subst (λ n. IsCharBoundary t n) h.long (span_boundary_at q.0 t h.text h.rest h.is h.span u)

pub boundary_clause : (t : Text) (o : Option (TokenKind × ℕ)) → o ≡ span t → IsUtf8 t → IfSome o (λ q. IsCharBoundary t q.1)
boundary_clause t None e u = tt
boundary_clause t (Some q) e u = span_boundary t q (sym e) u
