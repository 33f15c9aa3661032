-- The tokens of a text, one after another.
use Rattle.std.proofs.Common.{◌≡◌, ℕ, zero, suc, ◌+◌, ◌-◌, ◌<◌, ◌≤◌, List, [], ◌∷◌, ◌++◌, length, take, drop, refl, sym, ◌∙◌, ap, subst, append_assoc, arith, length-append}
use Rattle.std.specs.Prelude.{Bool, true, false, cond, ◌==◌, ◌&&◌, nat_le, Option, Some, None, Result, Ok, Err, Vec, IfSome, IfOk, IfErr}
use Rattle.std.specs.declared.alloc.Global.{Global}
use Rattle.std.proofs.Math.Seq.{take-append_seam, drop-append_seam}
use Rattle.std.proofs.lemmas.List.{append-nil}
use Rattle.ng_ast.specs.declared.refusals.ReadError.{ReadError}
use Rattle.ng_ast.specs.declared.refusals.ReadError.TheVariants as r
use Rattle.ng_exprs.specs.Reading.{Refused}
use Rattle.ng_ast.specs.declared.Place.{Place}
use Rattle.ng_tokens.specs.Lexis.{Text, step, steps}
use Rattle.ng_lex.specs.declared.markup.Markup.{Markup}
use Rattle.ng_lex.specs.declared.markup.Markup.TheVariants as m
use Rattle.ng_lex.specs.declared.markup.Part.{Part}
use Rattle.ng_lex.specs.declared.kinds.TokenKind.{TokenKind}
use Rattle.ng_lex.specs.declared.kinds.TokenKind.TheVariants as kind
use Rattle.ng_lex.specs.declared.kinds.Token.{Token}
use Rattle.ng_lex.specs.Letters.{letters}
use Rattle.ng_lex.specs.Lexis.{part, Lexes}
use Rattle.ng_lex.specs.Spans.{IsHead, IsSpan, Cuts, kind_of, AreOf, IsUncut}
use Rattle.ng_lex.specs.Span.{span, before, cut_by, cut, joined, Gives}
use Rattle.ng_lex.proofs.Complete.{span_is}
use Rattle.ng_lex.proofs.Written.{written_span}
use Rattle.ng_lex.proofs.Sound.{Takes, takes}

abbrev token : TokenKind → ℕ → ℕ → Token
token k n to = record { kind = k; from = n; to = to }

-- ---- over a token

cut_over : (a z : Text) (left n : ℕ) → left ≡ length a → cut left n (a ++ z) ≡ cut 0 n z
unfolding cut
cut_over [] z left n e = ap (λ m. cut m n z) e
cut_over (b ∷ a) z zero n e = absurd (omega arith)
cut_over (b ∷ a) z (suc left) n e = cut_over a z left n (omega arith)

-- no token is empty
head_long : {a z : Text} → IsHead a z → 0 < length a
head_long (IsHead.braced word w z e h) = omega (arith, length-append word (w ++ (123 ∷ [])), length-append w (123 ∷ []))
head_long (IsHead.bracketed word w x v z e h i f) = omega (arith, length-append word (w ++ (40 ∷ (x ++ (41 ∷ (v ++ (123 ∷ [])))))), length-append w (40 ∷ (x ++ (41 ∷ (v ++ (123 ∷ []))))))

starts_long : (a : Text) (b : ℕ) (x : Text) → a ≡ b ∷ x → 0 < length a
starts_long a b x e = omega (arith, ap length e)

pub span_long : (k : TokenKind) (a z : Text) → IsSpan k a z → 0 < length a
span_long kind.Literal [] z h = absurd h
span_long kind.Literal (b ∷ a) z h = omega arith
span_long kind.Interpolation a z h = starts_long a _ _ h.1
span_long kind.Start a z h = starts_long a _ _ h.1
span_long kind.End a z h = starts_long a _ _ h.1
span_long kind.Comment a z h = starts_long a _ _ h.1
span_long kind.Head a z h = head_long h
span_long kind.Close a z h = starts_long a _ _ h
span_long kind.Let a z (x, t, n, same, front, e) = omega (arith, ap length same, length-append x (t ++ (59 ∷ [])), length-append t (59 ∷ []))

cut_first : (k : TokenKind) (b : ℕ) (a z : Text) (n : ℕ) → span ((b ∷ a) ++ z) ≡ Some (k, length (b ∷ a)) → cut 0 n ((b ∷ a) ++ z) ≡ before (token k n (n + length (b ∷ a))) (cut 0 (n + length (b ∷ a)) z)
unfolding cut
cut_first k b a z n e = rw e (ap (before (token k n (n + length (b ∷ a)))) (cut_over a z (length (b ∷ a) - 1) (n + length (b ∷ a)) (omega arith)))

pub cut_next : (k : TokenKind) (a z : Text) (n : ℕ) → 0 < length a → span (a ++ z) ≡ Some (k, length a) → cut 0 n (a ++ z) ≡ before (token k n (n + length a)) (cut 0 (n + length a) z)
cut_next k [] z n h e = absurd (omega arith)
cut_next k (b ∷ a) z n h e = cut_first k b a z n e

-- ---- what is cut are tokens, in order

before_some : (t : Token) (o : Option (List Token)) (ts : List Token) → before t o ≡ Some ts → (us : List Token) × (o ≡ Some us) × (ts ≡ t ∷ us)
before_some t None ts e = absurd (cc)
before_some t (Some us) ts e = (us, refl, (cc))

cuts_front : (b : ℕ) (t : Text) (n : ℕ) (ts : List Token) → ((left m : ℕ) (a r : Text) → t ≡ a ++ r → length a ≡ left → (us : List Token) → cut left m t ≡ Some us → Cuts m r us)
    → (o : Option (TokenKind × ℕ)) → span (b ∷ t) ≡ o → cut_by n (λ k. cut (k - 1) (n + k) t) o ≡ Some ts → Cuts n (b ∷ t) ts
cuts_front b t n ts go None e f = absurd (cc)
cuts_front b t n ts go (Some q) e f =
    let h : Takes q.0 (b ∷ t) q.1 = takes (b ∷ t) q e in
    let g : (us : List Token) × (cut (q.1 - 1) (n + q.1) t ≡ Some us) × (ts ≡ token q.0 n (n + q.1) ∷ us) = before_some _ _ ts f in
    at h.text h.rest h.is h.long h.span g.0 g.1 g.2
  where
    at : (a r : Text) → b ∷ t ≡ a ++ r → length a ≡ q.1 → IsSpan q.0 a r → (us : List Token) → cut (q.1 - 1) (n + q.1) t ≡ Some us → ts ≡ token q.0 n (n + q.1) ∷ us → Cuts n (b ∷ t) ts
    at [] r is long span us c same = absurd (omega (arith, span_long q.0 [] r span))
    at (d ∷ a) r is long span us c same =
        let tl : t ≡ a ++ r = cc in
        let more : Cuts (n + q.1) r us = go (q.1 - 1) (n + q.1) a r tl (omega arith) us c in
        let all : Cuts n ((d ∷ a) ++ r) (token q.0 n (n + length (d ∷ a)) ∷ us) = Cuts.one_token (d ∷ a) r span (subst (λ m. Cuts (n + m) r us) (sym long) more) in
        subst (λ v. Cuts n (b ∷ t) v) (sym same) (subst (λ x. Cuts n x (token q.0 n (n + q.1) ∷ us)) (sym is) (subst (λ m. Cuts n ((d ∷ a) ++ r) (token q.0 n (n + m) ∷ us)) long all))

cuts_from : (t : Text) (left n : ℕ) (a r : Text) → t ≡ a ++ r → length a ≡ left → (ts : List Token) → cut left n t ≡ Some ts → Cuts n r ts
unfolding cut
cuts_from [] left n [] r e l ts f = let g : [] ≡ ts = cc in subst (λ v. Cuts n r v) g (subst (λ x. Cuts n x []) e Cuts.no_token)
cuts_from [] left n (d ∷ a) r e l ts f = absurd (cc)
cuts_from (b ∷ t) zero n [] r e l ts f = subst (λ x. Cuts n x ts) e (cuts_front b t n ts (λ left m a r. cuts_from t left m a r) (span (b ∷ t)) refl f)
cuts_from (b ∷ t) zero n (d ∷ a) r e l ts f = absurd (omega arith)
cuts_from (b ∷ t) (suc left) n [] r e l ts f = absurd (omega arith)
cuts_from (b ∷ t) (suc left) n (d ∷ a) r e l ts f = let tl : t ≡ a ++ r = cc in cuts_from t left n a r tl (omega arith) ts f

pub cuts : (t : Text) (n : ℕ) (ts : List Token) → cut 0 n t ≡ Some ts → Cuts n t ts
cuts t n ts e = cuts_from t 0 n [] t refl refl ts e

-- ---- what a text falls into is cut, whatever comes after it

abbrev Cut : ℕ → Text → List Token → Type 0
Cut n t ts = cut 0 n t ≡ Some ts

whole_cut : {n : ℕ} {t : Text} {ts : List Token} → Cuts n t ts → Cut n t ts
unfolding cut
whole_cut Cuts.no_token = refl
whole_cut (Cuts.one_token {n = n} {k = k} {ts = ts} a z span more) = cut_next k a z n (span_long k a z span) (span_is k a z span) ∙ ap (before (token k n (n + length a))) (whole_cut more)

-- ---- the tokens of a reading

step_byte : (p : Place) (b : ℕ) → (step p b).byte ≡ p.byte + 1
step_byte p b = by (b == 10) (nat_le 128 b && nat_le b 191)
  where
    by : (v w : Bool) → (cond v (record { line = p.line + 1; column = 1; byte = p.byte + 1 }) (cond w (record p { byte = p.byte + 1 }) (record p { column = p.column + 1; byte = p.byte + 1 }))).byte ≡ p.byte + 1
    by true w = refl
    by false true = refl
    by false false = refl

steps_byte : (p : Place) (a : Text) → (steps p a).byte ≡ p.byte + length a
steps_byte p [] = omega arith
steps_byte p (b ∷ a) = omega (arith, steps_byte (step p b) a, step_byte p b)

-- the tokens that the text is cut into, which are those of the parts
abbrev Read : ℕ → ℕ → Text → List Part → Type 0
Read base n t ps = (ts : List Token) × Cut n t ts × AreOf base ps ts

read_next : (base : ℕ) (p : Place) (markup : Markup) (a z : Text) (ps : List Part) (n : ℕ) → p.byte ≡ base + n → IsSpan (kind_of markup) a z → Read base (n + length a) z ps → Read base n (a ++ z) (part markup p ∷ ps)
read_next base p markup a z ps n at span (ts, cut, are) = (
  token (kind_of markup) n (n + length a) ∷ ts,
  cut_next (kind_of markup) a z n (span_long (kind_of markup) a z span) (span_is (kind_of markup) a z span) ∙ ap (before (token (kind_of markup) n (n + length a))) cut,
  (refl, at, are),
)

read : {p : Place} {t : Text} {ps : List Part} {r : Text} → Lexes p t ps r → r ≡ [] → (base n : ℕ) → p.byte ≡ base + n → Read base n t ps
unfolding cut
read (Lexes.here {z = z}) e base n at = ([], ap (cut 0 n) e, tt)
read (Lexes.plain {p = p} {ls = ls} {ps = ps} b a z plain stop decodes more) e base n at =
    read_next base p (m.Literal (letters ls)) (b ∷ a) z ps n at (plain, stop) (read more e base (n + length (b ∷ a)) (omega (arith, steps_byte p (b ∷ a), at)))
read (Lexes.marked {p = p} {markup = markup} {ps = ps} a z written more) e base n at =
    read_next base p markup a z ps n at (written_span p a markup written z) (read more e base (n + length a) (omega (arith, steps_byte p a, at)))

-- ---- what a call owes

pub reads : (t : Text) (ts : List Token) → Cut 0 t ts → (p : Place) (ps : List Part) → Lexes p t ps [] → AreOf p.byte ps ts
reads t ts e p ps h =
    let zero_at : p.byte ≡ p.byte + 0 = omega arith in
    let r : Read p.byte 0 t ps = read h refl p.byte 0 zero_at in
    subst (λ us. AreOf p.byte ps us) (one_list (sym r.1 ∙ e)) r.2
  where
    one_list : {us vs : List Token} → Some us ≡ Some vs → us ≡ vs
    one_list i = cc

pub uncut : (t : Text) → cut 0 0 t ≡ None → IsUncut t
uncut t e = record { tokens = λ ts h. no_cut ts (whole_cut h); parts = λ p ps h. no_read p ps (read h refl p.byte 0 (omega arith)) }
  where
    no_cut : (ts : List Token) → Cut 0 t ts → ⊥
    no_cut ts f = absurd (none_some (sym e ∙ f))
      where
        none_some : None ≡ Some ts → ⊥
        none_some g = cc

    no_read : (p : Place) (ps : List Part) → Read p.byte 0 t ps → ⊥
    no_read p ps r = no_cut r.0 r.1

-- ---- the clauses

pub cuts_clause : (t : Text) (o : Result (Vec Token Global) ReadError) → Gives (cut 0 0 t) o → IfOk o (λ v. Cuts 0 t v.items)
cuts_clause t (Ok v) k = cuts t 0 v.items k
cuts_clause t (Err e) k = tt

pub reading_clause : (t : Text) (o : Result (Vec Token Global) ReadError) → Gives (cut 0 0 t) o → (p : Place) (ps : List Part) → Lexes p t ps [] → IfOk o (λ v. AreOf p.byte ps v.items)
reading_clause t (Ok v) k p ps h = reads t v.items k p ps h
reading_clause t (Err e) k p ps h = tt

pub refused_as : (N N' : Type 0) (e : ReadError) → (N → N') → Refused N ⊥ e → Refused N' ⊥ e
refused_as N N' r.Utf8 f k = k
refused_as N N' (r.Syntax x) f k = (k.0, k.1, f k.2)
refused_as N N' (r.Limit x) f k = k
refused_as N N' r.Memory f k = tt

pub refused_clause : (t : Text) (o : Result (Vec Token Global) ReadError) → Gives (cut 0 0 t) o → IfErr o (Refused (IsUncut t) ⊥)
refused_clause t (Ok v) k = tt
refused_clause t (Err e) k = refused_as _ _ e (λ none. uncut t none) k

-- ---- the next token

pub found_clause : (t : Text) (o : Option (TokenKind × ℕ)) → o ≡ span t → IfSome o (λ q. IsSpan q.0 (take q.1 t) (drop q.1 t))
found_clause t None e = tt
found_clause t (Some q) e =
    let h : Takes q.0 t q.1 = takes t q (sym e) in
    let front : take q.1 t ≡ h.text = ap (take q.1) h.is ∙ ap (λ n. take n (h.text ++ h.rest)) (sym h.long) ∙ take-append_seam h.text h.rest in
    let rest : drop q.1 t ≡ h.rest = ap (drop q.1) h.is ∙ ap (λ n. drop n (h.text ++ h.rest)) (sym h.long) ∙ drop-append_seam h.text h.rest in
    subst (λ a. IsSpan q.0 a (drop q.1 t)) (sym front) (subst (λ z. IsSpan q.0 h.text z) (sym rest) h.span)

pub exact_clause : (t : Text) (o : Option (TokenKind × ℕ)) → o ≡ span t → (k : TokenKind) (a z : Text) → IsSpan k a z → t ≡ a ++ z → o ≡ Some (k, length a)
exact_clause t o e k a z h same = e ∙ ap span same ∙ span_is k a z h

-- ---- the loop over a text

-- what was found, and what is to come, are the tokens of the whole
abbrev pub Inv : Option (List Token) → List Token → ℕ → Text → Type 0
Inv o found n z = joined found (cut 0 n z) ≡ o

pub inv_start : (t : Text) → Inv (cut 0 0 t) [] 0 t
inv_start t = by (cut 0 0 t)
  where
    by : (o : Option (List Token)) → joined [] o ≡ o
    by None = refl
    by (Some ts) = refl

cut_none : (z : Text) (n : ℕ) → 0 < length z → span z ≡ None → cut 0 n z ≡ None
unfolding cut
cut_none [] n h e = absurd (omega arith)
cut_none (b ∷ z) n h e = rw e refl

pub inv_none : (o : Option (List Token)) (found : List Token) (n : ℕ) (z : Text) → Inv o found n z → 0 < length z → span z ≡ None → o ≡ None
inv_none o found n z i h e = sym i ∙ ap (joined found) (cut_none z n h e)

joined_more : (found : List Token) (t : Token) (o : Option (List Token)) → joined (found ++ (t ∷ [])) o ≡ joined found (before t o)
joined_more found t None = refl
joined_more found t (Some ts) = ap Some (append_assoc found (t ∷ []) ts)

pub inv_some : (o : Option (List Token)) (found : List Token) (n : ℕ) (z : Text) (k : TokenKind) (len : ℕ) → Inv o found n z → span z ≡ Some (k, len) → Inv o (found ++ (token k n (n + len) ∷ [])) (n + len) (drop len z)
inv_some o found n z k len i e =
    let h : Takes k z len = takes z (k, len) e in
    let rest : drop len z ≡ h.rest = ap (drop len) h.is ∙ ap (λ m. drop m (h.text ++ h.rest)) (sym h.long) ∙ drop-append_seam h.text h.rest in
    let next : cut 0 n z ≡ before (token k n (n + len)) (cut 0 (n + len) (drop len z)) =
    ap (cut 0 n) h.is ∙ cut_next k h.text h.rest n (span_long k h.text h.rest h.span) (span_is k h.text h.rest h.span)
    ∙ ap (λ m. before (token k n (n + m)) (cut 0 (n + m) h.rest)) h.long ∙ ap (λ x. before (token k n (n + len)) (cut 0 (n + len) x)) (sym rest) in
    joined_more found (token k n (n + len)) (cut 0 (n + len) (drop len z)) ∙ ap (joined found) (sym next) ∙ i

pub inv_end : (o : Option (List Token)) (found : List Token) (n : ℕ) (z : Text) → Inv o found n z → length z ≤ 0 → o ≡ Some found
unfolding cut
inv_end o found n [] i h = sym i ∙ ap Some (append-nil found)
inv_end o found n (b ∷ z) i h = absurd (omega arith)

pub span_within : (t : Text) (o : Option (TokenKind × ℕ)) → o ≡ span t → IfSome o (λ q. (0 < q.1) × (q.1 ≤ length t))
span_within t None e = tt
span_within t (Some q) e = let h : Takes q.0 t q.1 = takes t q (sym e) in (omega (arith, h.long, span_long q.0 h.text h.rest h.span), omega (arith, ap length h.is, length-append h.text h.rest, h.long))
