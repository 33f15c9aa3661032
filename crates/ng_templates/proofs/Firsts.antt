-- The first part of a text, and all parts: they are one at most.
use Rattle.std.proofs.Common.{◌≡◌, ℕ, ◌<◌, List, [], ◌∷◌, ◌++◌, length, refl, sym, ◌∙◌, ap, subst, arith, length-append, inl, inr}
use Rattle.std.specs.Prelude.{Option, Some}
use Rattle.ng_ast.specs.declared.Place.{Place}
use Rattle.ng_tokens.specs.Lexis.{Text, steps}
use Rattle.ng_tokens.proofs.Pieces.{some_same}
use Rattle.ng_lex.specs.declared.markup.Markup.{Markup}
use Rattle.ng_lex.specs.declared.markup.Markup.TheVariants as m
use Rattle.ng_lex.specs.declared.markup.Part.{Part}
use Rattle.ng_lex.specs.declared.kinds.TokenKind.{TokenKind}
use Rattle.ng_lex.specs.declared.kinds.TokenKind.TheVariants as kind
use Rattle.ng_lex.specs.Letters.{letters}
use Rattle.ng_lex.specs.Lexis.{part, Lexes}
use Rattle.ng_lex.specs.Spans.{IsSpan, kind_of}
use Rattle.ng_lex.specs.Span.{span}
use Rattle.ng_lex.proofs.Complete.{span_is}
use Rattle.ng_lex.proofs.Cutting.{span_long}
use Rattle.ng_lex.proofs.Written.{written_span}
use Rattle.ng_lex.proofs.Decoding.{one_decoding}
use Rattle.ng_markup.specs.Parts.{IsRead}
use Rattle.ng_nodes.specs.Texts.{Parts}
use Rattle.ng_templates.specs.Fronts.{One}
use Rattle.ng_attributes.proofs.Texts.{same_front}
use Rattle.ng_markup.proofs.WrittenLaws.{one_written, no_literal}

-- the part at the front of the text, after which these parts come
pub record First (p : Place) (t : Text) (u : Part) (ps : Parts) (r : Text) : Type 0 where
  pub a : Text
  pub z : Text
  pub is : t ≡ a ++ z
  pub one : One p a z u
  pub more : Lexes (steps p a) z ps r

pub first : {p : Place} {t : Text} {ps : Parts} {r : Text} → Lexes p t ps r → (u : Part) (us : Parts) → ps ≡ u ∷ us → First p t u us r
first (Lexes.here {p} {z}) u us e = absurd cc
first (Lexes.plain {p} {ls} {ps} {r} b a z plain ends decodes more) u us e =
    let same : part (m.Literal (letters ls)) p ≡ u = cc in
    let rest : ps ≡ us = cc in
    let one : One p (b ∷ a) z (part (m.Literal (letters ls)) p) = record { at = refl; spans = (plain, ends); reads = inl (ls, decodes, refl) } in
    record { a = b ∷ a; z = z; is = refl; one = subst (λ k. One p (b ∷ a) z k) same one; more = subst (λ k. Lexes (steps p (b ∷ a)) z k r) rest more }
first (Lexes.marked {p} {markup} {ps} {r} a z written more) u us e =
    let same : part markup p ≡ u = cc in
    let rest : ps ≡ us = cc in
    let one : One p a z (part markup p) = record { at = refl; spans = written_span p a markup written z; reads = inr written } in
    record { a = a; z = z; is = refl; one = subst (λ k. One p a z k) same one; more = subst (λ k. Lexes (steps p a) z k r) rest more }

pub one_long : {p : Place} {a z : Text} {u : Part} → One p a z u → 0 < length a
one_long {a} {z} {u} h = span_long (kind_of u.markup) a z h.spans

-- ---- one part at most

pub same_length : {A : Type 0} (x y z r : List A) → x ++ z ≡ y ++ r → z ≡ r → x ≡ y
same_length x y z r e f = (same_front x y z r e (omega (arith, ap length e, length-append x z, length-append y r, ap length f))).0

span_same : (k l : TokenKind) (m n : ℕ) → ◌≡◌ {A = Option (TokenKind × ℕ)} (Some (k, m)) (Some (l, n)) → (k ≡ l) × (m ≡ n)
span_same k l m n e = let q : ◌≡◌ {A = TokenKind × ℕ} (k, m) (l, n) = some_same e in (ap (λ p. p.0) q, ap (λ p. p.1) q)

pub one_span : (k l : TokenKind) (a z b y : Text) → IsSpan k a z → IsSpan l b y → a ++ z ≡ b ++ y → (k ≡ l) × (a ≡ b) × (z ≡ y)
one_span k l a z b y h i e =
    let s = span_same k l (length a) (length b) (sym (span_is k a z h) ∙ ap span e ∙ span_is l b y i) in
    let g = same_front a b z y e s.1 in
    (s.0, g.0, g.1)

one_read : (p : Place) (a : Text) (c d : Markup) → kind_of c ≡ kind_of d → IsRead p a c → IsRead p a d → c ≡ d
one_read p a c d k (inl (ls, h, e)) (inl (ms, i, f)) = e ∙ ap (λ v. m.Literal (letters v)) (one_decoding p a ls ms h i) ∙ sym f
one_read p a c d k (inl (ls, h, e)) (inr i) = absurd (no_literal p a d i (sym k ∙ ap kind_of e))
one_read p a c d k (inr h) (inl (ms, i, f)) = absurd (no_literal p a c h (k ∙ ap kind_of f))
one_read p a c d k (inr h) (inr i) = one_written p a c d h i

pub part_is : (u v : Part) → u.place ≡ v.place → u.markup ≡ v.markup → u ≡ v
part_is u v e f = ap (λ q. part u.markup q) e ∙ ap (λ c. part c v.place) f

pub one_first : (p : Place) (a z b y : Text) (u v : Part) → One p a z u → One p b y v → a ++ z ≡ b ++ y → (a ≡ b) × (z ≡ y) × (u ≡ v)
one_first p a z b y u v h i e =
    let g = one_span (kind_of u.markup) (kind_of v.markup) a z b y h.spans i.spans e in
    let also : IsRead p a v.markup = subst (λ k. IsRead p k v.markup) (sym g.1) i.reads in
    (g.1, g.2, part_is u v (h.at ∙ sym i.at) (one_read p a u.markup v.markup g.0 h.reads also))

-- ---- all parts

pub lexes_none : {p : Place} {z : Text} {ps : Parts} {r : Text} → Lexes p z ps r → ps ≡ [] → z ≡ r
lexes_none (Lexes.here {p} {z}) e = refl
lexes_none (Lexes.plain b a z plain ends decodes more) e = absurd cc
lexes_none (Lexes.marked a z written more) e = absurd cc

no_first : (p : Place) (t : Text) (us : Parts) → t ≡ [] → Lexes p t us [] → us ≡ []
no_first p t [] e h = refl
no_first p t (v ∷ us) e h = let f : First p t v us [] = first h v us refl in absurd (omega (arith, ap length e, ap length f.is, length-append f.a f.z, one_long f.one))

module _ (p : Place) (a z : Text) (u : Part) (one : One p a z u) where
  -- The parts after the first are one list at most where those of the second text are.
  pub one_more : (ps us : Parts) → ((vs : Parts) → Lexes (steps p a) z vs [] → ps ≡ vs) → Lexes p (a ++ z) us [] → u ∷ ps ≡ us
  one_more ps [] same h = absurd (omega (arith, ap length (lexes_none h refl), length-append a z, one_long one))
  one_more ps (v ∷ us) same h =
      let f : First p (a ++ z) v us [] = first h v us refl in
      let g = one_first p a z f.a f.z u v one f.one f.is in
      let more : Lexes (steps p a) z us [] = subst (λ k. Lexes (steps p k) z us []) (sym g.0) (subst (λ k. Lexes (steps p f.a) k us []) (sym g.1) f.more) in
      ap (λ k. k ∷ ps) g.2 ∙ ap (λ ks. v ∷ ks) (same us more)

pub one_list : {p : Place} {t : Text} {ps : Parts} {r : Text} → Lexes p t ps r → r ≡ [] → (us : Parts) → Lexes p t us [] → ps ≡ us
one_list (Lexes.here {p} {z}) e us h = sym (no_first p z us e h)
one_list (Lexes.plain {p} {ls} {ps} {r} b a z plain ends decodes more) e us h =
    let one : One p (b ∷ a) z (part (m.Literal (letters ls)) p) = record { at = refl; spans = (plain, ends); reads = inl (ls, decodes, refl) } in
    one_more p (b ∷ a) z (part (m.Literal (letters ls)) p) one ps us (λ vs i. one_list more e vs i) h
one_list (Lexes.marked {p} {markup} {ps} {r} a z written more) e us h =
    let one : One p a z (part markup p) = record { at = refl; spans = written_span p a markup written z; reads = inr written } in
    one_more p a z (part markup p) one ps us (λ vs i. one_list more e vs i) h
