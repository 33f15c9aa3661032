-- The parts of a text, one after another.
use Rattle.std.proofs.Common.{◌≡◌, ◌<◌, [], ◌∷◌, ◌++◌, length, refl, sym, ◌∙◌, ap, subst, append_assoc, arith, length-append, inl, inr}
use Rattle.std.proofs.lemmas.List.{append-nil}
use Rattle.std.specs.Prelude.{◌⊎◌}
use Rattle.ng_ast.specs.declared.Place.{Place}
use Rattle.ng_tokens.specs.Lexis.{Text, steps}
use Rattle.ng_lex.specs.declared.markup.Markup.TheVariants as m
use Rattle.ng_lex.specs.declared.markup.Part.{Part}
use Rattle.ng_lex.specs.Lexis.{part, Lexes}
use Rattle.ng_lex.specs.declared.kinds.TokenKind.TheVariants as kind
use Rattle.ng_lex.specs.Letters.{Letters, letters, Decodes}
use Rattle.ng_lex.specs.Spans.{IsSpan, kind_of}
use Rattle.ng_markup.specs.Parts.{IsRead, IsCalm}
use Rattle.ng_nodes.specs.Texts.{Parts}
use Rattle.ng_templates.specs.Fronts.{One, Within, Beyond, Goes}
use Rattle.ng_attributes.proofs.Texts.{steps_append}
use Rattle.ng_templates.proofs.Firsts.{First, first, one_first, one_long, part_is, lexes_none}

pub goes_none : (p : Place) (t : Text) → Goes p t [] [] t
goes_none p t = record { is = refl; ahead = λ ps r h. h; back = λ ps r h. inr (record { more = ps; parts = refl; reads = h }) }

literal_lexes : (p : Place) (a z : Text) (ls : Letters) (ps : Parts) (r : Text) → IsSpan kind.Literal a z → Decodes p a ls → Lexes (steps p a) z ps r
    → Lexes p (a ++ z) (part (m.Literal (letters ls)) p ∷ ps) r
literal_lexes p [] z ls ps r h d more = absurd h
literal_lexes p (b ∷ a) z ls ps r h d more = Lexes.plain b a z h.0 h.1 d more

lexes_by : (p : Place) (a z : Text) (u : Part) (ps : Parts) (r : Text) → One p a z u → Lexes (steps p a) z ps r → IsRead p a u.markup → Lexes p (a ++ z) (u ∷ ps) r
lexes_by p a z u ps r h more (inl (ls, d, e)) =
    let spans : IsSpan kind.Literal a z = subst (λ c. IsSpan (kind_of c) a z) e h.spans in
    subst (λ k. Lexes p (a ++ z) (k ∷ ps) r) (part_is (part (m.Literal (letters ls)) p) u (sym h.at) (sym e)) (literal_lexes p a z ls ps r spans d more)
lexes_by p a z u ps r h more (inr w) =
    subst (λ k. Lexes p (a ++ z) (k ∷ ps) r) (part_is (part u.markup p) u (sym h.at) refl) (Lexes.marked {markup = u.markup} a z w more)

pub one_lexes : (p : Place) (a z : Text) (u : Part) (ps : Parts) (r : Text) → One p a z u → Lexes (steps p a) z ps r → Lexes p (a ++ z) (u ∷ ps) r
one_lexes p a z u ps r h more = lexes_by p a z u ps r h more h.reads

-- ---- one part more

module _ (p : Place) (t : Text) (front : Parts) (x z a y : Text) (u : Part) (goes : Goes p t front x z) (is : z ≡ a ++ y) (here : One (steps p x) a y u) (calm : IsCalm (steps p x) z) where
  next_is : t ≡ (x ++ a) ++ y
  next_is = goes.is ∙ ap (λ k. x ++ k) is ∙ sym (append_assoc x a y)

  next_ahead : (ps : Parts) (r : Text) → Lexes (steps p (x ++ a)) y ps r → Lexes p t ((front ++ u ∷ []) ++ ps) r
  next_ahead ps r h =
      let moved : Lexes (steps (steps p x) a) y ps r = subst (λ q. Lexes q y ps r) (steps_append p x a) h in
      let whole : Lexes (steps p x) z (u ∷ ps) r = subst (λ k. Lexes (steps p x) k (u ∷ ps) r) (sym is) (one_lexes (steps p x) a y u ps r here moved) in
      subst (λ k. Lexes p t k r) (sym (append_assoc front (u ∷ []) ps)) (goes.ahead (u ∷ ps) r whole)

  within_next : (ps : Parts) (r : Text) → Within p t front ps r → Within p t (front ++ u ∷ []) ps r
  within_next ps r w = record {
    a = w.a;
    u = w.u;
    us = w.us ++ u ∷ [];
    is = w.is;
    some = w.some;
    parts = ap (λ k. k ++ u ∷ []) w.parts ∙ append_assoc ps (w.u ∷ w.us) (u ∷ []);
    calm = w.calm;
  }

  some_left : 0 < length z
  some_left = omega (arith, ap length is, length-append a y, one_long here)

  at_end : (ps : Parts) (r : Text) → ps ≡ front ++ [] → z ≡ r → Within p t (front ++ u ∷ []) ps r
  at_end ps r e f = record {
    a = x;
    u = u;
    us = [];
    is = goes.is ∙ ap (λ k. x ++ k) f;
    some = subst (λ k. 0 < length k) f some_left;
    parts = ap (λ k. k ++ u ∷ []) (sym (e ∙ append-nil front));
    calm = subst (λ k. IsCalm (steps p x) k) f calm;
  }

  further : (ps : Parts) (r : Text) (v : Part) (more : Parts) → ps ≡ front ++ v ∷ more → First (steps p x) z v more r → Beyond p (front ++ u ∷ []) (x ++ a) y ps r
  further ps r v more e f =
      let g = one_first (steps p x) a y f.a f.z u v here f.one (sym is ∙ f.is) in
      let parts : ps ≡ (front ++ u ∷ []) ++ more = e ∙ ap (λ k. front ++ k ∷ more) (sym g.2) ∙ sym (append_assoc front (u ∷ []) more) in
      let moved : Lexes (steps (steps p x) a) y more r = subst (λ k. Lexes (steps (steps p x) k) y more r) (sym g.0) (subst (λ k. Lexes (steps (steps p x) f.a) k more r) (sym g.1) f.more) in
      record { more = more; parts = parts; reads = subst (λ q. Lexes q y more r) (sym (steps_append p x a)) moved }

  beyond_next : (ps : Parts) (r : Text) (more : Parts) → ps ≡ front ++ more → Lexes (steps p x) z more r → Within p t (front ++ u ∷ []) ps r ⊎ Beyond p (front ++ u ∷ []) (x ++ a) y ps r
  beyond_next ps r [] e h = inl (at_end ps r e (lexes_none h refl))
  beyond_next ps r (v ∷ more) e h = inr (further ps r v more e (first h v more refl))

  next_back : (ps : Parts) (r : Text) → Within p t front ps r ⊎ Beyond p front x z ps r → Within p t (front ++ u ∷ []) ps r ⊎ Beyond p (front ++ u ∷ []) (x ++ a) y ps r
  next_back ps r (inl w) = inl (within_next ps r w)
  next_back ps r (inr b) = beyond_next ps r b.more b.parts b.reads

  pub goes_next : Goes p t (front ++ u ∷ []) (x ++ a) y
  goes_next = record { is = next_is; ahead = next_ahead; back = λ ps r h. next_back ps r (goes.back ps r h) }
