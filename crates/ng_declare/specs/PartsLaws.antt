-- The parser of a part and its grammar are one.
use Rattle.std.proofs.Common.{◌≡◌, ℕ, true, List, [], ◌∷◌, ◌++◌, length, take, drop, refl, sym, ◌∙◌, ap, subst, append_assoc, inl, inr}
use Rattle.std.specs.Prelude.{Option, Some, None, Ok, Err, ◌⊎◌}
use Rattle.std.specs.Option.{option_and_then}
use Rattle.std.proofs.Math.Seq.{take-append_seam, drop-append_seam}
use Rattle.std.proofs.lemmas.List.{take-append-drop, append_cancel_left, append_cancel_right, append-nil}
use Rattle.ng_ast.specs.declared.Place.{Place}
use Rattle.ng_tokens.specs.declared.kinds.Sign.{Sign}
use Rattle.ng_tokens.specs.declared.kinds.Kind.TheVariants as k
use Rattle.ng_tokens.specs.declared.kinds.Token.{Token}
use Rattle.ng_tokens.specs.Lexis.{Text, Lexes, spelling, steps}
use Rattle.ng_tokens.specs.Scan.{scan, before}
use Rattle.ng_tokens.proofs.Pieces.{some_same}
use Rattle.ng_tokens.proofs.Tokens.{whole, complete, prepend}
use Rattle.ng_exprs.specs.Grammar.{Tokens}
use Rattle.ng_exprs.specs.Limits.{opens}
use Rattle.ng_phrases.specs.Parser.{Readers, Stop, Outcome, Took, Gets, Means, Exact, Agree}
use Rattle.ng_phrases.specs.ParserLaws.{same_done, err_no_ok, ok_no_err, same_stop}
use Rattle.ng_declare.specs.Ends.{Comes, end_of}
use Rattle.ng_declare.specs.EndsLaws.{NoEnd, IsEnd, no_end_at, end_first, end_begins, ends_there, shorter, lexed}
use Rattle.ng_declare.specs.Parts.{ReadsPart, NoPart, OverPart, found_at, part_by, parse_part}

-- ---- tokens in a text, and in the part alone

-- the tokens of a part, where the text ends with it
pub alone : (p : Place) (y z : Text) (ts : List Token) → Lexes true p (y ++ z) ts z → scan true 0 p y ≡ Some ts
alone p y z ts h =
    let i = shorter h in
    let same : y ≡ i.0 = append_cancel_right y i.0 z i.1 in
    whole true p y ts (subst (λ w. Lexes true p w ts []) (append-nil i.0 ∙ sym same) (i.2 [] z refl))

-- what the scan for the end finds is what the tokens of that front are
pub front_tokens : (x : Sign) (p : Place) (t : Text) (n : ℕ) (ts : Tokens) → end_of x t ≡ Some n → scan true 0 p (take n t) ≡ Some ts → Lexes true p (take n t ++ drop n t) ts (drop n t) × Comes x (drop n t)
front_tokens x p t n ts e f =
    let l = lexed x t n e in
    let us : (us : List Token) × Lexes true p t us (drop n t) = l.0 p in
    let all : t ≡ take n t ++ drop n t = sym (take-append-drop n t) in
    let h : Lexes true p (take n t ++ drop n t) us.0 (drop n t) = subst (λ w. Lexes true p w us.0 (drop n t)) all us.1 in
    let same : us.0 ≡ ts = some_same (sym (alone p (take n t) (drop n t) us.0 h) ∙ f) in
    (subst (λ vs. Lexes true p (take n t ++ drop n t) vs (drop n t)) same h, l.1)

-- ---- two fronts of one text

-- two fronts of a text: one is a front of the other
abbrev Fronts : Text → Text → Text → Text → Type 0
Fronts x z y r = ((w : Text) × (z ≡ w ++ r) × (y ≡ x ++ w)) ⊎ ((w : Text) × (r ≡ w ++ z) × (x ≡ y ++ w))

fronts : (x z y r : Text) → x ++ z ≡ y ++ r → Fronts x z y r
fronts [] z y r e = inl (y, e, refl)
fronts (b ∷ x) z [] r e = inr (b ∷ x, sym e, refl)
fronts (b ∷ x) z (c ∷ y) r e =
    let hd : b ≡ c = cc in
    let tl : x ++ z ≡ y ++ r = cc in
    elim (fronts x z y r tl) [
      | inl h ↦ inl (h.0, h.1, ap (λ w. c ∷ w) h.2 ∙ ap (λ d. d ∷ (x ++ h.0)) (sym hd))
      | inr h ↦ inr (h.0, h.1, ap (λ w. b ∷ w) h.2 ∙ ap (λ d. d ∷ (y ++ h.0)) hd)
    ]

-- the tokens before what is left
prepended : (ts : List Token) (o : Option (List Token)) (us : List Token) → prepend ts o ≡ Some us → (vs : List Token) × (o ≡ Some vs) × (us ≡ ts ++ vs)
prepended [] o us e = (us, e, refl)
prepended (t ∷ ts) o us e = by (λ ws f. prepended ts o ws f) (prepend ts o) refl e
  where
    by : ((ws : List Token) → prepend ts o ≡ Some ws → (vs : List Token) × (o ≡ Some vs) × (ws ≡ ts ++ vs)) → (m : Option (List Token)) → prepend ts o ≡ m → before t.place (Some t.kind) m ≡ Some us → (vs : List Token) × (o ≡ Some vs) × (us ≡ (t ∷ ts) ++ vs)
    by go None f h = absurd (cc)
    by go (Some ws) f h = let g = go ws f in (g.0, g.1, sym (some_same h) ∙ ap (λ w. t ∷ w) g.2)

-- ---- a part

-- What a part is, with its reader: what its tokens are, and what they are within the limits; which tokens pass one.
pub record Part (A : Type 0) : Type 1 where
  pub ending : Sign
  pub is_end : IsEnd ending
  pub reads : Tokens → A → Type 0
  pub within : Tokens → A → Type 0
  pub passes : Tokens → Type 0
  pub find : Tokens → Option A
  pub found : (ts : Tokens) (a : A) → find ts ≡ Some a → within ts a
  pub finds : (ts : Tokens) (a : A) → within ts a → find ts ≡ Some a
  pub unlimited : (ts : Tokens) (a : A) → within ts a → reads ts a
  pub one : (ts : Tokens) (a b : A) → reads ts a → reads ts b → a ≡ b
  pub balanced : (ts : Tokens) (a : A) → reads ts a → NoEnd ending 0 ts × (opens 0 ts ≡ 0)
  pub calm : (ts : Tokens) (a : A) → within ts a → (front more : Tokens) → ts ≡ front ++ more → (rest : Tokens) (b : A) → reads (front ++ rest) b → passes front → ⊥

module _ {A : Type 0} (part : Part A) where
  -- what is read ends where the scan for its end does
  pub part_ends : (p : Place) (y z : Text) (a : A) → ReadsPart part.ending part.reads p y z a → end_of part.ending (y ++ z) ≡ Some (length y)
  part_ends p y z a (ts, h, r, c) = let b = part.balanced ts a r in ends_there part.ending part.is_end p y z ts h b.0 b.1 c

  pub agree_part : Agree (ReadsPart part.ending part.reads) (ReadsPart part.ending part.reads)
  agree_part = record {
    same = λ p y z v w a b h i e.
        let n : length y ≡ length v = some_same (sym (part_ends p y z a h) ∙ ap (end_of part.ending) e ∙ part_ends p v w b i) in
        let front : y ≡ v = sym (take-append_seam y z) ∙ ap (take (length y)) e ∙ ap (λ m. take m (v ++ w)) n ∙ take-append_seam v w in
        let back : z ≡ w = append_cancel_left v z w (ap (λ u. u ++ z) (sym front) ∙ e) in
        let same : h.0 ≡ i.0 = some_same (sym (alone p y z h.0 h.1) ∙ ap (scan true 0 p) front ∙ alone p v w i.0 i.1) in
        (front, part.one i.0 a b (subst (λ us. part.reads us a) same h.2) i.2);
  }

  -- a part that goes on behind its end is none
  goes_on : (ts : Tokens) (a : A) → part.reads ts a → (t : Token) (vs more : Tokens) (b : A) → t.kind ≡ k.Sign part.ending → part.reads ((ts ++ t ∷ vs) ++ more) b → ⊥
  goes_on ts a h t vs more b e i =
      no_end_at part.ending part.is_end 0 ts t (vs ++ more) (subst (NoEnd part.ending 0) (append_assoc ts (t ∷ vs) more) (part.balanced ((ts ++ t ∷ vs) ++ more) b i).0) (part.balanced ts a h).1 e

  abbrev passing : Place → Text → Type 0
  passing = OverPart part.reads part.passes

  -- a part within the limits has no front that passes one
  calm_part : (p : Place) (t z : Text) (ts : Tokens) (a : A) → Lexes true p (t ++ z) ts z → part.within ts a → Comes part.ending z → OverPart part.reads part.passes p (t ++ z) → ⊥
  calm_part p t z ts a h fit c (us, rest, lx, begun, passes) = let i = shorter lx in by i.0 i.2 (fronts t z i.0 rest i.1)
    where
      inside : (y : Text) → ((w v : Text) → rest ≡ w ++ v → Lexes true p (y ++ w) us w) → (w : Text) → rest ≡ w ++ z → t ≡ y ++ w → ⊥
      inside y go w r front =
          let lexes : Lexes true p t us w = subst (λ (u : Text). Lexes true p u us w) (sym front) (go w z r) in
          let g = complete lexes in
          let f = prepended us (scan true 0 g.0 w) ts (sym g.1 ∙ alone p t z ts h) in
          part.calm ts a fit us f.0 f.2 begun.0 begun.1 begun.2 passes

      beyond : (y : Text) → ((w v : Text) → rest ≡ w ++ v → Lexes true p (y ++ w) us w) → (w : Text) → z ≡ (spelling part.ending ++ w) ++ rest → y ≡ t ++ (spelling part.ending ++ w) → ⊥
      beyond y go w r front =
          let end : Text = spelling part.ending ++ w in
          let n = shorter h in
          let same : t ≡ n.0 = append_cancel_right t n.0 z n.1 in
          let lexes : Lexes true p (t ++ end) ts end = subst (λ (v : Text). Lexes true p (v ++ end) ts end) (sym same) (n.2 end rest r) in
          let g = complete lexes in
          let all : scan true 0 p (t ++ end) ≡ Some us = ap (scan true 0 p) (sym front) ∙ whole true p y us (subst (λ (u : Text). Lexes true p u us []) (append-nil y) (go [] rest refl)) in
          let m = prepended ts (scan true 0 g.0 end) us (sym g.1 ∙ all) in
          let d = end_first part.ending part.is_end g.0 w m.0 m.1 in
          goes_on ts a (part.unlimited ts a fit) d.0 d.1 begun.0 begun.1 d.3 (subst (λ (vs : Tokens). part.reads (vs ++ begun.0) begun.1) (m.2 ∙ ap (λ (vs : Tokens). ts ++ vs) d.2) begun.2)

      by : (y : Text) → ((w v : Text) → rest ≡ w ++ v → Lexes true p (y ++ w) us w) → Fronts t z y rest → ⊥
      by y go (inr (w, r, front)) = inside y go w r front
      by y go (inl ([], r, front)) = inside y go [] (sym r) (sym (append-nil t) ∙ sym front ∙ sym (append-nil y))
      by y go (inl (b ∷ w, r, front)) = let l : (v : Text) × (b ∷ w ≡ spelling part.ending ++ v) = end_begins part.ending part.is_end b w rest c.0 (sym r ∙ c.1) in beyond y go l.0 (r ∙ ap (λ u. u ++ rest) l.1) (front ∙ ap (λ u. t ++ u) l.1)

  -- a reading, by what the function on tokens finds
  some_found : {B C : Type 0} (f : B → Option C) (o : Option B) (c : C) → option_and_then f o ≡ Some c → (b : B) × (o ≡ Some b) × (f b ≡ Some c)
  some_found f None c e = absurd (cc)
  some_found f (Some b) c e = (b, refl, e)

  module _ (R : Readers) (ask : Place → Text → R.Question) (unread : (p : Place) (t : Text) → R.unread (ask p t) → NoPart part.ending part.reads p t) (over : (p : Place) (t : Text) → R.over (ask p t) → OverPart part.reads part.passes p t) where
    abbrev Taken : Place → Text → A × Place × Text → Type 0
    Taken p t v = Took (ReadsPart part.ending part.reads) p t v.0 v.1 v.2 × (passing p t → ⊥)

    taken_found : (p : Place) (t : Text) (n : ℕ) (v : A × Place × Text) → end_of part.ending t ≡ Some n → (o : Option A) → option_and_then part.find (scan true 0 p (take n t)) ≡ o
        → ◌≡◌ {A = Outcome R.Question A} (found_at (ask p t) n o p t) (Ok v) → Taken p t v
    taken_found p t n v e None f h = absurd (err_no_ok (Stop.Refused (ask p t)) v h)
    taken_found p t n v e (Some a) f h =
        let g : (ts : Tokens) × (scan true 0 p (take n t) ≡ Some ts) × (part.find ts ≡ Some a) = some_found part.find (scan true 0 p (take n t)) a f in
        let l : Lexes true p (take n t ++ drop n t) g.0 (drop n t) × Comes part.ending (drop n t) = front_tokens part.ending p t n g.0 e g.1 in
        let w : part.within g.0 a = part.found g.0 a g.2 in
        let all : take n t ++ drop n t ≡ t = take-append-drop n t in (
          subst (λ (y : A × Place × Text). Took (ReadsPart part.ending part.reads) p t y.0 y.1 y.2) (same_done _ v h)
              (record { text = take n t; parts = sym all; place = refl; reads = (g.0, l.0, part.unlimited g.0 a w, l.1) }),
          λ k. calm_part p (take n t) (drop n t) g.0 a l.0 w l.1 (subst (passing p) (sym all) k),
        )

    taken_part : (p : Place) (t : Text) (v : A × Place × Text) (o : Option ℕ) → end_of part.ending t ≡ o → ◌≡◌ {A = Outcome R.Question A} (part_by part.find ask o p t) (Ok v) → Taken p t v
    taken_part p t v None e h = absurd (err_no_ok Stop.Syntax v h)
    taken_part p t v (Some n) e h = taken_found p t n v e (option_and_then part.find (scan true 0 p (take n t))) refl h

    gets_found : (p : Place) (y z : Text) (a : A) (ts : Tokens) → part.reads ts a → ReadsPart part.ending part.reads p y z a → (o : Option A) → part.find ts ≡ o
        → Gets R (a, steps p y, z) (found_at (ask p (y ++ z)) (length y) o p (y ++ z))
    gets_found p y z a ts r h None e = λ u. unread p (y ++ z) u y z a refl h
    gets_found p y z a ts r h (Some b) e =
        let same : b ≡ a = part.one ts b a (part.unlimited ts b (part.found ts b e)) r in
        ap (λ c. let v : A × Place × Text = (c, steps p (take (length y) (y ++ z)), drop (length y) (y ++ z)) in v) same
        ∙ ap (λ w. let v : A × Place × Text = (a, steps p w, drop (length y) (y ++ z)) in v) (take-append_seam y z)
        ∙ ap (λ w. let v : A × Place × Text = (a, steps p y, w) in v) (drop-append_seam y z)

    gets_part : (p : Place) (y z : Text) (a : A) → ReadsPart part.ending part.reads p y z a → Gets R (a, steps p y, z) (part_by part.find ask (end_of part.ending (y ++ z)) p (y ++ z))
    gets_part p y z a h =
        let G : Option A → Type 0 = λ o. Gets R (a, steps p y, z) (found_at (ask p (y ++ z)) (length y) o p (y ++ z)) in
        let front : scan true 0 p (take (length y) (y ++ z)) ≡ Some h.0 = ap (scan true 0 p) (take-append_seam y z) ∙ alone p y z h.0 h.1 in
        subst (λ o. Gets R (a, steps p y, z) (part_by part.find ask o p (y ++ z))) (sym (part_ends p y z a h))
        (subst (λ o. G (option_and_then part.find o)) (sym front) (gets_found p y z a h.0 h.2 h (part.find h.0) refl))

    means_found : (p : Place) (t : Text) (n : ℕ) (e : Stop R.Question) (o : Option A) → ◌≡◌ {A = Outcome R.Question A} (found_at (ask p t) n o p t) (Err e) → Means R (passing p t) e
    means_found p t n e (Some a) h = absurd (ok_no_err e _ h)
    means_found p t n e None h = subst (Means R (passing p t)) (same_stop (Stop.Refused (ask p t)) e h) (over p t)

    means_part : (p : Place) (t : Text) (e : Stop R.Question) (o : Option ℕ) → ◌≡◌ {A = Outcome R.Question A} (part_by part.find ask o p t) (Err e) → Means R (passing p t) e
    means_part p t e None h = subst (Means R (passing p t)) (same_stop Stop.Syntax e h) tt
    means_part p t e (Some n) h = means_found p t n e (option_and_then part.find (scan true 0 p (take n t))) h

    pub exact_part : Exact R (ReadsPart part.ending part.reads) (OverPart part.reads part.passes) (parse_part part.ending part.find ask)
    unfolding parse_part
    exact_part = record {
      sound = record { takes = λ p t a q z e. (taken_part p t (a, q, z) (end_of part.ending t) refl e).0 };
      calm = record { within = λ p t a q z e k. (taken_part p t (a, q, z) (end_of part.ending t) refl e).1 k };
      complete = record { gets = λ p y z a h. gets_part p y z a h };
      stops = record { means = λ p t e h. means_part p t e (end_of part.ending t) h };
    }
