-- What the function scans are the tokens of the text, and the tokens of the text are what it scans.
use Rattle.std.proofs.Common.{◌≡◌, ℕ, zero, suc, ◌+◌, ◌-◌, ◌<◌, List, [], ◌∷◌, ◌++◌, length, refl, sym, ◌∙◌, ap, subst, arith, inl, inr}
use Rattle.std.specs.Prelude.{Bool, true, false, cond, ◌==◌, Option, Some, None}
use Rattle.std.proofs.Math.Seq.{take-append_seam}
use Rattle.std.specs.List.{prefix_len}
use Rattle.std.specs.Option.{option_map}
use Rattle.ng_ast.specs.declared.Place.{Place}
use Rattle.ng_tokens.specs.declared.kinds.Shape.{Shape}
use Rattle.ng_tokens.specs.declared.kinds.Kind.{Kind}
use Rattle.ng_tokens.specs.declared.kinds.Token.{Token}
use Rattle.ng_tokens.specs.Lexis.{Text, is_blank, in_line, closed, comment_len, opens_comment, step, steps, Written, kind_of, fits, Longest, Lexes}
use Rattle.ng_tokens.specs.Scan.{piece, before, scan_piece, scan}
use Rattle.ng_tokens.proofs.Pieces.{Cuts, IsPiece, cuts, no_blank, not_empty, some_same}
use Rattle.ng_tokens.proofs.SignTable.{no_true}
use Rattle.ng_tokens.proofs.Shapes.{shape_is}

scan_over : (c : Bool) (a z : Text) (p : Place) (n : ℕ) → n ≡ length a → scan c n p (a ++ z) ≡ scan c 0 (steps p a) z
unfolding scan
scan_over c [] z p n e = ap (λ m. scan c m p z) e
scan_over c (b ∷ a) z p zero e = absurd (omega arith)
scan_over c (b ∷ a) z p (suc n) e = scan_over c a z (step p b) n (omega arith)

abbrev pub prepend : List Token → Option (List Token) → Option (List Token)
prepend [] o = o
prepend (t ∷ ts) o = before t.place (Some t.kind) (prepend ts o)

opens_no_blank : (c : Bool) (b : ℕ) (z : Text) → opens_comment c (b ∷ z) ≡ true → is_blank b ≡ false
opens_no_blank c b [] e = absurd (no_true e)
opens_no_blank c b (d ∷ z) e = grind arith

-- a piece at the front
pub scan_front : (c : Bool) (b : ℕ) (a z : Text) (p : Place) (kind : Option Kind) → piece c ((b ∷ a) ++ z) ≡ Some (kind, length (b ∷ a)) → scan c 0 p ((b ∷ a) ++ z) ≡ before p kind (scan c 0 (steps p (b ∷ a)) z)
unfolding scan
scan_front c b a z p kind e = rw e (ap (before p kind) (scan_over c a z (step p b) (length (b ∷ a) - 1) (omega arith)))

piece_blank : (c : Bool) (b : ℕ) (z : Text) → is_blank b ≡ true → piece c (b ∷ z) ≡ Some (None, 1)
unfolding piece
piece_blank c b z e = rw e refl

piece_comment : (c : Bool) (b : ℕ) (z : Text) (n : ℕ) → opens_comment c (b ∷ z) ≡ true → comment_len (b ∷ z) ≡ Some n → piece c (b ∷ z) ≡ Some (None, n)
unfolding piece
piece_comment c b z n e f = rw (opens_no_blank c b z e) (rw e (rw f refl))

piece_token : (c : Bool) (b : ℕ) (a z : Text) (form : Shape) → Written (b ∷ a) form → fits form (b ∷ a) ≡ true → Longest (b ∷ a) z → opens_comment c ((b ∷ a) ++ z) ≡ false
    → piece c ((b ∷ a) ++ z) ≡ Some (Some (kind_of form (b ∷ a)), length (b ∷ a))
unfolding piece
piece_token c b a z form h small long o = rw (no_blank form b a h) (rw o (rw (shape_is (b ∷ a) z form h long) (rw (take-append_seam (b ∷ a) z) (rw small refl))))

no_comment : (c : Bool) (z : Text) → comment_len z ≡ Some 0 → ⊥
no_comment c [] e = cc
no_comment c (a ∷ []) e = cc
no_comment c (a ∷ b ∷ z) e = some_comment (b == 47) (closed 0 z) e
  where
    some_comment : (v : Bool) (o : Option ℕ) → cond v (Some (2 + prefix_len in_line z)) (option_map (λ n. 2 + n) o) ≡ Some 0 → ⊥
    some_comment true o e = let f : 2 + prefix_len in_line z ≡ 0 = cc in absurd (omega arith)
    some_comment false None e = cc
    some_comment false (Some n) e = let f : 2 + n ≡ 0 = cc in absurd (omega arith)

pub complete : {c : Bool} {p : Place} {t : Text} {ts : List Token} {r : Text} → Lexes c p t ts r → (q : Place) × (scan c 0 p t ≡ prepend ts (scan c 0 q r))
unfolding scan
complete {p = p} Lexes.here = (p, refl)
complete {c = c} (Lexes.blank {p = p} {b = b} {z = z} e h) = let g = complete h in (g.0, scan_front c b [] z p None (piece_blank c b z e) ∙ g.1)
complete {c = c} (Lexes.comment [] z o e i) = absurd (no_comment c z e)
complete {c = c} (Lexes.comment {p = p} (b ∷ a) z o e i) = let g = complete i in (g.0, scan_front c b a z p None (piece_comment c b (a ++ z) (length (b ∷ a)) o e) ∙ g.1)
complete (Lexes.next [] z form h small long o i) = absurd (not_empty form h)
complete {c = c} (Lexes.next {p = p} (b ∷ a) z form h small long o i) =
    let g = complete i in
    (g.0, scan_front c b a z p (Some (kind_of form (b ∷ a))) (piece_token c b a z form h small long o) ∙ ap (before p (Some (kind_of form (b ∷ a)))) g.1)

-- a piece before the tokens of the rest
abbrev pub emitted : Place → Option Kind → List Token → List Token
emitted p None ts = ts
emitted p (Some kind) ts = record { kind = kind; place = p } ∷ ts

lexes_more : (c : Bool) (p : Place) (a z : Text) (kind : Option Kind) → IsPiece c a z kind → (ts : List Token) (r : Text) → Lexes c (steps p a) z ts r → Lexes c p (a ++ z) (emitted p kind ts) r
lexes_more c p a z None (inl (b, same, d)) ts r h = subst (λ w. Lexes c p (w ++ z) ts r) (sym same) (Lexes.blank d (subst (λ w. Lexes c (steps p w) z ts r) same h))
lexes_more c p a z None (inr (o, e)) ts r h = Lexes.comment a z o e h
lexes_more c p a z (Some kind) (form, same, w, small, long, o) ts r h =
    subst (λ x. Lexes c p (a ++ z) (record { kind = x; place = p } ∷ ts) r) (sym same) (Lexes.next a z form w small long o h)

before_some : (p : Place) (kind : Option Kind) (o : Option (List Token)) (ts : List Token) → before p kind o ≡ Some ts → (us : List Token) × (o ≡ Some us) × (ts ≡ emitted p kind us)
before_some p None o ts e = (ts, e, refl)
before_some p (Some kind) None ts e = absurd (cc)
before_some p (Some kind) (Some us) ts e = (us, refl, sym (some_same e))

-- a piece at the front, and what stands behind it
sound_piece : (c : Bool) (b : ℕ) (z : Text) (p : Place) (ts : List Token)
    → ((n : ℕ) (a r : Text) → z ≡ a ++ r → length a ≡ n → (us : List Token) → scan c n (step p b) z ≡ Some us → Lexes c (steps (step p b) a) r us [])
    → (o : Option (Option Kind × ℕ)) → piece c (b ∷ z) ≡ o → scan_piece (λ n. scan c n (step p b) z) p o ≡ Some ts → Lexes c p (b ∷ z) ts []
sound_piece c b z p ts go None e f = absurd (cc)
sound_piece c b z p ts go (Some q) e f =
    let t : Cuts c (b ∷ z) q = cuts c (b ∷ z) q e in
    let g : (us : List Token) × (scan c (q.1 - 1) (step p b) z ≡ Some us) × (ts ≡ emitted p q.0 us) = before_some p q.0 _ ts f in
    at t.0 t.1 t.2 t.3 t.4 t.5 g.0 g.1 g.2
  where
    at : (a r : Text) → b ∷ z ≡ a ++ r → length a ≡ q.1 → 0 < q.1 → IsPiece c a r q.0 → (us : List Token) → scan c (q.1 - 1) (step p b) z ≡ Some us → ts ≡ emitted p q.0 us → Lexes c p (b ∷ z) ts []
    at [] r eq len pos is us sc same = absurd (omega arith)
    at (d ∷ a) r eq len pos is us sc same =
        let hd : b ≡ d = cc in
        let tl : z ≡ a ++ r = cc in
        let rest : Lexes c (steps (step p b) a) r us [] = go (q.1 - 1) a r tl (omega arith) us sc in
        subst (λ w. Lexes c p (b ∷ z) w []) (sym same) (subst (λ w. Lexes c p w (emitted p q.0 us) []) (sym eq)
        (lexes_more c p (d ∷ a) r q.0 is us [] (subst (λ w. Lexes c (steps (step p w) a) r us []) hd rest)))

sound_from : (c : Bool) (t : Text) (n : ℕ) (p : Place) (a r : Text) → t ≡ a ++ r → length a ≡ n → (ts : List Token) → scan c n p t ≡ Some ts → Lexes c (steps p a) r ts []
unfolding scan
sound_from c [] n p [] r e len ts f = let h : r ≡ [] = sym e in let g : ts ≡ [] = cc in subst (λ w. Lexes c p w ts []) e (subst (λ w. Lexes c p [] w []) (sym g) Lexes.here)
sound_from c [] n p (d ∷ a) r e len ts f = absurd (cc)
sound_from c (b ∷ z) zero p [] r e len ts f = subst (λ w. Lexes c p w ts []) e (sound_piece c b z p ts (λ n a r. sound_from c z n (step p b) a r) (piece c (b ∷ z)) refl f)
sound_from c (b ∷ z) zero p (d ∷ a) r e len ts f = absurd (omega arith)
sound_from c (b ∷ z) (suc n) p [] r e len ts f = absurd (omega arith)
sound_from c (b ∷ z) (suc n) p (d ∷ a) r e len ts f =
    let hd : b ≡ d = cc in
    let tl : z ≡ a ++ r = cc in
    subst (λ w. Lexes c (steps (step p w) a) r ts []) hd (sound_from c z n (step p b) a r tl (omega arith) ts f)

-- ---- the laws

-- what is scanned are the tokens of the text
pub sound : (c : Bool) (p : Place) (t : Text) (ts : List Token) → scan c 0 p t ≡ Some ts → Lexes c p t ts []
sound c p t ts e = sound_from c t 0 p [] t refl refl ts e

-- the tokens of the text are scanned
pub whole : (c : Bool) (p : Place) (t : Text) (ts : List Token) → Lexes c p t ts [] → scan c 0 p t ≡ Some ts
unfolding scan
whole c p t ts h = let g = complete h in g.1 ∙ prepended ts
  where
    prepended : (us : List Token) → prepend us (Some []) ≡ Some us
    prepended [] = refl
    prepended (u ∷ us) = rw (prepended us) refl

-- a text has one list of tokens at most
pub one_list : (c : Bool) (p : Place) (t : Text) (ts us : List Token) → Lexes c p t ts [] → Lexes c p t us [] → ts ≡ us
one_list c p t ts us h i = some_same (sym (whole c p t ts h) ∙ whole c p t us i)

-- a front of the tokens is at the front of the text
cut_here : (c : Bool) (p : Place) (z : Text) (front more : List Token) → [] ≡ front ++ more → (rest : Text) × Lexes c p z front rest
cut_here c p z [] more e = (z, Lexes.here)
cut_here c p z (u ∷ us) more e = absurd (cc)

cut_next : (c : Bool) (p : Place) (a z : Text) (ts : List Token) (form : Shape) → Written a form → fits form a ≡ true → Longest a z → opens_comment c (a ++ z) ≡ false
    → ((us more : List Token) → ts ≡ us ++ more → (rest : Text) × Lexes c (steps p a) z us rest)
    → (front more : List Token) → record { kind = kind_of form a; place = p } ∷ ts ≡ front ++ more → (rest : Text) × Lexes c p (a ++ z) front rest
cut_next c p a z ts form h small long o go [] more e = (a ++ z, Lexes.here)
cut_next c p a z ts form h small long o go (u ∷ us) more e =
    let hd : record { kind = kind_of form a; place = p } ≡ u = cc in
    let tl : ts ≡ us ++ more = cc in
    let g : (rest : Text) × Lexes c (steps p a) z us rest = go us more tl in
    (g.0, subst (λ v. Lexes c p (a ++ z) (v ∷ us) g.0) hd (Lexes.next a z form h small long o g.1))

pub cut : {c : Bool} {p : Place} {t : Text} {ts : List Token} {r : Text} → Lexes c p t ts r → (front more : List Token) → ts ≡ front ++ more → (rest : Text) × Lexes c p t front rest
cut {c = c} {p = p} {t = t} Lexes.here front more e = cut_here c p t front more e
cut (Lexes.blank b h) front more e = let g = cut h front more e in (g.0, Lexes.blank b g.1)
cut (Lexes.comment a z o e h) front more f = let g = cut h front more f in (g.0, Lexes.comment a z o e g.1)
cut {c = c} (Lexes.next {p = p} {ts = ts} a z form h small long o i) front more e = cut_next c p a z ts form h small long o (cut i) front more e

pub prepended_front : (us : List Token) (o : Option (List Token)) (ts : List Token) → prepend us o ≡ Some ts → (more : List Token) × (ts ≡ us ++ more)
prepended_front [] o ts e = (ts, refl)
prepended_front (u ∷ us) o ts e =
    let g : (vs : List Token) × (prepend us o ≡ Some vs) × (ts ≡ emitted u.place (Some u.kind) vs) = before_some u.place (Some u.kind) (prepend us o) ts e in
    let h : (more : List Token) × (g.0 ≡ us ++ more) = prepended_front us o g.0 g.1 in
    (h.0, g.2 ∙ ap (λ w. u ∷ w) h.1)
