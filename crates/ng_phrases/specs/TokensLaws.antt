-- Tokens and white space: the parsers and the relations are one.
use Rattle.std.proofs.Common.{◌≡◌, ℕ, zero, suc, ◌+◌, ◌-◌, ◌<◌, ◌≤◌, Bool, true, false, cond, List, [], ◌∷◌, ◌++◌, length, take, drop, refl, sym, ◌∙◌, ap, subst, append_assoc, arith, inl, inr, length-append}
use Rattle.std.specs.Prelude.{Option, Some, None, Ok, Err, ◌⊎◌, ◌==◌, nat_le, ◌&&◌, if◌then◌else◌}
use Rattle.std.specs.Option.{option_map}
use Rattle.std.proofs.Math.Seq.{take-append_seam, drop-append_seam}
use Rattle.std.proofs.lemmas.List.{take-append-drop, append_cancel_right}
use Rattle.ng_ast.specs.declared.Place.{Place}
use Rattle.ng_tokens.specs.declared.kinds.Shape.{Shape}
use Rattle.ng_tokens.specs.declared.kinds.Kind.{Kind}
use Rattle.ng_tokens.specs.declared.kinds.Token.{Token}
use Rattle.ng_tokens.specs.Lexis.{Text, is_blank, opens_comment, comment_len, step, steps, Written, kind_of, fits, Longest, Lexes}
use Rattle.ng_tokens.specs.Scan.{piece, shape, token_at}
use Rattle.ng_tokens.proofs.SignTable.{no_true}
use Rattle.ng_tokens.proofs.Shapes.{shape_is}
use Rattle.ng_tokens.proofs.Pieces.{cuts, Cuts, IsPiece, not_empty, no_blank, some_same}
use Rattle.ng_phrases.specs.Parser.{Readers, Stop, Outcome, Parser, and_then, Took, Sound, Gets, Means, Exact, Agree, Takes}
use Rattle.ng_phrases.specs.Closed.{nobody}
use Rattle.ng_phrases.specs.Tokens.{begins_gap, ReadsGap, ReadsToken, gap_by, gap_from, passed, parse_gap, token_by, parse_token}
use Rattle.ng_phrases.specs.ParserLaws.{steps-append, same_done, err_no_ok, ok_no_err, same_stop, then_ok, then_err}

-- ---- pieces

gap_blank : (b : ℕ) (z : Text) → is_blank b ≡ true → begins_gap (b ∷ z) ≡ true
gap_blank b z e = rw e refl

opens_no_blank : (b : ℕ) (z : Text) → opens_comment true (b ∷ z) ≡ true → is_blank b ≡ false
opens_no_blank b [] e = absurd (no_true e)
opens_no_blank b (d ∷ z) e = grind arith

gap_comment : (b : ℕ) (z : Text) → opens_comment true (b ∷ z) ≡ true → begins_gap (b ∷ z) ≡ true
gap_comment b z e = rw (opens_no_blank b z e) e

pub piece_blank : (b : ℕ) (z : Text) → is_blank b ≡ true → piece true (b ∷ z) ≡ Some (None, 1)
unfolding piece
piece_blank b z e = rw e refl

pub piece_comment : (b : ℕ) (z : Text) (n : ℕ) → opens_comment true (b ∷ z) ≡ true → comment_len (b ∷ z) ≡ Some n → piece true (b ∷ z) ≡ Some (None, n)
unfolding piece
piece_comment b z n e f = rw (opens_no_blank b z e) (rw e (rw f refl))

pub piece_token : (b : ℕ) (a z : Text) (form : Shape) → Written (b ∷ a) form → fits form (b ∷ a) ≡ true → Longest (b ∷ a) z → opens_comment true ((b ∷ a) ++ z) ≡ false
    → piece true ((b ∷ a) ++ z) ≡ Some (Some (kind_of form (b ∷ a)), length (b ∷ a))
unfolding piece
piece_token b a z form h small long o = rw (no_blank form b a h) (rw o (rw (shape_is (b ∷ a) z form h long) (rw (take-append_seam (b ∷ a) z) (rw small refl))))

-- a piece that is no token is white space or a comment
pub lexes_gap : (p : Place) (a z : Text) → IsPiece true a z None → (ts : List Token) (r : Text) → Lexes true (steps p a) z ts r → Lexes true p (a ++ z) ts r
lexes_gap p a z (inl (b, same, d)) ts r h = subst (λ w. Lexes true p (w ++ z) ts r) (sym same) (Lexes.blank d (subst (λ w. Lexes true (steps p w) z ts r) same h))
lexes_gap p a z (inr (o, e)) ts r h = Lexes.comment a z o e h

-- where white space or a comment begins there is no token
no_token : (b : ℕ) (z : Text) (kind : Kind) (n : ℕ) → begins_gap (b ∷ z) ≡ true → piece true (b ∷ z) ≡ Some (Some kind, n) → ⊥
unfolding piece
no_token b z kind n e h = by (is_blank b) refl (opens_comment true (b ∷ z)) refl e h
  where
    none_some : (m : ℕ) → ◌≡◌ {A = Option (Option Kind × ℕ)} (Some (None, m)) (Some (Some kind, n)) → ⊥
    none_some m h = let k : ◌≡◌ {A = Option Kind} None (Some kind) = ap (λ (q : Option Kind × ℕ). q.0) (some_same h) in cc

    by : (v : Bool) → is_blank b ≡ v → (w : Bool) → opens_comment true (b ∷ z) ≡ w → cond v true w ≡ true
        → cond v (Some (None, 1)) (cond w (Rattle.ng_tokens.specs.Scan.gap (comment_len (b ∷ z))) (token_at (b ∷ z) (shape (b ∷ z)))) ≡ Some (Some kind, n) → ⊥
    by true d w o e h = none_some 1 h
    by false d true o e h = none (comment_len (b ∷ z)) h
      where
        none : (c : Option ℕ) → Rattle.ng_tokens.specs.Scan.gap c ≡ Some (Some kind, n) → ⊥
        none None h = cc
        none (Some m) h = none_some m h
    by false d false o e h = no_true e

-- ---- white space and comments

-- The gap over what is left of a piece.
pub gap_over : (a z : Text) (n : ℕ) → n ≡ length a → gap_from n (a ++ z) ≡ option_map (λ m. n + m) (gap_from 0 z)
unfolding gap_from
gap_over [] z n e = ap (λ m. gap_from m z) e ∙ same (gap_from 0 z)
  where
    same : (o : Option ℕ) → o ≡ option_map (λ m. n + m) o
    same None = refl
    same (Some m) = let k : m ≡ n + m = omega arith in ap Some k
gap_over (b ∷ a) z zero e = absurd (omega arith)
gap_over (b ∷ a) z (suc n) e = ap (option_map suc) (gap_over a z n (omega arith)) ∙ same (gap_from 0 z)
  where
    same : (o : Option ℕ) → option_map suc (option_map (λ m. n + m) o) ≡ option_map (λ m. suc n + m) o
    same None = refl
    same (Some m) = let k : suc (n + m) ≡ suc n + m = omega arith in ap Some k

abbrev Gaps : Text → ℕ → Type 0
Gaps t n = ((p : Place) → Lexes true p t [] (drop n t)) × (begins_gap (drop n t) ≡ false)

gap_piece : (b : ℕ) (z : Text) (n : ℕ) → ((m k : ℕ) (a r : Text) → z ≡ a ++ r → length a ≡ m → gap_from m z ≡ Some k → (i : ℕ) × (k ≡ m + i) × Gaps r i)
    → (o : Option (Option Kind × ℕ)) → piece true (b ∷ z) ≡ o → begins_gap (b ∷ z) ≡ true → gap_by (λ m. option_map suc (gap_from m z)) o ≡ Some n → Gaps (b ∷ z) n
gap_piece b z n go None e g h = absurd (cc)
gap_piece b z n go (Some (Some kind, m)) e g h = absurd (no_token b z kind m g e)
gap_piece b z n go (Some (None, m)) e g h = let c : Cuts true (b ∷ z) (None, m) = cuts true (b ∷ z) (None, m) e in at c.0 c.1 c.2 c.3 c.4 c.5
  where
    some_suc : (o : Option ℕ) → option_map suc o ≡ Some n → (k : ℕ) × (o ≡ Some k) × (n ≡ suc k)
    some_suc None e = absurd (cc)
    some_suc (Some k) e = (k, refl, cc)

    at : (a r : Text) → b ∷ z ≡ a ++ r → length a ≡ m → 0 < m → IsPiece true a r None → Gaps (b ∷ z) n
    at [] r eq len pos is = absurd (omega arith)
    at (d ∷ a) r eq len pos is =
        let tl : z ≡ a ++ r = cc in
        let s : (k : ℕ) × (gap_from (m - 1) z ≡ Some k) × (n ≡ suc k) = some_suc (gap_from (m - 1) z) h in
        let i : (i : ℕ) × (s.0 ≡ (m - 1) + i) × Gaps r i = go (m - 1) s.0 a r tl (omega arith) s.1 in
        let total : n ≡ length (d ∷ a) + i.0 = omega (arith, i.1, s.2, len) in
        let back : drop n (b ∷ z) ≡ drop i.0 r = rest (d ∷ a) r i.0 n total (b ∷ z) eq in
        (λ p. subst (λ w. Lexes true p (b ∷ z) [] w) (sym back) (subst (λ w. Lexes true p w [] (drop i.0 r)) (sym eq) (lexes_gap p (d ∷ a) r is [] (drop i.0 r) (i.2.0 (steps p (d ∷ a))))), ap begins_gap back ∙ i.2.1)
      where
        rest : (x y : Text) (i n : ℕ) → n ≡ length x + i → (w : Text) → w ≡ x ++ y → drop n w ≡ drop i y
        rest [] y i n e w f = let k : n ≡ i = omega arith in rw (k, f) refl
        rest (v ∷ x) y i zero e w f = absurd (omega arith)
        rest (v ∷ x) y i (suc n) e w f = ap (drop (suc n)) f ∙ rest x y i n (omega arith) (x ++ y) refl

gap_is : (t : Text) (m k : ℕ) (a r : Text) → t ≡ a ++ r → length a ≡ m → gap_from m t ≡ Some k → (i : ℕ) × (k ≡ m + i) × Gaps r i
unfolding gap_from
gap_is [] m k [] [] e len h = let z : k ≡ 0 = cc in (0, omega arith, (λ p. Lexes.here, refl))
gap_is [] m k [] (b ∷ r) e len h = absurd (cc)
gap_is [] m k (b ∷ a) r e len h = absurd (cc)
gap_is (b ∷ z) zero k [] r e len h = by (λ m n a r. gap_is z m n a r) (begins_gap (b ∷ z)) refl h
  where
    by : ((m n : ℕ) (a w : Text) → z ≡ a ++ w → length a ≡ m → gap_from m z ≡ Some n → (i : ℕ) × (n ≡ m + i) × Gaps w i)
        → (v : Bool) → begins_gap (b ∷ z) ≡ v → cond v (gap_by (λ n. option_map suc (gap_from n z)) (piece true (b ∷ z))) (Some 0) ≡ Some k → (i : ℕ) × (k ≡ 0 + i) × Gaps r i
    by go false g h = let n : k ≡ 0 = cc in (0, omega arith, subst (λ w. Gaps w 0) e (λ p. Lexes.here, g))
    by go true g h = (k, omega arith, subst (λ w. Gaps w k) e (gap_piece b z k go (piece true (b ∷ z)) refl g h))
gap_is (b ∷ z) zero k (d ∷ a) r e len h = absurd (omega arith)
gap_is (b ∷ z) (suc m) k [] r e len h = absurd (omega arith)
gap_is (b ∷ z) (suc m) k (d ∷ a) r e len h = by (λ n g. gap_is z m n a r (cc) (omega arith) g) (gap_from m z) refl h
  where
    by : ((n : ℕ) → gap_from m z ≡ Some n → (i : ℕ) × (n ≡ m + i) × Gaps r i) → (o : Option ℕ) → gap_from m z ≡ o → option_map suc o ≡ Some k → (i : ℕ) × (k ≡ suc m + i) × Gaps r i
    by go None g f = absurd (cc)
    by go (Some n) g f =
        let i : (i : ℕ) × (n ≡ m + i) × Gaps r i = go n g in
        let s : k ≡ suc n = cc in
        (i.0, omega (arith, i.1), i.2)

pub gap_none : (t : Text) → begins_gap t ≡ false → gap_from 0 t ≡ Some 0
unfolding gap_from
gap_none [] g = refl
gap_none (b ∷ z) g = rw g refl

pub no_comment : (z : Text) → opens_comment true z ≡ true → comment_len z ≡ Some 0 → ⊥
no_comment [] o e = absurd (cc)
no_comment (b ∷ z) o e = let k : Cuts true (b ∷ z) (None, 0) = cuts true (b ∷ z) (None, 0) (piece_comment b z 0 o e) in omega (arith, k.4)

counts_more : (b : ℕ) (a z x : Text) → piece true ((b ∷ a) ++ z) ≡ Some (None, length (b ∷ a)) → begins_gap ((b ∷ a) ++ z) ≡ true → gap_from 0 z ≡ Some (length x)
    → gap_from 0 ((b ∷ a) ++ z) ≡ Some (length ((b ∷ a) ++ x))
unfolding gap_from
counts_more b a z x e g h =
    let n : length (b ∷ a) - 1 ≡ length a = omega arith in
    let m : suc (length a + length x) ≡ length ((b ∷ a) ++ x) = omega (arith, length-append (b ∷ a) x) in
    rw (g, e) (ap (option_map suc) (gap_over a z (length (b ∷ a) - 1) n ∙ ap (option_map (λ m. (length (b ∷ a) - 1) + m)) h ∙ ap (λ i. Some (i + length x)) n) ∙ ap Some m)

-- what is read as white space and comments is what the function counts
gap_counts : {p : Place} {t r : Text} {ts : List Token} → Lexes true p t ts r → ts ≡ [] → begins_gap r ≡ false → (x : Text) × (t ≡ x ++ r) × (gap_from 0 t ≡ Some (length x))
gap_counts {t = t} Lexes.here e g = ([], refl, gap_none t g)
gap_counts (Lexes.blank {b = b} {z = z} d h) e g =
    let i = gap_counts h e g in
    (b ∷ i.0, ap (λ w. b ∷ w) i.1, counts_more b [] z i.0 (piece_blank b z d) (gap_blank b z d) i.2)
gap_counts (Lexes.comment [] z o c h) e g = absurd (no_comment z o c)
gap_counts {r = r} (Lexes.comment (b ∷ a) z o c h) e g =
    let i = gap_counts h e g in
    ((b ∷ a) ++ i.0, ap (λ w. (b ∷ a) ++ w) i.1 ∙ sym (append_assoc (b ∷ a) i.0 r), counts_more b a z i.0 (piece_comment b (a ++ z) (length (b ∷ a)) o c) (gap_comment b (a ++ z) o) i.2)
gap_counts (Lexes.next a z form w small long o h) e g = absurd (cc)

-- so many bytes at the front are a text
pub passed_front : {Q A : Type 0} (a : A) (n : ℕ) (p : Place) (x z : Text) → n ≡ length x → ◌≡◌ {A = Outcome Q A} (passed a (Some n) p (x ++ z)) (Ok (a, steps p x, z))
passed_front a n p x z e = rw (e, take-append_seam x z, drop-append_seam x z) refl

gap_takes : {Q : Type 0} (p : Place) (t : Text) (v : Unit {0} × Place × Text) → (o : Option ℕ) → gap_from 0 t ≡ o → ◌≡◌ {A = Outcome Q (Unit {0})} (passed tt o p t) (Ok v) → Took ReadsGap p t v.0 v.1 v.2
gap_takes p t v None h e = absurd (err_no_ok Stop.Syntax v e)
gap_takes p t v (Some n) h e =
    let i : (i : ℕ) × (n ≡ 0 + i) × Gaps t i = gap_is t 0 n [] t refl refl h in
    let same : n ≡ i.0 = omega (arith, i.1) in
    let g : Gaps t n = subst (Gaps t) (sym same) i.2 in
    let all : take n t ++ drop n t ≡ t = take-append-drop n t in
    subst (λ (y : Unit {0} × Place × Text). Took ReadsGap p t y.0 y.1 y.2) (same_done _ _ e)
    (record { text = take n t; parts = sym all; place = refl; reads = (subst (λ w. Lexes true p w [] (drop n t)) (sym all) (g.0 p), g.1) })

gap_gets : (R : Readers) (p : Place) (x z : Text) (u : Unit {0}) → ReadsGap p x z u → ◌≡◌ {A = Outcome R.Question (Unit {0})} (parse_gap p (x ++ z)) (Ok (u, steps p x, z))
unfolding parse_gap
gap_gets R p x z u h =
    let c : (y : Text) × (x ++ z ≡ y ++ z) × (gap_from 0 (x ++ z) ≡ Some (length y)) = gap_counts h.0 refl h.1 in
    let same : x ≡ c.0 = append_cancel_right x c.0 z c.1 in
    ap (λ o. passed tt o p (x ++ z)) c.2 ∙ passed_front tt (length c.0) p x z (ap length (sym same))

pub gets_done : (R : Readers) {A : Type 0} (v : A × Place × Text) (o : Outcome R.Question A) → o ≡ Ok v → Gets R v o
gets_done R {A} v o e = let P : Outcome R.Question A → Type 0 = λ y. Gets R v y in subst P (sym e) refl

gap_stops : (R : Readers) (p : Place) (t : Text) (o : Option ℕ) (e : Stop R.Question) → ◌≡◌ {A = Outcome R.Question (Unit {0})} (passed tt o p t) (Err e) → Means R ⊥ e
gap_stops R p t None e h = subst (Means R ⊥) (same_stop Stop.Syntax e h) tt
gap_stops R p t (Some n) e h = absurd (ok_no_err e _ h)

exact_gap_sound : {Q : Type 0} → Sound {Q = Q} ReadsGap parse_gap
unfolding parse_gap
exact_gap_sound = record { takes = λ p t u q z e. gap_takes p t (u, q, z) (gap_from 0 t) refl e }

pub exact_gap : (R : Readers) → Exact R ReadsGap (λ p t. ⊥) parse_gap
unfolding parse_gap
exact_gap R = record {
  sound = exact_gap_sound;
  calm = record { within = λ p t u q z e h. h };
  complete = record { gets = λ p x z u h. gets_done R (u, steps p x, z) (parse_gap p (x ++ z)) (gap_gets R p x z u h) };
  stops = record { means = λ p t e h. gap_stops R p t (gap_from 0 t) e h };
}

-- ---- tokens

step_byte : (p : Place) (b : ℕ) → (step p b).byte ≡ p.byte + 1
step_byte p b = by (b == 10) (nat_le 128 b && nat_le b 191)
  where
    by : (v w : Bool) → (if v then record { line = p.line + 1; column = 1; byte = p.byte + 1 } else (if w then record p { byte = p.byte + 1 } else record p { column = p.column + 1; byte = p.byte + 1 })).byte ≡ p.byte + 1
    by true w = refl
    by false true = refl
    by false false = refl

steps_byte : (p : Place) (x : Text) → (steps p x).byte ≡ p.byte + length x
steps_byte p [] = omega arith
steps_byte p (b ∷ x) = omega (arith, steps_byte (step p b) x, step_byte p b)

-- no token stands before the place
later_byte : {p : Place} {t z : Text} {ts : List Token} → Lexes true p t ts z → (k : Token) (us : List Token) → ts ≡ k ∷ us → p.byte ≤ k.place.byte
later_byte Lexes.here k us e = absurd (cc)
later_byte (Lexes.blank {p = p} {b = b} d h) k us e = omega (arith, later_byte h k us e, step_byte p b)
later_byte {p = p} (Lexes.comment a z o c h) k us e = omega (arith, later_byte h k us e, steps_byte p a)
later_byte {p = p} (Lexes.next a z form w small long o h) k us e = let same : record { kind = kind_of form a; place = p } ≡ k = cc in omega (arith, ap (λ (v : Token). v.place.byte) same)

-- a token that stands at the place, and what comes after it
abbrev Stands : Place → Text → Token → Text → Type 0
Stands p t k z = (a r : Text) × (form : Shape) × (t ≡ a ++ r) × Written a form × (fits form a ≡ true) × Longest a r × (opens_comment true (a ++ r) ≡ false) × (k ≡ record { kind = kind_of form a; place = p })
    × Lexes true (steps p a) r [] z

stands : {p : Place} {t z : Text} {ts : List Token} → Lexes true p t ts z → (k : Token) → ts ≡ k ∷ [] → k.place ≡ p → Stands p t k z
stands Lexes.here k e at = absurd (cc)
stands {p = p} (Lexes.blank {b = b} d h) k e at = absurd (omega (arith, later_byte h k [] e, step_byte p b, ap (λ (q : Place). q.byte) at))
stands (Lexes.comment [] z o c h) k e at = absurd (no_comment z o c)
stands {p = p} (Lexes.comment (b ∷ a) z o c h) k e at = absurd (omega (arith, later_byte h k [] e, steps_byte p (b ∷ a), ap (λ (q : Place). q.byte) at))
stands {p = p} {z = z} (Lexes.next {ts = ts} a r form w small long o h) k e at =
    let none : ts ≡ [] = cc in
    let same : record { kind = kind_of form a; place = p } ≡ k = cc in
    (a, r, form, refl, w, small, long, o, sym same, subst (λ us. Lexes true (steps p a) r us z) none h)

token_rest : (p : Place) (t a r : Text) (kind : Kind) (form : Shape) (v : Token × Place × Text) → t ≡ a ++ r → kind ≡ kind_of form a → Written a form → fits form a ≡ true → Longest a r → opens_comment true (a ++ r) ≡ false
    → (u : Unit {0} × Place × Text) → Took ReadsGap (steps p a) r u.0 u.1 u.2 → ◌≡◌ {A = Token × Place × Text} (record { kind = kind; place = p }, u.1, u.2) v → Took ReadsToken p t v.0 v.1 v.2
token_rest p t a r kind form v parts is w small long o u h e =
    let front : (a ++ h.text) ++ u.2 ≡ a ++ r = append_assoc a h.text u.2 ∙ ap (λ (y : Text). a ++ y) (sym h.parts) in
    let rest : Lexes true (steps p a) r [] u.2 = subst (λ (y : Text). Lexes true (steps p a) y [] u.2) (sym h.parts) h.reads.0 in
    let lexes : Lexes true p (a ++ r) (record { kind = kind; place = p } ∷ []) u.2 =
    subst (λ (k : Kind). Lexes true p (a ++ r) (record { kind = k; place = p } ∷ []) u.2) (sym is) (Lexes.next a r form w small long o rest) in
    subst (λ (y : Token × Place × Text). Took ReadsToken p t y.0 y.1 y.2) e
    (record {
      text = a ++ h.text;
      parts = parts ∙ sym front;
      place = h.place ∙ sym (steps-append p a h.text);
      reads = (subst (λ (y : Text). Lexes true p y (record { kind = kind; place = p } ∷ []) u.2) (sym front) lexes, refl, h.reads.1);
    })

token_takes : {Q : Type 0} (p : Place) (t : Text) (v : Token × Place × Text) (o : Option (Option Kind × ℕ)) → piece true t ≡ o → ◌≡◌ {A = Outcome Q Token} (token_by o p t) (Ok v) → Took ReadsToken p t v.0 v.1 v.2
unfolding parse_gap
token_takes p t v None h e = absurd (err_no_ok Stop.Syntax v e)
token_takes p t v (Some (None, n)) h e = absurd (err_no_ok Stop.Syntax v e)
token_takes {Q} p t v (Some (Some kind, n)) h e =
    let c : Cuts true t (Some kind, n) = cuts true t (Some kind, n) h in
    let front : take n t ≡ c.0 = ap (take n) c.2 ∙ ap (λ m. take m (c.0 ++ c.1)) (sym c.3) ∙ take-append_seam c.0 c.1 in
    let back : drop n t ≡ c.1 = ap (drop n) c.2 ∙ ap (λ m. drop m (c.0 ++ c.1)) (sym c.3) ∙ drop-append_seam c.0 c.1 in
    let i = then_ok (parse_gap (steps p (take n t)) (drop n t)) (λ u q z. Ok (record { kind = kind; place = p }, q, z)) v e in
    let g : Took ReadsGap (steps p (take n t)) (drop n t) i.0.0 i.0.1 i.0.2 = (exact_gap_sound {Q = Q}).takes (steps p (take n t)) (drop n t) i.0.0 i.0.1 i.0.2 i.1 in
    let P : Text → Text → Type 0 = λ (x y : Text). Took ReadsGap (steps p x) y i.0.0 i.0.1 i.0.2 in
    token_rest p t c.0 c.1 kind c.5.0 v c.2 c.5.1 c.5.2 c.5.3 c.5.4 c.5.5 i.0 (subst (λ (x : Text). P x c.1) front (subst (λ (y : Text). P (take n t) y) back g)) (same_done _ _ i.2)

token_gets : (R : Readers) (p : Place) (x z : Text) (k : Token) → ReadsToken p x z k → ◌≡◌ {A = Outcome R.Question Token} (parse_token p (x ++ z)) (Ok (k, steps p x, z))
unfolding parse_token
token_gets R p x z k h = let s : Stands p (x ++ z) k z = stands h.0 k refl h.1 in at s.0 s.1 s.2 s.3 s.4 s.5 s.6 s.7 s.8 s.9
  where
    at : (a r : Text) (form : Shape) → x ++ z ≡ a ++ r → Written a form → fits form a ≡ true → Longest a r → opens_comment true (a ++ r) ≡ false → k ≡ record { kind = kind_of form a; place = p } → Lexes true (steps p a) r [] z
        → ◌≡◌ {A = Outcome R.Question Token} (token_by (piece true (x ++ z)) p (x ++ z)) (Ok (k, steps p x, z))
    at [] r form parts w small long o is rest = absurd (not_empty form w)
    at (b ∷ a) r form parts w small long o is rest =
        let c : (y : Text) × (r ≡ y ++ z) × (gap_from 0 r ≡ Some (length y)) = gap_counts rest refl h.2 in
        let whole : x ≡ (b ∷ a) ++ c.0 = append_cancel_right x ((b ∷ a) ++ c.0) z (parts ∙ ap (λ (y : Text). (b ∷ a) ++ y) c.1 ∙ sym (append_assoc (b ∷ a) c.0 z)) in
        let gap_is_so : ◌≡◌ {A = Outcome R.Question (Unit {0})} (parse_gap (steps p (b ∷ a)) r) (Ok (tt, steps (steps p (b ∷ a)) c.0, z)) =
        ap (parse_gap (steps p (b ∷ a))) c.1 ∙ gap_gets R (steps p (b ∷ a)) c.0 z tt (subst (λ (y : Text). Lexes true (steps p (b ∷ a)) y [] z) c.1 rest, h.2) in
        let end : steps (steps p (b ∷ a)) c.0 ≡ steps p x = sym (steps-append p (b ∷ a) c.0) ∙ ap (steps p) (sym whole) in
        ap (λ (y : Text). token_by (piece true y) p y) parts
        ∙ ap (λ o. token_by o p ((b ∷ a) ++ r)) (piece_token b a r form w small long o)
        ∙ ap (λ (y : Text). and_then (parse_gap (steps p y) (drop (length (b ∷ a)) ((b ∷ a) ++ r))) (λ u q w. Ok (record { kind = kind_of form (b ∷ a); place = p }, q, w))) (take-append_seam (b ∷ a) r)
        ∙ ap (λ (y : Text). and_then (parse_gap (steps p (b ∷ a)) y) (λ u q w. Ok (record { kind = kind_of form (b ∷ a); place = p }, q, w))) (drop-append_seam (b ∷ a) r)
        ∙ ap (λ o. and_then o (λ u q w. Ok (record { kind = kind_of form (b ∷ a); place = p }, q, w))) gap_is_so
        ∙ ap (λ (q : Place). let v : Outcome R.Question Token = Ok (record { kind = kind_of form (b ∷ a); place = p }, q, z) in v) end
        ∙ ap (λ (t : Token). let v : Outcome R.Question Token = Ok (t, steps p x, z) in v) (sym is)

token_stops : (R : Readers) (p : Place) (t : Text) (o : Option (Option Kind × ℕ)) (e : Stop R.Question) → ◌≡◌ {A = Outcome R.Question Token} (token_by o p t) (Err e) → Means R ⊥ e
token_stops R p t None e h = subst (Means R ⊥) (same_stop Stop.Syntax e h) tt
token_stops R p t (Some (None, n)) e h = subst (Means R ⊥) (same_stop Stop.Syntax e h) tt
token_stops R p t (Some (Some kind, n)) e h = by (then_err (parse_gap (steps p (take n t)) (drop n t)) (λ u q z. Ok (record { kind = kind; place = p }, q, z)) e h)
  where
    by : (parse_gap {Q = R.Question} (steps p (take n t)) (drop n t) ≡ Err e) ⊎ ((u : Unit {0} × Place × Text) × (parse_gap {Q = R.Question} (steps p (take n t)) (drop n t) ≡ Ok u) × (◌≡◌ {A = Outcome R.Question Token} (Ok (record { kind = kind; place = p }, u.1, u.2)) (Err e))) → Means R ⊥ e
    by (inl l) = (exact_gap R).stops.means (steps p (take n t)) (drop n t) e l
    by (inr m) = absurd (ok_no_err e _ m.2)

pub exact_token : (R : Readers) → Exact R ReadsToken (λ p t. ⊥) parse_token
unfolding parse_token
exact_token R = record {
  sound = record { takes = λ p t k q z e. token_takes p t (k, q, z) (piece true t) refl e };
  calm = record { within = λ p t k q z e h. h };
  complete = record { gets = λ p x z k h. gets_done R (k, steps p x, z) (parse_token p (x ++ z)) (token_gets R p x z k h) };
  stops = record { means = λ p t e h. token_stops R p t (piece true t) e h };
}

no_front : (x y : Text) → [] ≡ x ++ y → x ≡ []
no_front [] y e = refl
no_front (b ∷ x) y e = absurd (cc)

pub token_takes_some : Takes ReadsToken
token_takes_some p x z k h e =
    let s : Stands p (x ++ z) k z = stands h.0 k refl h.1 in
    let c : (y : Text) × (s.1 ≡ y ++ z) × (gap_from 0 s.1 ≡ Some (length y)) = gap_counts s.9 refl h.2 in
    let whole : x ≡ s.0 ++ c.0 = append_cancel_right x (s.0 ++ c.0) z (s.3 ∙ ap (λ (y : Text). s.0 ++ y) c.1 ∙ sym (append_assoc s.0 c.0 z)) in
    not_empty s.2 (subst (λ (y : Text). Written y s.2) (no_front s.0 c.0 (sym e ∙ whole)) s.4)

-- ---- at most one reading

-- what a parser takes wherever it is read is one
pub agree_taken : {Q A : Type 0} (r : Place → Text → Text → A → Type 0) (f : Parser Q A) → ((p : Place) (x z : Text) (a : A) → r p x z a → f p (x ++ z) ≡ Ok (a, steps p x, z)) → Agree r r
agree_taken {A = A} r f gets = record {
  same = λ p x z y w a b h i e.
      let same : ◌≡◌ {A = A × Place × Text} (a, steps p x, z) (b, steps p y, w) = same_done _ _ (sym (gets p x z a h) ∙ ap (f p) e ∙ gets p y w b i) in
      let rest : z ≡ w = ap (λ (v : A × Place × Text). v.2) same in
      (append_cancel_right x y w (ap (λ (v : Text). x ++ v) (sym rest) ∙ e), ap (λ (v : A × Place × Text). v.0) same);
}

pub agree_gap : Agree ReadsGap ReadsGap
agree_gap = agree_taken ReadsGap (parse_gap {Q = ⊥}) (gap_gets nobody)

pub agree_token : Agree ReadsToken ReadsToken
agree_token = agree_taken ReadsToken (parse_token {Q = ⊥}) (token_gets nobody)
