-- What is read before a sign ends where the scan for it does.
use Rattle.std.proofs.Common.{◌≡◌, ℕ, zero, suc, ◌+◌, ◌-◌, ◌<◌, Bool, true, false, cond, List, [], ◌∷◌, ◌++◌, length, drop, refl, sym, ◌∙◌, ap, subst, append_assoc, arith, inl, inr, length-append}
use Rattle.std.specs.Prelude.{Option, Some, None, ◌⊎◌, ◌==◌}
use Rattle.std.specs.Option.{option_map}
use Rattle.std.specs.List.{prefix_len}
use Rattle.std.proofs.lemmas.List.{append_cancel_right}
use denote.Enum.Bare.{same_true}
use Rattle.ng_tokens.specs.contracts.kinds.Sign.{the_type}
use Rattle.std.proofs.Common.{rules}
use Rattle.ng_ast.specs.declared.Place.{Place}
use Rattle.ng_tokens.specs.declared.kinds.Sign.{Sign}
use Rattle.ng_tokens.specs.declared.kinds.Sign.TheVariants as s
use Rattle.ng_tokens.specs.declared.kinds.Shape.{Shape}
use Rattle.ng_tokens.specs.declared.kinds.Shape.TheVariants as form
use Rattle.ng_tokens.specs.declared.kinds.Kind.{Kind}
use Rattle.ng_tokens.specs.declared.kinds.Kind.TheVariants as k
use Rattle.ng_tokens.specs.declared.kinds.Token.{Token}
use Rattle.ng_tokens.specs.Lexis.{Text, spelling, in_line, closes, closed, comment_len, opens_comment, step, steps, Written, kind_of, Longest, Lexes}
use Rattle.ng_tokens.specs.Scan.{piece, shape, signs, scan, before, scan_piece}
use Rattle.ng_tokens.proofs.SignTable.{no_true}
use Rattle.ng_tokens.proofs.Pieces.{cuts, Cuts, IsPiece, not_empty, some_same}
use Rattle.ng_exprs.specs.Ends.{is_zero}
use Rattle.ng_exprs.specs.Grammar.{Tokens}
use Rattle.ng_exprs.specs.Limits.{after, opens}
use Rattle.ng_phrases.specs.Words.{same_sign, is_sign}
use Rattle.ng_phrases.specs.TokensLaws.{piece_blank, piece_comment, piece_token, no_comment, lexes_gap}
use Rattle.ng_declare.specs.Ends.{Comes, later, ends_by, end_by, end_from, end_of}

-- ---- the scan over tokens

later_suc : (n : ℕ) (o : Option ℕ) → option_map suc (later n o) ≡ later (suc n) o
later_suc n None = refl
later_suc n (Some m) = let e : suc (n + m) ≡ suc n + m = omega arith in ap Some e

pub later_none : (o : Option ℕ) → later 0 o ≡ o
later_none None = refl
later_none (Some m) = let e : 0 + m ≡ m = omega arith in ap Some e

pub later_more : (m n : ℕ) (o : Option ℕ) → later m (later n o) ≡ later (m + n) o
later_more m n None = refl
later_more m n (Some i) = let e : m + (n + i) ≡ (m + n) + i = omega arith in ap Some e

-- over the bytes that are left of a piece
end_over : (x : Sign) (d : ℕ) (a z : Text) (n : ℕ) → n ≡ length a → end_from x d n (a ++ z) ≡ later (length a) (end_from x d 0 z)
unfolding end_from
end_over x d [] z n e = ap (λ m. end_from x d m z) e ∙ sym (later_none (end_from x d 0 z))
end_over x d (b ∷ a) z zero e = absurd (omega arith)
end_over x d (b ∷ a) z (suc n) e = ap (option_map suc) (end_over x d a z n (omega arith)) ∙ later_suc (length a) (end_from x d 0 z)

-- none of the tokens is the sign where no bracket is open
abbrev pub NoEnd : Sign → ℕ → Tokens → Type 0
NoEnd x d [] = Unit {0}
NoEnd x d (t ∷ ts) = (ends_by x t.kind d ≡ false) × NoEnd x (after t.kind d) ts

pub end_gap : (x : Sign) (d b : ℕ) (a z : Text) → piece true ((b ∷ a) ++ z) ≡ Some (None, length (b ∷ a)) → end_from x d 0 ((b ∷ a) ++ z) ≡ later (length (b ∷ a)) (end_from x d 0 z)
unfolding end_from
end_gap x d b a z e = rw e (ap (option_map suc) (end_over x d a z (length (b ∷ a) - 1) (omega arith)) ∙ later_suc (length a) _)

pub end_token : (x : Sign) (d b : ℕ) (a z : Text) (kind : Kind) → piece true ((b ∷ a) ++ z) ≡ Some (Some kind, length (b ∷ a)) → ends_by x kind d ≡ false
    → end_from x d 0 ((b ∷ a) ++ z) ≡ later (length (b ∷ a)) (end_from x (after kind d) 0 z)
unfolding end_from
end_token x d b a z kind e f = rw e (rw f (ap (option_map suc) (end_over x (after kind d) a z (length (b ∷ a) - 1) (omega arith)) ∙ later_suc (length a) _))

-- the scan over tokens none of which ends it
abbrev Over : Sign → ℕ → Tokens → Text → Text → Type 0
Over x d ts t z = (front : Text) × (t ≡ front ++ z) × (end_from x d 0 t ≡ later (length front) (end_from x (opens d ts) 0 z))

over_more : (x : Sign) (d e : ℕ) (ts : Tokens) (a y z : Text) → end_from x d 0 (a ++ y) ≡ later (length a) (end_from x e 0 y) → (front : Text) → y ≡ front ++ z → end_from x e 0 y ≡ later (length front) (end_from x (opens e ts) 0 z)
    → (whole_front : Text) × (a ++ y ≡ whole_front ++ z) × (end_from x d 0 (a ++ y) ≡ later (length whole_front) (end_from x (opens e ts) 0 z))
over_more x d e ts a y z h front parts i =
    (a ++ front, ap (λ w. a ++ w) parts ∙ sym (append_assoc a front z), h ∙ ap (later (length a)) i ∙ later_more (length a) (length front) _ ∙ ap (λ m. later m (end_from x (opens e ts) 0 z)) (sym (len a front)))
  where
    len : (a y : Text) → length (a ++ y) ≡ length a + length y
    len a y = simp length-append refl

pub over_tokens : {p : Place} {t z : Text} {ts : List Token} → Lexes true p t ts z → (x : Sign) (d : ℕ) → NoEnd x d ts → (front : Text) × (t ≡ front ++ z) × (end_from x d 0 t ≡ later (length front) (end_from x (opens d ts) 0 z))
over_tokens {t = t} Lexes.here x d n = ([], refl, sym (later_none (end_from x d 0 t)))
over_tokens {z = z} (Lexes.blank {b = b} {z = y} {ts = ts} f h) x d n =
    let i = over_tokens h x d n in
    over_more x d d ts (b ∷ []) y z (end_gap x d b [] y (piece_blank b y f)) i.0 i.1 i.2
over_tokens (Lexes.comment [] y o f h) x d n = absurd (no_comment y o f)
over_tokens {z = z} (Lexes.comment {ts = ts} (b ∷ a) y o f h) x d n =
    let i = over_tokens h x d n in
    over_more x d d ts (b ∷ a) y z (end_gap x d b a y (piece_comment b (a ++ y) (length (b ∷ a)) o f)) i.0 i.1 i.2
over_tokens (Lexes.next [] y shape_of w small long o h) x d n = absurd (not_empty shape_of w)
over_tokens {z = z} (Lexes.next {ts = ts} (b ∷ a) y shape_of w small long o h) x d n =
    let i = over_tokens h x (after (kind_of shape_of (b ∷ a)) d) n.1 in
    over_more x d (after (kind_of shape_of (b ∷ a)) d) ts (b ∷ a) y z (end_token x d b a y (kind_of shape_of (b ∷ a)) (piece_token b a y shape_of w small long o) n.0) i.0 i.1 i.2

-- the two signs that end something
abbrev pub IsEnd : Sign → Type 0
IsEnd x = (x ≡ s.Semicolon) ⊎ (x ≡ s.CloseBrace)

semicolon_here : (w : Text) → end_from s.Semicolon 0 0 (59 ∷ w) ≡ Some 0
unfolding end_from piece shape signs same_sign
semicolon_here [] = refl
semicolon_here (c ∷ w) = refl

brace_here : (w : Text) → end_from s.CloseBrace 0 0 (125 ∷ w) ≡ Some 0
unfolding end_from piece shape signs same_sign
brace_here [] = refl
brace_here (c ∷ w) = refl

end_here : (x : Sign) → IsEnd x → (w : Text) → end_from x 0 0 (spelling x ++ w) ≡ Some 0
end_here x (inl e) w = subst (λ y. end_from y 0 0 (spelling y ++ w) ≡ Some 0) (sym e) (semicolon_here w)
end_here x (inr e) w = subst (λ y. end_from y 0 0 (spelling y ++ w) ≡ Some 0) (sym e) (brace_here w)

-- What stands before the sign, with as many brackets closed as opened, ends there.
pub ends_there : (x : Sign) → IsEnd x → (p : Place) (t z : Text) (ts : Tokens) → Lexes true p (t ++ z) ts z → NoEnd x 0 ts → opens 0 ts ≡ 0 → Comes x z → end_of x (t ++ z) ≡ Some (length t)
ends_there x is p t z ts h none even c =
    let i = over_tokens h x 0 none in
    let same : t ≡ i.0 = append_cancel_right t i.0 z i.1 in
    let n : length i.0 + 0 ≡ length t = omega (arith, ap length same) in
    i.2 ∙ ap (λ m. later (length i.0) (end_from x m 0 z)) even ∙ ap (λ w. later (length i.0) (end_from x 0 0 w)) c.1 ∙ ap (later (length i.0)) (end_here x is c.0) ∙ ap Some n

-- ---- a text cut off between its tokens

opens_less : (u z : Text) → opens_comment true (u ++ z) ≡ false → opens_comment true u ≡ false
opens_less [] z e = refl
opens_less (b ∷ []) z e = refl
opens_less (b ∷ c ∷ u) z e = e

longest_less : (a y z : Text) → Longest a (y ++ z) → Longest a y
longest_less a y z long b r form_of e w = long b (r ++ z) form_of (sym (append_assoc a y z) ∙ ap (λ v. v ++ z) e ∙ append_assoc b r z) w

prefix_less : (p : ℕ → Bool) (a y z : Text) → prefix_len p (a ++ (y ++ z)) ≡ length a → prefix_len p (a ++ y) ≡ length a
prefix_less p [] [] z e = refl
prefix_less p [] (b ∷ y) z e = none (p b) e
  where
    none : (v : Bool) → cond v (1 + prefix_len p (y ++ z)) 0 ≡ 0 → cond v (1 + prefix_len p y) 0 ≡ 0
    none true e = absurd (omega arith)
    none false e = refl
prefix_less p (b ∷ a) y z e = some (λ h. prefix_less p a y z h) (p b) e
  where
    some : (prefix_len p (a ++ (y ++ z)) ≡ length a → prefix_len p (a ++ y) ≡ length a) → (v : Bool) → cond v (1 + prefix_len p (a ++ (y ++ z))) 0 ≡ suc (length a) → cond v (1 + prefix_len p (a ++ y)) 0 ≡ suc (length a)
    some go true e = let h : prefix_len p (a ++ y) ≡ length a = go (omega arith) in omega arith
    some go false e = absurd (omega arith)

none_closed : (v : Bool) (o : Option ℕ) → cond v (Some 1) (option_map suc o) ≡ Some 0 → ⊥
none_closed true o e = let h : ◌≡◌ {A = ℕ} 1 0 = cc in absurd (omega arith)
none_closed false None e = cc
none_closed false (Some n) e = let h : suc n ≡ 0 = cc in absurd (omega arith)

closed_less : (p : ℕ) (a y z : Text) → closed p (a ++ (y ++ z)) ≡ Some (length a) → closed p (a ++ y) ≡ Some (length a)
closed_less p [] [] z e = absurd (none p z e)
  where
    none : (q : ℕ) (w : Text) → closed q w ≡ Some 0 → ⊥
    none q [] e = cc
    none q (c ∷ w) e = none_closed (closes q c) (closed c w) e
closed_less p [] (b ∷ y) z e = absurd (none_closed (closes p b) (closed b (y ++ z)) e)
closed_less p (b ∷ a) y z e = by (λ h. closed_less b a y z h) (closes p b) (closed b (a ++ (y ++ z))) refl e
  where
    by : (closed b (a ++ (y ++ z)) ≡ Some (length a) → closed b (a ++ y) ≡ Some (length a)) → (v : Bool) (o : Option ℕ) → closed b (a ++ (y ++ z)) ≡ o → cond v (Some 1) (option_map suc o) ≡ Some (suc (length a))
        → cond v (Some 1) (option_map suc (closed b (a ++ y))) ≡ Some (suc (length a))
    by go true o h e = e
    by go false None h e = absurd (cc)
    by go false (Some n) h e =
        let m : suc n ≡ suc (length a) = cc in
        let same : n ≡ length a = omega arith in
        ap (option_map suc) (go (h ∙ ap Some same))

-- a comment, where what comes after it is cut off
comment_less : (a y z : Text) → comment_len (a ++ (y ++ z)) ≡ Some (length a) → opens_comment true (a ++ (y ++ z)) ≡ true → (comment_len (a ++ y) ≡ Some (length a)) × (opens_comment true (a ++ y) ≡ true)
comment_less [] y z e o = absurd (no_comment (y ++ z) o e)
comment_less (b ∷ []) [] [] e o = absurd (cc)
comment_less (b ∷ []) [] (c ∷ z) e o = absurd (short (c == 47) (closed 0 z) e)
  where
    short : (v : Bool) (k : Option ℕ) → cond v (Some (2 + prefix_len in_line z)) (option_map (λ n. 2 + n) k) ≡ Some 1 → ⊥
    short true k e = let h : 2 + prefix_len in_line z ≡ 1 = cc in absurd (omega arith)
    short false None e = cc
    short false (Some n) e = let h : 2 + n ≡ 1 = cc in absurd (omega arith)
comment_less (b ∷ []) (c ∷ y) z e o = absurd (short (c == 47) (closed 0 (y ++ z)) e)
  where
    short : (v : Bool) (k : Option ℕ) → cond v (Some (2 + prefix_len in_line (y ++ z))) (option_map (λ n. 2 + n) k) ≡ Some 1 → ⊥
    short true k e = let h : 2 + prefix_len in_line (y ++ z) ≡ 1 = cc in absurd (omega arith)
    short false None e = cc
    short false (Some n) e = let h : 2 + n ≡ 1 = cc in absurd (omega arith)
comment_less (b ∷ c ∷ a) y z e o = (by (c == 47) (closed 0 (a ++ (y ++ z))) refl e, o)
  where
    by : (v : Bool) (k : Option ℕ) → closed 0 (a ++ (y ++ z)) ≡ k → cond v (Some (2 + prefix_len in_line (a ++ (y ++ z)))) (option_map (λ n. 2 + n) k) ≡ Some (suc (suc (length a)))
        → cond v (Some (2 + prefix_len in_line (a ++ y))) (option_map (λ n. 2 + n) (closed 0 (a ++ y))) ≡ Some (suc (suc (length a)))
    by true k h e =
        let m : 2 + prefix_len in_line (a ++ (y ++ z)) ≡ suc (suc (length a)) = cc in
        let n : 2 + prefix_len in_line (a ++ y) ≡ suc (suc (length a)) = omega (arith, prefix_less in_line a y z (omega arith)) in
        ap Some n
    by false None h e = absurd (cc)
    by false (Some i) h e =
        let m : 2 + i ≡ suc (suc (length a)) = cc in
        let same : i ≡ length a = omega arith in
        let n : 2 + length a ≡ suc (suc (length a)) = omega arith in
        ap (option_map (λ n. 2 + n)) (closed_less 0 a y z (h ∙ ap Some same)) ∙ ap Some n

-- The tokens at the front of a text are those of the text that is cut off somewhere after them.
abbrev Shorter : Place → Text → Tokens → Text → Type 0
Shorter p t ts r = (x : Text) × (t ≡ x ++ r) × ((w z : Text) → r ≡ w ++ z → Lexes true p (x ++ w) ts w)

shorter_more : (p : Place) (a y : Text) (ts us : Tokens) (r : Text) → (x : Text) → y ≡ x ++ r → ((w z : Text) → r ≡ w ++ z → Lexes true (steps p a) (x ++ w) ts w)
    → ((w z : Text) → y ≡ w ++ z → (v : Text) → Lexes true (steps p a) w ts v → Lexes true p (a ++ w) us v) → Shorter p (a ++ y) us r
shorter_more p a y ts us r x parts go wrap = (
  a ++ x,
  ap (λ w. a ++ w) parts ∙ sym (append_assoc a x r),
  λ w z e. subst (λ v. Lexes true p v us w) (sym (append_assoc a x w)) (wrap (x ++ w) z (parts ∙ ap (λ v. x ++ v) e ∙ sym (append_assoc x w z)) w (go w z e)),
)

pub shorter : {p : Place} {t r : Text} {ts : List Token} → Lexes true p t ts r → (x : Text) × (t ≡ x ++ r) × ((w z : Text) → r ≡ w ++ z → Lexes true p (x ++ w) ts w)
shorter Lexes.here = ([], refl, λ w z e. Lexes.here)
shorter {r = r} (Lexes.blank {p = p} {b = b} {z = y} {ts = ts} f h) =
    let i = shorter h in
    shorter_more p (b ∷ []) y ts ts r i.0 i.1 i.2 (λ w z e v k. Lexes.blank f k)
shorter {p = p} {r = r} (Lexes.comment {ts = ts} a y o f h) =
    let i = shorter h in
    shorter_more p a y ts ts r i.0 i.1 i.2 (λ w z e v k.
    let c = comment_less a w z (ap (λ u. comment_len (a ++ u)) (sym e) ∙ f) (ap (λ u. opens_comment true (a ++ u)) (sym e) ∙ o) in
    Lexes.comment a w c.1 c.0 k)
shorter {p = p} {r = r} (Lexes.next {ts = ts} a y shape_of g small long o h) =
    let i = shorter h in
    shorter_more p a y ts _ r i.0 i.1 i.2 (λ w z e v k.
    Lexes.next a w shape_of g small (longest_less a w z (subst (λ u. Longest a u) e long)) (opens_less (a ++ w) z (ap (opens_comment true) (append_assoc a w z) ∙ ap (λ u. opens_comment true (a ++ u)) (sym e) ∙ o)) k)

-- ---- what stands before the sign has tokens

pub same_is : (x y : Sign) → same_sign y x ≡ true → y ≡ x
unfolding same_sign
same_is x y e = same_true the_type (search rules) y x e

sign_spelled : (x : Sign) (form_of : Shape) (a : Text) → Written a form_of → is_sign x (kind_of form_of a) ≡ true → a ≡ spelling x
sign_spelled x form.Number a w e = absurd (no_true e)
sign_spelled x form.Name a w e = absurd (no_true e)
sign_spelled x form.Variable a w e = absurd (no_true e)
sign_spelled x form.Text a w e = absurd (no_true e)
sign_spelled x (form.Sign y) a w e = w ∙ ap spelling (same_is x y e)

abbrev Lexed : Sign → Text → ℕ → Type 0
Lexed x t n = ((p : Place) → (us : List Token) × Lexes true p t us (drop n t)) × Comes x (drop n t)

drop_more : (x y : Text) (i n : ℕ) → n ≡ length x + i → (w : Text) → w ≡ x ++ y → drop n w ≡ drop i y
drop_more [] y i n e w f = let k : n ≡ i = omega arith in rw (k, f) refl
drop_more (v ∷ x) y i zero e w f = absurd (omega arith)
drop_more (v ∷ x) y i (suc n) e w f = ap (drop (suc n)) f ∙ drop_more x y i n (omega arith) (x ++ y) refl

-- a piece, and what stands behind it
lexed_more : (x : Sign) (b : ℕ) (z a r : Text) (n i : ℕ) → b ∷ z ≡ a ++ r → n ≡ length a + i → Lexed x r i
    → ((p : Place) (us : List Token) (v : Text) → Lexes true (steps p a) r us v → (ts : List Token) × Lexes true p (a ++ r) ts v) → Lexed x (b ∷ z) n
lexed_more x b z a r n i eq total h wrap =
    let back : drop n (b ∷ z) ≡ drop i r = drop_more a r i n total (b ∷ z) eq in (
      λ p.
          let k : (us : List Token) × Lexes true (steps p a) r us (drop i r) = h.0 (steps p a) in
          let g : (ts : List Token) × Lexes true p (a ++ r) ts (drop i r) = wrap p k.0 (drop i r) k.1 in
          (g.0, subst (λ w. Lexes true p (b ∷ z) g.0 w) (sym back) (subst (λ w. Lexes true p w g.0 (drop i r)) (sym eq) g.1)),
      (h.1.0, back ∙ h.1.1),
    )

some_suc : (o : Option ℕ) (n : ℕ) → option_map suc o ≡ Some n → (k : ℕ) × (o ≡ Some k) × (n ≡ suc k)
some_suc None n e = absurd (cc)
some_suc (Some k) n e = (k, refl, cc)

abbrev Behind : Sign → Text → Type 0
Behind x z = (d m k : ℕ) (a r : Text) → z ≡ a ++ r → length a ≡ m → end_from x d m z ≡ Some k → (i : ℕ) × (k ≡ m + i) × Lexed x r i

behind_piece : (x : Sign) (d b : ℕ) (z : Text) (n m : ℕ) (kind : Option Kind) → Behind x z → (a r : Text) → b ∷ z ≡ a ++ r → length a ≡ m → 0 < m → IsPiece true a r kind → (e : ℕ) → option_map suc (end_from x e (m - 1) z) ≡ Some n
    → Lexed x (b ∷ z) n
behind_piece x d b z n m kind go [] r eq len pos is e h = absurd (omega arith)
behind_piece x d b z n m kind go (c ∷ a) r eq len pos is e h =
    let tl : z ≡ a ++ r = cc in
    let s : (k : ℕ) × (end_from x e (m - 1) z ≡ Some k) × (n ≡ suc k) = some_suc (end_from x e (m - 1) z) n h in
    let i : (i : ℕ) × (s.0 ≡ (m - 1) + i) × Lexed x r i = go e (m - 1) s.0 a r tl (omega arith) s.1 in
    let total : n ≡ length (c ∷ a) + i.0 = omega (arith, i.1, s.2, len) in
    lexed_more x b z (c ∷ a) r n i.0 eq total i.2 (wrap kind is)
  where
    wrap : (o : Option Kind) → IsPiece true (c ∷ a) r o → (p : Place) (us : List Token) (v : Text) → Lexes true (steps p (c ∷ a)) r us v → (ts : List Token) × Lexes true p ((c ∷ a) ++ r) ts v
    wrap None is p us v h = (us, lexes_gap p (c ∷ a) r is us v h)
    wrap (Some kind) (form_of, same, w, small, long, o) p us v h = (record { kind = kind_of form_of (c ∷ a); place = p } ∷ us, Lexes.next (c ∷ a) r form_of w small long o h)

lexed_here : (x : Sign) (t a r : Text) (kind : Kind) → t ≡ a ++ r → IsPiece true a r (Some kind) → is_sign x kind ≡ true → Lexed x t 0
lexed_here x t a r kind eq (form_of, same, w, small, long, o) e =
    (λ p. ([], Lexes.here), (r, eq ∙ ap (λ v. v ++ r) (sign_spelled x form_of a w (ap (is_sign x) (sym same) ∙ e))))

end_piece : (x : Sign) (d b : ℕ) (z : Text) (n : ℕ) → Behind x z → (o : Option (Option Kind × ℕ)) → piece true (b ∷ z) ≡ o → end_by x d (λ e m. option_map suc (end_from x e m z)) o ≡ Some n → Lexed x (b ∷ z) n
end_piece x d b z n go None e h = absurd (cc)
end_piece x d b z n go (Some (None, m)) e h =
    let c : Cuts true (b ∷ z) (None, m) = cuts true (b ∷ z) (None, m) e in behind_piece x d b z n m None go c.0 c.1 c.2 c.3 c.4 c.5 d h
end_piece x d b z n go (Some (Some kind, m)) e h = by (is_sign x kind) refl (is_zero d) h
  where
    c : Cuts true (b ∷ z) (Some kind, m)
    c = cuts true (b ∷ z) (Some kind, m) e

    by : (v : Bool) → is_sign x kind ≡ v → (w : Bool) → cond (cond v w false) (Some 0) (option_map suc (end_from x (after kind d) (m - 1) z)) ≡ Some n → Lexed x (b ∷ z) n
    by true g true h = let zero_is : n ≡ 0 = cc in subst (Lexed x (b ∷ z)) (sym zero_is) (lexed_here x (b ∷ z) c.0 c.1 kind c.2 c.5 g)
    by true g false h = behind_piece x d b z n m (Some kind) go c.0 c.1 c.2 c.3 c.4 c.5 (after kind d) h
    by false g w h = behind_piece x d b z n m (Some kind) go c.0 c.1 c.2 c.3 c.4 c.5 (after kind d) h

behind : (x : Sign) (t : Text) → Behind x t
unfolding end_from
behind x [] d m k [] [] e len h = absurd (cc)
behind x [] d m k [] (b ∷ r) e len h = absurd (cc)
behind x [] d m k (b ∷ a) r e len h = absurd (cc)
behind x (b ∷ z) d zero k [] r e len h = (k, omega arith, subst (λ w. Lexed x w k) e (end_piece x d b z k (behind x z) (piece true (b ∷ z)) refl h))
behind x (b ∷ z) d zero k (c ∷ a) r e len h = absurd (omega arith)
behind x (b ∷ z) d (suc m) k [] r e len h = absurd (omega arith)
behind x (b ∷ z) d (suc m) k (c ∷ a) r e len h =
    let s : (n : ℕ) × (end_from x d m z ≡ Some n) × (k ≡ suc n) = some_suc (end_from x d m z) k h in
    let i : (i : ℕ) × (s.0 ≡ m + i) × Lexed x r i = behind x z d m s.0 a r (cc) (omega arith) s.1 in
    (i.0, omega (arith, i.1, s.2), i.2)

-- Where the scan finds the sign, what stands before it has tokens.
pub lexed : (x : Sign) (t : Text) (n : ℕ) → end_of x t ≡ Some n → ((p : Place) → (us : List Token) × Lexes true p t us (drop n t)) × Comes x (drop n t)
lexed x t n e =
    let i : (i : ℕ) × (n ≡ 0 + i) × Lexed x t i = behind x t 0 0 n [] t refl refl e in
    let same : n ≡ i.0 = omega (arith, i.1) in
    subst (Lexed x t) (sym same) i.2

-- ---- the sign that ends

same_self : (x : Sign) → IsEnd x → same_sign x x ≡ true
unfolding same_sign
same_self x (inl e) = subst (λ y. same_sign y y ≡ true) (sym e) refl
same_self x (inr e) = subst (λ y. same_sign y y ≡ true) (sym e) refl

ends_so : (x : Sign) → IsEnd x → (kind : Kind) (d : ℕ) → kind ≡ k.Sign x → d ≡ 0 → ends_by x kind d ≡ true
ends_so x is kind d e f = ap (λ (v : Kind). ends_by x v d) e ∙ ap (λ n. ends_by x (k.Sign x) n) f ∙ ap (λ b. cond b true false) (same_self x is)

-- where no bracket is open, the sign ends what has no end
pub no_end_at : (x : Sign) → IsEnd x → (d : ℕ) (ts : Tokens) (t : Token) (w : Tokens) → NoEnd x d (ts ++ t ∷ w) → opens d ts ≡ 0 → t.kind ≡ k.Sign x → ⊥
no_end_at x is d [] t w h e f = no_true (sym h.0 ∙ ends_so x is t.kind d f e)
no_end_at x is d (u ∷ ts) t w h e f = no_end_at x is (after u.kind d) ts t w h.1 e f

piece_semicolon : (w : Text) → piece true (59 ∷ w) ≡ Some (Some (k.Sign s.Semicolon), 1)
unfolding piece shape signs
piece_semicolon [] = refl
piece_semicolon (c ∷ w) = refl

piece_brace : (w : Text) → piece true (125 ∷ w) ≡ Some (Some (k.Sign s.CloseBrace), 1)
unfolding piece shape signs
piece_brace [] = refl
piece_brace (c ∷ w) = refl

-- a token before the tokens of the rest
first_token : (p : Place) (kind : Kind) (o : Option (List Token)) (us : List Token) → before p (Some kind) o ≡ Some us → (t : Token) × (vs : List Token) × (us ≡ t ∷ vs) × (t.kind ≡ kind)
first_token p kind None us h = absurd (cc)
first_token p kind (Some vs) us h = (record { kind = kind; place = p }, vs, sym (some_same h), refl)

first_byte : (b : ℕ) (x : Sign) (p : Place) (w : Text) (us : List Token) → piece true (b ∷ w) ≡ Some (Some (k.Sign x), 1) → scan true 0 p (b ∷ w) ≡ Some us → (t : Token) × (vs : List Token) × (us ≡ t ∷ vs) × (t.kind ≡ k.Sign x)
unfolding scan
first_byte b x p w us e h = first_token p (k.Sign x) (scan true 0 (step p b) w) us (sym (ap (scan_piece (λ n. scan true n (step p b) w) p) e) ∙ h)

-- the first token of a text that begins with the sign
pub end_first : (x : Sign) → IsEnd x → (p : Place) (w : Text) (us : List Token) → scan true 0 p (spelling x ++ w) ≡ Some us → (t : Token) × (vs : List Token) × (us ≡ t ∷ vs) × (t.kind ≡ k.Sign x)
end_first x (inl e) p w us h =
    let g = first_byte 59 s.Semicolon p w us (piece_semicolon w) (ap (λ y. scan true 0 p (spelling y ++ w)) (sym e) ∙ h) in (g.0, g.1, g.2, g.3 ∙ ap (λ y. k.Sign y) (sym e))
end_first x (inr e) p w us h =
    let g = first_byte 125 s.CloseBrace p w us (piece_brace w) (ap (λ y. scan true 0 p (spelling y ++ w)) (sym e) ∙ h) in (g.0, g.1, g.2, g.3 ∙ ap (λ y. k.Sign y) (sym e))

-- a text that is not empty begins with the sign where the whole does
pub end_begins : (x : Sign) → IsEnd x → (b : ℕ) (w rest v : Text) → (b ∷ w) ++ rest ≡ spelling x ++ v → (u : Text) × (b ∷ w ≡ spelling x ++ u)
end_begins x (inl e) b w rest v h =
    let g : (b ∷ w) ++ rest ≡ 59 ∷ v = h ∙ ap (λ y. spelling y ++ v) e in
    let first : b ≡ 59 = cc in
    (w, ap (λ c. c ∷ w) first ∙ ap (λ y. spelling y ++ w) (sym e))
end_begins x (inr e) b w rest v h =
    let g : (b ∷ w) ++ rest ≡ 125 ∷ v = h ∙ ap (λ y. spelling y ++ v) e in
    let first : b ≡ 125 = cc in
    (w, ap (λ c. c ∷ w) first ∙ ap (λ y. spelling y ++ w) (sym e))
