-- A piece of a text: a token, or white space or a comment.
use Rattle.std.proofs.Common.{◌≡◌, ℕ, suc, ◌+◌, ◌<◌, ◌≤◌, [], ◌∷◌, ◌++◌, length, take, drop, refl, sym, ◌∙◌, ap, subst, arith, length-append, length-take, inl, inr}
use Rattle.std.specs.Prelude.{Bool, true, false, cond, ◌==◌, ◌⊎◌, Option, Some, None}
use Rattle.std.proofs.Math.Seq.{take-append_seam}
use Rattle.std.proofs.lemmas.List.{take-append-drop}
use Rattle.std.specs.List.{prefix_len}
use Rattle.std.specs.Option.{option_map}
use Rattle.ng_tokens.specs.declared.kinds.Sign.TheVariants as s
use Rattle.ng_tokens.specs.declared.kinds.Shape.{Shape}
use Rattle.ng_tokens.specs.declared.kinds.Shape.TheVariants as shape
use Rattle.ng_tokens.specs.declared.kinds.Kind.{Kind}
use Rattle.ng_tokens.specs.Lexis.{Text, is_blank, is_digit, is_letter, is_quote, in_line, closes, closed, comment_len, opens_comment, Written, kind_of, fits, Longest}
use Rattle.ng_tokens.specs.Scan.{shape as shape_at, fitted, with_len, token_at, gap, piece}
use Rattle.ng_tokens.proofs.Literals.{Splits, run_split}
use Rattle.ng_tokens.proofs.Shapes.{Takes, is_longest, takes}

letter_no_blank : (b : ℕ) → is_letter b ≡ true → is_blank b ≡ false
letter_no_blank b e = grind arith

digit_no_blank : (b : ℕ) → is_digit b ≡ true → is_blank b ≡ false
digit_no_blank b e = grind arith

dollar_no_blank : (b : ℕ) → (b == 36) ≡ true → is_blank b ≡ false
dollar_no_blank b e = grind arith

quote_no_blank : (b : ℕ) → is_quote b ≡ true → is_blank b ≡ false
quote_no_blank b e = grind arith

pub not_empty : (form : Shape) → Written [] form → ⊥
not_empty shape.Number h = h
not_empty shape.Name h = h
not_empty shape.Variable h = h
not_empty shape.Text h = h
not_empty (shape.Sign s.Same) h = cc
not_empty (shape.Sign s.NotSame) h = cc
not_empty (shape.Sign s.Eq) h = cc
not_empty (shape.Sign s.Ne) h = cc
not_empty (shape.Sign s.Le) h = cc
not_empty (shape.Sign s.Ge) h = cc
not_empty (shape.Sign s.Or) h = cc
not_empty (shape.Sign s.And) h = cc
not_empty (shape.Sign s.OrNull) h = cc
not_empty (shape.Sign s.SafeDot) h = cc
not_empty (shape.Sign s.Lt) h = cc
not_empty (shape.Sign s.Gt) h = cc
not_empty (shape.Sign s.Plus) h = cc
not_empty (shape.Sign s.Minus) h = cc
not_empty (shape.Sign s.Star) h = cc
not_empty (shape.Sign s.Slash) h = cc
not_empty (shape.Sign s.Percent) h = cc
not_empty (shape.Sign s.Not) h = cc
not_empty (shape.Sign s.Dot) h = cc
not_empty (shape.Sign s.Comma) h = cc
not_empty (shape.Sign s.Semicolon) h = cc
not_empty (shape.Sign s.Question) h = cc
not_empty (shape.Sign s.Colon) h = cc
not_empty (shape.Sign s.Bar) h = cc
not_empty (shape.Sign s.Assign) h = cc
not_empty (shape.Sign s.Hash) h = cc
not_empty (shape.Sign s.OpenRound) h = cc
not_empty (shape.Sign s.CloseRound) h = cc
not_empty (shape.Sign s.OpenSquare) h = cc
not_empty (shape.Sign s.CloseSquare) h = cc
not_empty (shape.Sign s.OpenBrace) h = cc
not_empty (shape.Sign s.CloseBrace) h = cc

pub no_blank : (form : Shape) (b : ℕ) (a : Text) → Written (b ∷ a) form → is_blank b ≡ false
no_blank shape.Number b a (d, e) = digit_no_blank b d
no_blank shape.Name b a (d, e) = letter_no_blank b d
no_blank shape.Variable b a (d, e) = dollar_no_blank b d
no_blank shape.Text b a (d, e) = quote_no_blank b d
no_blank (shape.Sign s.Same) b a h = let e : b ≡ 61 = cc in rw e refl
no_blank (shape.Sign s.NotSame) b a h = let e : b ≡ 33 = cc in rw e refl
no_blank (shape.Sign s.Eq) b a h = let e : b ≡ 61 = cc in rw e refl
no_blank (shape.Sign s.Ne) b a h = let e : b ≡ 33 = cc in rw e refl
no_blank (shape.Sign s.Le) b a h = let e : b ≡ 60 = cc in rw e refl
no_blank (shape.Sign s.Ge) b a h = let e : b ≡ 62 = cc in rw e refl
no_blank (shape.Sign s.Or) b a h = let e : b ≡ 124 = cc in rw e refl
no_blank (shape.Sign s.And) b a h = let e : b ≡ 38 = cc in rw e refl
no_blank (shape.Sign s.OrNull) b a h = let e : b ≡ 63 = cc in rw e refl
no_blank (shape.Sign s.SafeDot) b a h = let e : b ≡ 63 = cc in rw e refl
no_blank (shape.Sign s.Lt) b a h = let e : b ≡ 60 = cc in rw e refl
no_blank (shape.Sign s.Gt) b a h = let e : b ≡ 62 = cc in rw e refl
no_blank (shape.Sign s.Plus) b a h = let e : b ≡ 43 = cc in rw e refl
no_blank (shape.Sign s.Minus) b a h = let e : b ≡ 45 = cc in rw e refl
no_blank (shape.Sign s.Star) b a h = let e : b ≡ 42 = cc in rw e refl
no_blank (shape.Sign s.Slash) b a h = let e : b ≡ 47 = cc in rw e refl
no_blank (shape.Sign s.Percent) b a h = let e : b ≡ 37 = cc in rw e refl
no_blank (shape.Sign s.Not) b a h = let e : b ≡ 33 = cc in rw e refl
no_blank (shape.Sign s.Dot) b a h = let e : b ≡ 46 = cc in rw e refl
no_blank (shape.Sign s.Comma) b a h = let e : b ≡ 44 = cc in rw e refl
no_blank (shape.Sign s.Semicolon) b a h = let e : b ≡ 59 = cc in rw e refl
no_blank (shape.Sign s.Question) b a h = let e : b ≡ 63 = cc in rw e refl
no_blank (shape.Sign s.Colon) b a h = let e : b ≡ 58 = cc in rw e refl
no_blank (shape.Sign s.Bar) b a h = let e : b ≡ 124 = cc in rw e refl
no_blank (shape.Sign s.Assign) b a h = let e : b ≡ 61 = cc in rw e refl
no_blank (shape.Sign s.Hash) b a h = let e : b ≡ 35 = cc in rw e refl
no_blank (shape.Sign s.OpenRound) b a h = let e : b ≡ 40 = cc in rw e refl
no_blank (shape.Sign s.CloseRound) b a h = let e : b ≡ 41 = cc in rw e refl
no_blank (shape.Sign s.OpenSquare) b a h = let e : b ≡ 91 = cc in rw e refl
no_blank (shape.Sign s.CloseSquare) b a h = let e : b ≡ 93 = cc in rw e refl
no_blank (shape.Sign s.OpenBrace) b a h = let e : b ≡ 123 = cc in rw e refl
no_blank (shape.Sign s.CloseBrace) b a h = let e : b ≡ 125 = cc in rw e refl

pub some_same : {A : Type 0} {p u : A} → Some p ≡ Some u → p ≡ u
some_same i = cc

abbrev pub IsPiece : Bool → Text → Text → Option Kind → Type 0
IsPiece c a z None = ((b : ℕ) × (a ≡ b ∷ []) × (is_blank b ≡ true)) ⊎ ((opens_comment c (a ++ z) ≡ true) × (comment_len (a ++ z) ≡ Some (length a)))
IsPiece c a z (Some kind) = (form : Shape) × (kind ≡ kind_of form a) × Written a form × (fits form a ≡ true) × Longest a z × (opens_comment c (a ++ z) ≡ false)

abbrev pub Cuts : Bool → Text → Option Kind × ℕ → Type 0
Cuts c t q = (a z : Text) × (t ≡ a ++ z) × (length a ≡ q.1) × (0 < q.1) × IsPiece c a z q.0

closed_if : (b : ℕ) (t : Text) (n : ℕ) → ((m : ℕ) → closed b t ≡ Some m → m ≤ length t) → (v : Bool) (o : Option ℕ) → closed b t ≡ o → cond v (Some 1) (option_map suc o) ≡ Some n → n ≤ length (b ∷ t)
closed_if b t n go true o f g = let h : 1 ≡ n = cc in omega arith
closed_if b t n go false None f g = absurd (cc)
closed_if b t n go false (Some m) f g = let h : suc m ≡ n = cc in omega (arith, go m f)

closed_within : (p : ℕ) (t : Text) (n : ℕ) → closed p t ≡ Some n → n ≤ length t
closed_within p [] n e = absurd (cc)
closed_within p (b ∷ t) n e = closed_if b t n (λ m. closed_within b t m) (closes p b) (closed b t) refl e

run_within : (p : ℕ → Bool) (t : Text) → prefix_len p t ≤ length t
run_within p t = let r : Splits p t (prefix_len p t) = run_split p t in omega (arith, ap length r.2, length-append r.0 r.1, r.3)

comment_within : (t : Text) (n : ℕ) → comment_len t ≡ Some n → (0 < n) × (n ≤ length t)
comment_within [] n e = absurd (cc)
comment_within (a ∷ []) n e = absurd (cc)
comment_within (a ∷ b ∷ z) n e = here (b == 47) (closed 0 z) refl e
  where
    here : (v : Bool) (o : Option ℕ) → closed 0 z ≡ o → cond v (Some (2 + prefix_len in_line z)) (option_map (λ m. 2 + m) o) ≡ Some n → (0 < n) × (n ≤ length (a ∷ b ∷ z))
    here true o f g = let h : 2 + prefix_len in_line z ≡ n = cc in (omega arith, omega (arith, run_within in_line z))
    here false None f g = absurd (cc)
    here false (Some m) f g = let h : 2 + m ≡ n = cc in (omega arith, omega (arith, closed_within 0 z m f))

pub long_written : (a : Text) (form : Shape) → Written a form → 0 < length a
long_written [] form h = absurd (not_empty form h)
long_written (b ∷ a) form h = omega arith

cuts_token : (c : Bool) (t : Text) (q : Option Kind × ℕ) → opens_comment c t ≡ false → (o : Option (Shape × ℕ)) → shape_at t ≡ o → token_at t o ≡ Some q → Cuts c t q
cuts_token c t q out None e f = absurd (cc)
cuts_token c t q out (Some (form, n)) e f =
    let k : Takes t (form, n) = takes t (form, n) e in
    let front : take n t ≡ k.0 = ap (take n) k.2 ∙ ap (λ m. take m (k.0 ++ k.1)) (sym k.3) ∙ take-append_seam k.0 k.1 in
    here k front (fits form k.0) refl (subst (λ w. with_len n (fitted form w) ≡ Some q) front f)
  where
    here : (k : Takes t (form, n)) → take n t ≡ k.0 → (v : Bool) → fits form k.0 ≡ v → with_len n (cond v (Some (kind_of form k.0)) None) ≡ Some q → Cuts c t q
    here k front true small g =
        let same : (Some (kind_of form k.0), n) ≡ q = some_same g in
        subst (λ r. Cuts c t r) same (k.0, k.1, k.2, k.3, omega (arith, long_written k.0 form k.4, k.3), (form, refl, k.4, small, is_longest k.0 k.1 (form, n) (ap shape_at (sym k.2) ∙ e) k.3, ap (opens_comment c) (sym k.2) ∙ out))
    here k front false small g = absurd (cc)

cuts_comment : (c : Bool) (t : Text) (q : Option Kind × ℕ) → opens_comment c t ≡ true → (o : Option ℕ) → comment_len t ≡ o → gap o ≡ Some q → Cuts c t q
cuts_comment c t q begun None e f = absurd (cc)
cuts_comment c t q begun (Some n) e f =
    let w : (0 < n) × (n ≤ length t) = comment_within t n e in
    let same : (None, n) ≡ q = some_same f in
    let all : take n t ++ drop n t ≡ t = take-append-drop n t in
    let len : length (take n t) ≡ n = omega (arith, length-take n t, w) in
    subst (λ r. Cuts c t r) same (take n t, drop n t, sym all, len, w.0, inr (ap (opens_comment c) all ∙ begun, ap comment_len all ∙ e ∙ ap Some (sym len)))

cuts_if : (c : Bool) (b : ℕ) (z : Text) (q : Option Kind × ℕ) (v w : Bool) → is_blank b ≡ v → opens_comment c (b ∷ z) ≡ w
    → cond v (Some (None, 1)) (cond w (gap (comment_len (b ∷ z))) (token_at (b ∷ z) (shape_at (b ∷ z)))) ≡ Some q → Cuts c (b ∷ z) q
cuts_if c b z q true w d o e = let same : (None, 1) ≡ q = some_same e in subst (λ r. Cuts c (b ∷ z) r) same (b ∷ [], z, refl, refl, omega arith, inl (b, refl, d))
cuts_if c b z q false true d o e = cuts_comment c (b ∷ z) q o (comment_len (b ∷ z)) refl e
cuts_if c b z q false false d o e = cuts_token c (b ∷ z) q o (shape_at (b ∷ z)) refl e

pub cuts : (c : Bool) (t : Text) (q : Option Kind × ℕ) → piece c t ≡ Some q → Cuts c t q
unfolding piece
cuts c [] q e = absurd (cc)
cuts c (b ∷ z) q e = cuts_if c b z q (is_blank b) (opens_comment c (b ∷ z)) refl refl e
