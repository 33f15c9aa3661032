-- What signs, words and quotes are to their parsers.
use Rattle.std.proofs.Common.{◌≡◌, ℕ, zero, suc, ◌+◌, ◌<◌, [], ◌∷◌, ◌++◌, length, take, drop, get_or, refl, sym, ◌∙◌, ap, subst, arith}
use Rattle.std.specs.Prelude.{Bool, true, false, cond, not, ◌==◌, Option, Some, None}
use Rattle.std.specs.List.{prefix_len}
use Rattle.std.specs.Str.{IsUtf8, IsCharBoundary}
use Rattle.std.proofs.Math.Seq.{take-append_seam, drop-append_seam}
use Rattle.std.proofs.lemmas.List.{take-append-drop}
use Rattle.std.proofs.lemmas.List.Sums.{prefix_len-le-length, prefix_len_passes}
use Rattle.std.proofs.lemmas.Str.{IsCharBoundary-start, IsCharBoundary-after_ascii}
use Rattle.ng_tokens.specs.Lexis.{Text, all, IsRun}
use Rattle.ng_selectors.specs.Grammar.{is_other}
use Rattle.ng_selectors.specs.Classes.{within}
use Rattle.ng_selectors.specs.declared.classes.Class.{Class}
use Rattle.ng_selectors.specs.declared.classes.Class.TheVariants.{Blank, Tag, Identifier, Name}
use Rattle.ng_selectors.specs.Parse.{Outcome, strip, sees, span, run, onto, until}

same_self : (b : ℕ) → (b == b) ≡ true
same_self b = grind arith

same_byte : (b c : ℕ) → (b == c) ≡ true → b ≡ c
same_byte b c e = grind arith

pub same_found : {A : Type 0} {p q : A × Text} → Some p ≡ Some q → p ≡ q
same_found e = cc

-- ---- signs

pub strip_front : (w t : Text) → strip w (w ++ t) ≡ Some t
strip_front [] t = refl
strip_front (b ∷ w) t = rw (same_self b) (strip_front w t)

pub strip_some : (w t r : Text) → t ≡ w ++ r → strip w t ≡ Some r
strip_some w t r e = ap (strip w) e ∙ strip_front w r

strip_if : (c b : ℕ) (w t r : Text) → (strip w t ≡ Some r → t ≡ w ++ r) → (x : Bool) → (b == c) ≡ x → cond x (strip w t) None ≡ Some r → b ∷ t ≡ (c ∷ w) ++ r
strip_if c b w t r go true f e = ap (λ z. b ∷ z) (go e) ∙ ap (λ z. z ∷ (w ++ r)) (same_byte b c f)
strip_if c b w t r go false f e = absurd cc

pub strip_is : (w t r : Text) → strip w t ≡ Some r → t ≡ w ++ r
strip_is [] t r e = cc
strip_is (c ∷ w) [] r e = absurd cc
strip_is (c ∷ w) (b ∷ t) r e = strip_if c b w t r (strip_is w t r) (b == c) refl e

pub strip_none : (w t : Text) → ((r : Text) → t ≡ w ++ r → ⊥) → strip w t ≡ None
strip_none w t h = by (strip w t) refl
  where
    by : (o : Option Text) → strip w t ≡ o → strip w t ≡ None
    by None e = e
    by (Some r) e = absurd (h r (strip_is w t r e))

-- ---- runs

prefix_if : (p : ℕ → Bool) (b : ℕ) (v r : Text) → (all p v ≡ true → prefix_len p (v ++ r) ≡ length v) → (x : Bool) → p b ≡ x → cond x (all p v) false ≡ true
    → prefix_len p ((b ∷ v) ++ r) ≡ length (b ∷ v)
prefix_if p b v r go true f e = rw f (omega (arith, go e))
prefix_if p b v r go false f e = absurd cc

pub prefix_front : (p : ℕ → Bool) (v r : Text) → all p v ≡ true → sees p r ≡ false → prefix_len p (v ++ r) ≡ length v
prefix_front p [] [] e f = refl
prefix_front p [] (b ∷ r) e f = rw f refl
prefix_front p (b ∷ v) r e f = prefix_if p b v r (λ h. prefix_front p v r h f) (p b) refl e

pub run_boundary : (p : ℕ → Bool) → ((b : ℕ) → p b ≡ true → b < 128) → (t : Text) → IsUtf8 t → IsCharBoundary t (prefix_len p t)
run_boundary p low t u = by (prefix_len p t) refl
  where
    by : (n : ℕ) → prefix_len p t ≡ n → IsCharBoundary t n
    by zero e = IsCharBoundary-start t u
    by (suc n) e = subst (λ m. IsCharBoundary t m) (omega arith) (IsCharBoundary-after_ascii t n u (omega (arith, prefix_len-le-length p t, e)) (low (get_or t n 0) (prefix_len_passes p t n 0 (omega (arith, e)))))

within_ascii : (class : Class) (b : ℕ) → within class b ≡ true → b < 128
within_ascii Blank b e = grind arith
within_ascii Tag b e = grind arith
within_ascii Identifier b e = grind arith
within_ascii Name b e = grind arith

-- a text may be cut behind a run
pub run_ends : (class : Class) (t z : Text) (n : ℕ) → z ≡ t → IsUtf8 z → n ≡ prefix_len (within class) z → IsCharBoundary t n
run_ends class t z n same u e = subst (λ w. IsCharBoundary w n) same (subst (λ m. IsCharBoundary z m) (sym e) (run_boundary (within class) (within_ascii class) z u))

-- ---- quotes

not_same : (b c : ℕ) → (b ≡ c → ⊥) → (b == c) ≡ false
not_same b c h = by (b == c) refl
  where
    by : (x : Bool) → (b == c) ≡ x → (b == c) ≡ false
    by true e = absurd (h (same_byte b c e))
    by false e = e

pub all_other : (c : ℕ) (v : Text) → ((i : ℕ) → i < length v → get_or v i 0 ≡ c → ⊥) → all (is_other c) v ≡ true
all_other c [] h = refl
all_other c (b ∷ v) h = rw (not_same b c (h 0 (omega arith))) (all_other c v (λ i less. h (suc i) (omega (arith, less))))

until_if : (c b : ℕ) (v r : Text) → (all (is_other c) v ≡ true → until c (v ++ c ∷ r) ≡ Some (v, r)) → (x : Bool) → (b == c) ≡ x → cond (not x) (all (is_other c) v) false ≡ true
    → until c ((b ∷ v) ++ c ∷ r) ≡ Some (b ∷ v, r)
until_if c b v r go true f e = absurd cc
until_if c b v r go false f e = rw (f, go e) refl

pub until_front : (c : ℕ) (v r : Text) → all (is_other c) v ≡ true → until c (v ++ c ∷ r) ≡ Some (v, r)
until_front c [] r e = rw (same_self c) refl
until_front c (b ∷ v) r e = until_if c b v r (until_front c v r) (b == c) refl e

pub until_none : (c : ℕ) (t : Text) → ((i : ℕ) → i < length t → get_or t i 0 ≡ c → ⊥) → until c t ≡ None
until_none c [] h = refl
until_none c (b ∷ t) h = rw (not_same b c (h 0 (omega arith)), until_none c t (λ i less. h (suc i) (omega (arith, less)))) refl

-- ---- runs and their parsers

one_more : (n : ℕ) → 1 + n ≡ suc n
one_more n = omega arith

passes_if : (p : ℕ → Bool) (b : ℕ) (t : Text) → all p (take (prefix_len p t) t) ≡ true → (x : Bool) → p b ≡ x → all p (take (cond x (1 + prefix_len p t) 0) (b ∷ t)) ≡ true
passes_if p b t go true e = rw (one_more (prefix_len p t), e) go
passes_if p b t go false e = refl

pub front_passes : (p : ℕ → Bool) (t : Text) → all p (take (prefix_len p t) t) ≡ true
front_passes p [] = refl
front_passes p (b ∷ t) = passes_if p b t (front_passes p t) (p b) refl

pub span_front : (p : ℕ → Bool) (v r : Text) → all p v ≡ true → sees p r ≡ false → span p (v ++ r) ≡ Some (v, r)
span_front p v r e f = rw (prefix_front p v r e f, take-append_seam v r, drop-append_seam v r) refl

-- the first byte of a word may stand in it
abbrev pub Begins : (ℕ → Bool) → (ℕ → Bool) → Type 0
Begins first more = (b : ℕ) → first b ≡ true → more b ≡ true

pub run_front : (first more : ℕ → Bool) (v r : Text) → Begins first more → IsRun first more v → sees more r ≡ false → run first more (v ++ r) ≡ Some (v, r)
run_front first more [] r begins h e = absurd h
run_front first more (b ∷ v) r begins h e =
    let whole : all more (b ∷ v) ≡ true = rw (begins b h.0) h.1 in
    rw h.0 (span_front more (b ∷ v) r whole e)

run_if : (first more : ℕ → Bool) (b : ℕ) (t a r : Text) → Begins first more → (x : Bool) → first b ≡ x → cond x (span more (b ∷ t)) None ≡ Some (a, r) → IsRun first more a × (b ∷ t ≡ a ++ r)
run_if first more b t a r begins false f e = absurd cc
run_if first more b t a r begins true f e =
    let n : ℕ = prefix_len more t in
    let s : span more (b ∷ t) ≡ Some (b ∷ take n t, drop n t) = rw (begins b f, one_more n) refl in
    let same : (b ∷ take n t, drop n t) ≡ (a, r) = same_found (sym s ∙ e) in
    let front : b ∷ take n t ≡ a = ap (λ z. z.0) same in
    let rest : drop n t ≡ r = ap (λ z. z.1) same in (
      subst (λ z. IsRun first more z) front (f, front_passes more t),
      ap (λ z. b ∷ z) (sym (take-append-drop n t)) ∙ ap (λ z. z ++ drop n t) front ∙ ap (λ z. a ++ z) rest,
    )

pub run_is : (first more : ℕ → Bool) (t a r : Text) → Begins first more → run first more t ≡ Some (a, r) → IsRun first more a × (t ≡ a ++ r)
run_is first more [] a r begins e = absurd cc
run_is first more (b ∷ t) a r begins e = run_if first more b t a r begins (first b) refl e

until_is_if : (c b : ℕ) (t v r : Text) → ((w : Text) → until c t ≡ Some (w, r) → (all (is_other c) w ≡ true) × (t ≡ w ++ c ∷ r)) → (x : Bool) → (b == c) ≡ x
    → (o : Outcome Text) → until c t ≡ o → cond x (Some ([], t)) (onto b o) ≡ Some (v, r) → (all (is_other c) v ≡ true) × (b ∷ t ≡ v ++ c ∷ r)
until_is_if c b t v r go true f o g e =
    let same : ([], t) ≡ (v, r) = same_found e in
    let front : [] ≡ v = ap (λ z. z.0) same in
    let rest : t ≡ r = ap (λ z. z.1) same in
    (subst (λ z. all (is_other c) z ≡ true) front refl, ap (λ z. z ∷ t) (same_byte b c f) ∙ ap (λ z. c ∷ z) rest ∙ ap (λ z. z ++ c ∷ r) front)
until_is_if c b t v r go false f None g e = absurd cc
until_is_if c b t v r go false f (Some p) g e =
    let same : (b ∷ p.0, p.1) ≡ (v, r) = same_found e in
    let front : b ∷ p.0 ≡ v = ap (λ z. z.0) same in
    let rest : p.1 ≡ r = ap (λ z. z.1) same in
    let h : (all (is_other c) p.0 ≡ true) × (t ≡ p.0 ++ c ∷ r) = go p.0 (g ∙ ap (λ z. Some (p.0, z)) rest) in
    (subst (λ z. all (is_other c) z ≡ true) front (rw f h.0), ap (λ z. b ∷ z) h.1 ∙ ap (λ z. z ++ c ∷ r) front)

pub until_is : (c : ℕ) (t v r : Text) → until c t ≡ Some (v, r) → (all (is_other c) v ≡ true) × (t ≡ v ++ c ∷ r)
until_is c [] v r e = absurd cc
until_is c (b ∷ t) v r e = until_is_if c b t v r (λ w. until_is c t w r) (b == c) refl (until c t) refl e

-- a byte that doesn't stand at the front
pub strip_other : (c : ℕ) (t : Text) → sees (λ b. b == c) t ≡ false → strip (c ∷ []) t ≡ None
strip_other c [] e = refl
strip_other c (b ∷ t) e = rw e refl
