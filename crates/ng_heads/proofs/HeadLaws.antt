-- Heads of blocks and `@let`: a text is one of each at most.
use Rattle.std.proofs.Common.{◌≡◌, ℕ, List, [], ◌∷◌, ◌++◌, codes, refl, sym, ◌∙◌, ap, subst, append_assoc, arith, inl, inr}
use Rattle.std.specs.Prelude.{Bool, true, false, cond, ◌||◌, ◌==◌, ◌⊎◌, Option, Some, None}
use Rattle.ng_ast.specs.declared.Place.{Place}
use Rattle.ng_ast.specs.declared.Expr.{Expr}
use Rattle.ng_tokens.specs.Lexis.{Text, is_blank, is_word, all, is_one_of}
use Rattle.ng_exprs.specs.Ends.{IsEnd, end_from}
use Rattle.ng_exprs.specs.Reading.{ReadsExpr}
use Rattle.ng_exprs.proofs.Closing.{ends}
use Rattle.ng_exprs.proofs.Whole.{text_reads_one}
use Rattle.ng_lex.specs.Words.{IsBlank, Spaced, IsOneName, at_front}
use Rattle.ng_lex.specs.Attributes.{differs}
use Rattle.ng_lex.specs.Heads.{IsAs, ReadsTest, row_variables, IsPair, ReadsPairs, IsLetPart, EndsAfter}
use Rattle.ng_heads.specs.Runs.{in_word}
use Rattle.ng_heads.proofs.Texts.{first_byte, both_true, no_true, not_both, same_byte, same_front, same_runs, all_append, all_weaker, one_of}
use Rattle.ng_heads.proofs.Names.{blank_no_word, name_words, one_name, some_one, same_tail}

-- ---- expressions before a sign that ends them

-- a `)` or `;` stands at the front
abbrev pub StartsEnd : Text → Type 0
StartsEnd z = (c : ℕ) × (y : Text) × (z ≡ c ∷ y) × IsEnd c

pub expr_ends : (p : Place) (t z : Text) (e : Expr) → ReadsExpr false p t e → StartsEnd z → EndsAfter t z
expr_ends p t z e h (c, y, same, end) = ap (λ k. end_from 0 0 (t ++ k)) same ∙ ends p t e c y h end

pub one_end : (t s z y : Text) → EndsAfter t z → EndsAfter s y → t ++ z ≡ s ++ y → (t ≡ s) × (z ≡ y)
one_end t s z y h i e = same_front t s z y e (some_one (sym h ∙ ap (end_from 0 0) e ∙ i))

pub expr_then : (p q : Place) (t s z y : Text) (a b : Expr) → ReadsExpr false p t a → ReadsExpr false q s b → StartsEnd z → StartsEnd y → t ++ z ≡ s ++ y → (t ≡ s) × (z ≡ y)
expr_then p q t s z y a b h i j k e = one_end t s z y (expr_ends p t z a h j) (expr_ends q s y b i k) e

-- ---- bytes of pairs

abbrev pub in_pair : ℕ → Bool
in_pair b = is_blank b || is_word b || b == 61 || b == 36

blank_pair : (b : ℕ) → is_blank b ≡ true → in_pair b ≡ true
blank_pair b e = rw e refl

pub or_second : (x y : Bool) → y ≡ true → (x || y) ≡ true
or_second true y e = refl
or_second false y e = e

word_pair : (b : ℕ) → is_word b ≡ true → in_pair b ≡ true
word_pair b e = ap (λ v. v || b == 61 || b == 36) (or_second (is_blank b) (is_word b) e)

pair_differs : (c : ℕ) → in_pair c ≡ false → (b : ℕ) → in_pair b ≡ true → differs c b ≡ true
pair_differs c none b e = by (b == c) refl
  where
    by : (v : Bool) → (b == c) ≡ v → cond v false true ≡ true
    by true f = absurd (not_both (in_pair c) (ap in_pair (sym (same_byte b c f)) ∙ e) none)
    by false f = refl

name_pairs : (t n : Text) → IsOneName t n → all in_pair t ≡ true
name_pairs t n ((w, v, e, bw, bv), i) =
    ap (all in_pair) e ∙ all_append in_pair w (n ++ v) (all_weaker is_blank in_pair blank_pair w bw) (all_append in_pair n v (all_weaker is_word in_pair word_pair n (name_words n i)) (all_weaker is_blank in_pair blank_pair v bv))

-- a letter, a digit, `_` or `$`
abbrev in_variable : ℕ → Bool
in_variable b = is_word b || b == 36

-- what each name of a row's variables is
record IsVariable (v : Text) : Type 0 where
  pairs : all in_pair v ≡ true
  words : all in_variable v ≡ true
  starts : (z : Text) → at_front is_blank (v ++ z) ≡ false

is_variable : (v : Text) → is_one_of row_variables v ≡ true → IsVariable v
unfolding row_variables
is_variable v e = one_of IsVariable row_variables (known refl refl (λ z. refl), (known refl refl (λ z. refl), (known refl refl (λ z. refl), (known refl refl (λ z. refl), (known refl refl (λ z. refl), (known refl refl (λ z. refl), tt)))))) v e
  where
    known : {v : Text} → all in_pair v ≡ true → all in_variable v ≡ true → ((z : Text) → at_front is_blank (v ++ z) ≡ false) → IsVariable v
    known f g h = record { pairs = f; words = g; starts = h }

blank_no_variable : (b : ℕ) → is_blank b ≡ true → in_variable b ≡ false
blank_no_variable b e = rw (blank_no_word b e) (no_dollar b e)
  where
    no_dollar : (b : ℕ) → is_blank b ≡ true → (b == 36) ≡ false
    no_dollar b e = grind arith

-- no variable has white space
dark_variable : (b : ℕ) → in_variable b ≡ true → in_word b ≡ true
dark_variable b e = by (is_blank b) refl
  where
    by : (v : Bool) → is_blank b ≡ v → cond v false true ≡ true
    by true f = absurd (not_both (in_variable b) e (blank_no_variable b f))
    by false f = refl

pub variable_dark : (v : Text) → is_one_of row_variables v ≡ true → all in_word v ≡ true
variable_dark v e = all_weaker in_variable in_word dark_variable v (is_variable v e).words

pub variable_no_blank : (v : Text) → is_one_of row_variables v ≡ true → (z : Text) → at_front is_blank (v ++ z) ≡ false
variable_no_blank v e z = (is_variable v e).starts z

spaced_pairs : (y v : Text) → Spaced y v → IsVariable v → all in_pair y ≡ true
spaced_pairs y v (w, u, e, bw, bu) i =
    ap (all in_pair) e ∙ all_append in_pair w (v ++ u) (all_weaker is_blank in_pair blank_pair w bw) (all_append in_pair v u i.pairs (all_weaker is_blank in_pair blank_pair u bu))

pair_pairs : (t n v : Text) → IsPair t n v → all in_pair t ≡ true
pair_pairs t n v (x, y, e, name, spaced, row) = ap (all in_pair) e ∙ all_append in_pair x (61 ∷ y) (name_pairs x n name) (spaced_pairs y v spaced (is_variable v row))

-- a pair has no byte that is in none
pub pair_free : (c : ℕ) → in_pair c ≡ false → (t n v : Text) → IsPair t n v → all (differs c) t ≡ true
pair_free c none t n v h = all_weaker in_pair (differs c) (pair_differs c none) t (pair_pairs t n v h)

pairs_pairs : {t : Text} {vs : List (Text × Text)} → ReadsPairs t vs → (p : ℕ → Bool) → ((b : ℕ) → in_pair b ≡ true → p b ≡ true) → p 44 ≡ true → all p t ≡ true
pairs_pairs (ReadsPairs.last_pair t n v h) p law comma = all_weaker in_pair p law t (pair_pairs t n v h)
pairs_pairs (ReadsPairs.next_pair t u n v h more) p law comma = all_append p t (44 ∷ u) (all_weaker in_pair p law t (pair_pairs t n v h)) (rw comma (pairs_pairs more p law comma))

-- a byte of a pair, or a comma
abbrev pub in_pairs : ℕ → Bool
in_pairs b = in_pair b || b == 44

-- a part with `let` has no byte that is in no pairs
pub let_pairs : (u : Text) (vs : List (Text × Text)) → IsLetPart u vs → all in_pairs u ≡ true
let_pairs u vs (w, t, e, bw, front, pairs) =
    ap (all in_pairs) e ∙ all_append in_pairs w (codes "let" ++ t) (all_weaker is_blank in_pairs blank_pairs w bw) (pairs_pairs pairs in_pairs pair_pairs_too refl)
  where
    blank_pairs : (b : ℕ) → is_blank b ≡ true → in_pairs b ≡ true
    blank_pairs b f = rw f refl

    pair_pairs_too : (b : ℕ) → in_pair b ≡ true → in_pairs b ≡ true
    pair_pairs_too b f = ap (λ v. v || b == 44) f

pub let_free : (u : Text) (vs : List (Text × Text)) → IsLetPart u vs → all (differs 59) u ≡ true
let_free u vs h = all_weaker in_pairs (differs 59) free u (let_pairs u vs h)
  where
    free : (b : ℕ) → in_pairs b ≡ true → differs 59 b ≡ true
    free b e = by (b == 59) refl
      where
        by : (v : Bool) → (b == 59) ≡ v → cond v false true ≡ true
        by true f = absurd (no_true (ap in_pairs (sym (same_byte b 59 f)) ∙ e))
        by false f = refl

-- ---- pairs

variable_stops : (u : Text) → IsBlank u → at_front in_variable u ≡ false
variable_stops [] h = refl
variable_stops (b ∷ u) h = blank_no_variable b (both_true (is_blank b) (all is_blank u) h).0

one_spaced : (t v u : Text) → Spaced t v → Spaced t u → IsVariable v → IsVariable u → v ≡ u
one_spaced t v u (w, x, e, bw, bx) (y, z, d, by, bz) i j =
    let g = same_runs is_blank w y (v ++ x) (u ++ z) (sym e ∙ d) bw by (i.starts x) (j.starts z) in
    (same_runs in_variable v u x z g.1 i.words j.words (variable_stops x bx) (variable_stops z bz)).0

pub name_free : (t n : Text) → IsOneName t n → all (differs 61) t ≡ true
name_free t n ((w, v, e, bw, bv), i) =
    ap (all (differs 61)) e ∙ all_append (differs 61) w (n ++ v) (all_weaker is_blank (differs 61) blank_differs w bw) (all_append (differs 61) n v (all_weaker is_word (differs 61) word_differs n (name_words n i)) (all_weaker is_blank (differs 61) blank_differs v bv))
  where
    blank_differs : (b : ℕ) → is_blank b ≡ true → differs 61 b ≡ true
    blank_differs b e = grind arith

    word_differs : (b : ℕ) → is_word b ≡ true → differs 61 b ≡ true
    word_differs b e = grind arith

pub one_pair : (t n v k u : Text) → IsPair t n v → IsPair t k u → (n ≡ k) × (v ≡ u)
one_pair t n v k u (x, y, e, name, spaced, row) (z, r, d, other, gaps, column) =
    let g = same_runs (differs 61) x z (61 ∷ y) (61 ∷ r) (sym e ∙ d) (name_free x n name) (name_free z k other) refl refl in
    let rest : y ≡ r = same_tail 61 g.1 in
    (one_name x n k name (subst (λ w. IsOneName w k) (sym g.0) other), one_spaced y v u spaced (subst (λ w. Spaced w u) (sym rest) gaps) (is_variable v row) (is_variable u column))

-- the byte stands in the text
pub all_at : (p : ℕ → Bool) (x : Text) (c : ℕ) (y : Text) → all p (x ++ (c ∷ y)) ≡ true → p c ≡ true
all_at p [] c y h = (both_true (p c) (all p y) h).0
all_at p (b ∷ x) c y h = all_at p x c y (both_true (p b) (all p (x ++ (c ∷ y))) h).1

pub no_comma : (t x y n v : Text) → IsPair t n v → t ≡ x ++ (44 ∷ y) → ⊥
no_comma t x y n v h e = no_true (all_at (differs 44) x 44 y (ap (all (differs 44)) (sym e) ∙ pair_free 44 refl t n v h))

-- pairs by the first one
abbrev pub FirstPair : Text → List (Text × Text) → Type 0
FirstPair t vs = ((n v : Text) × IsPair t n v × (vs ≡ (n, v) ∷ [])) ⊎ ((s u n v : Text) × (more : List (Text × Text)) × (t ≡ s ++ (44 ∷ u)) × IsPair s n v × ReadsPairs u more × (vs ≡ (n, v) ∷ more))

pub first_pair : {t : Text} {vs : List (Text × Text)} → ReadsPairs t vs → FirstPair t vs
first_pair (ReadsPairs.last_pair t n v h) = inl (n, v, h, refl)
first_pair (ReadsPairs.next_pair {vs = vs} t u n v h more) = inr (t, u, n, v, vs, refl, h, more, refl)

pub same_pair : {n v k u : Text} → n ≡ k → v ≡ u → ◌≡◌ {A = Text × Text} (n, v) (k, u)
same_pair {v = v} {k = k} e d = ap (λ w. (w, v)) e ∙ ap (λ w. (k, w)) d

pub one_pairs : {t : Text} {vs : List (Text × Text)} → ReadsPairs t vs → (us : List (Text × Text)) → ReadsPairs t us → vs ≡ us
one_pairs (ReadsPairs.last_pair t n v h) us i = by (first_pair i)
  where
    by : FirstPair t us → (n, v) ∷ [] ≡ us
    by (inl (k, u, j, all)) = let g = one_pair t n v k u h j in ap (λ w. w ∷ []) (same_pair g.0 g.1) ∙ sym all
    by (inr (s, r, k, u, more, e, j, reads, all)) = absurd (no_comma t s r n v h e)
one_pairs (ReadsPairs.next_pair {vs = vs} t r n v h more) us i = by (first_pair i) (λ ws j. one_pairs more ws j)
  where
    by : FirstPair (t ++ (44 ∷ r)) us → ((ws : List (Text × Text)) → ReadsPairs r ws → vs ≡ ws) → (n, v) ∷ vs ≡ us
    by (inl (k, u, j, all)) go = absurd (no_comma (t ++ (44 ∷ r)) t r k u j refl)
    by (inr (s, y, k, u, ws, e, j, reads, all)) go =
        let g = same_runs (differs 44) t s (44 ∷ r) (44 ∷ y) e (pair_free 44 refl t n v h) (pair_free 44 refl s k u j) refl refl in
        let one = one_pair t n v k u h (subst (λ w. IsPair w k u) (sym g.0) j) in
        let rest : r ≡ y = same_tail 44 g.1 in
        ap (λ w. w ∷ vs) (same_pair one.0 one.1) ∙ ap (λ w. (k, u) ∷ w) (go ws (subst (λ w. ReadsPairs w ws) (sym rest) reads)) ∙ sym all

pub one_let_part : (u : Text) (vs us : List (Text × Text)) → IsLetPart u vs → IsLetPart u us → vs ≡ us
one_let_part u vs us (w, t, e, bw, front, pairs) (x, s, d, bx, ahead, others) =
    let g = same_runs is_blank w x (codes "let" ++ t) (codes "let" ++ s) (sym e ∙ d) bw bx refl refl in
    let rest : t ≡ s = same_tail 116 (same_tail 101 (same_tail 108 g.1)) in
    one_pairs pairs us (subst (λ k. ReadsPairs k us) (sym rest) others)

-- ---- tests

pub one_as : (u n k : Text) → IsAs u n → IsAs u k → n ≡ k
one_as u n k (w, t, e, bw, front, name) (x, s, d, bx, ahead, other) =
    let g = same_runs is_blank w x (codes "as" ++ t) (codes "as" ++ s) (sym e ∙ d) bw bx refl refl in
    let rest : t ≡ s = same_tail 115 (same_tail 97 g.1) in
    one_name t n k name (subst (λ v. IsOneName v k) (sym rest) other)

pub round_ends : (r : Text) → StartsEnd (41 ∷ r)
round_ends r = (41, r, refl, inl refl)

pub semicolon_ends : (r : Text) → StartsEnd (59 ∷ r)
semicolon_ends r = (59, r, refl, inr refl)

pub no_semicolon : {x y : Text} → 41 ∷ x ≡ 59 ∷ y → ⊥
no_semicolon e = let b : ◌≡◌ {A = ℕ} 41 59 = first_byte e in absurd (omega arith)

abbrev SameTest : Expr → Option Text → Expr → Option Text → Type 0
SameTest e n d k = (e ≡ d) × (n ≡ k)

-- a test without a name is no test with one
test_apart : (p : Place) (x : Text) (e d : Expr) (k : Text) → ReadsTest p x e None → ReadsTest p x d (Some k) → ⊥
test_apart p x e d k h (t, u, same, reads, named) =
    no_semicolon (expr_then p p x t (41 ∷ []) (59 ∷ (u ++ (41 ∷ []))) e d h reads (round_ends []) (semicolon_ends (u ++ (41 ∷ []))) (ap (λ w. w ++ (41 ∷ [])) same ∙ append_assoc t (59 ∷ u) (41 ∷ []))).1

pub one_test : (p : Place) (x : Text) (e d : Expr) (n k : Option Text) → ReadsTest p x e n → ReadsTest p x d k → SameTest e n d k
one_test p x e d None None h i = (text_reads_one false p x e d h i, refl)
one_test p x e d None (Some k) h i = absurd (test_apart p x e d k h i)
one_test p x e d (Some n) None h i = absurd (test_apart p x d e n i h)
one_test p x e d (Some n) (Some k) (t, u, same, reads, named) (s, r, other, also, given) =
    let whole : t ++ (59 ∷ u) ≡ s ++ (59 ∷ r) = sym same ∙ other in
    let g = expr_then p p t s (59 ∷ u) (59 ∷ r) e d reads also (semicolon_ends u) (semicolon_ends r) whole in
    let rest : u ≡ r = same_tail 59 g.1 in
    (text_reads_one false p t e d reads (subst (λ v. ReadsExpr false p v d) (sym g.0) also), ap Some (one_as u n k named (subst (λ v. IsAs v k) (sym rest) given)))
