-- Names, white space and words.
use Rattle.std.proofs.Common.{◌≡◌, ℕ, ◌≤◌, [], ◌∷◌, ◌++◌, refl, sym, ◌∙◌, ap, subst, append_assoc, arith, length-append}
use Rattle.std.specs.Prelude.{true, false, if◌then◌else◌, Some}
use Rattle.ng_tokens.specs.Lexis.{Text, is_blank, is_letter, is_word, all, begins}
use Rattle.ng_lex.specs.declared.quotes.Quoting.{Quoting}
use Rattle.ng_lex.specs.declared.quotes.Quoting.TheVariants.{Outside}
use Rattle.ng_lex.specs.Words.{IsBlank, IsGap, IsName, IsOneName, at_front, is_outside, after, Clear}
use Rattle.ng_heads.proofs.Texts.{both_true, no_true, not_both, one_run, begins_self, begins_front}

pub some_one : {A : Type 0} {a b : A} → Some a ≡ Some b → a ≡ b
some_one e = cc

pub same_tail : (b : ℕ) {x y : Text} → b ∷ x ≡ b ∷ y → x ≡ y
same_tail b e = cc

-- ---- white space

pub blank_small : (b : ℕ) → is_blank b ≡ true → b ≤ 32
blank_small b e = grind arith

small_no_word : (b : ℕ) → b ≤ 32 → is_word b ≡ false
small_no_word b e = grind arith

pub blank_no_word : (b : ℕ) → is_blank b ≡ true → is_word b ≡ false
blank_no_word b e = small_no_word b (blank_small b e)

pub gap_blank : (w : Text) → IsGap w → IsBlank w
gap_blank [] h = absurd h
gap_blank (b ∷ w) h = h

-- ---- names

pub letter_no_blank : (b : ℕ) → is_letter b ≡ true → is_blank b ≡ false
letter_no_blank b e = grind arith

letter_word : (b : ℕ) → is_letter b ≡ true → is_word b ≡ true
letter_word b e = grind arith

pub name_words : (n : Text) → IsName n → all is_word n ≡ true
name_words [] h = absurd (no_true h)
name_words (b ∷ n) h = let g = both_true (is_letter b) (all is_word n) h in rw (letter_word b g.0) g.1

pub name_letter : (n z : Text) → IsName n → at_front is_letter (n ++ z) ≡ true
name_letter [] z h = absurd (no_true h)
name_letter (b ∷ n) z h = (both_true (is_letter b) (all is_word n) h).0

pub name_no_blank : (n z : Text) → IsName n → at_front is_blank (n ++ z) ≡ false
name_no_blank [] z h = absurd (no_true h)
name_no_blank (b ∷ n) z h = letter_no_blank b (both_true (is_letter b) (all is_word n) h).0

-- a run of words after a letter is a name
pub run_name : (t n z : Text) → t ≡ n ++ z → all is_word n ≡ true → at_front is_word z ≡ false → at_front is_letter t ≡ true → IsName n
run_name t [] [] e h i j = absurd (no_true (ap (at_front is_letter) (sym e) ∙ j))
run_name t [] (b ∷ z) e h i j = absurd (not_both (is_word b) (letter_word b (ap (at_front is_letter) (sym e) ∙ j)) i)
run_name t (b ∷ n) z e h i j = rw (ap (at_front is_letter) (sym e) ∙ j) (both_true (is_word b) (all is_word n) h).1

pub blank_ends : (v : Text) → IsBlank v → at_front is_word v ≡ false
blank_ends [] h = refl
blank_ends (b ∷ v) h = blank_no_word b (both_true (is_blank b) (all is_blank v) h).0

pub one_name : (t n k : Text) → IsOneName t n → IsOneName t k → n ≡ k
one_name t n k ((w, v, e, bw, bv), i) ((u, x, d, bu, bx), j) =
    let outer = one_run is_blank t w (n ++ v) u (k ++ x) (record { is = e; passes = bw; stops = name_no_blank n v i }) (record { is = d; passes = bu; stops = name_no_blank k x j }) in
    (one_run is_word (n ++ v) n v k x (record { is = refl; passes = name_words n i; stops = blank_ends v bv }) (record { is = outer.1; passes = name_words k j; stops = blank_ends x bx })).0

-- ---- the first place of a word

no_earlier : (w : Text) (s : Quoting) (c : ℕ) (y z r : Text) → s ≡ Outside → w ++ z ≡ c ∷ (y ++ (w ++ r)) → (if is_outside s then begins w (c ∷ (y ++ w)) else false) ≡ false → ⊥
no_earlier w s c y z r o e h =
    let there : begins w (c ∷ (y ++ (w ++ r))) ≡ true = ap (begins w) (sym e) ∙ begins_self w z in
    let same : begins w ((c ∷ (y ++ w)) ++ r) ≡ begins w (c ∷ (y ++ w)) = begins_front w (c ∷ (y ++ w)) r (omega (arith, length-append y w)) in
    let here : begins w (c ∷ (y ++ w)) ≡ true = sym same ∙ ap (λ k. begins w (c ∷ k)) (append_assoc y w r) ∙ there in
    not_both (begins w (c ∷ (y ++ w))) here (rw o at h)

pub first_once : (f : Quoting → ℕ → Quoting) (w : Text) (s : Quoting) (x y z r : Text) → x ++ (w ++ z) ≡ y ++ (w ++ r) → Clear f w s x w → after f s x ≡ Outside → Clear f w s y w → after f s y ≡ Outside → x ≡ y
first_once f w s [] [] z r e h i j k = refl
first_once f w s [] (c ∷ y) z r e h i j k = absurd (no_earlier w s c y z r i e j.0)
first_once f w s (c ∷ x) [] z r e h i j k = absurd (no_earlier w s c x r z k (sym e) h.0)
first_once f w s (c ∷ x) (d ∷ y) z r e h i j k =
    let b : c ≡ d = cc in
    let t : x ++ (w ++ z) ≡ y ++ (w ++ r) = cc in
    let g : x ≡ y = first_once f w (f s c) x y z r t h.1 i (subst (λ v. Clear f w (f s v) y w) (sym b) j.1) (subst (λ v. after f (f s v) y ≡ Outside) (sym b) k) in
    ap (λ v. v ∷ x) b ∙ ap (λ v. d ∷ v) g
