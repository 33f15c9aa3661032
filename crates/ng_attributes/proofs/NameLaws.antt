-- Names in values: a text is one name at most.
use Rattle.std.proofs.Common.{◌≡◌, ℕ, ◌≤◌, [], ◌∷◌, ◌++◌, refl, sym, ◌∙◌, ap, subst, arith}
use Rattle.std.specs.Prelude.{true, false}
use Rattle.std.proofs.lemmas.List.{append-nil}
use Rattle.ng_tokens.specs.Lexis.{Text, is_blank, is_letter, is_word, all}
use Rattle.ng_lex.specs.Words.{IsBlank, is_name, IsName, IsOneName, at_front}
use Rattle.ng_attributes.specs.Runs.{Run}
use Rattle.ng_attributes.proofs.Texts.{both_true, no_true, not_both, one_run}

-- ---- names

pub blank_small : (b : ℕ) → is_blank b ≡ true → b ≤ 32
blank_small b e = grind arith

small_no_word : (b : ℕ) → b ≤ 32 → is_word b ≡ false
small_no_word b e = grind arith

pub blank_no_word : (b : ℕ) → is_blank b ≡ true → is_word b ≡ false
blank_no_word b e = small_no_word b (blank_small b e)

pub letter_no_blank : (b : ℕ) → is_letter b ≡ true → is_blank b ≡ false
letter_no_blank b e = grind arith

letter_word : (b : ℕ) → is_letter b ≡ true → is_word b ≡ true
letter_word b e = grind arith

pub name_words : (n : Text) → IsName n → all is_word n ≡ true
name_words [] h = absurd (no_true h)
name_words (b ∷ n) h = let g = both_true (is_letter b) (all is_word n) h in rw (letter_word b g.0) g.1

pub name_no_blank : (n z : Text) → IsName n → at_front is_blank (n ++ z) ≡ false
name_no_blank [] z h = absurd (no_true h)
name_no_blank (b ∷ n) z h = letter_no_blank b (both_true (is_letter b) (all is_word n) h).0

pub blank_ends : (v : Text) → IsBlank v → at_front is_word v ≡ false
blank_ends [] h = refl
blank_ends (b ∷ v) h = blank_no_word b (both_true (is_blank b) (all is_blank v) h).0

pub one_name : (t n k : Text) → IsOneName t n → IsOneName t k → n ≡ k
one_name t n k ((w, v, e, bw, bv), i) ((u, x, d, bu, bx), j) =
    let outer = one_run is_blank t w (n ++ v) u (k ++ x) (record { is = e; passes = bw; stops = name_no_blank n v i }) (record { is = d; passes = bu; stops = name_no_blank k x j }) in
    (one_run is_word (n ++ v) n v k x (record { is = refl; passes = name_words n i; stops = blank_ends v bv }) (record { is = outer.1; passes = name_words k j; stops = blank_ends x bx })).0

-- ---- names as the code reads them

all_blank_end : (a b : Text) → all is_blank (a ++ b) ≡ true → at_front is_blank b ≡ false → b ≡ []
all_blank_end [] [] h i = refl
all_blank_end [] (c ∷ b) h i = absurd (not_both (is_blank c) (both_true (is_blank c) (all is_blank b) h).0 i)
all_blank_end (c ∷ a) b h i = all_blank_end a b (both_true (is_blank c) (all is_blank (a ++ b)) h).1 i

module _ (t w x n r v z : Text) (first : Run is_blank t w x) (word : Run is_word x n r) (last : Run is_blank r v z) where
  pub name_some : z ≡ [] → is_name n ≡ true → IsOneName t n
  name_some e h = ((w, v, first.is ∙ ap (λ k. w ++ k) (word.is ∙ ap (λ k. n ++ k) (last.is ∙ ap (λ k. v ++ k) e ∙ append-nil v)), first.passes, last.passes), h)

  pub name_none : (z ≡ [] → is_name n ≡ true → ⊥) → (k : Text) → IsOneName t k → ⊥
  name_none none k ((u, y, e, bu, by_), i) =
      let outer = one_run is_blank t u (k ++ y) w x (record { is = e; passes = bu; stops = name_no_blank k y i }) first in
      let inner = one_run is_word (k ++ y) k y n r (record { is = refl; passes = name_words k i; stops = blank_ends y by_ }) (subst (λ j. Run is_word j n r) (sym outer.1) word) in
      none (all_blank_end v z (ap (all is_blank) (sym (inner.1 ∙ last.is)) ∙ by_) last.stops) (ap is_name (sym inner.0) ∙ i)
