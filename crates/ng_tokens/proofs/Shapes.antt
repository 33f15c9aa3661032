-- The next token of a text is the longest.
use Rattle.std.proofs.Common.{◌≡◌, ℕ, suc, ◌+◌, ◌≤◌, [], ◌∷◌, ◌++◌, length, refl, sym, ◌∙◌, ap, subst, arith}
use Rattle.std.specs.Prelude.{Bool, true, false, cond, ◌==◌, Option, Some, None}
use Rattle.std.proofs.lemmas.List.{append-nil}
use Rattle.std.specs.List.{prefix_len}
use Rattle.ng_tokens.specs.declared.kinds.Sign.{Sign}
use Rattle.ng_tokens.specs.declared.kinds.Shape.{Shape}
use Rattle.ng_tokens.specs.declared.kinds.Shape.TheVariants as shape
use Rattle.ng_tokens.specs.Lexis.{Text, is_digit, is_letter, is_word, is_quote, unquote, all, spelling, IsRun, IsLiteral, Written, Longest}
use Rattle.ng_tokens.specs.Scan.{find, signs, quoted, shape as shape_at}
use Rattle.ng_tokens.proofs.Literals.{Cut, Splits, cut_literal, dollar_no_digit, dollar_no_letter, letter_no_digit, letter_word, literal_more, quote_no_digit, quote_no_dollar, quote_no_letter, run_all, run_split}
use Rattle.ng_tokens.proofs.SignTable.{Found, Longer, begins_self, falls, find_is, find_long, listed, not_digit, one_spelling, same_front, spelled}

abbrev Reaches : Text → Text → Shape → Type 0
Reaches a z form = (q : Shape × ℕ) × (shape_at (a ++ z) ≡ Some q) × (length a ≤ q.1) × (q.1 ≡ length a → q.0 ≡ form)

reach_number : (b : ℕ) (a z : Text) → IsRun is_digit is_digit (b ∷ a) → Reaches (b ∷ a) z shape.Number
unfolding shape_at
reach_number b a z (d, ds) = ((shape.Number, prefix_len is_digit (b ∷ a ++ z)), rw d refl, run_all is_digit (b ∷ a) z (rw d ds), λ e. refl)

all_word : (b : ℕ) (a : Text) → is_letter b ≡ true → all is_word a ≡ true → all is_word (b ∷ a) ≡ true
all_word b a l w = rw (letter_word b l) w

shape_name : (b : ℕ) (z : Text) → is_letter b ≡ true → shape_at (b ∷ z) ≡ Some (shape.Name, prefix_len is_word (b ∷ z))
unfolding shape_at
shape_name b z l = rw (letter_no_digit b l) (rw l refl)

reach_name : (b : ℕ) (a z : Text) → IsRun is_letter is_word (b ∷ a) → Reaches (b ∷ a) z shape.Name
reach_name b a z (l, w) = ((shape.Name, prefix_len is_word (b ∷ a ++ z)), shape_name b (a ++ z) l, run_all is_word (b ∷ a) z (all_word b a l w), λ f. refl)

shape_variable : (b : ℕ) (z : Text) → (b == 36) ≡ true → shape_at (b ∷ z) ≡ Some (shape.Variable, suc (prefix_len is_word z))
unfolding shape_at
shape_variable b z d = rw (dollar_no_digit b d) (rw (dollar_no_letter b d) (rw d refl))

reach_variable : (b : ℕ) (a z : Text) → IsRun (λ c. c == 36) is_word (b ∷ a) → Reaches (b ∷ a) z shape.Variable
reach_variable b a z (d, w) = ((shape.Variable, suc (prefix_len is_word (a ++ z))), shape_variable b (a ++ z) d, omega (arith, run_all is_word a z w), λ f. refl)

shape_literal : (b : ℕ) (z : Text) → is_quote b ≡ true → shape_at (b ∷ z) ≡ quoted (unquote b false z)
unfolding shape_at
shape_literal b z q = rw (quote_no_digit b q) (rw (quote_no_letter b q) (rw (quote_no_dollar b q) (rw q refl)))

reach_literal : (b : ℕ) (a z : Text) → IsLiteral (b ∷ a) → Reaches (b ∷ a) z shape.Text
reach_literal b a z (q, (v, h)) = ((shape.Text, suc (length a)), shape_literal b (a ++ z) q ∙ ap quoted (literal_more b a v h z), omega arith, λ f. refl)

reach_sign : (x : Sign) (z : Text) → Reaches (spelling x) z (shape.Sign x)
reach_sign x z =
    let f : Longer (spelling x) (spelling x ++ z) (find signs (spelling x ++ z)) = find_long signs falls (spelling x) x (listed x) (spelling x ++ z) (begins_self (spelling x) z) in
    let g : Found (spelling x ++ z) f.0 = find_is signs spelled (spelling x ++ z) f.0 f.1 in
    (f.0, not_digit x z ∙ f.1, f.2, λ e. g.2 ∙ one_spelling g.0 x (sym (same_front (spelling x) (spelling g.0) z g.1 g.4 (sym e ∙ g.3))))

reaches : (a z : Text) (form : Shape) → Written a form → Reaches a z form
reaches (b ∷ a) z shape.Number h = reach_number b a z h
reaches [] z shape.Number h = absurd h
reaches (b ∷ a) z shape.Name h = reach_name b a z h
reaches [] z shape.Name h = absurd h
reaches (b ∷ a) z shape.Variable h = reach_variable b a z h
reaches [] z shape.Variable h = absurd h
reaches (b ∷ a) z shape.Text h = reach_literal b a z h
reaches [] z shape.Text h = absurd h
reaches a z (shape.Sign x) h = subst (λ w. Reaches w z (shape.Sign x)) (sym h) (reach_sign x z)

-- what the function takes is a token
abbrev pub Takes : Text → Shape × ℕ → Type 0
Takes t q = (a z : Text) × (t ≡ a ++ z) × (length a ≡ q.1) × Written a q.0

takes_number : (b : ℕ) (z : Text) → is_digit b ≡ true → Takes (b ∷ z) (shape.Number, prefix_len is_digit (b ∷ z))
takes_number b z d =
    let r : Splits is_digit z (prefix_len is_digit z) = run_split is_digit z in
    let n : 1 + prefix_len is_digit z ≡ suc (prefix_len is_digit z) = omega arith in
    rw d (rw n (b ∷ r.0, r.1, ap (λ w. b ∷ w) r.2, ap suc r.3, (d, r.4)))

takes_name : (b : ℕ) (z : Text) → is_letter b ≡ true → Takes (b ∷ z) (shape.Name, prefix_len is_word (b ∷ z))
takes_name b z d =
    let r : Splits is_word z (prefix_len is_word z) = run_split is_word z in
    let n : 1 + prefix_len is_word z ≡ suc (prefix_len is_word z) = omega arith in
    rw (letter_word b d) (rw n (b ∷ r.0, r.1, ap (λ w. b ∷ w) r.2, ap suc r.3, (d, r.4)))

takes_variable : (b : ℕ) (z : Text) → (b == 36) ≡ true → Takes (b ∷ z) (shape.Variable, suc (prefix_len is_word z))
takes_variable b z d =
    let r : Splits is_word z (prefix_len is_word z) = run_split is_word z in
    (b ∷ r.0, r.1, ap (λ w. b ∷ w) r.2, ap suc r.3, (d, r.4))

takes_literal : (b : ℕ) (z : Text) (q : Shape × ℕ) → is_quote b ≡ true → (o : Option (Text × ℕ)) → unquote b false z ≡ o → quoted o ≡ Some q → Takes (b ∷ z) q
takes_literal b z q d None u e = absurd (cc)
takes_literal b z q d (Some (v, n)) u e =
    let c : Cut b false z (v, n) = cut_literal b false z (v, n) u in
    let same : (shape.Text, suc n) ≡ q = cc in
    let whole : unquote b false c.0 ≡ Some (v, length c.0) = ap (unquote b false) (sym (append-nil c.0)) ∙ c.4 [] ∙ ap (λ m. Some (v, m)) (sym c.3) in
    subst (λ r. Takes (b ∷ z) r) same (b ∷ c.0, c.1, ap (λ w. b ∷ w) c.2, ap suc c.3, (d, (v, whole)))

takes_if : (b : ℕ) (z : Text) (q : Shape × ℕ) (v w x y : Bool) → is_digit b ≡ v → is_letter b ≡ w → (b == 36) ≡ x → is_quote b ≡ y
    → cond v (Some (shape.Number, prefix_len is_digit (b ∷ z))) (cond w (Some (shape.Name, prefix_len is_word (b ∷ z))) (
    cond x (Some (shape.Variable, suc (prefix_len is_word z))) (cond y (quoted (unquote b false z)) (find signs (b ∷ z))))) ≡ Some q → Takes (b ∷ z) q
takes_if b z q true w x y d l m k e = let same : (shape.Number, prefix_len is_digit (b ∷ z)) ≡ q = cc in subst (λ r. Takes (b ∷ z) r) same (takes_number b z d)
takes_if b z q false true x y d l m k e = let same : (shape.Name, prefix_len is_word (b ∷ z)) ≡ q = cc in subst (λ r. Takes (b ∷ z) r) same (takes_name b z l)
takes_if b z q false false true y d l m k e = let same : (shape.Variable, suc (prefix_len is_word z)) ≡ q = cc in subst (λ r. Takes (b ∷ z) r) same (takes_variable b z m)
takes_if b z q false false false true d l m k e = takes_literal b z q k (unquote b false z) refl e
takes_if b z q false false false false d l m k e =
    let g : Found (b ∷ z) q = find_is signs spelled (b ∷ z) q e in
    (spelling g.0, g.1, g.4, sym g.3, subst (λ c. Written (spelling g.0) c) (sym g.2) refl)

pub takes : (t : Text) (q : Shape × ℕ) → shape_at t ≡ Some q → Takes t q
unfolding shape_at
takes [] q e = absurd (cc)
takes (b ∷ z) q e = takes_if b z q (is_digit b) (is_letter b) (b == 36) (is_quote b) refl refl refl refl e

-- the longest token is the one that is taken
pub shape_is : (a z : Text) (form : Shape) → Written a form → Longest a z → shape_at (a ++ z) ≡ Some (form, length a)
shape_is a z form h long =
    let r : Reaches a z form = reaches a z form h in
    let t : Takes (a ++ z) r.0 = takes (a ++ z) r.0 r.1 in
    let n : r.0.1 ≡ length a = omega (arith, long t.0 t.1 r.0.0 t.2 t.4, r.2, t.3) in
    r.1 ∙ ap Some (pair r.0 form (length a) (r.3 n) n)
  where
    pair : (q : Shape × ℕ) (c : Shape) (m : ℕ) → q.0 ≡ c → q.1 ≡ m → q ≡ (c, m)
    pair (x, y) c m e f = cc

pub is_longest : (a z : Text) (q : Shape × ℕ) → shape_at (a ++ z) ≡ Some q → length a ≡ q.1 → Longest a z
is_longest a z q e n = λ b r form same h.
    let f : Reaches b r form = reaches b r form h in
    let g : Some q ≡ Some f.0 = sym e ∙ ap shape_at same ∙ f.1 in
    let g2 : q ≡ f.0 = cc in
    omega (arith, f.2, ap (λ p. p.1) g2, n)
