-- Two different texts are never printed alike.
use Rattle.std.proofs.Common.{◌≡◌, ℕ, ◌≢◌, Bool, true, false, ◌==◌, if◌then◌else◌, [], ◌∷◌, ◌++◌, codes, refl, sym, subst, ap, drop, get_or, arith}
use Rattle.std.proofs.lemmas.Bool.{eqb-true, eqb-false}
use Rattle.ng_meaning.specs.Lists.{Text}
use Rattle.ng_meaning.specs.Printing.{escaped_byte, escaped, escaped_value_byte, escaped_value}

-- how a byte is printed
data Printed : ℕ → Text → Type 0 where
  ampersand : Printed 38 (codes "&amp;")
  less : Printed 60 (codes "&lt;")
  greater : Printed 62 (codes "&gt;")
  quote : Printed 34 (codes "&quot;")
  itself : (b : ℕ) → b ≢ 38 → Printed b (b ∷ [])

-- either side of a choice
chosen : (P : Text → Type 0) (c : Bool) (x y : Text) → (c ≡ true → P x) → (c ≡ false → P y) → P (if c then x else y)
chosen P true x y f g = f refl
chosen P false x y f g = g refl

is_printed : (b n : ℕ) (t : Text) → (b == n) ≡ true → Printed n t → Printed b t
is_printed b n t e p = subst (λ (m : ℕ). Printed m t) (sym (eqb-true b n e)) p

text_byte : (b : ℕ) → Printed b (escaped_byte b)
text_byte b =
    chosen (Printed b) (b == 38) _ _ (λ e. is_printed b 38 _ e ampersand) (λ n. chosen (Printed b) (b == 60) _ _ (λ e. is_printed b 60 _ e less)
    (λ _. chosen (Printed b) (b == 62) _ _ (λ e. is_printed b 62 _ e greater) (λ _. itself b (eqb-false b 38 n))))

value_byte : (b : ℕ) → Printed b (escaped_value_byte b)
value_byte b = chosen (Printed b) (b == 34) _ _ (λ e. is_printed b 34 _ e quote) (λ _. text_byte b)

-- the byte at a place of two texts that are one
same_at : (k : ℕ) (x y : Text) → x ≡ y → get_or x k 0 ≡ get_or y k 0
same_at k x y e = ap (λ (z : Text). get_or z k 0) e

-- the byte, and what follows it, are seen in what is printed
apart : {a b : ℕ} {x y : Text} → Printed a x → Printed b y → (s t : Text) → x ++ s ≡ y ++ t → (a ≡ b) × (s ≡ t)
apart ampersand ampersand s t e = (refl, ap (drop 5) e)
apart ampersand less s t e = let h : ◌≡◌ {A = ℕ} 97 108 = same_at 1 _ _ e in absurd (omega arith)
apart ampersand greater s t e = let h : ◌≡◌ {A = ℕ} 97 103 = same_at 1 _ _ e in absurd (omega arith)
apart ampersand quote s t e = let h : ◌≡◌ {A = ℕ} 97 113 = same_at 1 _ _ e in absurd (omega arith)
apart ampersand (itself b n) s t e = absurd (n (sym (same_at 0 _ _ e)))
apart less ampersand s t e = let h : ◌≡◌ {A = ℕ} 108 97 = same_at 1 _ _ e in absurd (omega arith)
apart less less s t e = (refl, ap (drop 4) e)
apart less greater s t e = let h : ◌≡◌ {A = ℕ} 108 103 = same_at 1 _ _ e in absurd (omega arith)
apart less quote s t e = let h : ◌≡◌ {A = ℕ} 108 113 = same_at 1 _ _ e in absurd (omega arith)
apart less (itself b n) s t e = absurd (n (sym (same_at 0 _ _ e)))
apart greater ampersand s t e = let h : ◌≡◌ {A = ℕ} 103 97 = same_at 1 _ _ e in absurd (omega arith)
apart greater less s t e = let h : ◌≡◌ {A = ℕ} 103 108 = same_at 1 _ _ e in absurd (omega arith)
apart greater greater s t e = (refl, ap (drop 4) e)
apart greater quote s t e = let h : ◌≡◌ {A = ℕ} 103 113 = same_at 1 _ _ e in absurd (omega arith)
apart greater (itself b n) s t e = absurd (n (sym (same_at 0 _ _ e)))
apart quote ampersand s t e = let h : ◌≡◌ {A = ℕ} 113 97 = same_at 1 _ _ e in absurd (omega arith)
apart quote less s t e = let h : ◌≡◌ {A = ℕ} 113 108 = same_at 1 _ _ e in absurd (omega arith)
apart quote greater s t e = let h : ◌≡◌ {A = ℕ} 113 103 = same_at 1 _ _ e in absurd (omega arith)
apart quote quote s t e = (refl, ap (drop 6) e)
apart quote (itself b n) s t e = absurd (n (sym (same_at 0 _ _ e)))
apart (itself a n) ampersand s t e = absurd (n (same_at 0 _ _ e))
apart (itself a n) less s t e = absurd (n (same_at 0 _ _ e))
apart (itself a n) greater s t e = absurd (n (same_at 0 _ _ e))
apart (itself a n) quote s t e = absurd (n (same_at 0 _ _ e))
apart (itself a n) (itself b m) s t e = (same_at 0 _ _ e, ap (drop 1) e)

-- something is printed of every byte
never_nothing : {b : ℕ} {x : Text} → Printed b x → (t : Text) → x ++ t ≡ [] → ⊥
never_nothing ampersand t e = cc
never_nothing less t e = cc
never_nothing greater t e = cc
never_nothing quote t e = cc
never_nothing (itself b n) t e = cc

pub escaped_apart : (s t : Text) → escaped s ≡ escaped t → s ≡ t
escaped_apart [] [] e = refl
escaped_apart [] (b ∷ t) e = absurd (never_nothing (text_byte b) (escaped t) (sym e))
escaped_apart (a ∷ s) [] e = absurd (never_nothing (text_byte a) (escaped s) e)
escaped_apart (a ∷ s) (b ∷ t) e =
    let h = apart (text_byte a) (text_byte b) (escaped s) (escaped t) e in
    λ i. h.0 i ∷ escaped_apart s t h.1 i

pub escaped_value_apart : (s t : Text) → escaped_value s ≡ escaped_value t → s ≡ t
escaped_value_apart [] [] e = refl
escaped_value_apart [] (b ∷ t) e = absurd (never_nothing (value_byte b) (escaped_value t) (sym e))
escaped_value_apart (a ∷ s) [] e = absurd (never_nothing (value_byte a) (escaped_value s) e)
escaped_value_apart (a ∷ s) (b ∷ t) e =
    let h = apart (value_byte a) (value_byte b) (escaped_value s) (escaped_value t) e in
    λ i. h.0 i ∷ escaped_value_apart s t h.1 i
