-- Runs of bytes, and text literals.
use Rattle.std.proofs.Common.{◌≡◌, ℕ, suc, ◌+◌, ◌≤◌, [], ◌∷◌, ◌++◌, length, refl, sym, ◌∙◌, ap, subst, arith, length-append}
use Rattle.std.specs.Prelude.{Bool, true, false, cond, ◌==◌, Option, Some, None}
use Rattle.std.proofs.lemmas.List.{append-nil}
use Rattle.std.specs.List.{prefix_len}
use Rattle.ng_tokens.specs.Lexis.{Text, is_digit, is_letter, is_word, is_quote, escape, put, past, unquote, all}
use Rattle.ng_tokens.proofs.SignTable.{no_true}

pub both_true : (x y : Bool) → cond x y false ≡ true → (x ≡ true) × (y ≡ true)
both_true true y e = (refl, e)
both_true false y e = absurd (no_true e)

pub run_all : (p : ℕ → Bool) (a z : Text) → all p a ≡ true → length a ≤ prefix_len p (a ++ z)
run_all p [] z e = omega arith
run_all p (b ∷ a) z e = let h : (p b ≡ true) × (all p a ≡ true) = both_true (p b) (all p a) e in rw h.0 (omega (arith, run_all p a z h.1))

-- a run and what comes after it
abbrev pub Splits : (ℕ → Bool) → Text → ℕ → Type 0
Splits p t n = (a z : Text) × (t ≡ a ++ z) × (length a ≡ n) × (all p a ≡ true)

split_more : (p : ℕ → Bool) (b : ℕ) (t : Text) (v : Bool) → p b ≡ v → Splits p t (prefix_len p t) → Splits p (b ∷ t) (cond v (1 + prefix_len p t) 0)
split_more p b t true e h =
    let n : 1 + prefix_len p t ≡ suc (prefix_len p t) = omega arith in
    subst (λ m. Splits p (b ∷ t) m) (sym n) (b ∷ h.0, h.1, ap (λ w. b ∷ w) h.2, ap suc h.3, rw e h.4)
split_more p b t false e h = ([], b ∷ t, refl, refl, refl)

pub run_split : (p : ℕ → Bool) (t : Text) → Splits p t (prefix_len p t)
run_split p [] = ([], [], refl, refl, refl)
run_split p (b ∷ t) = split_more p b t (p b) refl (run_split p t)

pub letter_no_digit : (b : ℕ) → is_letter b ≡ true → is_digit b ≡ false
letter_no_digit b e = grind arith

pub letter_word : (b : ℕ) → is_letter b ≡ true → is_word b ≡ true
letter_word b e = grind arith

pub dollar_no_digit : (b : ℕ) → (b == 36) ≡ true → is_digit b ≡ false
dollar_no_digit b e = grind arith

pub dollar_no_letter : (b : ℕ) → (b == 36) ≡ true → is_letter b ≡ false
dollar_no_letter b e = grind arith

pub quote_no_digit : (b : ℕ) → is_quote b ≡ true → is_digit b ≡ false
quote_no_digit b e = grind arith

pub quote_no_letter : (b : ℕ) → is_quote b ≡ true → is_letter b ≡ false
quote_no_letter b e = grind arith

pub quote_no_dollar : (b : ℕ) → is_quote b ≡ true → (b == 36) ≡ false
quote_no_dollar b e = grind arith

-- ---- literals

abbrev Quoted : ℕ → Bool → Text → Text × ℕ → Type 0
Quoted q e t v = (z : Text) → unquote q e (t ++ z) ≡ Some v

pub put_some : (o : Option ℕ) (r : Option (Text × ℕ)) (v : Text × ℕ) → put o r ≡ Some v → (b : ℕ) × (u : Text × ℕ) × (o ≡ Some b) × (r ≡ Some u) × (v ≡ (b ∷ u.0, suc u.1))
put_some (Some b) (Some u) v e = (b, u, refl, refl, cc)
put_some (Some b) None v e = absurd (cc)
put_some None r v e = absurd (cc)

pub past_some : (r : Option (Text × ℕ)) (v : Text × ℕ) → past r ≡ Some v → (u : Text × ℕ) × (r ≡ Some u) × (v ≡ (u.0, suc u.1))
past_some (Some u) v e = (u, refl, cc)
past_some None v e = absurd (cc)

-- what comes after a literal doesn't matter, and it ends within the text
abbrev pub Cut : ℕ → Bool → Text → Text × ℕ → Type 0
Cut q e t v = (a z : Text) × (t ≡ a ++ z) × (length a ≡ v.1) × ((r : Text) → unquote q e (a ++ r) ≡ Some v)

cut_plain : (q b : ℕ) (t : Text) (v : Text × ℕ) (ends slash : Bool) → (b == q) ≡ ends → (b == 92) ≡ slash
    → ((u : Text × ℕ) → unquote q true t ≡ Some u → Cut q true t u) → ((u : Text × ℕ) → unquote q false t ≡ Some u → Cut q false t u)
    → cond ends (Some ([], 1)) (cond slash (past (unquote q true t)) (put (Some b) (unquote q false t))) ≡ Some v → Cut q false (b ∷ t) v
unfolding unquote
cut_plain q b t v true slash e f go1 go2 h = (b ∷ [], t, refl, ap (λ w. w.1) (inner h), λ r. rw e h)
  where
    inner : {p u : Text × ℕ} → Some p ≡ Some u → p ≡ u
    inner i = cc
cut_plain q b t v false true e f go1 go2 h =
    let p : (u : Text × ℕ) × (unquote q true t ≡ Some u) × (v ≡ (u.0, suc u.1)) = past_some (unquote q true t) v h in
    let c : Cut q true t p.0 = go1 p.0 p.1 in
    (b ∷ c.0, c.1, ap (λ w. b ∷ w) c.2, ap suc c.3 ∙ sym (ap (λ w. w.1) p.2), λ r. rw e (rw f (ap past (c.4 r) ∙ ap Some (sym p.2))))
cut_plain q b t v false false e f go1 go2 h =
    let p : (d : ℕ) × (u : Text × ℕ) × (Some b ≡ Some d) × (unquote q false t ≡ Some u) × (v ≡ (d ∷ u.0, suc u.1)) = put_some (Some b) (unquote q false t) v h in
    let c : Cut q false t p.1 = go2 p.1 p.3 in
    let same : b ≡ p.0 = let g = p.2 in cc in
    (b ∷ c.0, c.1, ap (λ w. b ∷ w) c.2, ap suc c.3 ∙ sym (ap (λ w. w.1) p.4), λ r. rw e (rw f (ap (put (Some b)) (c.4 r) ∙ ap (λ d. Some (d ∷ p.1.0, suc p.1.1)) same ∙ ap Some (sym p.4))))

cut_escaped : (q b : ℕ) (t : Text) (v : Text × ℕ) → ((u : Text × ℕ) → unquote q false t ≡ Some u → Cut q false t u) → put (escape b) (unquote q false t) ≡ Some v → Cut q true (b ∷ t) v
unfolding unquote
cut_escaped q b t v go h =
    let p : (d : ℕ) × (u : Text × ℕ) × (escape b ≡ Some d) × (unquote q false t ≡ Some u) × (v ≡ (d ∷ u.0, suc u.1)) = put_some (escape b) (unquote q false t) v h in
    let c : Cut q false t p.1 = go p.1 p.3 in
    (b ∷ c.0, c.1, ap (λ w. b ∷ w) c.2, ap suc c.3 ∙ sym (ap (λ w. w.1) p.4), λ r. ap (put (escape b)) (c.4 r) ∙ ap (λ o. put o (Some p.1)) p.2 ∙ ap Some (sym p.4))

pub cut_literal : (q : ℕ) (e : Bool) (t : Text) (v : Text × ℕ) → unquote q e t ≡ Some v → Cut q e t v
unfolding unquote
cut_literal q e [] v h = absurd (cc)
cut_literal q true (b ∷ t) v h = cut_escaped q b t v (λ u i. cut_literal q false t u i) h
cut_literal q false (b ∷ t) v h = cut_plain q b t v (b == q) (b == 92) refl refl (λ u i. cut_literal q true t u i) (λ u i. cut_literal q false t u i) h

-- a literal that is its whole text is one with whatever comes after
pub literal_more : (q : ℕ) (t : Text) (v : Text) → unquote q false t ≡ Some (v, length t) → (r : Text) → unquote q false (t ++ r) ≡ Some (v, length t)
literal_more q t v h r =
    let c : Cut q false t (v, length t) = cut_literal q false t (v, length t) h in
    let none : c.1 ≡ [] = no_length c.1 (omega (arith, ap length c.2, length-append c.0 c.1, c.3)) in
    let whole : t ≡ c.0 = c.2 ∙ ap (λ z. c.0 ++ z) none ∙ append-nil c.0 in
    ap (λ w. unquote q false (w ++ r)) whole ∙ c.4 r
  where
    no_length : (w : Text) → length w ≤ 0 → w ≡ []
    no_length [] l = refl
    no_length (b ∷ w) l = absurd (omega arith)
