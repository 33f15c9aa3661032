-- Fronts of texts: words, runs, the first place of a word.
use Rattle.std.proofs.Common.{◌≡◌, ℕ, suc, ◌+◌, ◌≤◌, [], ◌∷◌, ◌++◌, length, refl, sym, ◌∙◌, ap, subst, append_assoc, arith, length-append}
use Rattle.std.specs.Prelude.{Bool, true, false, cond, if◌then◌else◌, ◌&&◌, ◌==◌, Option, Some, None}
use Rattle.std.specs.List.{prefix_len}
use Rattle.std.specs.Option.{option_map}
use Rattle.ng_tokens.specs.Lexis.{Text, all, begins}
use Rattle.ng_exprs.specs.Ends.{later}
use Rattle.ng_lex.specs.declared.quotes.Quoting.{Quoting}
use Rattle.ng_lex.specs.declared.quotes.Quoting.TheVariants.{Outside, Within, Escaped}
use Rattle.ng_lex.specs.Words.{is_outside, after, Clear, at_front}
use Rattle.ng_lex.specs.Span.{seek}

-- ---- tests

pub both_true : (x y : Bool) → cond x y false ≡ true → (x ≡ true) × (y ≡ true)
both_true true y e = (refl, e)
both_true false y e = absurd (cc)

pub and_true : (x y : Bool) → (x && y) ≡ true → (x ≡ true) × (y ≡ true)
and_true true y e = (refl, e)
and_true false y e = absurd (cc)

pub no_true : false ≡ true → ⊥
no_true e = cc

pub eq_self : (b : ℕ) → (b == b) ≡ true
eq_self b = grind arith

pub same_byte : (b c : ℕ) → (b == c) ≡ true → b ≡ c
same_byte b c e = grind arith

-- ---- counts

pub later_suc : (n : ℕ) (o : Option ℕ) → option_map suc (later n o) ≡ later (suc n) o
later_suc n None = refl
later_suc n (Some m) = let e : suc (n + m) ≡ suc n + m = omega arith in ap Some e

pub later_none : (o : Option ℕ) → later 0 o ≡ o
later_none None = refl
later_none (Some m) = let e : 0 + m ≡ m = omega arith in ap Some e

pub later_one : (o : Option ℕ) → option_map suc o ≡ later 1 o
later_one None = refl
later_one (Some m) = let e : suc m ≡ 1 + m = omega arith in ap Some e

pub later_more : (m n : ℕ) (o : Option ℕ) → later m (later n o) ≡ later (m + n) o
later_more m n None = refl
later_more m n (Some i) = let e : m + (n + i) ≡ (m + n) + i = omega arith in ap Some e

-- ---- words

pub begins_self : (w r : Text) → begins w (w ++ r) ≡ true
begins_self [] r = refl
begins_self (b ∷ w) r = rw (eq_self b) (begins_self w r)

-- what stands after enough bytes doesn't count
pub begins_front : (w s z : Text) → length w ≤ length s → begins w (s ++ z) ≡ begins w s
begins_front [] s z h = refl
begins_front (b ∷ w) [] z h = absurd (omega arith)
begins_front (b ∷ w) (c ∷ s) z h = ap (λ v. cond (b == c) v false) (begins_front w s z (omega arith))

begins_if : (b c : ℕ) (w t : Text) → (begins w t ≡ true → (r : Text) × (t ≡ w ++ r)) → (x : Bool) → (b == c) ≡ x → cond x (begins w t) false ≡ true → (r : Text) × (c ∷ t ≡ (b ∷ w) ++ r)
begins_if b c w t go true f g = let h : (r : Text) × (t ≡ w ++ r) = go g in (h.0, ap (λ z. c ∷ z) h.1 ∙ ap (λ z. z ∷ w ++ h.0) (sym (same_byte b c f)))
begins_if b c w t go false f g = absurd (cc)

pub begins_is : (w t : Text) → begins w t ≡ true → (r : Text) × (t ≡ w ++ r)
begins_is [] t e = (t, refl)
begins_is (b ∷ w) [] e = absurd (cc)
begins_is (b ∷ w) (c ∷ t) e = begins_if b c w t (begins_is w t) (b == c) refl e

-- ---- runs

front_stops : (p : ℕ → Bool) (z : Text) → at_front p z ≡ false → prefix_len p z ≡ 0
front_stops p [] e = refl
front_stops p (b ∷ z) e = rw e refl

pub run_len : (p : ℕ → Bool) (a z : Text) → all p a ≡ true → at_front p z ≡ false → prefix_len p (a ++ z) ≡ length a
run_len p [] z h e = front_stops p z e
run_len p (b ∷ a) z h e = let g = both_true (p b) (all p a) h in rw g.0 (omega (arith, run_len p a z g.1 e))

-- a run that is as long as can be, and what comes after it
pub record Splits (p : ℕ → Bool) (t : Text) (n : ℕ) : Type 0 where
  pub run : Text
  pub rest : Text
  pub is : t ≡ run ++ rest
  pub long : length run ≡ n
  pub passes : all p run ≡ true
  pub stops : at_front p rest ≡ false

split_more : (p : ℕ → Bool) (b : ℕ) (t : Text) (v : Bool) → p b ≡ v → Splits p t (prefix_len p t) → Splits p (b ∷ t) (cond v (1 + prefix_len p t) 0)
split_more p b t true e h = record { run = b ∷ h.run; rest = h.rest; is = ap (λ w. b ∷ w) h.is; long = omega (arith, h.long); passes = rw e h.passes; stops = h.stops }
split_more p b t false e h = record { run = []; rest = b ∷ t; is = refl; long = refl; passes = refl; stops = e }

pub run_split : (p : ℕ → Bool) (t : Text) → Splits p t (prefix_len p t)
run_split p [] = record { run = []; rest = []; is = refl; long = refl; passes = refl; stops = refl }
run_split p (b ∷ t) = split_more p b t (p b) refl (run_split p t)

-- ---- the first place of a word

clear_step : (c g k : Bool) (o : Option ℕ) (n : ℕ) → g ≡ k → cond c k false ≡ false → o ≡ Some n → cond (cond c g false) (Some 0) (option_map suc o) ≡ Some (suc n)
clear_step c g k o n s t u = rw s (rw t (rw u refl))

-- the word, with whatever comes after it, is found where it is first
pub seek_first : (f : Quoting → ℕ → Quoting) (v : ℕ) (w : Text) (s : Quoting) (x z : Text) → Clear f (v ∷ w) s x (v ∷ w) → after f s x ≡ Outside → seek f (v ∷ w) s (x ++ ((v ∷ w) ++ z)) ≡ Some (length x)
seek_first f v w s [] z h e = rw e (rw (eq_self v) (rw (begins_self w z) refl))
seek_first f v w s (b ∷ x) z h e =
    let same : begins (v ∷ w) (b ∷ (x ++ ((v ∷ w) ++ z))) ≡ begins (v ∷ w) (b ∷ (x ++ (v ∷ w))) =
    ap (λ t. begins (v ∷ w) (b ∷ t)) (sym (append_assoc x (v ∷ w) z)) ∙ begins_front (v ∷ w) (b ∷ (x ++ (v ∷ w))) z (omega (arith, length-append x (v ∷ w))) in
    clear_step (is_outside s) (begins (v ∷ w) (b ∷ (x ++ ((v ∷ w) ++ z)))) (begins (v ∷ w) (b ∷ (x ++ (v ∷ w)))) (seek f (v ∷ w) (f s b) (x ++ ((v ∷ w) ++ z))) (length x) same h.0 (seek_first f v w (f s b) x z h.1 e)

-- what is found is the first place
pub record Found (f : Quoting → ℕ → Quoting) (w : Text) (s : Quoting) (t : Text) (n : ℕ) : Type 0 where
  pub front : Text
  pub rest : Text
  pub is : t ≡ front ++ (w ++ rest)
  pub long : length front ≡ n
  pub ends : after f s front ≡ Outside
  pub clear : Clear f w s front w

outside : (s : Quoting) → is_outside s ≡ true → s ≡ Outside
outside Outside e = refl
outside (Within q) e = absurd (cc)
outside (Escaped q) e = absurd (cc)

more_some : (o : Option ℕ) (n : ℕ) → option_map suc o ≡ Some n → (m : ℕ) × (o ≡ Some m) × (n ≡ suc m)
more_some None n e = absurd (cc)
more_some (Some m) n e = (m, refl, cc)

found_more : (f : Quoting → ℕ → Quoting) (w : Text) (s : Quoting) (b : ℕ) (t : Text) (n : ℕ) → (if is_outside s then begins w (b ∷ t) else false) ≡ false → Found f w (f s b) t n → Found f w s (b ∷ t) (suc n)
found_more f w s b t n e h = record {
  front = b ∷ h.front;
  rest = h.rest;
  is = ap (λ z. b ∷ z) h.is;
  long = ap suc h.long;
  ends = h.ends;
  clear = (miss (is_outside s) same e, h.clear);
}
  where
    same : begins w (b ∷ (h.front ++ w)) ≡ begins w (b ∷ t)
    same = sym (begins_front w (b ∷ (h.front ++ w)) h.rest (omega (arith, length-append h.front w))) ∙ ap (λ z. begins w (b ∷ z)) (append_assoc h.front w h.rest ∙ sym h.is)

    miss : (c : Bool) → begins w (b ∷ (h.front ++ w)) ≡ begins w (b ∷ t) → cond c (begins w (b ∷ t)) false ≡ false → cond c (begins w (b ∷ (h.front ++ w))) false ≡ false
    miss c i j = rw i j

found_if : (f : Quoting → ℕ → Quoting) (w : Text) (s : Quoting) (b : ℕ) (t : Text) (n : ℕ) → ((m : ℕ) → seek f w (f s b) t ≡ Some m → Found f w (f s b) t m) → (c v : Bool) → is_outside s ≡ c → begins w (b ∷ t) ≡ v
    → cond (cond c v false) (Some 0) (option_map suc (seek f w (f s b) t)) ≡ Some n → Found f w s (b ∷ t) n
found_if f w s b t n go true true e i h =
    let g : (r : Text) × (b ∷ t ≡ w ++ r) = begins_is w (b ∷ t) i in
    let m : 0 ≡ n = cc in
    record { front = []; rest = g.0; is = g.1; long = m; ends = outside s e; clear = tt }
found_if f w s b t n go true false e i h =
    let g : (m : ℕ) × (seek f w (f s b) t ≡ Some m) × (n ≡ suc m) = more_some (seek f w (f s b) t) n h in
    subst (λ k. Found f w s (b ∷ t) k) (sym g.2) (found_more f w s b t g.0 (rw (e, i) refl) (go g.0 g.1))
found_if f w s b t n go false v e i h =
    let g : (m : ℕ) × (seek f w (f s b) t ≡ Some m) × (n ≡ suc m) = more_some (seek f w (f s b) t) n h in
    subst (λ k. Found f w s (b ∷ t) k) (sym g.2) (found_more f w s b t g.0 (rw e refl) (go g.0 g.1))

pub found : (f : Quoting → ℕ → Quoting) (w : Text) (s : Quoting) (t : Text) (n : ℕ) → seek f w s t ≡ Some n → Found f w s t n
found f w s [] n e = absurd (cc)
found f w s (b ∷ t) n e = found_if f w s b t n (λ m. found f w (f s b) t m) (is_outside s) (begins w (b ∷ t)) refl refl e
