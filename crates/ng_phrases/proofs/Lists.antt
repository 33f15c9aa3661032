-- Phrases one after another, as long as there are more, and their parser.
use Rattle.std.proofs.Common.{◌≡◌, ℕ, zero, suc, ◌<◌, Bool, true, false, cond, List, [], ◌∷◌, ◌++◌, length, refl, sym, ◌∙◌, ap, subst, append_assoc, arith, inl, inr, length-append}
use Rattle.std.specs.Prelude.{Ok, Err, ◌⊎◌}
use Rattle.std.proofs.lemmas.List.{append-nil}
use Rattle.ng_ast.specs.declared.Place.{Place}
use Rattle.ng_tokens.specs.Lexis.{Text, steps}
use Rattle.ng_phrases.specs.Parser.{Readers, Stop, Outcome, Parser, and_then, Took, Sound, Calm, Gets, Complete, Means, Stops, Takes}
use Rattle.ng_phrases.specs.Reading.{Many, SomeOver, Extends}
use Rattle.ng_phrases.specs.Parse.{each}
use Rattle.ng_phrases.specs.ParserLaws.{steps-append, same_done, err_no_ok, ok_no_err, same_stop, then_ok, then_err, gets_then, means_map}
use Rattle.ng_phrases.proofs.Sequences.{took_that}

-- what the turns took: the items that came to those found before
record Adds {A : Type 0} (more : Text → Bool) (r : Place → Text → Text → A → Type 0) (p : Place) (t : Text) (found all : List A) (q : Place) (z : Text) : Type 0 where
  new : List A
  all_is : all ≡ found ++ new
  took : Took (Many more r) p t new q z

adds_none : {A : Type 0} (more : Text → Bool) (r : Place → Text → Text → A → Type 0) (p : Place) (t : Text) (found all : List A) (q : Place) (z : Text) → more t ≡ false → ◌≡◌ {A = List A × Place × Text} (found, p, t) (all, q, z)
    → Adds more r p t found all q z
adds_none more r p t found all q z stop e =
    let text_is : t ≡ z = ap (λ (u : List _ × Place × Text). u.2) e in
    record {
      new = [];
      all_is = sym (ap (λ (u : List _ × Place × Text). u.0) e) ∙ sym (append-nil found);
      took = record { text = []; parts = text_is; place = sym (ap (λ (u : List _ × Place × Text). u.1) e); reads = Many.done (ap more (sym text_is) ∙ stop) };
    }

adds_one : {A : Type 0} (more : Text → Bool) (r : Place → Text → Text → A → Type 0) (p : Place) (t : Text) (found all : List A) (q : Place) (z : Text) (a : A) (m : Place) (u : Text)
    → more t ≡ true → Took r p t a m u → Adds more r m u (found ++ a ∷ []) all q z → Adds more r p t found all q z
adds_one more r p t found all q z a m u goes h i =
    let parts : t ≡ h.text ++ (i.took.text ++ z) = h.parts ∙ ap (λ (w : Text). h.text ++ w) i.took.parts in
    record {
      new = a ∷ i.new;
      all_is = i.all_is ∙ append_assoc found (a ∷ []) i.new;
      took = record {
        text = h.text ++ i.took.text;
        parts = parts ∙ sym (append_assoc h.text i.took.text z);
        place = i.took.place ∙ ap (λ n. steps n i.took.text) h.place ∙ sym (steps-append p h.text i.took.text);
        reads = Many.next h.text i.took.text (ap more (sym parts) ∙ goes) (subst (λ (w : Text). r p h.text w a) i.took.parts h.reads) (subst (λ n. Many more r n i.took.text z i.new) h.place i.took.reads);
      };
    }

-- the turn went on because what was found passes the test
kept : {Q A : Type 0} (b : Bool) (o : Outcome Q A) (y : A × Place × Text) → cond b o (Err Stop.Limit) ≡ Ok y → (b ≡ true) × (o ≡ Ok y)
kept true o y e = (refl, e)
kept false o y e = absurd (err_no_ok Stop.Limit y e)

module _ {Q A : Type 0} (more : Text → Bool) (r : Place → Text → Text → A → Type 0) (item : Parser Q A) (good : List A → Bool) (exact : Sound r item) where
  adds_by : (n : ℕ) (p : Place) (t : Text) (found all : List A) (q : Place) (z : Text)
      → ((m : Place) (u : Text) (now : List A) → each more item good n now m u ≡ Ok (all, q, z) → Adds more r m u now all q z)
      → (c : Bool) → more t ≡ c
      → cond c (and_then (item p t) (λ a m u. cond (good (found ++ a ∷ [])) (each more item good n (found ++ a ∷ []) m u) (Err Stop.Limit))) (Ok (found, p, t)) ≡ Ok (all, q, z) → Adds more r p t found all q z
  adds_by n p t found all q z go true c e =
      let i = then_ok (item p t) (λ a m u. cond (good (found ++ a ∷ [])) (each more item good n (found ++ a ∷ []) m u) (Err Stop.Limit)) (all, q, z) e in
      let k = kept (good (found ++ i.0.0 ∷ [])) _ (all, q, z) i.2 in
      adds_one more r p t found all q z i.0.0 i.0.1 i.0.2 c (exact.takes p t i.0.0 i.0.1 i.0.2 i.1) (go i.0.1 i.0.2 (found ++ i.0.0 ∷ []) k.1)
  adds_by n p t found all q z go false c e = adds_none more r p t found all q z c (same_done _ _ e)

  adds : (n : ℕ) (p : Place) (t : Text) (found all : List A) (q : Place) (z : Text) → each more item good n found p t ≡ Ok (all, q, z) → Adds more r p t found all q z
  unfolding each
  adds zero p t found all q z e = absurd (err_no_ok Stop.Syntax (all, q, z) e)
  adds (suc n) p t found all q z e = adds_by n p t found all q z (λ m u now. adds n m u now all q z) (more t) refl e

  pub sound_each : (start : List A) → Sound (Extends more r start) (λ p t. each more item good (suc (length t)) start p t)
  sound_each start = record {
    takes = λ p t all q z e. let i = adds (suc (length t)) p t start all q z e in record { text = i.took.text; parts = i.took.parts; place = i.took.place; reads = (i.new, i.all_is, i.took.reads) };
  }

-- ---- limits

-- what it says that one of several phrases passes a limit
abbrev Passing : {A : Type 0} → (Text → Bool) → (Place → Text → Text → A → Type 0) → (Place → Text → Type 0) → (List A → Bool) → Place → Text → List A → Type 0
Passing {A} more r over good p t found = (more t ≡ true) × (over p t ⊎ ((x y : Text) × (a : A) × (t ≡ x ++ y) × r p x y a
    × ((good (found ++ a ∷ []) ≡ false) ⊎ SomeOver more r over good (steps p x) y (found ++ a ∷ []))))

passing : {A : Type 0} {more : Text → Bool} {r : Place → Text → Text → A → Type 0} {over : Place → Text → Type 0} {good : List A → Bool} {p : Place} {t : Text} {found : List A}
    → SomeOver more r over good p t found → Passing more r over good p t found
passing (SomeOver.now e h) = (e, inl h)
passing (SomeOver.full {a = a} x y e h k) = (e, inr (x, y, a, refl, h, inl k))
passing (SomeOver.later {a = a} x y e h k) = (e, inr (x, y, a, refl, h, inr k))

true_no_false : (b : Bool) → b ≡ true → b ≡ false → ⊥
true_no_false b e h = cc

-- a phrase was read and did not pass the test
fulls : {A : Type 0} (more : Text → Bool) (r : Place → Text → Text → A → Type 0) (over : Place → Text → Type 0) (good : List A → Bool) (p : Place) (t : Text) (found : List A) (a : A) (m : Place) (u : Text)
    → more t ≡ true → Took r p t a m u → good (found ++ a ∷ []) ≡ false → SomeOver more r over good p t found
fulls more r over good p t found a m u goes h e =
    subst (λ (w : Text). SomeOver more r over good p w found) (sym h.parts) (SomeOver.full h.text u (ap more (sym h.parts) ∙ goes) h.reads e)

laters : {A : Type 0} (more : Text → Bool) (r : Place → Text → Text → A → Type 0) (over : Place → Text → Type 0) (good : List A → Bool) (p : Place) (t : Text) (found : List A) (a : A) (m : Place) (u : Text)
    → more t ≡ true → Took r p t a m u → SomeOver more r over good m u (found ++ a ∷ []) → SomeOver more r over good p t found
laters more r over good p t found a m u goes h k =
    subst (λ (w : Text). SomeOver more r over good p w found) (sym h.parts)
    (SomeOver.later h.text u (ap more (sym h.parts) ∙ goes) h.reads (subst (λ n. SomeOver more r over good n u (found ++ a ∷ [])) h.place k))

module _ (R : Readers) {A : Type 0} (more : Text → Bool) (r : Place → Text → Text → A → Type 0) (over : Place → Text → Type 0) (item : Parser R.Question A) (good : List A → Bool) where
  -- what follows an item
  abbrev next : ℕ → List A → A → Parser R.Question (List A)
  next n found a m u = cond (good (found ++ a ∷ [])) (each more item good n (found ++ a ∷ []) m u) (Err Stop.Limit)

  abbrev turn : ℕ → List A → Bool → Parser R.Question (List A)
  turn n found c p t = cond c (and_then (item p t) (next n found)) (Ok (found, p, t))

  calm_by : Calm over item → Complete R r item → (n : ℕ) (p : Place) (t : Text) (found all : List A) (q : Place) (z : Text)
      → ((m : Place) (u : Text) (now : List A) → each more item good n now m u ≡ Ok (all, q, z) → SomeOver more r over good m u now → ⊥)
      → (c : Bool) → more t ≡ c → turn n found c p t ≡ Ok (all, q, z) → Passing more r over good p t found → ⊥
  calm_by calm whole n p t found all q z go false c e h = true_no_false (more t) h.0 c
  calm_by calm whole n p t found all q z go true c e h =
      let i = then_ok (item p t) (next n found) (all, q, z) e in
      let k = kept (good (found ++ i.0.0 ∷ [])) _ (all, q, z) i.2 in
      elim h.1 [
        | inl l ↦ calm.within p t i.0.0 i.0.1 i.0.2 i.1 l
        | inr m ↦
            let same : i.0 ≡ (m.2, steps p m.0, m.1) = took_that R r item whole p t m.0 m.1 m.2 i.0 m.3 m.4 i.1 in
            elim m.5 [
              | inl f ↦ true_no_false (good (found ++ i.0.0 ∷ [])) k.0 (ap (λ (y : A × Place × Text). good (found ++ y.0 ∷ [])) same ∙ f)
              | inr g ↦
                  go (steps p m.0) m.1 (found ++ m.2 ∷ []) (subst (λ (y : A × Place × Text). each more item good n (found ++ y.0 ∷ []) y.1 y.2 ≡ Ok (all, q, z)) same k.1) g
            ]
      ]

  calm_turns : Calm over item → Complete R r item → (n : ℕ) (p : Place) (t : Text) (found all : List A) (q : Place) (z : Text) → each more item good n found p t ≡ Ok (all, q, z)
      → SomeOver more r over good p t found → ⊥
  unfolding each
  calm_turns calm whole zero p t found all q z e h = err_no_ok Stop.Syntax (all, q, z) e
  calm_turns calm whole (suc n) p t found all q z e h = calm_by calm whole n p t found all q z (λ m u now. calm_turns calm whole n m u now all q z) (more t) refl e (passing h)

  pub calm_each : Calm over item → Complete R r item → (start : List A) → Calm (λ p t. SomeOver more r over good p t start) (λ p t. each more item good (suc (length t)) start p t)
  calm_each calm whole start = record { within = λ p t all q z e h. calm_turns calm whole (suc (length t)) p t start all q z e h }

  stops_by : Stops R over item → Sound r item → (n : ℕ) (p : Place) (t : Text) (found : List A) (e : Stop R.Question)
      → ((m : Place) (u : Text) (now : List A) → each more item good n now m u ≡ Err e → Means R (SomeOver more r over good m u now) e)
      → (c : Bool) → more t ≡ c → turn n found c p t ≡ Err e → Means R (SomeOver more r over good p t found) e
  stops_by stops exact n p t found e go false c h = absurd (ok_no_err e (found, p, t) h)
  stops_by stops exact n p t found e go true c h =
      elim (then_err (item p t) (next n found) e h) [
        | inl l ↦ means_map R _ _ e (SomeOver.now c) (stops.means p t e l)
        | inr m ↦ full_or m.0 (exact.takes p t m.0.0 m.0.1 m.0.2 m.1) (good (found ++ m.0.0 ∷ [])) refl m.2
      ]
    where
      full_or : (v : A × Place × Text) → Took r p t v.0 v.1 v.2 → (b : Bool) → good (found ++ v.0 ∷ []) ≡ b → cond b (each more item good n (found ++ v.0 ∷ []) v.1 v.2) (Err Stop.Limit) ≡ Err e
          → Means R (SomeOver more r over good p t found) e
      full_or v w true k i = means_map R _ _ e (laters more r over good p t found v.0 v.1 v.2 c w) (go v.1 v.2 (found ++ v.0 ∷ []) i)
      full_or v w false k i = subst (Means R (SomeOver more r over good p t found)) (same_stop Stop.Limit e i) (fulls more r over good p t found v.0 v.1 v.2 c w k)

  stops_turns : Stops R over item → Sound r item → (n : ℕ) (p : Place) (t : Text) (found : List A) (e : Stop R.Question) → each more item good n found p t ≡ Err e
      → Means R (SomeOver more r over good p t found) e
  unfolding each
  stops_turns stops exact zero p t found e h = subst (Means R (SomeOver more r over good p t found)) (same_stop Stop.Syntax e h) tt
  stops_turns stops exact (suc n) p t found e h = stops_by stops exact n p t found e (λ m u now. stops_turns stops exact n m u now e) (more t) refl h

  pub stops_each : Stops R over item → Sound r item → (start : List A) → Stops R (λ p t. SomeOver more r over good p t start) (λ p t. each more item good (suc (length t)) start p t)
  stops_each stops exact start = record { means = λ p t e h. stops_turns stops exact (suc (length t)) p t start e h }

  -- ---- all that is read is taken

  takes_some : Takes r → (p : Place) (x z : Text) (a : A) → r p x z a → 0 < length x
  takes_some some p [] z a h = absurd (some p [] z a h refl)
  takes_some some p (b ∷ x) z a h = omega arith

  gets_done : (n : ℕ) (p : Place) (z : Text) (found : List A) → 0 < n → more z ≡ false → Gets R (found ++ [], p, z) (each more item good n found p z)
  unfolding each
  gets_done zero p z found lt e = absurd (omega arith)
  gets_done (suc n) p z found lt e = rw e (ap (λ (l : List A). let v : List A × Place × Text = (l, p, z) in v) (sym (append-nil found)))

  gets_kept : (b : Bool) (o : Outcome R.Question (List A)) (v : List A × Place × Text) → Gets R v o → Gets R v (cond b o (Err Stop.Limit))
  gets_kept true o v h = h
  gets_kept false o v h = tt

  gets_next : (n : ℕ) (p : Place) (t : Text) (found : List A) (a : A) (m : Place) (u : Text) (v : List A × Place × Text) → more t ≡ true → Gets R (a, m, u) (item p t)
      → Gets R v (each more item good n (found ++ a ∷ []) m u) → Gets R v (each more item good (suc n) found p t)
  unfolding each
  gets_next n p t found a m u v e h i = rw e (gets_then R (item p t) (next n found) (a, m, u) v h (gets_kept (good (found ++ a ∷ [])) _ v i))

  gets_turns : Complete R r item → Takes r → {p : Place} {x z : Text} {new : List A} → Many more r p x z new → (n : ℕ) (found : List A) → length x < n
      → Gets R (found ++ new, steps p x, z) (each more item good n found p (x ++ z))
  gets_turns whole some {p = p} {z = z} (Many.done e) n found lt = gets_done n p z found lt e
  gets_turns whole some {p = p} {z = z} (Many.next {a = a} {found = new} x y e h i) zero found lt = absurd (omega arith)
  gets_turns whole some {p = p} {z = z} (Many.next {a = a} {found = new} x y e h i) (suc n) found lt =
      let shorter : length y < n = omega (arith, length-append x y, takes_some some p x (y ++ z) a h) in
      let g = gets_next n p (x ++ (y ++ z)) found a (steps p x) (y ++ z) ((found ++ a ∷ []) ++ new, steps (steps p x) y, z) e (whole.gets p x (y ++ z) a h)
      (gets_turns whole some i n (found ++ a ∷ []) shorter) in
      let P : List A → Place → Text → Type 0 = λ l m t. Gets R (l, m, z) (each more item good (suc n) found p t) in
      subst (λ (t : Text). P (found ++ a ∷ new) (steps p (x ++ y)) t) (sym (append_assoc x y z))
      (subst (λ m. P (found ++ a ∷ new) m (x ++ (y ++ z))) (sym (steps-append p x y))
      (subst (λ l. P l (steps (steps p x) y) (x ++ (y ++ z))) (append_assoc found (a ∷ []) new) g))

  pub complete_each : Complete R r item → Takes r → (start : List A) → Complete R (Extends more r start) (λ p t. each more item good (suc (length t)) start p t)
  complete_each whole some start = record {
    gets = λ p x z all h.
        subst (λ l. Gets R (l, steps p x, z) (each more item good (suc (length (x ++ z))) start p (x ++ z))) (sym h.1)
        (gets_turns whole some h.2 (suc (length (x ++ z))) start (omega (arith, length-append x z)));
  }
