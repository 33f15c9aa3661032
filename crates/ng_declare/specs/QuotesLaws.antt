-- The text of a template: the function and the grammar are one.
use Rattle.std.proofs.Common.{◌≡◌, ◌≢◌, ℕ, ◌+◌, Bool, true, false, cond, [], ◌∷◌, ◌++◌, length, take, drop, refl, sym, ◌∙◌, ap, subst, arith}
use Rattle.std.specs.Prelude.{◌==◌, Option, Some, None, Ok, Err}
use Rattle.std.specs.List.{position_from}
use Rattle.std.proofs.Math.Seq.{take-append_seam, drop-append_seam}
use Rattle.std.proofs.lemmas.List.{append_assoc, length-append}
use Rattle.ng_ast.specs.declared.Place.{Place}
use Rattle.ng_tokens.specs.Lexis.{Text, step, steps}
use Rattle.ng_phrases.specs.Parser.{Readers, Stop, Outcome, Took, Means, Exact, Agree}
use Rattle.ng_phrases.specs.ParserLaws.{same_done, err_no_ok, ok_no_err, same_stop}
use Rattle.ng_phrases.specs.TokensLaws.{gets_done, agree_taken}
use Rattle.ng_declare.specs.declared.entries.Source.{Source}
use Rattle.ng_declare.specs.Quotes.{NoTick, ReadsQuoted, tick_in, quote_at, quoted_by, parse_quoted}

same_byte : (b c : ℕ) → (b == c) ≡ true → b ≡ c
same_byte b c e = grind arith

other_byte : (b c : ℕ) → (b == c) ≡ false → b ≢ c
other_byte b c e = grind arith

is_other : (b c : ℕ) → b ≢ c → (b == c) ≡ false
is_other b c e = grind arith

-- ---- where the first backtick stands

tick_from : (i : ℕ) (x z : Text) → NoTick x → position_from (λ b. b == 96) i (x ++ 96 ∷ z) ≡ Some (i + length x)
tick_from i [] z h = let e : i ≡ i + 0 = omega arith in ap Some e
tick_from i (b ∷ x) z h =
    let e : (i + 1) + length x ≡ i + length (b ∷ x) = omega arith in
    rw (is_other b 96 h.0) (tick_from (i + 1) x z h.1 ∙ ap Some e)

tick_there : (x z : Text) → NoTick x → tick_in (x ++ 96 ∷ z) ≡ Some (length x)
tick_there x z h = let e : 0 + length x ≡ length x = omega arith in tick_from 0 x z h ∙ ap Some e

-- a text before a backtick, without one
abbrev Ticked : ℕ → Text → ℕ → Type 0
Ticked i t n = (x z : Text) × (t ≡ x ++ 96 ∷ z) × (n ≡ i + length x) × NoTick x

later_tick : (i b : ℕ) (z : Text) (n : ℕ) → b ≢ 96 → Ticked (i + 1) z n → Ticked i (b ∷ z) n
later_tick i b z n other h = (b ∷ h.0, h.1, ap (λ w. b ∷ w) h.2, omega (arith, h.3), (other, h.4))

ticked : (i : ℕ) (t : Text) (n : ℕ) → position_from (λ b. b == 96) i t ≡ Some n → Ticked i t n
ticked i [] n e = absurd (cc)
ticked i (b ∷ z) n e = by (λ f. ticked (i + 1) z n f) (b == 96) refl e
  where
    by : (position_from (λ c. c == 96) (i + 1) z ≡ Some n → Ticked (i + 1) z n) → (v : Bool) → (b == 96) ≡ v → cond v (Some i) (position_from (λ c. c == 96) (i + 1) z) ≡ Some n → Ticked i (b ∷ z) n
    by go true f g = let same : i ≡ n = cc in ([], z, ap (λ c. c ∷ z) (same_byte b 96 f), omega (arith, same), tt)
    by go false f g = later_tick i b z n (other_byte b 96 f) (go g)

-- a text in backticks at the front
abbrev pub Quoted : Text → ℕ → Type 0
Quoted t n = (x z : Text) × (t ≡ 96 ∷ (x ++ 96 ∷ z)) × (n ≡ length x) × NoTick x

pub quoted : (t : Text) (n : ℕ) → quote_at t ≡ Some n → Quoted t n
quoted [] n e = absurd (cc)
quoted (b ∷ z) n e = by (b == 96) refl e
  where
    by : (v : Bool) → (b == 96) ≡ v → cond v (tick_in z) None ≡ Some n → Quoted (b ∷ z) n
    by true f g = let h = ticked 0 z n g in let len : n ≡ length h.0 = omega (arith, h.3) in (h.0, h.1, ap (λ c. c ∷ z) (same_byte b 96 f) ∙ ap (λ w. 96 ∷ w) h.2, len, h.4)
    by false f g = absurd (cc)

-- ---- both ways

-- what is taken where such a text stands
quoted_there : {Q : Type 0} (p : Place) (x z : Text) → ◌≡◌ {A = Outcome Q Source} (quoted_by (Some (length x)) p (96 ∷ (x ++ 96 ∷ z))) (Ok (record { place = step p 96; text = x }, steps p (96 ∷ (x ++ 96 ∷ [])), z))
quoted_there {Q} p x z =
    let one : x ++ 96 ∷ z ≡ (x ++ 96 ∷ []) ++ z = sym (append_assoc x (96 ∷ []) z) in
    let len : length x + 1 ≡ length (x ++ 96 ∷ []) = omega (arith, length-append x (96 ∷ [])) in
    let front : take (length x + 1) (x ++ 96 ∷ z) ≡ x ++ 96 ∷ [] = ap (take (length x + 1)) one ∙ ap (λ n. take n ((x ++ 96 ∷ []) ++ z)) len ∙ take-append_seam (x ++ 96 ∷ []) z in
    let back : drop (length x + 1) (x ++ 96 ∷ z) ≡ z = ap (drop (length x + 1)) one ∙ ap (λ n. drop n ((x ++ 96 ∷ []) ++ z)) len ∙ drop-append_seam (x ++ 96 ∷ []) z in
    let text : take (length x) (x ++ 96 ∷ z) ≡ x = take-append_seam x (96 ∷ z) in
    ap (λ (w : Text). let v : Outcome Q Source = Ok (record { place = step p 96; text = w }, steps (step p 96) (take (length x + 1) (x ++ 96 ∷ z)), drop (length x + 1) (x ++ 96 ∷ z)) in v) text
    ∙ ap (λ (w : Text). let v : Outcome Q Source = Ok (record { place = step p 96; text = x }, steps (step p 96) w, drop (length x + 1) (x ++ 96 ∷ z)) in v) front
    ∙ ap (λ (w : Text). let v : Outcome Q Source = Ok (record { place = step p 96; text = x }, steps (step p 96) (x ++ 96 ∷ []), w) in v) back

quoted_gets : {Q : Type 0} (p : Place) (x z : Text) (a : Source) → ReadsQuoted p x z a → ◌≡◌ {A = Outcome Q Source} (parse_quoted p (x ++ z)) (Ok (a, steps p x, z))
unfolding parse_quoted
quoted_gets {Q} p x z a h =
    let parts : x ++ z ≡ 96 ∷ (a.text ++ 96 ∷ z) = ap (λ (w : Text). w ++ z) h.0 ∙ ap (λ (w : Text). 96 ∷ w) (append_assoc a.text (96 ∷ []) z) in
    ap (λ (w : Text). quoted_by {Q = Q} (quote_at w) p w) parts
    ∙ ap (λ (o : Option ℕ). quoted_by {Q = Q} o p (96 ∷ (a.text ++ 96 ∷ z))) (tick_there a.text z h.2)
    ∙ quoted_there p a.text z
    ∙ ap (λ (q : Place). let v : Outcome Q Source = Ok (record { place = q; text = a.text }, steps p (96 ∷ (a.text ++ 96 ∷ [])), z) in v) (sym h.1)
    ∙ ap (λ (w : Text). let v : Outcome Q Source = Ok (a, steps p w, z) in v) (sym h.0)

quoted_takes : {Q : Type 0} (p : Place) (t : Text) (v : Source × Place × Text) (o : Option ℕ) → quote_at t ≡ o → ◌≡◌ {A = Outcome Q Source} (quoted_by o p t) (Ok v) → Took ReadsQuoted p t v.0 v.1 v.2
quoted_takes p t v None e h = absurd (err_no_ok Stop.Syntax v h)
quoted_takes {Q} p t v (Some n) e h =
    let q : Quoted t n = quoted t n e in
    let got : ◌≡◌ {A = Outcome Q Source} (quoted_by (Some n) p t) (Ok (record { place = step p 96; text = q.0 }, steps p (96 ∷ (q.0 ++ 96 ∷ [])), q.1)) =
    ap (λ (w : Text). quoted_by {Q = Q} (Some n) p w) q.2 ∙ ap (λ m. quoted_by {Q = Q} (Some m) p (96 ∷ (q.0 ++ 96 ∷ q.1))) q.3 ∙ quoted_there p q.0 q.1 in
    subst (λ (y : Source × Place × Text). Took ReadsQuoted p t y.0 y.1 y.2) (same_done _ v (sym got ∙ h))
    (record {
      text = 96 ∷ (q.0 ++ 96 ∷ []);
      parts = q.2 ∙ ap (λ (w : Text). 96 ∷ w) (sym (append_assoc q.0 (96 ∷ []) q.1));
      place = refl;
      reads = (refl, refl, q.4);
    })

quoted_stops : (R : Readers) (p : Place) (t : Text) (e : Stop R.Question) (o : Option ℕ) → ◌≡◌ {A = Outcome R.Question Source} (quoted_by o p t) (Err e) → Means R ⊥ e
quoted_stops R p t e (Some n) h = absurd (ok_no_err e _ h)
quoted_stops R p t e None h = subst (Means R ⊥) (same_stop Stop.Syntax e h) tt

pub exact_quoted : (R : Readers) → Exact R ReadsQuoted (λ p t. ⊥) parse_quoted
unfolding parse_quoted
exact_quoted R = record {
  sound = record { takes = λ p t a q z e. quoted_takes p t (a, q, z) (quote_at t) refl e };
  calm = record { within = λ p t a q z e h. h };
  complete = record { gets = λ p x z a h. gets_done R (a, steps p x, z) (parse_quoted p (x ++ z)) (quoted_gets p x z a h) };
  stops = record { means = λ p t e h. quoted_stops R p t e (quote_at t) h };
}

pub agree_quoted : Agree ReadsQuoted ReadsQuoted
agree_quoted = agree_taken ReadsQuoted (parse_quoted {Q = ⊥}) quoted_gets
