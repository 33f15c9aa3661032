-- The turns of the loops over parts and alternatives.
use Rattle.std.proofs.Common.{◌≡◌, ℕ, zero, suc, ◌-◌, ◌<◌, ◌≤◌, List, [], ◌∷◌, ◌++◌, length, refl, sym, ◌∙◌, ap, append_assoc, arith, length-append}
use Rattle.std.proofs.lemmas.List.{append-nil}
use Rattle.std.specs.Prelude.{true, false, cond, codes, Some, None}
use Rattle.ng_tokens.specs.Lexis.{Text}
use Rattle.ng_ast.specs.declared.One.{One}
use Rattle.ng_ast.specs.declared.SelPart.{SelPart}
use Rattle.ng_ast.specs.declared.SelPart.TheVariants as kind
use Rattle.ng_selectors.specs.Grammar.{IsTag, ReadsParts, ReadsOne}
use Rattle.ng_selectors.specs.Parse.{Outcome, Parser, and_then, ◌>>=◌, ◌>>◌, pure, expect, is_empty, sees, begins_part, part, parts_within, parts, one, negation, alternative, comma, alternatives_within, alternatives}
use Rattle.ng_selectors.specs.Gives.{front}
use Rattle.ng_selectors.proofs.Complete.{part_takes}
use Rattle.ng_selectors.proofs.Sound.{Deeper, part_is, negation_is, alternative_is, comma_is}

-- ---- what was found

pub front_front : {A : Type 0} (xs ys : List A) (o : Outcome (List A)) → front xs (front ys o) ≡ front (xs ++ ys) o
front_front xs ys None = refl
front_front xs ys (Some p) = ap (λ z. Some (z, p.1)) (sym (append_assoc xs ys p.0))

put_front : {A : Type 0} (a : A) (o : Outcome (List A)) → and_then o (λ found. pure (a ∷ found)) ≡ front (a ∷ []) o
put_front a None = refl
put_front a (Some p) = refl

-- ---- parts

shorter : (x t r : Text) → 0 < length x → t ≡ x ++ r → length r < length t
shorter x t r some e = omega (arith, ap length e, length-append x r)

part_shorter : (d : ℕ) (deeper : Parser SelPart) → Deeper d deeper → (t : Text) (p : SelPart) (r : Text) → part deeper t ≡ Some (p, r) → length r < length t
part_shorter d deeper deep t p r e = let h = part_is d deeper deep t p r e in shorter h.0 t r (part_takes h.1) h.2

abbrev Same : (ℕ → Parser (List SelPart)) → ℕ → ℕ → Type 0
Same p m n = (t : Text) → length t < m → length t < n → p m t ≡ p n t

many_same : (deeper : Parser SelPart) (m n : ℕ) (o : Outcome SelPart) → ((p : SelPart) (r : Text) → o ≡ Some (p, r) → parts_within deeper m r ≡ parts_within deeper n r)
    → and_then o (λ p. parts_within deeper m >>= λ ps. pure (p ∷ ps)) ≡ and_then o (λ p. parts_within deeper n >>= λ ps. pure (p ∷ ps))
many_same deeper m n None go = refl
many_same deeper m n (Some p) go = ap (λ z. and_then z (λ ps. pure (p.0 ∷ ps))) (go p.0 p.1 refl)

parts_same : (d : ℕ) (deeper : Parser SelPart) → Deeper d deeper → (m n : ℕ) → Same (parts_within deeper) m n
parts_same d deeper deep zero n t l k = absurd (omega arith)
parts_same d deeper deep (suc m) zero t l k = absurd (omega arith)
parts_same d deeper deep (suc m) (suc n) t l k =
    ap (λ o. cond (sees begins_part t) o (Some ([], t)))
    (many_same deeper m n (part deeper t) (λ p r e. let less = part_shorter d deeper deep t p r e in parts_same d deeper deep m n r (omega arith) (omega arith)))

parts_done : (d : ℕ) (t : Text) → sees begins_part t ≡ false → parts (negation d) t ≡ Some ([], t)
unfolding parts
parts_done d t e = rw e refl

parts_fail : (d : ℕ) (t : Text) → sees begins_part t ≡ true → part (negation d) t ≡ None → parts (negation d) t ≡ None
unfolding parts
parts_fail d t e f = rw (e, f) refl

parts_next : (d : ℕ) (t : Text) (p : SelPart) (r : Text) → sees begins_part t ≡ true → part (negation d) t ≡ Some (p, r) → parts (negation d) t ≡ front (p ∷ []) (parts (negation d) r)
unfolding parts
parts_next d t p r e f =
    let less : length r < length t = part_shorter d (negation d) (negation_is d) t p r f in
    rw (e, f) (put_front p (parts_within (negation d) (length t) r) ∙ ap (front (p ∷ [])) (parts_same d (negation d) (negation_is d) (length t) (suc (length r)) r less (omega arith)))

-- the loop over parts: what was found, and what is left
abbrev pub PartsLeft : ℕ → Text → List SelPart → Text → Type 0
PartsLeft d t found r = parts (negation d) t ≡ front found (parts (negation d) r)

pub parts_begin : (d : ℕ) (t : Text) → PartsLeft d t [] t
parts_begin d t = by (parts (negation d) t)
  where
    by : (o : Outcome (List SelPart)) → o ≡ front [] o
    by None = refl
    by (Some p) = refl

pub parts_end : (d : ℕ) (t : Text) (found : List SelPart) (r : Text) → PartsLeft d t found r → sees begins_part r ≡ false → parts (negation d) t ≡ Some (found, r)
parts_end d t found r h e = h ∙ ap (front found) (parts_done d r e) ∙ ap (λ z. Some (z, r)) (append-nil found)

pub parts_stop : (d : ℕ) (t : Text) (found : List SelPart) (r : Text) → PartsLeft d t found r → sees begins_part r ≡ true → part (negation d) r ≡ None → parts (negation d) t ≡ None
parts_stop d t found r h e f = h ∙ ap (front found) (parts_fail d r e f)

pub parts_turn : (d : ℕ) (t : Text) (found : List SelPart) (r : Text) (p : SelPart) (u : Text) → PartsLeft d t found r → sees begins_part r ≡ true → part (negation d) r ≡ Some (p, u) → PartsLeft d t (found ++ p ∷ []) u
parts_turn d t found r p u h e f = h ∙ ap (front found) (parts_next d r p u e f) ∙ front_front found (p ∷ []) (parts (negation d) u)

pub parts_smaller : (d : ℕ) (r : Text) (p : SelPart) (u : Text) → part (negation d) r ≡ Some (p, u) → length u < length r
parts_smaller d r p u f = part_shorter d (negation d) (negation_is d) r p u f

-- ---- alternatives

one_takes : {d : ℕ} {x : Text} {a : One} → ReadsOne d x a → 0 < length x
one_takes ReadsOne.everything = omega arith
one_takes (ReadsOne.tagged t x h k) = tag_takes t x h
  where
    tag_takes : (t x : Text) → IsTag t → 0 < length (t ++ x)
    tag_takes [] x h = absurd h
    tag_takes (b ∷ t) x h = omega arith
one_takes (ReadsOne.untagged x (ReadsParts.more y z h k)) = omega (arith, part_takes h, length-append y z)

one_shorter : (t : Text) (a : One) (r : Text) → alternative t ≡ Some (a, r) → length r < length t
one_shorter t a r e = let h = alternative_is t a r e in shorter h.0 t r (one_takes h.1) h.2

comma_shorter : (t : Text) (q : Unit {0} × Text) → comma t ≡ Some q → length q.1 < length t
comma_shorter t q e =
    let h = comma_is t q e in
    omega (arith, ap length h.4, length-append h.0 (44 ∷ (h.1 ++ q.1)), length-append h.1 q.1)

abbrev Others : ℕ → One → Parser (List One)
Others n a = comma >> (alternatives_within n >>= λ found. pure (a ∷ found))

others_same : (m n : ℕ) (a : One) (u : Text) → length u ≤ m → length u ≤ n → ((v : Text) → length v < m → length v < n → alternatives_within m v ≡ alternatives_within n v) → Others m a u ≡ Others n a u
others_same m n a u l k go = by (comma u) refl
  where
    by : (o : Outcome (Unit {0})) → comma u ≡ o → and_then o (λ _. alternatives_within m >>= λ found. pure (a ∷ found)) ≡ and_then o (λ _. alternatives_within n >>= λ found. pure (a ∷ found))
    by None e = refl
    by (Some q) e = let less = comma_shorter u q e in ap (λ z. and_then z (λ found. pure (a ∷ found))) (go q.1 (omega arith) (omega arith))

list_same : (m n : ℕ) (t : Text) → length t < m → length t < n → alternatives_within m t ≡ alternatives_within n t
list_same zero n t l k = absurd (omega arith)
list_same (suc m) zero t l k = absurd (omega arith)
list_same (suc m) (suc n) t l k = by (alternative t) refl (λ a u less. others_same m n a u (omega arith) (omega arith) (list_same m n))
  where
    by : (o : Outcome One) → alternative t ≡ o → ((a : One) (u : Text) → length u < length t → Others m a u ≡ Others n a u)
        → and_then o (λ a u. cond (is_empty u) (Some (a ∷ [], u)) (Others m a u)) ≡ and_then o (λ a u. cond (is_empty u) (Some (a ∷ [], u)) (Others n a u))
    by None e go = refl
    by (Some q) e go = ap (λ z. cond (is_empty q.1) (Some (q.0 ∷ [], q.1)) z) (go q.0 q.1 (one_shorter t q.0 q.1 e))

list_fail : (t : Text) → alternative t ≡ None → alternatives t ≡ None
unfolding alternatives
list_fail t e = rw e refl

list_done : (t : Text) (a : One) (u : Text) → alternative t ≡ Some (a, u) → is_empty u ≡ true → alternatives t ≡ Some (a ∷ [], u)
unfolding alternatives
list_done t a u e f = rw (e, f) refl

list_break : (t : Text) (a : One) (u : Text) → alternative t ≡ Some (a, u) → is_empty u ≡ false → comma u ≡ None → alternatives t ≡ None
unfolding alternatives
list_break t a u e f g = rw (e, f, g) refl

list_next : (t : Text) (a : One) (u v : Text) → alternative t ≡ Some (a, u) → is_empty u ≡ false → comma u ≡ Some (tt, v) → alternatives t ≡ front (a ∷ []) (alternatives v)
unfolding alternatives
list_next t a u v e f g =
    let less : length u < length t = one_shorter t a u e in
    let fewer : length v < length u = comma_shorter u (tt, v) g in
    rw (e, f, g) (put_front a (alternatives_within (length t) v) ∙ ap (front (a ∷ [])) (list_same (length t) (suc (length v)) v (omega arith) (omega arith)))

-- the loop over alternatives
abbrev pub ListLeft : Text → List One → Text → Type 0
ListLeft t found r = alternatives t ≡ front found (alternatives r)

pub list_begin : (t : Text) → ListLeft t [] t
list_begin t = by (alternatives t)
  where
    by : (o : Outcome (List One)) → o ≡ front [] o
    by None = refl
    by (Some p) = refl

pub list_end : (t : Text) (found : List One) (r : Text) (a : One) (u : Text) → ListLeft t found r → alternative r ≡ Some (a, u) → is_empty u ≡ true → alternatives t ≡ Some (found ++ a ∷ [], u)
list_end t found r a u h e f = h ∙ ap (front found) (list_done r a u e f)

pub list_stop : (t : Text) (found : List One) (r : Text) → ListLeft t found r → alternative r ≡ None → alternatives t ≡ None
list_stop t found r h e = h ∙ ap (front found) (list_fail r e)

pub list_broken : (t : Text) (found : List One) (r : Text) (a : One) (u : Text) → ListLeft t found r → alternative r ≡ Some (a, u) → is_empty u ≡ false → comma u ≡ None → alternatives t ≡ None
list_broken t found r a u h e f g = h ∙ ap (front found) (list_break r a u e f g)

pub list_turn : (t : Text) (found : List One) (r : Text) (a : One) (u v : Text) → ListLeft t found r → alternative r ≡ Some (a, u) → is_empty u ≡ false → comma u ≡ Some (tt, v)
    → ListLeft t (found ++ a ∷ []) v
list_turn t found r a u v h e f g = h ∙ ap (front found) (list_next r a u v e f g) ∙ front_front found (a ∷ []) (alternatives v)

pub list_smaller : (r : Text) (a : One) (u v : Text) → alternative r ≡ Some (a, u) → comma u ≡ Some (tt, v) → length v < length r
list_smaller r a u v e g = omega (arith, one_shorter r a u e, comma_shorter u (tt, v) g)

-- ---- :not

pub negation_zero : (d : ℕ) (t : Text) → d ≡ 0 → negation d t ≡ None
unfolding negation
negation_zero d t e = ap (λ n. negation n t) e

abbrev pub Negated : ℕ → Parser SelPart
Negated d = expect (codes ":not(") >> (one (negation d) >>= λ a. expect (codes ")") >> pure (kind.Not a))

pub negation_more : (d : ℕ) (t : Text) → 0 < d → negation d t ≡ Negated (d - 1) t
unfolding negation
negation_more zero t less = absurd (omega arith)
negation_more (suc d) t less = let e : d ≡ suc d - 1 = omega arith in ap (λ n. Negated n t) e
