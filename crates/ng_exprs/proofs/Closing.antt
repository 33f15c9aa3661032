-- What the grammar reads before a `)` or `;` ends where the scan over its tokens does.
use Rattle.std.proofs.Common.{◌≡◌, ℕ, zero, suc, ◌+◌, ◌-◌, ◌<◌, ◌≤◌, List, [], ◌∷◌, ◌++◌, length, drop, take, get_or, length-append, length-drop, length-take, refl, sym, ◌∙◌, ap, subst, append_assoc, arith, inl, inr}
use Rattle.std.proofs.lemmas.List.{append-nil, take-append-drop}
use Rattle.std.specs.Prelude.{Bool, true, false, cond, ◌==◌, Option, Some, None, Ok, Err}
use Rattle.std.specs.List.{prefix_len}
use Rattle.std.specs.Option.{option_map}
use Rattle.ng_ast.specs.declared.Place.{Place}
use Rattle.ng_ast.specs.declared.Expr.{Expr}
use Rattle.ng_tokens.specs.declared.kinds.Sign.{Sign}
use Rattle.ng_tokens.specs.declared.kinds.Shape.{Shape}
use Rattle.ng_tokens.specs.declared.kinds.Shape.TheVariants as form
use Rattle.ng_tokens.specs.declared.kinds.Token.{Token}
use Rattle.ng_tokens.specs.Lexis.{Text, is_blank, is_digit, is_letter, is_word, is_quote, begins, unquote, opens_comment, Written, Longest, kind_of, Lexes}
use Rattle.ng_tokens.specs.Scan.{find, signs, quoted, shape}
use Rattle.ng_tokens.proofs.SignTable.{no_true}
use Rattle.ng_tokens.proofs.Literals.{Cut, cut_literal}
use Rattle.ng_tokens.proofs.Shapes.{shape_is}
use Rattle.ng_tokens.proofs.Pieces.{not_empty, no_blank}
use Rattle.ng_tokens.proofs.Scanning.{after_some}
use Rattle.ng_exprs.specs.Grammar.{Tokens, ReadsPiped}
use Rattle.ng_exprs.specs.Limits.{after, opens}
use Rattle.ng_exprs.specs.Parse.{Outcome, Syntax, Limit, whole}
use Rattle.ng_exprs.specs.Reading.{ReadsExpr}
use Rattle.ng_exprs.specs.Ends.{IsEnd, stops, kind_by, end_from, later, Advances}
use Rattle.ng_exprs.proofs.Complete.{Gets, complete}
use Rattle.ng_exprs.proofs.Outcomes.{NoStop, Calm, Took, Stuck, Is, Inside}
use Rattle.ng_exprs.proofs.Sound.{sound}
use Rattle.ng_exprs.proofs.Public.{no_limit}

-- ---- a token before `)` or `;` is the token that it is at the end of a text

run_stops : (p : ℕ → Bool) (c : ℕ) → p c ≡ false → (t z : Text) → prefix_len p (t ++ c ∷ z) ≡ prefix_len p t
run_stops p c e [] z = rw e refl
run_stops p c e (b ∷ t) z = rw (run_stops p c e t z) refl

end_no_digit : (c : ℕ) → IsEnd c → is_digit c ≡ false
end_no_digit c (inl e) = rw e refl
end_no_digit c (inr e) = rw e refl

end_no_word : (c : ℕ) → IsEnd c → is_word c ≡ false
end_no_word c (inl e) = rw e refl
end_no_word c (inr e) = rw e refl

-- the byte stands nowhere in the word
abbrev Free : ℕ → Text → Type 0
Free c [] = Unit {0}
Free c (b ∷ w) = ((b == c) ≡ false) × Free c w

begins_free : (w : Text) (c : ℕ) → Free c w → (t z : Text) → begins w (t ++ c ∷ z) ≡ begins w t
begins_free [] c f t z = refl
begins_free (b ∷ w) c f [] z = rw f.0 refl
begins_free (b ∷ w) c f (d ∷ t) z = rw (begins_free w c f.1 t z) refl

abbrev TailFree : ℕ → Text → Type 0
TailFree c [] = ⊥
TailFree c (b ∷ w) = Free c w

begins_tail : (w : Text) (c : ℕ) → TailFree c w → (b : ℕ) (t z : Text) → begins w (b ∷ (t ++ c ∷ z)) ≡ begins w (b ∷ t)
begins_tail [] c f b t z = absurd f
begins_tail (d ∷ w) c f b t z = rw (begins_free w c f t z) refl

abbrev TailsFree : ℕ → List (Text × Sign) → Type 0
TailsFree c [] = Unit {0}
TailsFree c (e ∷ es) = TailFree c e.0 × TailsFree c es

find_stops : (es : List (Text × Sign)) (c : ℕ) → TailsFree c es → (b : ℕ) (t z : Text) → find es (b ∷ (t ++ c ∷ z)) ≡ find es (b ∷ t)
find_stops [] c f b t z = refl
find_stops (e ∷ es) c f b t z = rw (begins_tail e.0 c f.0 b t z, find_stops es c f.1 b t z) refl

signs_free : (c : ℕ) → IsEnd c → TailsFree c signs
unfolding signs
signs_free c (inl e) = subst (λ v. TailsFree v signs) (sym e) (search arith)
signs_free c (inr e) = subst (λ v. TailsFree v signs) (sym e) (search arith)

quoted_stops : (b : ℕ) (t : Text) (r : Text) (q : Shape × ℕ) (o : Option (Text × ℕ)) → unquote b false t ≡ o → quoted o ≡ Some q → quoted (unquote b false (t ++ r)) ≡ Some q
quoted_stops b t r q None u e = absurd (cc)
quoted_stops b t r q (Some v) u e =
    let k : Cut b false t v = cut_literal b false t v u in
    ap (λ w. quoted (unquote b false (w ++ r))) k.2 ∙ ap (λ w. quoted (unquote b false w)) (append_assoc k.0 k.1 r) ∙ ap quoted (k.4 (k.1 ++ r)) ∙ e

shape_if : (b : ℕ) (t : Text) (c : ℕ) (z : Text) → IsEnd c → (q : Shape × ℕ) (v w x y : Bool)
    → cond v (Some (form.Number, prefix_len is_digit (b ∷ t))) (cond w (Some (form.Name, prefix_len is_word (b ∷ t))) (
    cond x (Some (form.Variable, suc (prefix_len is_word t))) (cond y (quoted (unquote b false t)) (find signs (b ∷ t))))) ≡ Some q
    → cond v (Some (form.Number, prefix_len is_digit (b ∷ (t ++ c ∷ z)))) (cond w (Some (form.Name, prefix_len is_word (b ∷ (t ++ c ∷ z)))) (
    cond x (Some (form.Variable, suc (prefix_len is_word (t ++ c ∷ z)))) (cond y (quoted (unquote b false (t ++ c ∷ z))) (find signs (b ∷ (t ++ c ∷ z)))))) ≡ Some q
shape_if b t c z i q true w x y e = rw (run_stops is_digit c (end_no_digit c i) t z) e
shape_if b t c z i q false true x y e = rw (run_stops is_word c (end_no_word c i) t z) e
shape_if b t c z i q false false true y e = rw (run_stops is_word c (end_no_word c i) t z) e
shape_if b t c z i q false false false true e = quoted_stops b t (c ∷ z) q (unquote b false t) refl e
shape_if b t c z i q false false false false e = find_stops signs c (signs_free c i) b t z ∙ e

shape_stops : (b : ℕ) (t : Text) (c : ℕ) (z : Text) → IsEnd c → (q : Shape × ℕ) → shape (b ∷ t) ≡ Some q → shape (b ∷ (t ++ c ∷ z)) ≡ Some q
unfolding shape
shape_stops b t c z i q e = shape_if b t c z i q (is_digit b) (is_letter b) (b == 36) (is_quote b) e

-- ---- the scan over the tokens of an expression

later_suc : (n : ℕ) (o : Option ℕ) → option_map suc (later n o) ≡ later (suc n) o
later_suc n None = refl
later_suc n (Some m) = let e : suc (n + m) ≡ suc n + m = omega arith in ap Some e

later_none : (o : Option ℕ) → later 0 o ≡ o
later_none None = refl
later_none (Some m) = let e : 0 + m ≡ m = omega arith in ap Some e

-- over the bytes that are left of a token
end_over : (d : ℕ) (a z : Text) (n : ℕ) → n ≡ length a → end_from d n (a ++ z) ≡ later (length a) (end_from d 0 z)
unfolding end_from
end_over d [] z n e = ap (λ m. end_from d m z) e ∙ sym (later_none (end_from d 0 z))
end_over d (b ∷ a) z zero e = absurd (omega arith)
end_over d (b ∷ a) z (suc n) e = ap (option_map suc) (end_over d a z n (omega arith)) ∙ later_suc (length a) (end_from d 0 z)

later_more : (m n : ℕ) (o : Option ℕ) → later m (later n o) ≡ later (m + n) o
later_more m n None = refl
later_more m n (Some i) = let e : m + (n + i) ≡ (m + n) + i = omega arith in ap Some e

-- over a token
end_token : (d b : ℕ) (a z : Text) (shape_of : Shape) → is_blank b ≡ false → shape ((b ∷ a) ++ z) ≡ Some (shape_of, length (b ∷ a)) → stops (kind_by shape_of) d ≡ false
    → end_from d 0 ((b ∷ a) ++ z) ≡ later (length (b ∷ a)) (end_from (after (kind_by shape_of) d) 0 z)
unfolding end_from
end_token d b a z shape_of e f g =
    let n : length (b ∷ a) - 1 ≡ length a = omega arith in
    rw e (rw f (rw g (ap (option_map suc) (end_over (after (kind_by shape_of) d) a z (length (b ∷ a) - 1) n) ∙ later_suc (length a) _)))

-- what matters of a token is its shape
by_shape : (shape_of : Shape) (a : Text) (d : ℕ) → (stops (kind_of shape_of a) d ≡ stops (kind_by shape_of) d) × (after (kind_of shape_of a) d ≡ after (kind_by shape_of) d)
by_shape form.Number a d = (refl, refl)
by_shape form.Name a d = (refl, refl)
by_shape form.Variable a d = (refl, refl)
by_shape form.Text a d = (refl, refl)
by_shape (form.Sign x) a d = (refl, refl)

end_next : (d : ℕ) (a y : Text) (c : ℕ) (z : Text) (shape_of : Shape) → IsEnd c → Written a shape_of → Longest a y → stops (kind_by shape_of) d ≡ false
    → end_from d 0 (a ++ (y ++ c ∷ z)) ≡ later (length a) (end_from (after (kind_by shape_of) d) 0 (y ++ c ∷ z))
end_next d [] y c z shape_of i w long g = absurd (not_empty shape_of w)
end_next d (b ∷ a) y c z shape_of i w long g =
    let here : shape (b ∷ (a ++ y)) ≡ Some (shape_of, length (b ∷ a)) = shape_is (b ∷ a) y shape_of w long in
    let there : shape (b ∷ ((a ++ y) ++ c ∷ z)) ≡ Some (shape_of, length (b ∷ a)) = shape_stops b (a ++ y) c z i (shape_of, length (b ∷ a)) here in
    end_token d b a (y ++ c ∷ z) shape_of (no_blank shape_of b a w) (ap (λ t. shape (b ∷ t)) (sym (append_assoc a y (c ∷ z))) ∙ there) g

not_open : (t : Text) → opens_comment false t ≡ true → ⊥
not_open [] e = no_true e
not_open (a ∷ []) e = no_true e
not_open (a ∷ b ∷ t) e = no_true e

-- Over a text whose tokens end nothing.
over_tokens : {p : Place} {x : Text} {ts : List Token} {r : Text} → Lexes false p x ts r → (d c : ℕ) (z : Text) → IsEnd c → r ≡ [] → NoStop d ts
    → end_from d 0 (x ++ c ∷ z) ≡ later (length x) (end_from (opens d ts) 0 (c ∷ z))
unfolding end_from
over_tokens {x = x} Lexes.here d c z i e n = ap (λ w. end_from d 0 (w ++ c ∷ z)) e ∙ sym (later_none (end_from d 0 (c ∷ z))) ∙ ap (λ w. later (length w) (end_from d 0 (c ∷ z))) (sym e)
over_tokens (Lexes.blank {z = y} f h) d c z i e n = rw f (ap (option_map suc) (over_tokens h d c z i e n) ∙ later_suc (length y) _)
over_tokens (Lexes.comment a y o f h) d c z i e n = absurd (not_open (a ++ y) o)
over_tokens (Lexes.next {ts = ts} a y shape_of w small long o h) d c z i e n =
    let k = by_shape shape_of a d in
    let more = over_tokens h (after (kind_of shape_of a) d) c z i e n.1 in
    ap (end_from d 0) (append_assoc a y (c ∷ z)) ∙ end_next d a y c z shape_of i w long (sym k.0 ∙ n.0)
    ∙ ap (λ m. later (length a) (end_from m 0 (y ++ c ∷ z))) (sym k.1) ∙ ap (later (length a)) more ∙ later_more (length a) (length y) _
    ∙ ap (λ m. later m (end_from (opens (after (kind_of shape_of a) d) ts) 0 (c ∷ z))) (sym (length_append a y))
  where
    length_append : (a y : Text) → length (a ++ y) ≡ length a + length y
    length_append a y = simp length-append refl

end_here : (c : ℕ) (z : Text) → IsEnd c → end_from 0 0 (c ∷ z) ≡ Some 0
unfolding end_from shape signs
end_here c z (inl e) = rw e refl
end_here c z (inr e) = rw e refl

-- ---- the tokens of an expression end nothing

taken_calm : (n : ℕ) (x : Tokens) (a : Expr) (o : Outcome Expr) → Is (Inside n x) (Stuck ReadsPiped n n x) o → Gets a [] o → (Stuck ReadsPiped n n x → ⊥) → (d : ℕ) × Calm d x
taken_calm n x a (Ok p) k g none =
    let t : Took ReadsPiped k.0 x p.0 p.1 = k.2 in
    let all : t.text ≡ x = sym (append-nil t.text) ∙ ap (λ r. t.text ++ r) (sym (ap (λ q. q.1) g)) ∙ sym t.all in
    (k.0, subst (λ z. Calm k.0 z) all t.calm)
taken_calm n x a (Err Limit) k g none = absurd (none k)
taken_calm n x a (Err Syntax) k g none = absurd g

pub calm_of : (x : Tokens) (a : Expr) → ReadsPiped x a → (d : ℕ) × Calm d x
calm_of x a h = let n : ℕ = suc (length x) in taken_calm n x a (whole n n x) (sound n n x) (complete h n n) (no_limit n n x (omega arith) (omega arith))

-- ---- the law
pub ends : (p : Place) (x : Text) (a : Expr) (c : ℕ) (z : Text) → ReadsExpr false p x a → IsEnd c → end_from 0 0 (x ++ c ∷ z) ≡ Some (length x)
ends p x a c z (ts, lx, h) i =
    let k : (d : ℕ) × Calm d ts = calm_of ts a h in
    let steady : NoStop 0 ts = subst (NoStop 0) (append-nil ts) (k.1.steady 0 [] tt) in
    let even : opens 0 ts ≡ 0 = ap (opens 0) (sym (append-nil ts)) ∙ k.1.even 0 [] in
    let none : length x + 0 ≡ length x = omega arith in
    over_tokens lx 0 c z i refl steady ∙ ap (λ m. later (length x) (end_from m 0 (c ∷ z))) even ∙ ap (later (length x)) (end_here c z i) ∙ ap Some none

pub ends_at : (t : Text) (o : Option ℕ) → o ≡ end_from 0 0 t → (p : Place) (x z : Text) (a : Expr) (c : ℕ) → ReadsExpr false p x a → IsEnd c → t ≡ x ++ c ∷ z → o ≡ Some (length x)
ends_at t o e p x z a c h i same = e ∙ ap (end_from 0 0) same ∙ ends p x a c z h i

-- ---- the loop of `end_of`

pub advance_blank : (d : ℕ) (t : Text) → 1 ≤ length t → is_blank (get_or t 0 0) ≡ true → end_from d 0 t ≡ later 1 (end_from d 0 (drop 1 t))
unfolding end_from
advance_blank d [] h e = absurd (omega arith)
advance_blank d (b ∷ z) h e = rw e (one (end_from d 0 z))
  where
    one : (o : Option ℕ) → option_map suc o ≡ later 1 o
    one None = refl
    one (Some m) = let f : suc m ≡ 1 + m = omega arith in ap Some f

pub advance_none : (d : ℕ) (t : Text) → 1 ≤ length t → is_blank (get_or t 0 0) ≡ false → shape t ≡ None → end_from d 0 t ≡ None
unfolding end_from
advance_none d [] h e f = absurd (omega arith)
advance_none d (b ∷ z) h e f = rw e (rw f refl)

pub advance_stop : (d : ℕ) (t : Text) (q : Shape × ℕ) → 1 ≤ length t → is_blank (get_or t 0 0) ≡ false → shape t ≡ Some q → stops (kind_by q.0) d ≡ true → end_from d 0 t ≡ Some 0
unfolding end_from
advance_stop d [] q h e f g = absurd (omega arith)
advance_stop d (b ∷ z) q h e f g = rw e (rw f (rw g refl))

pub advance_over : (d : ℕ) (t : Text) (q : Shape × ℕ) → 1 ≤ length t → is_blank (get_or t 0 0) ≡ false → shape t ≡ Some q → stops (kind_by q.0) d ≡ false → (0 < q.1) × (q.1 ≤ length t)
    → end_from d 0 t ≡ later q.1 (end_from (after (kind_by q.0) d) 0 (drop q.1 t))
advance_over d [] q h e f g w = absurd (omega arith)
advance_over d (b ∷ z) (shape_of, zero) h e f g w = absurd (omega arith)
advance_over d (b ∷ z) (shape_of, suc n) h e f g w =
    let all : take n z ++ drop n z ≡ z = take-append-drop n z in
    let len : length (b ∷ take n z) ≡ suc n = omega (arith, length-take n z) in
    ap (λ y. end_from d 0 (b ∷ y)) (sym all)
    ∙ end_token d b (take n z) (drop n z) shape_of e (ap (λ y. shape (b ∷ y)) all ∙ f ∙ ap (λ m. Some (shape_of, m)) (sym len)) g
    ∙ ap (λ m. later m (end_from (after (kind_by shape_of) d) 0 (drop n z))) len

abbrev pub Inv : Text → ℕ → ℕ → Text → Type 0
Inv t at d z = (end_from 0 0 t ≡ later at (end_from d 0 z)) × (at + length z ≡ length t) × (d ≤ at)

pub inv_start : (t : Text) → Inv t 0 0 t
inv_start t = (sym (later_none (end_from 0 0 t)), omega arith, omega arith)

pub inv_none : (t : Text) (at d : ℕ) (z : Text) → Inv t at d z → end_from d 0 z ≡ None → None ≡ end_from 0 0 t
inv_none t at d z h e = sym (h.0 ∙ ap (later at) e)

pub inv_stop : (t : Text) (at d : ℕ) (z : Text) → Inv t at d z → end_from d 0 z ≡ Some 0 → Some at ≡ end_from 0 0 t
inv_stop t at d z h e = let f : at + 0 ≡ at = omega arith in sym (h.0 ∙ ap (later at) e ∙ ap Some f)

pub inv_over : (t : Text) (at d : ℕ) (z : Text) (n e : ℕ) → Inv t at d z → Advances d z (Some (Some (n, e))) → Inv t (at + n) e (take (length z - n) (drop n z))
inv_over t at d z n e h a = rw (after_some z n) (h.0 ∙ ap (later at) a.0 ∙ later_more at n _, omega (arith, h.1, a.2, length-drop n z), omega (arith, h.2, a.1, a.3))

pub inv_end : (t : Text) (at d : ℕ) (z : Text) → Inv t at d z → length z ≤ 0 → None ≡ end_from 0 0 t
unfolding end_from
inv_end t at d [] h len = sym h.0
inv_end t at d (b ∷ z) h len = absurd (omega arith)

pub is_end : (t : Text) → (length t == 0) ≡ true → length t ≤ 0
is_end t e = grind arith
