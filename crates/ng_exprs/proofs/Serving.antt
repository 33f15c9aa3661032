-- What serves the expressions of statements: with limits that may be met, within limits, and with limits that can't be met.
use Rattle.std.proofs.Common.{◌≡◌, ℕ, suc, ◌+◌, ◌-◌, ◌<◌, ◌≤◌, [], ◌∷◌, ◌++◌, length, refl, sym, ◌∙◌, ap, subst, append_assoc, arith, length-append, inl, inr}
use Rattle.std.specs.Prelude.{Bool, true, false, cond, Ok, Err, nat_lt, ◌⊎◌}
use Rattle.ng_ast.specs.declared.Expr.{Expr}
use Rattle.ng_tokens.specs.declared.kinds.Token.{Token}
use Rattle.ng_exprs.specs.Grammar.{Tokens, ReadsPiped}
use Rattle.ng_exprs.specs.Limits.{opens, Within}
use Rattle.ng_exprs.specs.Parse.{Syntax, Limit, Outcome, peek, whole, turns}
use Rattle.ng_exprs.specs.Lines.{measured}
use Rattle.ng_exprs.proofs.Complete.{Gets, Ends, extends_at, complete_before}
use Rattle.ng_exprs.proofs.Outcomes.{Stuck, Is, Inside}
use Rattle.ng_exprs.proofs.Sound.{sound}
use Rattle.ng_exprs.proofs.Public.{within_opens, no_longer, no_limit}
use Rattle.ng_exprs.proofs.LinesComplete.{GetsL, Serves}

-- ---- without limits: a limit may be the answer

any_measured : (c d : ℕ) (x : Tokens) (a : Expr) (r : Tokens) (o : Outcome Expr) → whole turns (suc d) (x ++ r) ≡ o → Gets a r o → GetsL (Unit {0}) a r (measured turns 256 c d (x ++ r))
unfolding measured
any_measured c d x a r (Ok p) e g = rw e (either (nat_lt 256 (length (x ++ r) - length p.1)))
  where
    either : (v : Bool) → GetsL (Unit {0}) a r (cond {A = Outcome Expr} v (Err Limit) (Ok (p.0, p.1)))
    either true = tt
    either false = g
any_measured c d x a r (Err Limit) e g = rw e tt
any_measured c d x a r (Err Syntax) e g = absurd g

-- an expression, before a token that ends one
pub read_before : (c d : ℕ) (x : Tokens) (a : Expr) → ReadsPiped x a → (r : Tokens) → Ends 10 r → GetsL (Unit {0}) a r (measured turns 256 c d (x ++ r))
read_before c d x a h r end = any_measured c d x a r (whole turns (suc d) (x ++ r)) refl (complete_before h turns (suc d) r end)

pub serves_any : (c : ℕ) → Serves false (Unit {0}) turns 256 c 32
serves_any c = record {
  expr = λ d e eq x a h r end len. read_before c d x a h r end;
  room = λ e open_ eq small. tt;
}

-- ---- within the limits: no limit is met

-- two cuts of one list
abbrev pub Cuts : Tokens → Tokens → Tokens → Type 0
Cuts text x r = ((y : Tokens) × (x ≡ text ++ y)) ⊎ ((t : Token) × (w : Tokens) × (text ≡ x ++ t ∷ w) × ((z : Tokens) → peek (t ∷ z) ≡ peek r))

cut_more : (t : Token) (text x r : Tokens) → Cuts text x r → Cuts (t ∷ text) (t ∷ x) r
cut_more t text x r (inl h) = inl (h.0, ap (λ z. t ∷ z) h.1)
cut_more t text x r (inr h) = inr (h.0, h.1, ap (λ z. t ∷ z) h.2, h.3)

pub cuts : (text tail x r : Tokens) → x ++ r ≡ text ++ tail → Cuts text x r
cuts [] tail x r e = inl (x, refl)
cuts (t ∷ text) tail [] r e = inr (t, text, refl, λ z. ap (λ ts. peek ts) (sym e))
cuts (t ∷ text) tail (u ∷ x) r e =
    let hd : u ≡ t = cc in
    let tl : x ++ r ≡ text ++ tail = cc in
    subst (λ v. Cuts (v ∷ text) (u ∷ x) r) hd (cut_more u text x r (cuts text tail x r tl))

no_stuck : (d e : ℕ) → e + d ≡ 32 → (x : Tokens) (a : Expr) → ReadsPiped x a → length x ≤ 256 → Within 32 e x → (r : Tokens) → Ends 10 r → Stuck ReadsPiped (suc d) turns (x ++ r) → ⊥
unfolding turns
no_stuck d e eq x a h few within r end st = by (cuts st.text st.tail x r st.all) st.passes
  where
    by : Cuts st.text x r → ((m : ℕ) → m + suc d ≤ opens m st.text) ⊎ (257 ≤ length st.text) → ⊥
    by (inl (y, same)) (inl deep) = absurd (omega (arith, deep e, within_opens 32 e st.text (omega arith) y (subst (λ z. Within 32 e z) same within)))
    by (inl (y, same)) (inr long) = absurd (omega (arith, ap length same, length-append st.text y))
    by (inr (t, w, same, next)) p = no_longer x a h t (w ++ st.more) (subst (λ o. 10 < extends_at o) (sym (next (w ++ st.more))) end) st.value
        (subst (λ z. ReadsPiped z st.value) (ap (λ z. z ++ st.more) same ∙ append_assoc x (t ∷ w) st.more) st.reads)

few_left : (x r : Tokens) → length x ≤ 256 → nat_lt 256 (length (x ++ r) - length r) ≡ false
few_left x r few = let e : length (x ++ r) - length r ≡ length x = omega (arith, length-append x r) in rw e (at_most (length x) few)
  where
    at_most : (n : ℕ) → n ≤ 256 → nat_lt 256 n ≡ false
    at_most n h = grind arith

exact_measured : (c d : ℕ) (x : Tokens) (a : Expr) (r : Tokens) (o : Outcome Expr) → whole turns (suc d) (x ++ r) ≡ o → Gets a r o → Is (Inside (suc d) (x ++ r)) (Stuck ReadsPiped (suc d) turns (x ++ r)) o
    → (Stuck ReadsPiped (suc d) turns (x ++ r) → ⊥) → length x ≤ 256 → GetsL ⊥ a r (measured turns 256 c d (x ++ r))
unfolding measured
exact_measured c d x a r (Ok p) e g s none few = rw e (subst (λ q. GetsL ⊥ a r (cond {A = Outcome Expr} (nat_lt 256 (length (x ++ r) - length q.1)) (Err Limit) (Ok (q.0, q.1)))) (sym g) (rw (few_left x r few) refl))
exact_measured c d x a r (Err Limit) e g s none few = absurd (none s)
exact_measured c d x a r (Err Syntax) e g s none few = absurd g

pub serves_exactly : (c : ℕ) → Serves true ⊥ turns 256 c 32
serves_exactly c = record {
  expr = λ d e eq x a h r end len. exact_measured c d x a r (whole turns (suc d) (x ++ r)) refl (complete_before h.0 turns (suc d) r end) (sound turns (suc d) (x ++ r))
      (no_stuck d e eq x a h.0 h.1 h.2 r end) h.1;
  room = λ e few eq small. absurd (omega arith);
}

-- ---- with limits above the count of tokens: no limit is met

few_taken : (x r : Tokens) (c : ℕ) → length (x ++ r) < c → nat_lt c (length (x ++ r) - length r) ≡ false
few_taken x r c few = at_most (length (x ++ r) - length r) (omega arith)
  where
    at_most : (n : ℕ) → n < c → nat_lt c n ≡ false
    at_most n h = grind arith

free_measured : (c d : ℕ) (x : Tokens) (a : Expr) (r : Tokens) (o : Outcome Expr) → whole c (suc d) (x ++ r) ≡ o → Gets a r o → Is (Inside (suc d) (x ++ r)) (Stuck ReadsPiped (suc d) c (x ++ r)) o
    → length (x ++ r) < suc d → length (x ++ r) < c → GetsL ⊥ a r (measured c c c d (x ++ r))
unfolding measured
free_measured c d x a r (Ok p) e g s deep few = rw e (subst (λ q. GetsL ⊥ a r (cond {A = Outcome Expr} (nat_lt c (length (x ++ r) - length q.1)) (Err Limit) (Ok (q.0, q.1)))) (sym g) (rw (few_taken x r c few) refl))
free_measured c d x a r (Err Limit) e g s deep few = absurd (no_limit (suc d) c (x ++ r) deep few s)
free_measured c d x a r (Err Syntax) e g s deep few = absurd g

pub serves_freely : (c : ℕ) → Serves false ⊥ c c c c
serves_freely c = record {
  expr = λ d e eq x a h r end len. free_measured c d x a r (whole c (suc d) (x ++ r)) refl (complete_before h c (suc d) r end) (sound c (suc d) (x ++ r)) (omega arith) (omega arith);
  room = λ e open_ eq small. absurd (omega arith);
}
