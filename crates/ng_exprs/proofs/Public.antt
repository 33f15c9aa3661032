-- The laws at a whole list of tokens.
use Rattle.std.proofs.Common.{◌≡◌, ℕ, zero, suc, ◌+◌, ◌<◌, ◌≤◌, [], ◌∷◌, ◌++◌, length, refl, sym, ◌∙◌, ap, subst, arith, length-append, inl, inr}
use Rattle.std.proofs.lemmas.List.{append-nil}
use Rattle.std.specs.Prelude.{Ok, Err, ◌⊎◌}
use Rattle.ng_ast.specs.declared.Expr.{Expr}
use Rattle.ng_tokens.specs.declared.kinds.Sign.TheVariants as s
use Rattle.ng_tokens.specs.declared.kinds.Kind.{Kind}
use Rattle.ng_tokens.specs.declared.kinds.Kind.TheVariants as k
use Rattle.ng_tokens.specs.declared.kinds.Token.{Token}
use Rattle.ng_exprs.specs.Grammar.{Tokens, ReadsPiped}
use Rattle.ng_exprs.specs.Limits.{after, opens, Within, Passes, Over}
use Rattle.ng_exprs.specs.Parse.{Syntax, Limit, Outcome, whole, turns}
use Rattle.ng_exprs.proofs.Complete.{Gets, Ends, complete, complete_before}
use Rattle.ng_exprs.proofs.Outcomes.{Stuck, Is, Inside, weaken}
use Rattle.ng_exprs.proofs.Sound.{sound}

pub reads_of : (ts : Tokens) (a : Expr) → whole turns 33 ts ≡ Ok (a, []) → ReadsPiped ts a × Within 32 0 ts
reads_of ts a e =
    let t : Inside 33 ts a [] = subst (Is (Inside 33 ts) (Stuck ReadsPiped 33 turns ts)) e (sound turns 33 ts) in
    let all : t.2.text ≡ ts = sym (append-nil t.2.text) ∙ sym t.2.all in (
      subst (λ z. ReadsPiped z a) all t.2.reads,
      subst (λ z. Within 32 0 z) (sym t.2.all) (t.2.calm.nests 32 0 (omega (arith, t.1)) [] tt),
    )

pub within_opens : (m n : ℕ) (ts : Tokens) → n ≤ m → (us : Tokens) → Within m n (ts ++ us) → opens n ts ≤ m
within_opens m n [] h us w = h
within_opens m n (t ∷ ts) h us w = within_opens m (after t.kind n) ts w.0 us w.1

-- a text that was read within the limits has no beginning beyond them
pub not_over : (ts : Tokens) (a : Expr) → whole turns 33 ts ≡ Ok (a, []) → length ts ≤ 256 → Over ts → ⊥
not_over ts a e len (front, more, all, begun, inl deep) =
    absurd (omega (arith, within_opens 32 0 front (omega arith) more (subst (λ z. Within 32 0 z) all (reads_of ts a e).1), deep))
not_over ts a e len (front, more, all, begun, inr long) = absurd (omega (arith, ap length all, length-append front more, long, len))

pub limit_over : (ts : Tokens) → whole turns 33 ts ≡ Err Limit → Over ts
unfolding turns
limit_over ts e =
    let st : Stuck ReadsPiped 33 turns ts = subst (Is (Inside 33 ts) (Stuck ReadsPiped 33 turns ts)) e (sound turns 33 ts) in
    (st.text, st.tail, st.all, (st.more, st.value, st.reads), passes st.text st.passes)
  where
    passes : (p : Tokens) → ((m : ℕ) → m + 33 ≤ opens m p) ⊎ (257 ≤ length p) → Passes p
    passes p (inl h) = inl (omega (arith, h 0))
    passes p (inr h) = inr (omega (arith, h))

-- more than 256 tokens
pub long_over : (ts : Tokens) (a : Expr) → whole turns 33 ts ≡ Ok (a, []) → 256 < length ts → Over ts
long_over ts a e long = (ts, [], sym (append-nil ts), ([], a, subst (λ z. ReadsPiped z a) (sym (append-nil ts)) (reads_of ts a e).0), inr long)

pub no_reading : (ts : Tokens) → whole turns 33 ts ≡ Err Syntax → (a : Expr) → ReadsPiped ts a → ⊥
no_reading ts e a h = subst (Gets a []) e (complete h turns 33)

pub no_rest : (ts : Tokens) (b : Expr) (t : Token) (us : Tokens) → whole turns 33 ts ≡ Ok (b, t ∷ us) → (a : Expr) → ReadsPiped ts a → ⊥
no_rest ts b t us e a h = let g : (b, t ∷ us) ≡ (a, []) = subst (Gets a []) e (complete h turns 33) in absurd (differs (ap (λ p. p.1) g))
  where
    differs : t ∷ us ≡ [] → ⊥
    differs d = cc

-- one expression at most: no limit is met where the limits are above the number of tokens
opens_few : (n : ℕ) (ts : Tokens) → opens n ts ≤ n + length ts
opens_few n [] = omega arith
opens_few n (t ∷ ts) = omega (arith, opens_few (after t.kind n) ts, after_one t.kind n)
  where
    after_one : (kind : Kind) (n : ℕ) → after kind n ≤ suc n
    after_one (k.Sign s.OpenRound) n = omega arith
    after_one (k.Sign s.OpenSquare) n = omega arith
    after_one (k.Sign s.CloseRound) zero = omega arith
    after_one (k.Sign s.CloseRound) (suc n) = omega arith
    after_one (k.Sign s.OpenBrace) n = omega arith
    after_one (k.Sign s.CloseSquare) zero = omega arith
    after_one (k.Sign s.CloseBrace) zero = omega arith
    after_one (k.Sign s.CloseBrace) (suc n) = omega arith
    after_one (k.Sign s.CloseSquare) (suc n) = omega arith
    after_one (k.Sign _) n = omega arith
    after_one (k.Number _) n = omega arith
    after_one (k.Text _) n = omega arith
    after_one (k.Name _) n = omega arith
    after_one (k.Variable _) n = omega arith

pub no_limit : (d n : ℕ) (ts : Tokens) → length ts < d → length ts < n → Stuck ReadsPiped d n ts → ⊥
no_limit d n ts few short st = passed (ap length st.all ∙ length-append st.text st.tail) st.passes
  where
    passed : length ts ≡ length st.text + length st.tail → ((m : ℕ) → m + d ≤ opens m st.text) ⊎ (n ≤ length st.text) → ⊥
    passed l (inl h) = absurd (omega (arith, h 0, opens_few 0 st.text, l))
    passed l (inr h) = absurd (omega (arith, h, l))

same_answer : (a b : Expr) (S : Type 0) (o : Outcome Expr) → (S → ⊥) → Is (λ _ _. Unit {0}) S o → Gets a [] o → Gets b [] o → a ≡ b
same_answer a b S (Ok p) none h ga gb = ap (λ q. q.0) (sym ga ∙ gb)
same_answer a b S (Err Limit) none h ga gb = absurd (none h)
same_answer a b S (Err Syntax) none h ga gb = absurd ga

pub reads_one : (ts : Tokens) (a b : Expr) → ReadsPiped ts a → ReadsPiped ts b → a ≡ b
reads_one ts a b h i =
    let n : ℕ = suc (length ts) in
    same_answer a b (Stuck ReadsPiped n n ts) (whole n n ts) (no_limit n n ts (omega arith) (omega arith))
    (weaken (Inside n ts) (Stuck ReadsPiped n n ts) (λ _ _. Unit {0}) (Stuck ReadsPiped n n ts) (whole n n ts) (sound n n ts) (λ _ _ _. tt) (λ st. st))
    (complete h n n) (complete i n n)

none_left : (us : Tokens) → length us ≤ 0 → us ≡ []
none_left [] h = refl
none_left (t ∷ us) h = absurd (omega arith)

pub at_rest : (ts : Tokens) (b : Expr) (us : Tokens) → whole turns 33 ts ≡ Ok (b, us) → 0 < length us → (a : Expr) → ReadsPiped ts a → ⊥
at_rest ts b [] e h = absurd (omega arith)
at_rest ts b (t ∷ us) e h = no_rest ts b t us e

pub at_long : (ts : Tokens) (b : Expr) (us : Tokens) → whole turns 33 ts ≡ Ok (b, us) → length us ≤ 0 → 256 < length ts → Over ts
at_long ts b us e h long = long_over ts b (e ∙ ap (λ z. Ok (b, z)) (none_left us h)) long

pub at_end : (ts : Tokens) (b : Expr) (us : Tokens) → whole turns 33 ts ≡ Ok (b, us) → length us ≤ 0 → length ts ≤ 256 → ReadsPiped ts b × (Over ts → ⊥)
at_end ts b us e h len =
    let f : whole turns 33 ts ≡ Ok (b, []) = e ∙ ap (λ z. Ok (b, z)) (none_left us h) in
    ((reads_of ts b f).0, not_over ts b f len)

-- ---- where an expression ends

same_rest : (a b : Expr) (us vs : Tokens) (S : Type 0) (o : Outcome Expr) → (S → ⊥) → Is (λ _ _. Unit {0}) S o → Gets a us o → Gets b vs o → us ≡ vs
same_rest a b us vs S (Ok p) none h ga gb = ap (λ q. q.1) (sym ga ∙ gb)
same_rest a b us vs S (Err Limit) none h ga gb = absurd (none h)
same_rest a b us vs S (Err Syntax) none h ga gb = absurd ga

-- no expression goes on with a token that ends one
pub no_longer : (x : Tokens) (a : Expr) → ReadsPiped x a → (t : Token) (w : Tokens) → Ends 10 (t ∷ w) → (b : Expr) → ReadsPiped (x ++ t ∷ w) b → ⊥
no_longer x a h t w end b i =
    let ts : Tokens = x ++ t ∷ w in
    let n : ℕ = suc (length ts) in
    let e : t ∷ w ≡ [] = same_rest a b (t ∷ w) [] (Stuck ReadsPiped n n ts) (whole n n ts) (no_limit n n ts (omega arith) (omega arith))
    (weaken (Inside n ts) (Stuck ReadsPiped n n ts) (λ _ _. Unit {0}) (Stuck ReadsPiped n n ts) (whole n n ts) (sound n n ts) (λ _ _ _. tt) (λ st. st))
    (complete_before h n n (t ∷ w) end) (complete i n n) in
    cc
