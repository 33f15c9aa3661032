-- Steps of the loops over statements.
use Rattle.std.proofs.Common.{◌≡◌, ℕ, suc, List, [], ◌∷◌, ◌++◌, length, refl, sym, ap, append_assoc, arith}
use Rattle.std.proofs.lemmas.List.{append-nil}
use Rattle.std.specs.Prelude.{Ok, Err, true, false, ◌==◌}
use Rattle.ng_tokens.specs.declared.kinds.Sign.TheVariants as s
use Rattle.ng_ast.specs.declared.Stmt.{Stmt}
use Rattle.ng_exprs.specs.Grammar.{Tokens}
use Rattle.ng_exprs.specs.Parse.{Outcome, Parser, Stop, and_then, front, peek, rest, is_sign, expect}
use Rattle.ng_exprs.specs.Lines.{list_of, simple, is_last, listener}
use Rattle.ng_exprs.specs.Blocks.{is_over, statement, statements}

front_cons : {A : Type 0} (found : List A) (a : A) (r : Outcome (List A)) → front found (and_then r (λ es ts. Ok (a ∷ es, ts))) ≡ front (found ++ a ∷ []) r
front_cons found a (Ok p) = ap (λ l. Ok (l, p.1)) (sym (append_assoc found (a ∷ []) p.0))
front_cons found a (Err e) = refl

pub list_step : {A : Type 0} (item : Parser A) (found : List A) (n : ℕ) (ts : Tokens) (a : A) (us : Tokens) → item ts ≡ Ok (a, us) → is_sign s.Comma (peek us) ≡ true
    → front found (list_of item (suc n) ts) ≡ front (found ++ a ∷ []) (list_of item n (rest us))
unfolding list_of
list_step item found n ts a us p q = rw p (rw q (front_cons found a (list_of item n (rest us))))

pub last_by : (ts : Tokens) → (length ts == 0) ≡ is_last ts
last_by [] = refl
last_by (t ∷ ts) = nonzero (length ts)
  where
    nonzero : (n : ℕ) → (suc n == 0) ≡ false
    nonzero n = grind arith

module _ (n m c d : ℕ) where
  pub line_err : (found : List Stmt) (i : ℕ) (ts : Tokens) (x : Stop) → simple n m c d ts ≡ Err x → front found (listener n m c d (suc i) ts) ≡ Err x
  unfolding listener
  line_err found i ts x p = rw p refl

  pub line_last : (found : List Stmt) (i : ℕ) (ts : Tokens) (a : Stmt) (us : Tokens) → simple n m c d ts ≡ Ok (a, us) → is_last us ≡ true → front found (listener n m c d (suc i) ts) ≡ Ok (found ++ a ∷ [], us)
  unfolding listener
  line_last found i ts a us p q = rw p (rw q refl)

  pub line_refused : (found : List Stmt) (i : ℕ) (ts : Tokens) (a : Stmt) (us : Tokens) (x : Stop) → simple n m c d ts ≡ Ok (a, us) → is_last us ≡ false → expect s.Semicolon us ≡ Err x → front found (listener n m c d (suc i) ts) ≡ Err x
  unfolding listener
  line_refused found i ts a us x p q r = rw p (rw q (rw r refl))

  pub line_ended : (found : List Stmt) (i : ℕ) (ts : Tokens) (a : Stmt) (us vs : Tokens) → simple n m c d ts ≡ Ok (a, us) → is_last us ≡ false → expect s.Semicolon us ≡ Ok (tt, vs) → is_last vs ≡ true
      → front found (listener n m c d (suc i) ts) ≡ Ok (found ++ a ∷ [], vs)
  unfolding listener
  line_ended found i ts a us vs p q r t = rw p (rw q (rw r (rw t refl)))

  pub line_more : (found : List Stmt) (i : ℕ) (ts : Tokens) (a : Stmt) (us vs : Tokens) → simple n m c d ts ≡ Ok (a, us) → is_last us ≡ false → expect s.Semicolon us ≡ Ok (tt, vs) → is_last vs ≡ false
      → front found (listener n m c d (suc i) ts) ≡ front (found ++ a ∷ []) (listener n m c d i vs)
  unfolding listener
  line_more found i ts a us vs p q r t = rw p (rw q (rw r (rw t (front_cons found a (listener n m c d i vs)))))

module _ (n m c d : ℕ) (inner : Parser (List Stmt)) where
  pub stmts_over : (found : List Stmt) (i : ℕ) (ts : Tokens) → is_over ts ≡ true → front found (statements n m c inner d (suc i) ts) ≡ Ok (found, ts)
  unfolding statements
  stmts_over found i ts p = rw p (ap (λ l. Ok (l, ts)) (append-nil found))

  pub stmts_err : (found : List Stmt) (i : ℕ) (ts : Tokens) (x : Stop) → is_over ts ≡ false → statement n m c inner d ts ≡ Err x → front found (statements n m c inner d (suc i) ts) ≡ Err x
  unfolding statements
  stmts_err found i ts x p q = rw p (rw q refl)

  pub stmts_more : (found : List Stmt) (i : ℕ) (ts : Tokens) (a : Stmt) (us : Tokens) → is_over ts ≡ false → statement n m c inner d ts ≡ Ok (a, us)
      → front found (statements n m c inner d (suc i) ts) ≡ front (found ++ a ∷ []) (statements n m c inner d i us)
  unfolding statements
  stmts_more found i ts a us p q = rw p (rw q (front_cons found a (statements n m c inner d i us)))
