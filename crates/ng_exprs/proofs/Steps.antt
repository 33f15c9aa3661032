-- Steps of the loops.
use Rattle.std.proofs.Common.{◌≡◌, ℕ, suc, List, [], ◌∷◌, ◌++◌, ◌-◌, ◌<◌, zero, refl, sym, ap, append_assoc, arith}
use Rattle.std.proofs.lemmas.List.{append-nil}
use Rattle.std.specs.Prelude.{Ok, Err, true, false}
use Rattle.ng_tokens.specs.declared.kinds.Sign.TheVariants as s
use Rattle.ng_ast.specs.declared.Expr.{Expr}
use Rattle.ng_exprs.specs.Grammar.{Tokens, start}
use Rattle.ng_exprs.specs.Parse.{Outcome, Parser, Brackets, and_then, front, some_of, peek, rest, is_sign, ranked, joins, arguments, chosen}

front_cons : {A : Type 0} (found : List A) (a : A) (r : Outcome (List A)) → front found (and_then r (λ es ts. Ok (a ∷ es, ts))) ≡ front (found ++ a ∷ []) r
front_cons found a (Ok p) = ap (λ l. Ok (l, p.1)) (sym (append_assoc found (a ∷ []) p.0))
front_cons found a (Err e) = refl

pub some_step : {A : Type 0} (item : Parser A) (found : List A) (n : ℕ) (ts : Tokens) (a : A) (us : Tokens) → item ts ≡ Ok (a, us) → is_sign s.Comma (peek us) ≡ true
    → front found (some_of item (suc n) ts) ≡ front (found ++ a ∷ []) (some_of item n (rest us))
unfolding some_of
some_step item found n ts a us p q = rw p (rw q (front_cons found a (some_of item n (rest us))))

pub arguments_step : (inner : Brackets) (found : List Expr) (n : ℕ) (ts : Tokens) (a : Expr) (us : Tokens) → is_sign s.Colon (peek ts) ≡ true → chosen inner inner.turns (rest ts) ≡ Ok (a, us)
    → front found (arguments inner (suc n) ts) ≡ front (found ++ a ∷ []) (arguments inner n us)
unfolding arguments
arguments_step inner found n ts a us p q = rw p (rw q (front_cons found a (arguments inner n us)))

pub arguments_stop : (inner : Brackets) (found : List Expr) (n : ℕ) (ts : Tokens) → is_sign s.Colon (peek ts) ≡ false → front found (arguments inner (suc n) ts) ≡ Ok (found, ts)
unfolding arguments
arguments_stop inner found n ts p = rw p (ap (λ l. Ok (l, ts)) (append-nil found))

pub ranked_step : (inner : Brackets) (r : ℕ) (ts : Tokens) → 0 < r → ranked inner r ts ≡ and_then (ranked inner (r - 1) ts) (joins inner (ranked inner (r - 1)) r inner.turns (start ts))
unfolding ranked
ranked_step inner zero ts h = absurd (omega arith)
ranked_step inner (suc r) ts h = let e : suc r - 1 ≡ r = omega arith in rw e refl
