-- What keeps the limits opens at most 32 brackets at once.
use Rattle.std.proofs.Common.{◌≡◌, ℕ, suc, ◌≤◌, List, [], ◌∷◌, ◌++◌, sym, ◌∙◌, ap, subst, append_assoc, arith}
use Rattle.std.proofs.lemmas.List.{append-nil}
use Rattle.std.specs.Prelude.{true}
use Rattle.ng_ast.specs.declared.Place.{Place}
use Rattle.ng_ast.specs.declared.Expr.{Expr}
use Rattle.ng_ast.specs.declared.Owner.{Owner}
use Rattle.ng_ast.specs.declared.Stmt.{Stmt}
use Rattle.ng_tokens.specs.declared.kinds.Sign.TheVariants as s
use Rattle.ng_tokens.specs.declared.kinds.Kind.TheVariants as k
use Rattle.ng_exprs.specs.Grammar.{Tokens, token, sign, ReadsPiped}
use Rattle.ng_exprs.specs.Limits.{after, opens, Within}
use Rattle.ng_exprs.specs.Statements.{IsExpr, ReadsSomeArgs, ReadsArgs, ReadsCall, ReadsOwner, ReadsSimple, ReadsListener, ReadsTest, ReadsStmt, ReadsBlock, ReadsElse, ReadsStmts}
use Rattle.ng_exprs.proofs.Closing.{calm_of}

within_append : (m n : ℕ) (x y : Tokens) → Within m n x → Within m (opens n x) y → Within m n (x ++ y)
within_append m n [] y w v = v
within_append m n (t ∷ x) y w v = (w.0, within_append m (after t.kind n) x y w.1 v)

-- where e brackets are open before, at most 32 are at once, if so few are behind
abbrev pub Keeps : ℕ → Tokens → Type 0
Keeps e x = (r : Tokens) → Within 32 e r → Within 32 e (x ++ r)

keeps_more : (e : ℕ) (x y : Tokens) → Keeps e x → Keeps e y → Keeps e (x ++ y)
keeps_more e x y h i = λ r w. subst (Within 32 e) (sym (append_assoc x y r)) (h (y ++ r) (i r w))

-- brackets round what keeps the limit
keeps_round : (e : ℕ) → suc e ≤ 32 → (x : Tokens) (p q : Place) → Keeps (suc e) x → Keeps e (sign s.OpenRound p ∷ x ++ sign s.CloseRound q ∷ [])
keeps_round e le x p q h = λ r w. (le, subst (Within 32 (suc e)) (sym (append_assoc x (sign s.CloseRound q ∷ []) r)) (h (sign s.CloseRound q ∷ r) (omega arith, w)))

keeps_brace : (e : ℕ) → suc e ≤ 32 → (x : Tokens) (p q : Place) → Keeps (suc e) x → Keeps e (sign s.OpenBrace p ∷ x ++ sign s.CloseBrace q ∷ [])
keeps_brace e le x p q h = λ r w. (le, subst (Within 32 (suc e)) (sym (append_assoc x (sign s.CloseBrace q ∷ []) r)) (h (sign s.CloseBrace q ∷ r) (omega arith, w)))

keeps_square : (e : ℕ) → suc e ≤ 32 → (x : Tokens) (p q : Place) → Keeps (suc e) x → Keeps e (sign s.OpenSquare p ∷ x ++ sign s.CloseSquare q ∷ [])
keeps_square e le x p q h = λ r w. (le, subst (Within 32 (suc e)) (sym (append_assoc x (sign s.CloseSquare q ∷ []) r)) (h (sign s.CloseSquare q ∷ r) (omega arith, w)))

even_piped : (x : Tokens) (a : Expr) → ReadsPiped x a → (e : ℕ) → opens e x ≡ e
even_piped x a h e = ap (opens e) (sym (append-nil x)) ∙ (calm_of x a h).1.even e []

keeps_expr : (e : ℕ) (x : Tokens) (a : Expr) → IsExpr true e x a → Keeps e x
keeps_expr e x a h = λ r w. within_append 32 e x r h.2 (subst (λ n. Within 32 n r) (sym (even_piped x a h.0 e)) w)

keeps_some : {e : ℕ} {x : Tokens} {es : List Expr} → e ≤ 32 → ReadsSomeArgs true e x es → Keeps e x
keeps_some {e = e} le (ReadsSomeArgs.last_arg {x = x} {a = a} h) = keeps_expr e x a h
keeps_some {e = e} le (ReadsSomeArgs.next_arg {a = a} x y p h i) = keeps_more e x (sign s.Comma p ∷ y) (keeps_expr e x a h) (λ r w. (le, keeps_some le i r w))

keeps_args : {e : ℕ} {x : Tokens} {es : List Expr} → e ≤ 32 → ReadsArgs true e x es → Keeps e x
keeps_args le ReadsArgs.no_arg = λ r w. w
keeps_args le (ReadsArgs.some_args h) = keeps_some le h

keeps_call : {e : ℕ} {x : Tokens} {es : List Expr} → ReadsCall true e x es → Keeps e x
keeps_call {e = e} (ReadsCall.call x p q room h) = keeps_round e room x p q (keeps_args room h)

keeps_owner : {e : ℕ} {x : Tokens} {f : Owner} → e ≤ 32 → ReadsOwner true e x f → Keeps e x
keeps_owner le (ReadsOwner.named v p q) = λ r w. (le, (le, w))
keeps_owner le (ReadsOwner.safe v p q) = λ r w. (le, (le, w))
keeps_owner le (ReadsOwner.apart v p q t) = λ r w. (le, (le, (le, w)))
keeps_owner {e = e} le (ReadsOwner.item {a = a} v x p q t u room h) = λ r w.
    (le, subst (λ z. Within 32 e (sign s.OpenSquare q ∷ z)) (split x t u r) (keeps_square e room x q t (keeps_expr (suc e) x a h) (sign s.Dot u ∷ r) (le, w)))
  where
    split : (x : Tokens) (t u : Place) (r : Tokens) → (x ++ sign s.CloseSquare t ∷ []) ++ sign s.Dot u ∷ r ≡ (x ++ sign s.CloseSquare t ∷ sign s.Dot u ∷ []) ++ r
    split x t u r = append_assoc x (sign s.CloseSquare t ∷ []) (sign s.Dot u ∷ r) ∙ sym (append_assoc x (sign s.CloseSquare t ∷ sign s.Dot u ∷ []) r)

keeps_simple : {e : ℕ} {x : Tokens} {a : Stmt} → e ≤ 32 → ReadsSimple true e x a → Keeps e x
keeps_simple {e = e} le (ReadsSimple.set {a = a} v x p q h) = λ r w. (le, (le, keeps_expr e x a h r w))
keeps_simple le (ReadsSimple.run v x p h) = λ r w. (le, keeps_call h r w)
keeps_simple {e = e} le (ReadsSimple.send v x y p h i) = keeps_more e x (token (k.Name v) p ∷ y) (keeps_owner le h) (λ r w. (le, keeps_call i r w))

pub keeps_listener : {x : Tokens} {bs : List Stmt} → ReadsListener true x bs → Keeps 0 x
keeps_listener (ReadsListener.last h) = keeps_simple (omega arith) h
keeps_listener (ReadsListener.ended x p h) = keeps_more 0 x (sign s.Semicolon p ∷ []) (keeps_simple (omega arith) h) (λ r w. (omega arith, w))
keeps_listener (ReadsListener.more x y p h i) = keeps_more 0 x (sign s.Semicolon p ∷ y) (keeps_simple (omega arith) h) (λ r w. (omega arith, keeps_listener i r w))

keeps_test : {e : ℕ} {x : Tokens} {a : Expr} → e ≤ 32 → ReadsTest true e x a → Keeps e x
keeps_test {e = e} le (ReadsTest.test {a = a} x p q t room h) = λ r w. (le, keeps_round e room x q t (keeps_expr (suc e) x a h) r w)

mutual
  keeps_stmt : {e : ℕ} {x : Tokens} {a : Stmt} → e ≤ 32 → ReadsStmt true e x a → Keeps e x
  keeps_stmt {e = e} le (ReadsStmt.plain x p h) = keeps_more e x (sign s.Semicolon p ∷ []) (keeps_simple le h) (λ r w. (le, w))
  keeps_stmt {e = e} le (ReadsStmt.conditional x y z h i j) = keeps_more e x (y ++ z) (keeps_test le h) (keeps_more e y z (keeps_block le i) (keeps_else le j))

  keeps_block : {e : ℕ} {x : Tokens} {bs : List Stmt} → e ≤ 32 → ReadsBlock true e x bs → Keeps e x
  keeps_block {e = e} le (ReadsBlock.block x p q room h) = keeps_brace e room x p q (keeps_stmts room h)

  keeps_else : {e : ℕ} {x : Tokens} {bs : List Stmt} → e ≤ 32 → ReadsElse true e x bs → Keeps e x
  keeps_else le ReadsElse.no_else = λ r w. w
  keeps_else le (ReadsElse.with_else x p h) = λ r w. (le, keeps_block le h r w)

  pub keeps_stmts : {e : ℕ} {x : Tokens} {bs : List Stmt} → e ≤ 32 → ReadsStmts true e x bs → Keeps e x
  keeps_stmts le ReadsStmts.none = λ r w. w
  keeps_stmts {e = e} le (ReadsStmts.next x y h i) = keeps_more e x y (keeps_stmt le h) (keeps_stmts le i)
