-- Bodies: the function and the grammar are one.
use Rattle.std.proofs.Common.{◌≡◌, ℕ, zero, suc, true, false, cond, List, [], ◌∷◌, ◌++◌, length, refl, sym, ◌∙◌, ap, subst, append_assoc, arith, inl, inr}
use Rattle.std.specs.Prelude.{Bool, pred, ◌⊎◌, Some, Ok, Err}
use Rattle.std.proofs.lemmas.List.{append-nil}
use Rattle.ng_ast.specs.declared.Expr.{Expr}
use Rattle.ng_ast.specs.declared.Owner.{Owner}
use Rattle.ng_ast.specs.declared.Stmt.{Stmt}
use Rattle.ng_tokens.specs.declared.kinds.Sign.{Sign}
use Rattle.ng_tokens.specs.declared.kinds.Sign.TheVariants as s
use Rattle.ng_tokens.specs.declared.kinds.Kind.{Kind}
use Rattle.ng_tokens.specs.declared.kinds.Kind.TheVariants as k
use Rattle.ng_exprs.specs.Grammar.{Tokens, token, sign, ReadsPiped}
use Rattle.ng_exprs.specs.Limits.{after, opens}
use Rattle.ng_exprs.specs.Ends.{is_zero}
use Rattle.ng_exprs.specs.Parse.{Outcome, turns}
use Rattle.ng_exprs.specs.Statements.{ReadsSomeArgs, ReadsArgs, ReadsCall, ReadsOwner, ReadsSimple, ReadsTest, ReadsStmt, ReadsBlock, ReadsElse, ReadsStmts, PassesIn}
use Rattle.ng_exprs.specs.Awaits.{AwaitsBody}
use Rattle.ng_exprs.specs.Blocks.{body, statements}
use Rattle.ng_exprs.specs.Bodies.{ReadsWhole}
use Rattle.ng_exprs.proofs.Closing.{calm_of}
use Rattle.ng_exprs.proofs.Outcomes.{Is}
use Rattle.ng_exprs.proofs.Phrases.{exact_by}
use Rattle.ng_exprs.proofs.Serving.{serves_exactly}
use Rattle.ng_exprs.proofs.LinesComplete.{GetsL}
use Rattle.ng_exprs.proofs.LinesSound.{Read, Halted}
use Rattle.ng_exprs.proofs.BlocksComplete.{stmts_gets}
use Rattle.ng_exprs.proofs.BlocksSound.{body_sound}
use Rattle.ng_exprs.proofs.BlocksPublic.{body_one, unlimited_body, body_inside}
use Rattle.ng_phrases.specs.Words.{same_sign, is_sign}
use Rattle.ng_declare.specs.Ends.{ends_by}
use Rattle.ng_declare.specs.EndsLaws.{NoEnd, same_is}
use Rattle.ng_declare.specs.Bodies.{whole_taken, body_of}
use Rattle.ng_declare.specs.PartsLaws.{Part}

-- ---- the function on tokens

body_gets : (ts : Tokens) (bs : List Stmt) → ReadsWhole true ts bs → GetsL ⊥ bs [] (body turns 256 (suc (length ts)) 33 ts)
unfolding body
body_gets ts bs i =
    let c : ℕ = suc (length ts) in
    subst (λ z. GetsL ⊥ bs [] (statements turns 256 c (body turns 256 c 32) 32 c z)) (append-nil ts)
    (stmts_gets true ⊥ turns 256 c 32 (serves_exactly c) 0 32 (omega arith) i [] refl (rw append-nil (omega arith)) c (omega arith))

pub body_finds : (ts : Tokens) (bs : List Stmt) → ReadsWhole true ts bs → body_of ts ≡ Some bs
unfolding body_of
body_finds ts bs i = ap whole_taken (exact_by bs (body turns 256 (suc (length ts)) 33 ts) (body_gets ts bs i))

pub body_found : (ts : Tokens) (bs : List Stmt) → body_of ts ≡ Some bs → ReadsWhole true ts bs
unfolding body_of
body_found ts bs e = by (body turns 256 (suc (length ts)) 33 ts) (body_sound (suc (length ts)) 0 32 (omega arith) ts) e
  where
    by : (o : Outcome (List Stmt)) → Is (Read (ReadsStmts true 0) ts) (Halted (ReadsStmts false 0) (AwaitsBody 0) 33 ts) o → whole_taken o ≡ Some bs → ReadsWhole true ts bs
    by (Ok (found, [])) h e =
        let same : found ≡ bs = cc in
        subst (λ c. ReadsStmts true 0 ts c) same (subst (λ z. ReadsStmts true 0 z found) (sym (h.all ∙ append-nil h.text)) h.reads)
    by (Ok (found, t ∷ us)) h e = absurd (cc)
    by (Err x) h e = absurd (cc)

-- ---- as many brackets are closed as opened

abbrev Even : Tokens → Type 0
Even x = (m : ℕ) (r : Tokens) → opens m (x ++ r) ≡ opens m r

even_append : (x y : Tokens) → Even x → Even y → Even (x ++ y)
even_append x y e f m r = ap (opens m) (append_assoc x y r) ∙ e m (y ++ r) ∙ f m r

-- in brackets of some kind
even_brackets : (open_ close : Sign) (x : Tokens) → ((n : ℕ) → after (k.Sign open_) n ≡ suc n) → ((n : ℕ) → after (k.Sign close) (suc n) ≡ n) → (p q : _) → Even x → Even (sign open_ p ∷ (x ++ sign close q ∷ []))
even_brackets open_ close x up down p q e m r =
    ap (λ n. opens n ((x ++ sign close q ∷ []) ++ r)) (up m) ∙ ap (opens (suc m)) (append_assoc x (sign close q ∷ []) r) ∙ e (suc m) (sign close q ∷ r) ∙ ap (λ n. opens n r) (down m)

even_expr : (x : Tokens) (a : Expr) → ReadsPiped x a → Even x
even_expr x a h = (calm_of x a h).1.even

even_some : {e : ℕ} {x : Tokens} {es : List Expr} → ReadsSomeArgs false e x es → Even x
even_some (ReadsSomeArgs.last_arg {x = x} {a = a} h) = even_expr x a h
even_some (ReadsSomeArgs.next_arg {a = a} x y p h i) = even_append x (sign s.Comma p ∷ y) (even_expr x a h) (λ m r. even_some i m r)

even_args : {e : ℕ} {x : Tokens} {es : List Expr} → ReadsArgs false e x es → Even x
even_args ReadsArgs.no_arg = λ m r. refl
even_args (ReadsArgs.some_args h) = even_some h

even_call : {e : ℕ} {x : Tokens} {es : List Expr} → ReadsCall false e x es → Even x
even_call (ReadsCall.call x p q o h) = even_brackets s.OpenRound s.CloseRound x (λ n. refl) (λ n. refl) p q (even_args h)

even_owner : {e : ℕ} {x : Tokens} {w : Owner} → ReadsOwner false e x w → Even x
even_owner (ReadsOwner.named n p q) = λ m r. refl
even_owner (ReadsOwner.safe n p q) = λ m r. refl
even_owner (ReadsOwner.apart n p q t) = λ m r. refl
even_owner (ReadsOwner.item {a = a} n x p q r t o h) = λ m v. ap (opens (suc m)) (append_assoc x (sign s.CloseSquare r ∷ sign s.Dot t ∷ []) v) ∙ even_expr x a h (suc m) (sign s.CloseSquare r ∷ sign s.Dot t ∷ v)

even_simple : {e : ℕ} {x : Tokens} {a : Stmt} → ReadsSimple false e x a → Even x
even_simple (ReadsSimple.set {a = a} n x p q h) = λ m r. even_expr x a h m r
even_simple (ReadsSimple.run n x p h) = λ m r. even_call h m r
even_simple (ReadsSimple.send n x y p h i) = even_append x (token (k.Name n) p ∷ y) (even_owner h) (λ m r. even_call i m r)

even_test : {e : ℕ} {x : Tokens} {a : Expr} → ReadsTest false e x a → Even x
even_test (ReadsTest.test {a = a} x p q r o h) = λ m t. even_brackets s.OpenRound s.CloseRound x (λ n. refl) (λ n. refl) q r (even_expr x a h) m t

mutual
  even_stmt : {e : ℕ} {x : Tokens} {a : Stmt} → ReadsStmt false e x a → Even x
  even_stmt (ReadsStmt.plain x p h) = even_append x (sign s.Semicolon p ∷ []) (even_simple h) (λ m r. refl)
  even_stmt (ReadsStmt.conditional x y z h i j) = even_append x (y ++ z) (even_test h) (even_append y z (even_block i) (even_else j))

  even_block : {e : ℕ} {x : Tokens} {bs : List Stmt} → ReadsBlock false e x bs → Even x
  even_block (ReadsBlock.block x p q o h) = even_brackets s.OpenBrace s.CloseBrace x (λ n. refl) (λ n. refl) p q (even_stmts h)

  even_else : {e : ℕ} {x : Tokens} {bs : List Stmt} → ReadsElse false e x bs → Even x
  even_else ReadsElse.no_else = λ m r. refl
  even_else (ReadsElse.with_else x p h) = λ m r. even_block h m r

  even_stmts : {e : ℕ} {x : Tokens} {bs : List Stmt} → ReadsStmts false e x bs → Even x
  even_stmts ReadsStmts.none = λ m r. refl
  even_stmts (ReadsStmts.next x y h i) = even_append x y (even_stmt h) (even_stmts i)

-- ---- where as many are closed as opened, none closes what is not open

-- what a token does to the count of open brackets: nothing, or it opens one, or it closes one
after_cases : (kind : Kind) → ((n : ℕ) → after kind n ≡ n) ⊎ ((n : ℕ) → after kind n ≡ suc n) ⊎ ((n : ℕ) → after kind n ≡ pred n)
after_cases (k.Sign s.OpenRound) = inr (inl (λ n. refl))
after_cases (k.Sign s.OpenSquare) = inr (inl (λ n. refl))
after_cases (k.Sign s.OpenBrace) = inr (inl (λ n. refl))
after_cases (k.Sign s.CloseRound) = inr (inr (λ n. refl))
after_cases (k.Sign s.CloseSquare) = inr (inr (λ n. refl))
after_cases (k.Sign s.CloseBrace) = inr (inr (λ n. refl))
after_cases _ = inl (λ n. refl)

ends_no : (kind : Kind) (n : ℕ) → (after kind 1 ≡ 0 → ⊥) → ends_by s.CloseBrace kind n ≡ false
ends_no (k.Number x) n h = refl
ends_no (k.Name x) n h = refl
ends_no (k.Variable x) n h = refl
ends_no (k.Text x) n h = refl
ends_no (k.Sign y) n h = by (same_sign y s.CloseBrace) refl
  where
    by : (v : Bool) → same_sign y s.CloseBrace ≡ v → cond v (is_zero n) false ≡ false
    by true f = absurd (h (ap (λ (z : Sign). after (k.Sign z) 1) (same_is s.CloseBrace y f)))
    by false f = refl

ends_inside : (kind : Kind) (n : ℕ) → ends_by s.CloseBrace kind (suc n) ≡ false
ends_inside kind n = by (is_sign s.CloseBrace kind)
  where
    by : (v : Bool) → cond v false false ≡ false
    by true = refl
    by false = refl

-- where one bracket more is open all the way, none is closed that is not open
no_dip : (ts : Tokens) (n : ℕ) → opens (suc n) ts ≡ suc (opens n ts) → NoEnd s.CloseBrace n ts
no_dip [] n e = tt
no_dip (t ∷ ts) n e = by (λ m. no_dip ts m) (after_cases t.kind) n e
  where
    next : ((m : ℕ) → opens (suc m) ts ≡ suc (opens m ts) → NoEnd s.CloseBrace m ts) → (m i : ℕ) → after t.kind (suc m) ≡ suc i → after t.kind m ≡ i → opens (after t.kind (suc m)) ts ≡ suc (opens (after t.kind m) ts) → NoEnd s.CloseBrace (after t.kind m) ts
    next go m i up here f =
        subst (λ j. NoEnd s.CloseBrace j ts) (sym here) (go i (sym (ap (λ j. opens j ts) up) ∙ f ∙ ap (λ j. suc (opens j ts)) here))

    by : ((m : ℕ) → opens (suc m) ts ≡ suc (opens m ts) → NoEnd s.CloseBrace m ts) → ((m : ℕ) → after t.kind m ≡ m) ⊎ ((m : ℕ) → after t.kind m ≡ suc m) ⊎ ((m : ℕ) → after t.kind m ≡ pred m)
        → (m : ℕ) → opens (after t.kind (suc m)) ts ≡ suc (opens (after t.kind m) ts) → NoEnd s.CloseBrace m (t ∷ ts)
    by go (inl h) m f = (ends_no t.kind m (λ g. absurd (omega (arith, h 1, g))), next go m m (h (suc m)) (h m) f)
    by go (inr (inl h)) m f = (ends_no t.kind m (λ g. absurd (omega (arith, h 1, g))), next go m (suc m) (h (suc m)) (h m) f)
    by go (inr (inr h)) zero f =
        let g : opens 0 ts ≡ suc (opens 0 ts) = sym (ap (λ j. opens j ts) (h 1)) ∙ f ∙ ap (λ j. suc (opens j ts)) (h 0) in
        absurd (omega (arith, g))
    by go (inr (inr h)) (suc m) f = (ends_inside t.kind m, next go (suc m) m (h (suc (suc m))) (h (suc m)) f)

pub body_balanced : (ts : Tokens) (bs : List Stmt) → ReadsWhole false ts bs → NoEnd s.CloseBrace 0 ts × (opens 0 ts ≡ 0)
body_balanced ts bs i =
    let even : (m : ℕ) → opens m ts ≡ m = λ m. ap (opens m) (sym (append-nil ts)) ∙ even_stmts i m [] in
    (no_dip ts 0 (even 1 ∙ ap (λ j. suc j) (sym (even 0))), even 0)

abbrev pub statements_part : Part (List Stmt)
statements_part = record {
  ending = s.CloseBrace;
  is_end = inr refl;
  reads = ReadsWhole false;
  within = ReadsWhole true;
  passes = PassesIn (AwaitsBody 0);
  find = body_of;
  found = body_found;
  finds = body_finds;
  unlimited = unlimited_body;
  one = body_one;
  balanced = body_balanced;
  calm = λ ts a h front more parts rest b begun passes. body_inside ts a h (front, more, parts, (rest, b, begun), passes);
}
