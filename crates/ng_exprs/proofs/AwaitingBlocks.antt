-- Where a body awaits an expression, the function reads one.
use Rattle.std.proofs.Common.{◌≡◌, ℕ, zero, suc, ◌+◌, ◌<◌, List, [], ◌∷◌, ◌++◌, length, refl, sym, ◌∙◌, ap, subst, append_assoc, arith, length-append}
use Rattle.std.specs.Prelude.{Bool, true, false, codes, Ok}
use Rattle.ng_ast.specs.declared.Place.{Place}
use Rattle.ng_ast.specs.declared.Expr.{Expr}
use Rattle.ng_ast.specs.declared.Stmt.{Stmt}
use Rattle.ng_tokens.specs.declared.kinds.Sign.TheVariants as s
use Rattle.ng_tokens.specs.declared.kinds.Kind.TheVariants as k
use Rattle.ng_tokens.specs.Lexis.{same_text}
use Rattle.ng_exprs.specs.Grammar.{Tokens, token, sign, ReadsPiped}
use Rattle.ng_exprs.specs.Parse.{Parser, same, expect, turns}
use Rattle.ng_exprs.specs.Statements.{ReadsSomeArgs, ReadsArgs, ReadsTest, EndsLong}
use Rattle.ng_exprs.specs.Awaits.{AwaitsArg, AwaitsSimple, AwaitsBody}
use Rattle.ng_exprs.specs.Lines.{args, simple}
use Rattle.ng_exprs.specs.Blocks.{sees_word, is_over, block, other, branch, conditional, statement, statements, body}
use Rattle.ng_exprs.proofs.LinesComplete.{GetsL, args_gets}
use Rattle.ng_exprs.proofs.Serving.{serves_any}
use Rattle.ng_exprs.proofs.BlocksComplete.{brace_is, round_is, if_sees, else_sees, other_sign, word_is, Named, named_sees, named_owner, uncalled_owner, named_test, named_stmt, named_more, named_not_over, Opened, opened, assigns, stmt_gets, blocks_gets}
use Rattle.ng_exprs.proofs.Awaiting.{Reached, too_long, then_ok, then_gets, expect_ends, Wide, reach_args, reach_simple, long_wide}

-- ---- the front of a statement that is begun

named_argument : (v : List ℕ) (p q : Place) (x : Tokens) → Named s.OpenBrace (token (k.Name v) p ∷ (sign s.OpenRound q ∷ x))
unfolding same
named_argument v p q x = (v, p, s.OpenRound, q, x, refl, refl)

named_value : (v : List ℕ) (p q : Place) → Named s.OpenBrace (token (k.Name v) p ∷ (sign s.Assign q ∷ []))
unfolding same
named_value v p q = (v, p, s.Assign, q, [], refl, refl)

named_position : (v : List ℕ) (p q : Place) → Named s.OpenBrace (token (k.Name v) p ∷ (sign s.OpenSquare q ∷ []))
unfolding same
named_position v p q = (v, p, s.OpenSquare, q, [], refl, refl)

square_is : same s.OpenSquare s.OpenRound ≡ false
unfolding same
square_is = refl

named_awaits : {y : Tokens} → AwaitsSimple y → Named s.OpenBrace y
named_awaits (AwaitsSimple.value v p q) = named_value v p q
named_awaits (AwaitsSimple.position v p q) = named_position v p q
named_awaits (AwaitsSimple.argument v y p q aw) = named_argument v p q y
named_awaits (AwaitsSimple.sent v x y p q f aw) = named_owner f (token (k.Name v) p ∷ sign s.OpenRound q ∷ y)

named_body : {e : ℕ} {y : Tokens} → AwaitsBody e y → Named s.OpenBrace y
named_body (AwaitsBody.here aw) = named_awaits aw
named_body (AwaitsBody.taken x y p h aw) = named_more x (sign s.OpenBrace p ∷ y) (named_test h)
named_body (AwaitsBody.otherwise x y z p q h i aw) = named_more x _ (named_test h)
named_body (AwaitsBody.later x y h aw) = named_more x y (named_stmt h)

-- ---- a statement without `if`

module _ (c e d : ℕ) (eq : e + d ≡ 32) (inner : Parser (List Stmt)) where
  reach_other : {y : Tokens} → AwaitsSimple y → (w : Tokens) → Wide w → (q : Stmt × Tokens) → sees_word (codes "if") s.OpenRound (y ++ w) ≡ false → statement turns 256 c inner d (y ++ w) ≡ Ok q → Reached w
  unfolding statement
  reach_other {y = y} aw w n q first h =
      let t = then_ok (simple turns 256 c d (y ++ w)) _ q (rw first at h) in
      let u = then_ok (expect s.Semicolon t.0.1) _ q t.2 in
      reach_simple c e d eq aw w n t.0 t.1 (expect_ends s.Semicolon (omega arith) t.0.1 u.0 u.1)

  reach_call : (p p2 : Place) {y : Tokens} → AwaitsArg y → (w : Tokens) → Wide w → (q : Stmt × Tokens) → conditional turns 256 c inner d p (token (k.Name (codes "if")) p ∷ (sign s.OpenRound p2 ∷ (y ++ w))) ≡ Ok q → Reached w
  unfolding conditional
  reach_call p p2 {y = y} aw w n q h = let t = then_ok (args turns 256 c d (y ++ w)) _ q (rw round_is at h) in reach_args c e d eq aw w n t.0 t.1

  reach_if : (p p2 : Place) {y : Tokens} → AwaitsArg y → (w : Tokens) → Wide w → (q : Stmt × Tokens) → statement turns 256 c inner d (token (k.Name (codes "if")) p ∷ (sign s.OpenRound p2 ∷ (y ++ w))) ≡ Ok q → Reached w
  unfolding statement
  reach_if p p2 {y = y} aw w n q h = reach_call p p2 aw w n q (rw (if_sees p p2 (y ++ w)) at h)

  reach_argument : (v : List ℕ) (p p2 : Place) {y : Tokens} → AwaitsArg y → (w : Tokens) → Wide w → (q : Stmt × Tokens) → (u : Bool) → same_text (codes "if") v ≡ u
      → statement turns 256 c inner d (token (k.Name v) p ∷ (sign s.OpenRound p2 ∷ (y ++ w))) ≡ Ok q → Reached w
  reach_argument v p p2 {y = y} aw w n q true same_word h =
      reach_if p p2 aw w n q (subst (λ z. statement turns 256 c inner d (token (k.Name z) p ∷ (sign s.OpenRound p2 ∷ (y ++ w))) ≡ Ok q) (sym (word_is (codes "if") v same_word)) h)
  reach_argument v p p2 {y = y} aw w n q false another h = reach_other (AwaitsSimple.argument v y p p2 aw) w n q (rw another refl) h

  reach_plain : {y : Tokens} → AwaitsSimple y → (w : Tokens) → Wide w → (q : Stmt × Tokens) → statement turns 256 c inner d (y ++ w) ≡ Ok q → Reached w
  reach_plain (AwaitsSimple.value v p p2) w n q h = reach_other (AwaitsSimple.value v p p2) w n q (other_sign (codes "if") v s.OpenRound s.Assign p p2 w assigns) h
  reach_plain (AwaitsSimple.position v p p2) w n q h = reach_other (AwaitsSimple.position v p p2) w n q (other_sign (codes "if") v s.OpenRound s.OpenSquare p p2 w square_is) h
  reach_plain (AwaitsSimple.argument v y p p2 aw) w n q h = reach_argument v p p2 aw w n q (same_text (codes "if") v) refl h
  reach_plain (AwaitsSimple.sent v x y p p2 f aw) w n q h =
      reach_other (AwaitsSimple.sent v x y p p2 f aw) w n q (named_sees (codes "if") s.OpenRound (x ++ token (k.Name v) p ∷ sign s.OpenRound p2 ∷ y) w (uncalled_owner f (token (k.Name v) p ∷ sign s.OpenRound p2 ∷ y))) h

  -- ---- the blocks of an `if`

  test_call : (p p2 p3 : Place) (x : Tokens) (a : Expr) → ReadsPiped x a → (t : Place) (ts : Tokens) → suc e + length (x ++ sign s.CloseRound p3 ∷ (sign s.OpenBrace t ∷ ts)) < c → (q : Stmt × Tokens)
      → conditional turns 256 c inner d p (token (k.Name (codes "if")) p ∷ (sign s.OpenRound p2 ∷ (x ++ sign s.CloseRound p3 ∷ (sign s.OpenBrace t ∷ ts)))) ≡ Ok q → branch inner p a (sign s.OpenBrace t ∷ ts) ≡ Ok q
  unfolding conditional
  test_call p p2 p3 x a h t ts len q f =
      let tail : Tokens = sign s.OpenBrace t ∷ ts in
      let g = then_gets (Unit {0}) (args turns 256 c d (x ++ sign s.CloseRound p3 ∷ tail)) _ q (a ∷ []) tail
      (args_gets false (Unit {0}) turns 256 c 32 (serves_any c) e d eq x (a ∷ []) tt (ReadsArgs.some_args (ReadsSomeArgs.last_arg h)) p3 tail len) (rw round_is at f) in
      rw brace_is.0 at g

  test_if : (p p2 : Place) (ts : Tokens) (q : Stmt × Tokens) → statement turns 256 c inner d (token (k.Name (codes "if")) p ∷ (sign s.OpenRound p2 ∷ ts)) ≡ Ok q → conditional turns 256 c inner d p (token (k.Name (codes "if")) p ∷ (sign s.OpenRound p2 ∷ ts)) ≡ Ok q
  unfolding statement
  test_if p p2 ts q h = rw (if_sees p p2 ts) at h

  test_branch : {x : Tokens} {a : Expr} → ReadsTest false e x a → (t : Place) (ts : Tokens) → e + length (x ++ sign s.OpenBrace t ∷ ts) < c → (q : Stmt × Tokens) → statement turns 256 c inner d (x ++ sign s.OpenBrace t ∷ ts) ≡ Ok q
      → (p : Place) × (branch inner p a (sign s.OpenBrace t ∷ ts) ≡ Ok q)
  test_branch {a = a} (ReadsTest.test x p p2 p3 room h) t ts len q f =
      let tail : Tokens = sign s.OpenBrace t ∷ ts in
      let all : (x ++ sign s.CloseRound p3 ∷ []) ++ tail ≡ x ++ sign s.CloseRound p3 ∷ tail = append_assoc x (sign s.CloseRound p3 ∷ []) tail in (
        p,
        test_call p p2 p3 x a h t ts (omega (arith, len, ap length all)) q
            (subst (λ z. conditional turns 256 c inner d p (token (k.Name (codes "if")) p ∷ (sign s.OpenRound p2 ∷ z)) ≡ Ok q) all (test_if p p2 ((x ++ sign s.CloseRound p3 ∷ []) ++ tail) q f)),
      )

module _ (inner : Parser (List Stmt)) where
  block_inner : (p : Place) (ts : Tokens) (q : List Stmt × Tokens) → block inner (sign s.OpenBrace p ∷ ts) ≡ Ok q → (r : List Stmt × Tokens) × (inner ts ≡ Ok r)
  unfolding block
  block_inner p ts q h = let t = then_ok (inner ts) _ q (rw brace_is.0 at h) in (t.0, t.1)

  branch_block : (p : Place) (a : Expr) (ts : Tokens) (q : Stmt × Tokens) → branch inner p a ts ≡ Ok q → (r : List Stmt × Tokens) × (block inner ts ≡ Ok r)
  unfolding branch
  branch_block p a ts q h = let t = then_ok (block inner ts) _ q h in (t.0, t.1)

  branch_other : (p : Place) (a : Expr) (ts : Tokens) (q : Stmt × Tokens) (bs : List Stmt) (us : Tokens) → GetsL (Unit {0}) bs us (block inner ts) → branch inner p a ts ≡ Ok q → (r : List Stmt × Tokens) × (other inner us ≡ Ok r)
  unfolding branch
  branch_other p a ts q bs us g h = let t = then_ok (other inner us) _ q (then_gets (Unit {0}) (block inner ts) _ q bs us g h) in (t.0, t.1)

  other_block : (p p2 : Place) (ts : Tokens) (q : List Stmt × Tokens) → other inner (token (k.Name (codes "else")) p ∷ (sign s.OpenBrace p2 ∷ ts)) ≡ Ok q → block inner (sign s.OpenBrace p2 ∷ ts) ≡ Ok q
  unfolding other
  other_block p p2 ts q h = rw (else_sees p p2 ts) at h

  next_statement : (c d : ℕ) (ts : Tokens) → is_over ts ≡ false → (i : ℕ) (q : List Stmt × Tokens) → statements turns 256 c inner d i ts ≡ Ok q → (r : Stmt × Tokens) × (statement turns 256 c inner d ts ≡ Ok r)
  unfolding statements
  next_statement c d ts on zero q h = absurd (cc)
  next_statement c d ts on (suc i) q h = let t = then_ok (statement turns 256 c inner d ts) _ q (rw on at h) in (t.0, t.1)

  statements_again : (c d : ℕ) (ts : Tokens) → is_over ts ≡ false → (a : Stmt) (us : Tokens) → GetsL (Unit {0}) a us (statement turns 256 c inner d ts) → (i : ℕ) (q : List Stmt × Tokens) → statements turns 256 c inner d i ts ≡ Ok q
      → (j : ℕ) × (r : List Stmt × Tokens) × (statements turns 256 c inner d j us ≡ Ok r)
  unfolding statements
  statements_again c d ts on a us g zero q h = absurd (cc)
  statements_again c d ts on a us g (suc i) q h =
      let t = then_ok (statements turns 256 c inner d i us) _ q (then_gets (Unit {0}) (statement turns 256 c inner d ts) _ q a us g (rw on at h)) in
      (i, t.0, t.1)

-- what stands in braces is read with one bracket less to open
body_statements : (c d : ℕ) (ts : Tokens) (q : List Stmt × Tokens) → body turns 256 c d ts ≡ Ok q → (f : ℕ) × (d ≡ suc f) × (statements turns 256 c (body turns 256 c f) f c ts ≡ Ok q)
unfolding body
body_statements c zero ts q h = absurd (cc)
body_statements c (suc d) ts q h = (d, refl, h)

pub reach_body : (c : ℕ) {e : ℕ} {y : Tokens} → AwaitsBody e y → (d : ℕ) → e + d ≡ 32 → (w : Tokens) → Wide w → e + length (y ++ w) < c → (i : ℕ) (q : List Stmt × Tokens)
    → statements turns 256 c (body turns 256 c d) d i (y ++ w) ≡ Ok q → Reached w
reach_body c {e = e} {y = y} (AwaitsBody.here aw) d eq w n len i q h =
    let t = next_statement (body turns 256 c d) c d (y ++ w) (named_not_over y w (named_awaits aw)) i q h in
    reach_plain c e d eq (body turns 256 c d) aw w n t.0 t.1
reach_body c {e = e} (AwaitsBody.taken {a = a} x y p h aw) d eq w n len i q g =
    let all : (x ++ sign s.OpenBrace p ∷ y) ++ w ≡ x ++ sign s.OpenBrace p ∷ (y ++ w) = append_assoc x (sign s.OpenBrace p ∷ y) w in
    let short : e + length (x ++ sign s.OpenBrace p ∷ (y ++ w)) < c = omega (arith, len, ap length all) in
    let t = next_statement (body turns 256 c d) c d (x ++ sign s.OpenBrace p ∷ (y ++ w)) (named_not_over x (sign s.OpenBrace p ∷ (y ++ w)) (named_test h)) i q (subst (λ z. statements turns 256 c (body turns 256 c d) d i z ≡ Ok q) all g) in
    let u = test_branch c e d eq (body turns 256 c d) h p (y ++ w) short t.0 t.1 in
    let v = branch_block (body turns 256 c d) u.0 a (sign s.OpenBrace p ∷ (y ++ w)) t.0 u.1 in
    let f = block_inner (body turns 256 c d) p (y ++ w) v.0 v.1 in
    let b = body_statements c d (y ++ w) f.0 f.1 in
    reach_body c aw b.0 (omega (arith, b.1)) w n (omega (arith, short, length-append x (sign s.OpenBrace p ∷ (y ++ w)))) c f.0 b.2
reach_body c {e = e} (AwaitsBody.otherwise {a = a} {bs = bs} x y z p p2 h j aw) d eq w n len i q g =
    let tail : Tokens = token (k.Name (codes "else")) p ∷ (sign s.OpenBrace p2 ∷ (z ++ w)) in
    let o : Opened y = opened j in
    let same_block : y ++ tail ≡ sign s.OpenBrace o.0 ∷ (o.1 ++ tail) = ap (λ u. u ++ tail) o.2 in
    let all : (x ++ (y ++ token (k.Name (codes "else")) p ∷ sign s.OpenBrace p2 ∷ z)) ++ w ≡ x ++ (y ++ tail) =
    append_assoc x (y ++ token (k.Name (codes "else")) p ∷ sign s.OpenBrace p2 ∷ z) w ∙ ap (λ u. x ++ u) (append_assoc y (token (k.Name (codes "else")) p ∷ sign s.OpenBrace p2 ∷ z) w) in
    let whole : (x ++ (y ++ token (k.Name (codes "else")) p ∷ sign s.OpenBrace p2 ∷ z)) ++ w ≡ x ++ sign s.OpenBrace o.0 ∷ (o.1 ++ tail) = all ∙ ap (λ u. x ++ u) same_block in
    let short : e + length (x ++ (y ++ tail)) < c = omega (arith, len, ap length all) in
    let t = next_statement (body turns 256 c d) c d (x ++ sign s.OpenBrace o.0 ∷ (o.1 ++ tail)) (named_not_over x (sign s.OpenBrace o.0 ∷ (o.1 ++ tail)) (named_test h)) i q (subst (λ u. statements turns 256 c (body turns 256 c d) d i u ≡ Ok q) whole g) in
    let u = test_branch c e d eq (body turns 256 c d) h o.0 (o.1 ++ tail) (omega (arith, len, ap length whole)) t.0 t.1 in
    let gets : GetsL (Unit {0}) bs tail (block (body turns 256 c d) (sign s.OpenBrace o.0 ∷ (o.1 ++ tail))) =
    subst (λ r. GetsL (Unit {0}) bs tail (block (body turns 256 c d) r)) same_block (blocks_gets false (Unit {0}) turns 256 c 32 (serves_any c) e d eq j tail (omega (arith, short, length-append x (y ++ tail)))) in
    let v = branch_other (body turns 256 c d) u.0 a (sign s.OpenBrace o.0 ∷ (o.1 ++ tail)) t.0 bs tail gets u.1 in
    let f = block_inner (body turns 256 c d) p2 (z ++ w) v.0 (other_block (body turns 256 c d) p p2 (z ++ w) v.0 v.1) in
    let b = body_statements c d (z ++ w) f.0 f.1 in
    reach_body c aw b.0 (omega (arith, b.1)) w n (omega (arith, short, length-append x (y ++ tail), length-append y tail)) c f.0 b.2
reach_body c {e = e} (AwaitsBody.later {a = a} x y h aw) d eq w n len i q g =
    let all : (x ++ y) ++ w ≡ x ++ (y ++ w) = append_assoc x y w in
    let short : e + length (x ++ (y ++ w)) < c = omega (arith, len, ap length all) in
    let t = statements_again (body turns 256 c d) c d (x ++ (y ++ w)) (named_not_over x (y ++ w) (named_stmt h)) a (y ++ w)
    (stmt_gets false (Unit {0}) turns 256 c 32 (serves_any c) e d eq h (y ++ w) (named_sees (codes "else") s.OpenBrace y w (named_body aw)) short) i q (subst (λ z. statements turns 256 c (body turns 256 c d) d i z ≡ Ok q) all g) in
    reach_body c aw d eq w n (omega (arith, short, length-append x (y ++ w))) t.0 t.1 t.2

pub body_not_long : (c : ℕ) (front tail : Tokens) (q : List Stmt × Tokens) → length (front ++ tail) < c → body turns 256 c 33 (front ++ tail) ≡ Ok q → EndsLong (AwaitsBody 0) front → ⊥
body_not_long c front tail q len h (before, x, eq, awaits, long, (more, v, begun)) =
    let all : front ++ tail ≡ before ++ (x ++ tail) = ap (λ z. z ++ tail) eq ∙ append_assoc before x tail in
    let b = body_statements c 33 (before ++ (x ++ tail)) q (subst (λ z. body turns 256 c 33 z ≡ Ok q) all h) in
    too_long x more tail v long begun (reach_body c awaits b.0 (omega (arith, b.1)) (x ++ tail) (long_wide x more tail v long begun).0 (omega (arith, len, ap length all)) c q b.2)
