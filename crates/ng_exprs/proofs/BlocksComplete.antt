-- What the grammar of bodies reads, the function reads.
use Rattle.std.proofs.Common.{◌≡◌, ℕ, zero, suc, ◌+◌, ◌<◌, List, [], ◌∷◌, ◌++◌, length, refl, sym, ◌∙◌, ap, subst, append_assoc, arith, length-append}
use Rattle.std.proofs.lemmas.List.{append-nil}
use Rattle.std.specs.Prelude.{Bool, true, false, cond, codes, ◌&&◌, ◌==◌}
use Rattle.ng_ast.specs.declared.Place.{Place}
use Rattle.ng_ast.specs.declared.Expr.{Expr}
use Rattle.ng_ast.specs.declared.Owner.{Owner}
use Rattle.ng_ast.specs.declared.Stmt.{Stmt}
use Rattle.ng_ast.specs.declared.Stmt.TheVariants as b
use Rattle.ng_tokens.specs.declared.kinds.Sign.{Sign}
use Rattle.ng_tokens.specs.declared.kinds.Sign.TheVariants as s
use Rattle.ng_tokens.specs.declared.kinds.Kind.{Kind}
use Rattle.ng_tokens.specs.declared.kinds.Kind.TheVariants as k
use Rattle.ng_tokens.specs.Lexis.{begins, same_text}
use Rattle.ng_tokens.proofs.SignTable.{begins_is}
use Rattle.ng_exprs.specs.Grammar.{Tokens, token, sign, start}
use Rattle.ng_exprs.specs.Parse.{Parser, same, limit}
use Rattle.ng_exprs.specs.Statements.{IsExpr, IsOpen, ReadsSomeArgs, ReadsArgs, ReadsCall, ReadsOwner, ReadsSimple, ReadsTest, ReadsStmt, ReadsBlock, ReadsElse, ReadsStmts}
use Rattle.ng_exprs.specs.Lines.{args, simple}
use Rattle.ng_exprs.specs.Blocks.{sees_word, is_over, block, other, branch, conditional, statement, statements, body}
use Rattle.ng_exprs.proofs.LinesComplete.{GetsL, then_l, Serves, args_gets, simple_gets}

-- ---- signs and words

nothing_more : (w t : List ℕ) → length w ≡ length (w ++ t) → w ≡ w ++ t
nothing_more w [] e = sym (append-nil w)
nothing_more w (b ∷ t) e = absurd (omega (arith, length-append w (b ∷ t)))

both_true : (u v : Bool) → (u && v) ≡ true → (u ≡ true) × (v ≡ true)
both_true true v e = (refl, e)
both_true false v e = absurd (cc)

same_length : (m n : ℕ) → (m == n) ≡ true → m ≡ n
same_length m n e = grind arith

pub word_is : (w v : List ℕ) → same_text w v ≡ true → w ≡ v
word_is w v e =
    let f : (begins w v ≡ true) × ((length w == length v) ≡ true) = both_true (begins w v) (length w == length v) e in
    let g : (t : List ℕ) × (v ≡ w ++ t) = begins_is w v f.0 in
    nothing_more w g.0 (same_length (length w) (length v) f.1 ∙ ap length g.1) ∙ sym g.1

pub brace_is : (same s.OpenBrace s.OpenBrace ≡ true) × (same s.CloseBrace s.CloseBrace ≡ true) × (same s.Semicolon s.Semicolon ≡ true) × (same s.Semicolon s.OpenBrace ≡ false)
unfolding same
brace_is = (refl, refl, refl, refl)

pub round_is : same s.OpenRound s.OpenRound ≡ true
unfolding same
round_is = refl

neither : (v : Bool) → cond v false false ≡ false
neither true = refl
neither false = refl

-- another sign follows the word
pub other_sign : (w v : List ℕ) (x y : Sign) (p q : Place) (r : Tokens) → same y x ≡ false → sees_word w x (token (k.Name v) p ∷ (sign y q ∷ r)) ≡ false
other_sign w v x y p q r e = rw e (neither (same_text w v))

-- another word stands there
other_word : (w v : List ℕ) (x y : Sign) (p q : Place) (r : Tokens) → same_text w v ≡ false → sees_word w x (token (k.Name v) p ∷ (sign y q ∷ r)) ≡ false
other_word w v x y p q r e = rw e refl

pub if_sees : (p q : Place) (r : Tokens) → sees_word (codes "if") s.OpenRound (token (k.Name (codes "if")) p ∷ (sign s.OpenRound q ∷ r)) ≡ true
if_sees p q r = rw round_is refl

pub else_sees : (p q : Place) (r : Tokens) → sees_word (codes "else") s.OpenBrace (token (k.Name (codes "else")) p ∷ (sign s.OpenBrace q ∷ r)) ≡ true
else_sees p q r = rw brace_is.0 refl

-- a name, and then a sign that is another than this
abbrev pub Named : Sign → Tokens → Type 0
Named t x = (v : List ℕ) × (p : Place) × (y : Sign) × (q : Place) × (z : Tokens) × (x ≡ token (k.Name v) p ∷ sign y q ∷ z) × (same y t ≡ false)

pub named_sees : (w : List ℕ) (t : Sign) (x r : Tokens) → Named t x → sees_word w t (x ++ r) ≡ false
named_sees w t x r (v, p, y, q, z, e, f) = subst (λ u. sees_word w t (u ++ r) ≡ false) (sym e) (other_sign w v t y p q (z ++ r) f)

named_call : (l : Bool) (e : ℕ) (v : List ℕ) (p : Place) {x : Tokens} {es : List Expr} → ReadsCall l e x es → Named s.OpenBrace (token (k.Name v) p ∷ x)
unfolding same
named_call l e v p (ReadsCall.call x q r room h) = (v, p, s.OpenRound, q, x ++ sign s.CloseRound r ∷ [], refl, refl)

pub named_owner : {l : Bool} {e : ℕ} {x : Tokens} {w : Owner} → ReadsOwner l e x w → (y : Tokens) → Named s.OpenBrace (x ++ y)
unfolding same
named_owner (ReadsOwner.named v p q) y = (v, p, s.Dot, q, y, refl, refl)
named_owner (ReadsOwner.safe v p q) y = (v, p, s.SafeDot, q, y, refl, refl)
named_owner (ReadsOwner.apart v p q r) y = (v, p, s.Question, q, sign s.Dot r ∷ y, refl, refl)
named_owner (ReadsOwner.item v x p q r t room h) y = (v, p, s.OpenSquare, q, (x ++ sign s.CloseSquare r ∷ sign s.Dot t ∷ []) ++ y, refl, refl)

pub uncalled_owner : {l : Bool} {e : ℕ} {x : Tokens} {w : Owner} → ReadsOwner l e x w → (y : Tokens) → Named s.OpenRound (x ++ y)
unfolding same
uncalled_owner (ReadsOwner.named v p q) y = (v, p, s.Dot, q, y, refl, refl)
uncalled_owner (ReadsOwner.safe v p q) y = (v, p, s.SafeDot, q, y, refl, refl)
uncalled_owner (ReadsOwner.apart v p q r) y = (v, p, s.Question, q, sign s.Dot r ∷ y, refl, refl)
uncalled_owner (ReadsOwner.item v x p q r t room h) y = (v, p, s.OpenSquare, q, (x ++ sign s.CloseSquare r ∷ sign s.Dot t ∷ []) ++ y, refl, refl)

pub assigns : same s.Assign s.OpenRound ≡ false
unfolding same
assigns = refl

named_simple : {l : Bool} {e : ℕ} {x : Tokens} {a : Stmt} → ReadsSimple l e x a → Named s.OpenBrace x
unfolding same
named_simple (ReadsSimple.set v x p q h) = (v, p, s.Assign, q, x, refl, refl)
named_simple (ReadsSimple.run v x p h) = named_call _ _ v p h
named_simple (ReadsSimple.send v x y p h i) = named_owner h (token (k.Name v) p ∷ y)

pub named_test : {l : Bool} {e : ℕ} {x : Tokens} {a : Expr} → ReadsTest l e x a → Named s.OpenBrace x
unfolding same
named_test (ReadsTest.test x p q r room h) = (codes "if", p, s.OpenRound, q, x ++ sign s.CloseRound r ∷ [], refl, refl)

pub named_more : (x y : Tokens) → Named s.OpenBrace x → Named s.OpenBrace (x ++ y)
named_more x y (v, p, t, q, z, e, f) = (v, p, t, q, z ++ y, ap (λ u. u ++ y) e, f)

pub named_stmt : {l : Bool} {e : ℕ} {x : Tokens} {a : Stmt} → ReadsStmt l e x a → Named s.OpenBrace x
named_stmt (ReadsStmt.plain x p h) = named_more x _ (named_simple h)
named_stmt (ReadsStmt.conditional x y z h i j) = named_more x (y ++ z) (named_test h)

pub named_not_over : (x r : Tokens) → Named s.OpenBrace x → is_over (x ++ r) ≡ false
named_not_over x r (v, p, t, q, z, e, f) = subst (λ u. is_over (u ++ r) ≡ false) (sym e) refl

-- no `else {` stands where no statement follows
over_kind : (kind : Kind) (p : Place) (r : Tokens) → is_over (token kind p ∷ r) ≡ true → sees_word (codes "else") s.OpenBrace (token kind p ∷ r) ≡ false
over_kind (k.Sign x) p r e = refl
over_kind (k.Number x) p r e = refl
over_kind (k.Text x) p r e = refl
over_kind (k.Variable x) p r e = refl
over_kind (k.Name x) p r e = absurd (cc)

over_no_else : (r : Tokens) → is_over r ≡ true → sees_word (codes "else") s.OpenBrace r ≡ false
over_no_else [] e = refl
over_no_else (t ∷ r) e = over_kind t.kind t.place r e

stmts_no_else : {l : Bool} {e : ℕ} {x : Tokens} {bs : List Stmt} → ReadsStmts l e x bs → (r : Tokens) → is_over r ≡ true → sees_word (codes "else") s.OpenBrace (x ++ r) ≡ false
stmts_no_else ReadsStmts.none r over = over_no_else r over
stmts_no_else (ReadsStmts.next x y h i) r over = subst (λ u. sees_word (codes "else") s.OpenBrace u ≡ false) (sym (append_assoc x y r)) (named_sees (codes "else") s.OpenBrace x (y ++ r) (named_stmt h))

-- ---- blocks

module _ (L : Type 0) (inner : Parser (List Stmt)) where
  block_gets : (x : Tokens) (bs : List Stmt) (p q : Place) (r : Tokens) → GetsL L bs (sign s.CloseBrace q ∷ r) (inner (x ++ sign s.CloseBrace q ∷ r)) → GetsL L bs r (block inner (sign s.OpenBrace p ∷ (x ++ sign s.CloseBrace q ∷ r)))
  unfolding block
  block_gets x bs p q r h = rw brace_is.0 (then_l L (inner (x ++ sign s.CloseBrace q ∷ r)) _ bs (sign s.CloseBrace q ∷ r) bs r h (rw brace_is.1 refl))

  no_other_gets : (r : Tokens) → sees_word (codes "else") s.OpenBrace r ≡ false → GetsL L [] r (other inner r)
  unfolding other
  no_other_gets r e = rw e refl

  other_gets : (p q : Place) (ts : Tokens) (bs : List Stmt) (r : Tokens) → GetsL L bs r (block inner (sign s.OpenBrace q ∷ ts)) → GetsL L bs r (other inner (token (k.Name (codes "else")) p ∷ (sign s.OpenBrace q ∷ ts)))
  unfolding other
  other_gets p q ts bs r h = rw (else_sees p q ts) h

  branch_gets : (p : Place) (a : Expr) (taken otherwise : List Stmt) (ts us r : Tokens) → GetsL L taken us (block inner ts) → GetsL L otherwise r (other inner us) → GetsL L (b.If p a taken otherwise) r (branch inner p a ts)
  unfolding branch
  branch_gets p a taken otherwise ts us r h i = then_l L (block inner ts) _ taken us (b.If p a taken otherwise) r h (then_l L (other inner us) _ otherwise r (b.If p a taken otherwise) r i refl)

-- a brace stands first
abbrev pub Opened : Tokens → Type 0
Opened x = (q : Place) × (w : Tokens) × (x ≡ sign s.OpenBrace q ∷ w)

pub opened : {l : Bool} {e : ℕ} {x : Tokens} {bs : List Stmt} → ReadsBlock l e x bs → Opened x
opened (ReadsBlock.block x p q room h) = (p, x ++ sign s.CloseBrace q ∷ [], refl)

-- no brace may be opened
no_block_gets : (L : Type 0) → L → (p : Place) (ts : Tokens) (bs : List Stmt) (r : Tokens) → GetsL L bs r (block limit (sign s.OpenBrace p ∷ ts))
unfolding block
no_block_gets L room p ts bs r = rw brace_is.0 room

-- ---- statements

module _ (l : Bool) (L : Type 0) (n m c D : ℕ) (serves : Serves l L n m c D) (inner : Parser (List Stmt)) where
  -- a call of something that may be called `if`
  call_gets : (e d : ℕ) → e + d ≡ D → (v : List ℕ) (p : Place) (x : Tokens) (es : List Expr) → ReadsCall l e x es → (q : Place) (r : Tokens) → e + length (x ++ sign s.Semicolon q ∷ r) < c
      → GetsL L (b.Do p v es) r (conditional n m c inner d p (token (k.Name v) p ∷ (x ++ sign s.Semicolon q ∷ r)))
  unfolding conditional
  call_gets e d eq v p x es (ReadsCall.call y p1 p2 room h) q r len =
      let t : Tokens = sign s.Semicolon q ∷ r in
      let all : (y ++ sign s.CloseRound p2 ∷ []) ++ t ≡ y ++ sign s.CloseRound p2 ∷ t = append_assoc y (sign s.CloseRound p2 ∷ []) t in
      rw round_is (rw all (then_l L (args n m c d (y ++ sign s.CloseRound p2 ∷ t)) _ es t (b.Do p v es) r (args_gets l L n m c D serves e d eq y es room h p2 t (omega (arith, len, ap length all))) (rw brace_is.3 (rw brace_is.2 refl))))

  if_gets : (e d : ℕ) → e + d ≡ D → (p : Place) (x : Tokens) (a : Expr) → IsOpen l (suc e) → IsExpr l (suc e) x a → (p1 p2 q : Place) (ts : Tokens) → suc e + length (x ++ sign s.CloseRound p2 ∷ (sign s.OpenBrace q ∷ ts)) < c
      → (y : Stmt) (r : Tokens) → GetsL L y r (branch inner p a (sign s.OpenBrace q ∷ ts))
      → GetsL L y r (conditional n m c inner d p (token (k.Name (codes "if")) p ∷ (sign s.OpenRound p1 ∷ (x ++ sign s.CloseRound p2 ∷ (sign s.OpenBrace q ∷ ts)))))
  unfolding conditional
  if_gets e d eq p x a room h p1 p2 q ts len y r go =
      let t : Tokens = sign s.OpenBrace q ∷ ts in
      rw round_is (then_l L (args n m c d (x ++ sign s.CloseRound p2 ∷ t)) _ (a ∷ []) t y r (args_gets l L n m c D serves e d eq x (a ∷ []) room (ReadsArgs.some_args (ReadsSomeArgs.last_arg h)) p2 t len) (rw brace_is.0 go))

  -- a statement without `if`, which begins no `if`
  simple_first : (e d : ℕ) → e + d ≡ D → (x : Tokens) (a : Stmt) → ReadsSimple l e x a → (q : Place) (r : Tokens) → e + length (x ++ sign s.Semicolon q ∷ r) < c → sees_word (codes "if") s.OpenRound (x ++ sign s.Semicolon q ∷ r) ≡ false
      → GetsL L a r (statement n m c inner d (x ++ sign s.Semicolon q ∷ r))
  unfolding statement
  simple_first e d eq x a h q r len first =
      let t : Tokens = sign s.Semicolon q ∷ r in
      rw first (then_l L (simple n m c d (x ++ t)) _ a t a r (simple_gets l L n m c D serves e d eq h t (omega arith) len) (rw brace_is.2 refl))

  if_first : (d : ℕ) (p q : Place) (ts : Tokens) (a : Stmt) (r : Tokens) → GetsL L a r (conditional n m c inner d p (token (k.Name (codes "if")) p ∷ (sign s.OpenRound q ∷ ts)))
      → GetsL L a r (statement n m c inner d (token (k.Name (codes "if")) p ∷ (sign s.OpenRound q ∷ ts)))
  unfolding statement
  if_first d p q ts a r h = rw (if_sees p q ts) h

  run_first : (e d : ℕ) → e + d ≡ D → (v : List ℕ) (p : Place) (x : Tokens) (es : List Expr) → ReadsCall l e x es → (q : Place) (r : Tokens) → e + suc (length (x ++ sign s.Semicolon q ∷ r)) < c
      → (u : Bool) → same_text (codes "if") v ≡ u → GetsL L (b.Do p v es) r (statement n m c inner d (token (k.Name v) p ∷ (x ++ sign s.Semicolon q ∷ r)))
  run_first e d eq v p x es h q r len true same_word =
      subst (λ w. GetsL L (b.Do p w es) r (statement n m c inner d (token (k.Name w) p ∷ (x ++ sign s.Semicolon q ∷ r)))) (word_is (codes "if") v same_word)
      (called x h (call_gets e d eq (codes "if") p x es h q r (omega arith)))
    where
      called : (x : Tokens) → ReadsCall l e x es → GetsL L (b.Do p (codes "if") es) r (conditional n m c inner d p (token (k.Name (codes "if")) p ∷ (x ++ sign s.Semicolon q ∷ r)))
          → GetsL L (b.Do p (codes "if") es) r (statement n m c inner d (token (k.Name (codes "if")) p ∷ (x ++ sign s.Semicolon q ∷ r)))
      called x (ReadsCall.call y p1 p2 room i) g = if_first d p p1 ((y ++ sign s.CloseRound p2 ∷ []) ++ sign s.Semicolon q ∷ r) (b.Do p (codes "if") es) r g
  run_first e d eq v p x es h q r len false another = simple_first e d eq (token (k.Name v) p ∷ x) (b.Do p v es) (ReadsSimple.run v x p h) q r len (uncalled x h)
    where
      uncalled : (x : Tokens) → ReadsCall l e x es → sees_word (codes "if") s.OpenRound (token (k.Name v) p ∷ (x ++ sign s.Semicolon q ∷ r)) ≡ false
      uncalled x (ReadsCall.call y p1 p2 room i) = other_word (codes "if") v s.OpenRound s.OpenRound p p1 ((y ++ sign s.CloseRound p2 ∷ []) ++ sign s.Semicolon q ∷ r) another

  plain_gets : (e d : ℕ) {x : Tokens} {a : Stmt} → e + d ≡ D → ReadsSimple l e x a → (q : Place) (r : Tokens) → e + length (x ++ sign s.Semicolon q ∷ r) < c → GetsL L a r (statement n m c inner d (x ++ sign s.Semicolon q ∷ r))
  plain_gets e d eq (ReadsSimple.set v x p t h) q r len = simple_first e d eq _ _ (ReadsSimple.set v x p t h) q r len (other_sign (codes "if") v s.OpenRound s.Assign p t (x ++ sign s.Semicolon q ∷ r) assigns)
  plain_gets e d eq (ReadsSimple.run v x p h) q r len = run_first e d eq v p x _ h q r len (same_text (codes "if") v) refl
  plain_gets e d eq (ReadsSimple.send v x y p h i) q r len = simple_first e d eq _ _ (ReadsSimple.send v x y p h i) q r len (named_sees (codes "if") s.OpenRound (x ++ token (k.Name v) p ∷ y) (sign s.Semicolon q ∷ r) (uncalled_owner h (token (k.Name v) p ∷ y)))

  -- the test of an `if`, and its blocks
  test_gets : (e d : ℕ) {x : Tokens} {a : Expr} → e + d ≡ D → ReadsTest l e x a → (q : Place) (ts : Tokens) → e + length (x ++ sign s.OpenBrace q ∷ ts) < c
      → (y : Place → Stmt) (r : Tokens) → ((p : Place) → GetsL L (y p) r (branch inner p a (sign s.OpenBrace q ∷ ts))) → GetsL L (y (start x)) r (statement n m c inner d (x ++ sign s.OpenBrace q ∷ ts))
  test_gets e d {a = a} eq (ReadsTest.test x p p1 p2 room h) q ts len y r go =
      let t : Tokens = sign s.OpenBrace q ∷ ts in
      let all : (x ++ sign s.CloseRound p2 ∷ []) ++ t ≡ x ++ sign s.CloseRound p2 ∷ t = append_assoc x (sign s.CloseRound p2 ∷ []) t in
      if_first d p p1 ((x ++ sign s.CloseRound p2 ∷ []) ++ t) (y p) r
      (subst (λ u. GetsL L (y p) r (conditional n m c inner d p (token (k.Name (codes "if")) p ∷ (sign s.OpenRound p1 ∷ u)))) (sym all)
      (if_gets e d eq p x a room h p1 p2 q ts (omega (arith, len, ap length all)) (y p) r (go p)))

  -- ---- statements, one after another

  end_gets : (d : ℕ) (r : Tokens) → is_over r ≡ true → (i : ℕ) → 0 < i → GetsL L [] r (statements n m c inner d i r)
  unfolding statements
  end_gets d r over zero some = absurd (omega arith)
  end_gets d r over (suc i) some = rw over refl

  next_gets : (d : ℕ) (x : Tokens) (a : Stmt) (ts : Tokens) (others : List Stmt) (r : Tokens) → is_over (x ++ ts) ≡ false → GetsL L a ts (statement n m c inner d (x ++ ts))
      → (i : ℕ) → 0 < i → ((j : ℕ) → suc j ≡ i → GetsL L others r (statements n m c inner d j ts)) → GetsL L (a ∷ others) r (statements n m c inner d i (x ++ ts))
  unfolding statements
  next_gets d x a ts others r on h zero some again = absurd (omega arith)
  next_gets d x a ts others r on h (suc i) some again =
      rw on (then_l L (statement n m c inner d (x ++ ts)) _ a ts (a ∷ others) r h (then_l L (statements n m c inner d i ts) _ others r (a ∷ others) r (again i refl) refl))

some_stmt : (t : Sign) (x : Tokens) → Named t x → 0 < length x
some_stmt t x (v, p, y, q, z, e, f) = rw e (omega arith)

module _ (l : Bool) (L : Type 0) (n m c D : ℕ) (serves : Serves l L n m c D) where
  -- a block, by what its body gives
  braces_gets : (e d : ℕ) → e + d ≡ D → IsOpen l (suc e) → (x : Tokens) (bs : List Stmt) (p q : Place) (r : Tokens) → suc e + length (x ++ sign s.CloseBrace q ∷ r) < c
      → ((d' : ℕ) → suc e + d' ≡ D → GetsL L bs (sign s.CloseBrace q ∷ r) (statements n m c (body n m c d') d' c (x ++ sign s.CloseBrace q ∷ r)))
      → GetsL L bs r (block (body n m c d) (sign s.OpenBrace p ∷ (x ++ sign s.CloseBrace q ∷ r)))
  unfolding body
  braces_gets e zero eq room x bs p q r len go = no_block_gets L (serves.room e room eq (omega arith)) p (x ++ sign s.CloseBrace q ∷ r) bs r
  braces_gets e (suc d) eq room x bs p q r len go = block_gets L (statements n m c (body n m c d) d c) x bs p q r (go d (omega arith))

  conditional_gets : (e d : ℕ) → e + d ≡ D → (x y z : Tokens) (a : Expr) (taken otherwise : List Stmt) → ReadsTest l e x a → Opened y → (r : Tokens) → e + length (x ++ (y ++ (z ++ r))) < c
      → GetsL L taken (z ++ r) (block (body n m c d) (y ++ (z ++ r))) → GetsL L otherwise r (other (body n m c d) (z ++ r)) → GetsL L (b.If (start x) a taken otherwise) r (statement n m c (body n m c d) d (x ++ (y ++ (z ++ r))))
  conditional_gets e d eq x y z a taken otherwise h (q, w, f) r len i j =
      let same_block : y ++ (z ++ r) ≡ sign s.OpenBrace q ∷ (w ++ (z ++ r)) = ap (λ u. u ++ (z ++ r)) f in
      let at_brace : GetsL L taken (z ++ r) (block (body n m c d) (sign s.OpenBrace q ∷ (w ++ (z ++ r)))) = subst (λ u. GetsL L taken (z ++ r) (block (body n m c d) u)) same_block i in
      subst (λ u. GetsL L (b.If (start x) a taken otherwise) r (statement n m c (body n m c d) d (x ++ u))) (sym same_block)
      (test_gets l L n m c D serves (body n m c d) e d eq h q (w ++ (z ++ r)) (omega (arith, len, ap length (ap (λ u. x ++ u) same_block))) (λ p. b.If p a taken otherwise) r
      (λ p. branch_gets L (body n m c d) p a taken otherwise (sign s.OpenBrace q ∷ (w ++ (z ++ r))) (z ++ r) r at_brace j))

  with_else_gets : (d : ℕ) (x : Tokens) (bs : List Stmt) (p : Place) → Opened x → (r : Tokens) → GetsL L bs r (block (body n m c d) (x ++ r)) → GetsL L bs r (other (body n m c d) (token (k.Name (codes "else")) p ∷ (x ++ r)))
  with_else_gets d x bs p (q, w, f) r h =
      let same_block : x ++ r ≡ sign s.OpenBrace q ∷ (w ++ r) = ap (λ u. u ++ r) f in
      subst (λ u. GetsL L bs r (other (body n m c d) (token (k.Name (codes "else")) p ∷ u))) (sym same_block)
      (other_gets L (body n m c d) p q (w ++ r) bs r (subst (λ u. GetsL L bs r (block (body n m c d) u)) same_block h))

  mutual
    pub stmt_gets : (e d : ℕ) {x : Tokens} {a : Stmt} → e + d ≡ D → ReadsStmt l e x a → (r : Tokens) → sees_word (codes "else") s.OpenBrace r ≡ false → e + length (x ++ r) < c → GetsL L a r (statement n m c (body n m c d) d (x ++ r))
    stmt_gets e d eq (ReadsStmt.plain x p h) r bare len =
        let all : (x ++ sign s.Semicolon p ∷ []) ++ r ≡ x ++ sign s.Semicolon p ∷ r = append_assoc x (sign s.Semicolon p ∷ []) r in
        rw all (plain_gets l L n m c D serves (body n m c d) e d eq h p r (rw all at len))
    stmt_gets e d eq (ReadsStmt.conditional x y z h i j) r bare len =
        let all : (x ++ (y ++ z)) ++ r ≡ x ++ (y ++ (z ++ r)) = append_assoc x (y ++ z) r ∙ ap (λ u. x ++ u) (append_assoc y z r) in
        let short : e + length (x ++ (y ++ (z ++ r))) < c = omega (arith, len, ap length all) in
        rw all (conditional_gets e d eq x y z _ _ _ h (opened i) r short (blocks_gets e d eq i (z ++ r) (omega (arith, short, length-append x (y ++ (z ++ r)))))
        (else_gets e d eq j r bare (omega (arith, short, length-append x (y ++ (z ++ r)), length-append y (z ++ r)))))

    pub blocks_gets : (e d : ℕ) {y : Tokens} {bs : List Stmt} → e + d ≡ D → ReadsBlock l e y bs → (r : Tokens) → e + length (y ++ r) < c → GetsL L bs r (block (body n m c d) (y ++ r))
    blocks_gets e d {bs = bs} eq (ReadsBlock.block x p q room h) r len =
        let all : (x ++ sign s.CloseBrace q ∷ []) ++ r ≡ x ++ sign s.CloseBrace q ∷ r = append_assoc x (sign s.CloseBrace q ∷ []) r in
        subst (λ u. GetsL L bs r (block (body n m c d) (sign s.OpenBrace p ∷ u))) (sym all)
        (braces_gets e d eq room x bs p q r (omega (arith, len, ap length all)) (λ d' eq'. stmts_gets (suc e) d' eq' h (sign s.CloseBrace q ∷ r) brace_is.1 (omega (arith, len, ap length all)) c (omega (arith, len, ap length all, length-append x (sign s.CloseBrace q ∷ r)))))

    else_gets : (e d : ℕ) {z : Tokens} {bs : List Stmt} → e + d ≡ D → ReadsElse l e z bs → (r : Tokens) → sees_word (codes "else") s.OpenBrace r ≡ false → e + length (z ++ r) < c → GetsL L bs r (other (body n m c d) (z ++ r))
    else_gets e d eq ReadsElse.no_else r bare len = no_other_gets L (body n m c d) r bare
    else_gets e d eq (ReadsElse.with_else x p h) r bare len = with_else_gets d x _ p (opened h) r (blocks_gets e d eq h r (omega arith))

    pub stmts_gets : (e d : ℕ) {x : Tokens} {bs : List Stmt} → e + d ≡ D → ReadsStmts l e x bs → (r : Tokens) → is_over r ≡ true → e + length (x ++ r) < c → (i : ℕ) → length x < i → GetsL L bs r (statements n m c (body n m c d) d i (x ++ r))
    stmts_gets e d eq ReadsStmts.none r over len i few = end_gets l L n m c D serves (body n m c d) d r over i few
    stmts_gets e d eq (ReadsStmts.next x y h hs) r over len i few =
        let all : (x ++ y) ++ r ≡ x ++ (y ++ r) = append_assoc x y r in
        let some : 0 < length x = some_stmt s.OpenBrace x (named_stmt h) in
        rw all (next_gets l L n m c D serves (body n m c d) d x _ (y ++ r) _ r (named_not_over x (y ++ r) (named_stmt h))
        (stmt_gets e d eq h (y ++ r) (stmts_no_else hs r over) (rw all at len)) i (omega (arith, few, length-append x y))
        (λ j eq2. stmts_gets e d eq hs r over (omega (arith, len, ap length all, length-append x (y ++ r))) j (omega (arith, few, length-append x y))))
