-- What the grammar of listeners reads, the function reads.
use Rattle.std.proofs.Common.{◌≡◌, ℕ, zero, suc, ◌+◌, ◌<◌, ◌≤◌, List, [], ◌∷◌, ◌++◌, length, refl, sym, ap, subst, append_assoc, arith, length-append}
use Rattle.std.proofs.lemmas.List.{append-nil}
use Rattle.std.specs.Prelude.{Bool, true, false, Ok, Err}
use Rattle.ng_ast.specs.declared.Place.{Place}
use Rattle.ng_ast.specs.declared.Expr.{Expr}
use Rattle.ng_ast.specs.declared.Owner.{Owner}
use Rattle.ng_ast.specs.declared.Owner.TheVariants as o
use Rattle.ng_ast.specs.declared.Stmt.{Stmt}
use Rattle.ng_ast.specs.declared.Stmt.TheVariants as b
use Rattle.ng_tokens.specs.declared.kinds.Sign.TheVariants as s
use Rattle.ng_tokens.specs.declared.kinds.Kind.TheVariants as k
use Rattle.ng_tokens.specs.declared.kinds.Token.{Token}
use Rattle.ng_exprs.specs.Grammar.{Tokens, token, sign, start, ReadsPiped}
use Rattle.ng_exprs.specs.Parse.{Syntax, Limit, Outcome, Parser, and_then, same, whole, piped, chosen, ranked, prefixed, chain, atom}
use Rattle.ng_exprs.specs.Statements.{IsExpr, IsOpen, ReadsSomeArgs, ReadsArgs, ReadsCall, ReadsOwner, ReadsSimple, ReadsListener}
use Rattle.ng_exprs.specs.Lines.{list_of, measured, args, set, run, send, apart, item, simple, is_last, listener}
use Rattle.ng_exprs.proofs.Complete.{Gets, Ends, Opens, complete, not_closed_piped}

-- the answer is this, or a limit where one may be
abbrev pub GetsL : {A : Type 0} → Type 0 → A → Tokens → Outcome A → Type 0
GetsL L x ts (Ok p) = p ≡ (x, ts)
GetsL L x ts (Err Limit) = L
GetsL L x ts (Err Syntax) = ⊥

pub then_l : {A B : Type 0} (L : Type 0) (r : Outcome A) (f : A → Parser B) (x : A) (ts : Tokens) (y : B) (us : Tokens) → GetsL L x ts r → GetsL L y us (f x ts) → GetsL L y us (and_then r f)
then_l L (Ok p) f x ts y us e h = subst (λ q. GetsL L y us (f q.0 q.1)) (sym e) h
then_l L (Err Limit) f x ts y us e h = e
then_l L (Err Syntax) f x ts y us e h = absurd e

-- What serves the expressions of statements: d is what of the D brackets may still be opened where e are open, and c is above the count of tokens.
pub record Serves (l : Bool) (L : Type 0) (n m c D : ℕ) : Type 0 where
  pub expr : (d e : ℕ) → e + d ≡ D → (x : Tokens) (a : Expr) → IsExpr l e x a → (r : Tokens) → Ends 10 r → e + length (x ++ r) < c → GetsL L a r (measured n m c d (x ++ r))
  pub room : (e : ℕ) → IsOpen l (suc e) → e + 0 ≡ D → e < c → L

pub piped_of : (l : Bool) (e : ℕ) (x : Tokens) (a : Expr) → IsExpr l e x a → ReadsPiped x a
piped_of false e x a h = h
piped_of true e x a h = h.0

no_text : (a : Expr) → Gets a [] (whole 1 1 []) → ⊥
unfolding whole piped chosen ranked prefixed chain atom
no_text a g = g

pub some_tokens : (x : Tokens) (a : Expr) → ReadsPiped x a → 0 < length x
some_tokens [] a h = absurd (no_text a (complete h 1 1))
some_tokens (t ∷ x) a h = omega arith

-- ---- arguments

close_is : (same s.CloseRound s.CloseRound ≡ true) × (same s.CloseRound s.Comma ≡ false)
unfolding same
close_is = (refl, refl)

comma_is : same s.Comma s.Comma ≡ true
unfolding same
comma_is = refl

open_is : same s.OpenRound s.OpenRound ≡ true
unfolding same
open_is = refl

dot_is : (same s.Dot s.Dot ≡ true) × (same s.CloseSquare s.CloseSquare ≡ true) × (same s.Semicolon s.Semicolon ≡ true)
unfolding same
dot_is = (refl, refl, refl)

module _ (l : Bool) (L : Type 0) (n m c D : ℕ) (serves : Serves l L n m c D) where
  last_gets : (e d : ℕ) → e + d ≡ D → (x : Tokens) (a : Expr) → IsExpr l e x a → (q : Place) (r : Tokens) → e + length (x ++ sign s.CloseRound q ∷ r) < c → (j : ℕ) → length x ≤ j
      → GetsL L (a ∷ []) (sign s.CloseRound q ∷ r) (list_of (measured n m c d) j (x ++ sign s.CloseRound q ∷ r))
  unfolding list_of
  last_gets e d eq x a h q r len zero few = absurd (omega (arith, some_tokens x a (piped_of l e x a h)))
  last_gets e d eq x a h q r len (suc j) few =
      let t : Tokens = sign s.CloseRound q ∷ r in
      then_l L (measured n m c d (x ++ t)) _ a t (a ∷ []) t (serves.expr d e eq x a h t (omega arith) len) (rw close_is.1 refl)

  next_gets : (e d : ℕ) → e + d ≡ D → (x y : Tokens) (a : Expr) (es : List Expr) (p : Place) → IsExpr l e x a → (q : Place) (r : Tokens) → e + length (x ++ (sign s.Comma p ∷ (y ++ sign s.CloseRound q ∷ r))) < c
      → ((j : ℕ) → length y ≤ j → GetsL L es (sign s.CloseRound q ∷ r) (list_of (measured n m c d) j (y ++ sign s.CloseRound q ∷ r))) → (j : ℕ) → length x + suc (length y) ≤ j
      → GetsL L (a ∷ es) (sign s.CloseRound q ∷ r) (list_of (measured n m c d) j (x ++ (sign s.Comma p ∷ (y ++ sign s.CloseRound q ∷ r))))
  unfolding list_of
  next_gets e d eq x y a es p h q r len again zero few = absurd (omega arith)
  next_gets e d eq x y a es p h q r len again (suc j) few =
      let t : Tokens = sign s.CloseRound q ∷ r in
      let comma : Tokens = sign s.Comma p ∷ (y ++ t) in
      then_l L (measured n m c d (x ++ comma)) _ a comma (a ∷ es) t (serves.expr d e eq x a h comma (omega arith) len)
      (rw comma_is (then_l L (list_of (measured n m c d) j (y ++ t)) _ es t (a ∷ es) t (again j (omega arith)) refl))

  list_gets : (e d : ℕ) {x : Tokens} {es : List Expr} → e + d ≡ D → ReadsSomeArgs l e x es → (q : Place) (r : Tokens) → e + length (x ++ sign s.CloseRound q ∷ r) < c → (j : ℕ) → length x ≤ j
      → GetsL L es (sign s.CloseRound q ∷ r) (list_of (measured n m c d) j (x ++ sign s.CloseRound q ∷ r))
  list_gets e d eq (ReadsSomeArgs.last_arg h) q r len j few = last_gets e d eq _ _ h q r len j few
  list_gets e d eq (ReadsSomeArgs.next_arg x y p h i) q r len j few =
      let all : (x ++ sign s.Comma p ∷ y) ++ sign s.CloseRound q ∷ r ≡ x ++ (sign s.Comma p ∷ (y ++ sign s.CloseRound q ∷ r)) = append_assoc x (sign s.Comma p ∷ y) (sign s.CloseRound q ∷ r) in
      rw all (next_gets e d eq x y _ _ p h q r (rw all at len)
      (λ i' few'. list_gets e d eq i q r (omega (arith, ap length all, len, length-append x (sign s.Comma p ∷ (y ++ sign s.CloseRound q ∷ r)))) i' few') j (omega (arith, few, length-append x (sign s.Comma p ∷ y))))

  opens_some : {e : ℕ} {x : Tokens} {es : List Expr} → ReadsSomeArgs l e x es → Opens s.CloseRound x
  opens_some (ReadsSomeArgs.last_arg h) = not_closed_piped (piped_of l _ _ _ h) s.CloseRound tt
  opens_some (ReadsSomeArgs.next_arg x y p h i) = λ r. simp append_assoc (not_closed_piped (piped_of l _ _ _ h) s.CloseRound tt _)

  nothing_gets : (d : ℕ) (q : Place) (r : Tokens) → GetsL L [] r (args n m c (suc d) (sign s.CloseRound q ∷ r))
  unfolding args
  nothing_gets d q r = rw close_is.0 refl

  some_gets : (d : ℕ) (x : Tokens) (es : List Expr) (q : Place) (r : Tokens) → Opens s.CloseRound x → GetsL L es (sign s.CloseRound q ∷ r) (list_of (measured n m c d) c (x ++ sign s.CloseRound q ∷ r))
      → GetsL L es r (args n m c (suc d) (x ++ sign s.CloseRound q ∷ r))
  unfolding args
  some_gets d x es q r opens h =
      let t : Tokens = sign s.CloseRound q ∷ r in
      rw (opens t) (then_l L (list_of (measured n m c d) c (x ++ t)) _ es t es r h (rw close_is.0 refl))

  no_args_gets : (d : ℕ) → L → (ts : Tokens) (es : List Expr) (r : Tokens) → d ≡ 0 → GetsL L es r (args n m c d ts)
  unfolding args
  no_args_gets zero room ts es r e = room
  no_args_gets (suc d) room ts es r e = absurd (omega (arith, e))

  args_by : (e d : ℕ) {x : Tokens} {es : List Expr} → suc e + d ≡ D → ReadsArgs l (suc e) x es → (q : Place) (r : Tokens) → suc e + length (x ++ sign s.CloseRound q ∷ r) < c
      → GetsL L es r (args n m c (suc d) (x ++ sign s.CloseRound q ∷ r))
  args_by e d eq ReadsArgs.no_arg q r len = nothing_gets d q r
  args_by e d {x = x} eq (ReadsArgs.some_args h) q r len = some_gets d x _ q r (opens_some h) (list_gets (suc e) d eq h q r len c (omega (arith, len, length-append x (sign s.CloseRound q ∷ r))))

  pub args_gets : (e d : ℕ) → e + d ≡ D → (x : Tokens) (es : List Expr) → IsOpen l (suc e) → ReadsArgs l (suc e) x es → (q : Place) (r : Tokens) → suc e + length (x ++ sign s.CloseRound q ∷ r) < c
      → GetsL L es r (args n m c d (x ++ sign s.CloseRound q ∷ r))
  args_gets e zero eq x es room h q r len = no_args_gets 0 (serves.room e room eq (omega arith)) _ es r refl
  args_gets e (suc d) eq x es room h q r len = args_by e d (omega arith) h q r len

  -- ---- statements

  run_gets : (e d : ℕ) → e + d ≡ D → (p : Place) (v : List ℕ) (x : Tokens) (es : List Expr) → IsOpen l (suc e) → ReadsArgs l (suc e) x es → (q : Place) (r : Tokens) → suc e + length (x ++ sign s.CloseRound q ∷ r) < c
      → GetsL L (b.Do p v es) r (run n m c d p v (x ++ sign s.CloseRound q ∷ r))
  unfolding run
  run_gets e d eq p v x es room h q r len = then_l L (args n m c d (x ++ sign s.CloseRound q ∷ r)) _ es r (b.Do p v es) r (args_gets e d eq x es room h q r len) refl

  send_gets : (e d : ℕ) → e + d ≡ D → (p : Place) (w : Owner) (v : List ℕ) (x : Tokens) (es : List Expr) → IsOpen l (suc e) → ReadsArgs l (suc e) x es → (p1 p2 q : Place) (r : Tokens) → suc e + length (x ++ sign s.CloseRound q ∷ r) < c
      → GetsL L (b.Send p w v es) r (send n m c d p w (token (k.Name v) p1 ∷ (sign s.OpenRound p2 ∷ (x ++ sign s.CloseRound q ∷ r))))
  unfolding send
  send_gets e d eq p w v x es room h p1 p2 q r len = rw open_is (then_l L (args n m c d (x ++ sign s.CloseRound q ∷ r)) _ es r (b.Send p w v es) r (args_gets e d eq x es room h q r len) refl)

  apart_gets : (d : ℕ) (p : Place) (v : List ℕ) (y : Stmt) (us ts : Tokens) (q : Place) → GetsL L y us (send n m c d p (o.Safe p v) ts) → GetsL L y us (apart n m c d p v (sign s.Dot q ∷ ts))
  unfolding apart
  apart_gets d p v y us ts q h = rw dot_is.0 h

  no_item_gets : (d : ℕ) → L → (p : Place) (v : List ℕ) (ts : Tokens) (y : Stmt) (us : Tokens) → d ≡ 0 → GetsL L y us (item n m c d p v ts)
  unfolding item
  no_item_gets zero room p v ts y us e = room
  no_item_gets (suc d) room p v ts y us e = absurd (omega (arith, e))

  item_by : (e d : ℕ) → suc e + d ≡ D → (p : Place) (v : List ℕ) (x : Tokens) (a : Expr) → IsExpr l (suc e) x a → (q t : Place) (ts : Tokens) → suc e + length (x ++ (sign s.CloseSquare q ∷ (sign s.Dot t ∷ ts))) < c
      → (y : Stmt) (us : Tokens) → GetsL L y us (send n m c (suc d) p (o.Item p v a) ts) → GetsL L y us (item n m c (suc d) p v (x ++ (sign s.CloseSquare q ∷ (sign s.Dot t ∷ ts))))
  unfolding item
  item_by e d eq p v x a h q t ts len y us go =
      let close : Tokens = sign s.CloseSquare q ∷ (sign s.Dot t ∷ ts) in
      then_l L (measured n m c d (x ++ close)) _ a close y us (serves.expr d (suc e) eq x a h close (omega arith) len) (rw dot_is.1 (rw dot_is.0 go))

  item_gets : (e d : ℕ) → e + d ≡ D → (p : Place) (v : List ℕ) (x : Tokens) (a : Expr) → IsOpen l (suc e) → IsExpr l (suc e) x a → (q t : Place) (ts : Tokens) → suc e + length (x ++ (sign s.CloseSquare q ∷ (sign s.Dot t ∷ ts))) < c
      → (y : Stmt) (us : Tokens) → GetsL L y us (send n m c d p (o.Item p v a) ts) → GetsL L y us (item n m c d p v (x ++ (sign s.CloseSquare q ∷ (sign s.Dot t ∷ ts))))
  item_gets e zero eq p v x a room h q t ts len y us go = no_item_gets 0 (serves.room e room eq (omega arith)) p v _ y us refl
  item_gets e (suc d) eq p v x a room h q t ts len y us go = item_by e d (omega arith) p v x a h q t ts len y us go

  set_gets : (e d : ℕ) → e + d ≡ D → (p : Place) (v : List ℕ) (x : Tokens) (a : Expr) → IsExpr l e x a → (r : Tokens) → Ends 10 r → e + length (x ++ r) < c → GetsL L (b.Set p v a) r (set n m c d p v (x ++ r))
  unfolding set
  set_gets e d eq p v x a h r end len = then_l L (measured n m c d (x ++ r)) _ a r (b.Set p v a) r (serves.expr d e eq x a h r end len) refl

  -- the owner of a call, and the call
  owner_gets : (e d : ℕ) {x : Tokens} {w : Owner} → e + d ≡ D → ReadsOwner l e x w → (ts : Tokens) → e + length (x ++ ts) < c → (y : Stmt) (us : Tokens) → ((p : Place) → p ≡ start x → GetsL L y us (send n m c d p w ts))
      → GetsL L y us (simple n m c d (x ++ ts))
  unfolding simple
  owner_gets e d eq (ReadsOwner.named v p q) ts len y us go = go p refl
  owner_gets e d eq (ReadsOwner.safe v p q) ts len y us go = go p refl
  owner_gets e d eq (ReadsOwner.apart v p q r) ts len y us go = apart_gets d p v y us ts r (go p refl)
  owner_gets e d eq (ReadsOwner.item v x p q r t room h) ts len y us go =
      subst (λ z. GetsL L y us (item n m c d p v z)) (sym (append_assoc x (sign s.CloseSquare r ∷ sign s.Dot t ∷ []) ts)) (
      item_gets e d eq p v x _ room h r t ts (omega (arith, len, ap length (append_assoc x (sign s.CloseSquare r ∷ sign s.Dot t ∷ []) ts))) y us (go p refl))

  -- ---- a statement without its `;`

  simple_run : (e d : ℕ) → e + d ≡ D → (v : List ℕ) (p : Place) (x : Tokens) (es : List Expr) → ReadsCall l e x es → (r : Tokens) → e + length (x ++ r) < c → GetsL L (b.Do p v es) r (simple n m c d (token (k.Name v) p ∷ (x ++ r)))
  unfolding simple
  simple_run e d eq v p x es (ReadsCall.call y p1 q room h) r len =
      subst (λ z. GetsL L (b.Do p v es) r (run n m c d p v z)) (sym (append_assoc y (sign s.CloseRound q ∷ []) r)) (
      run_gets e d eq p v y es room h q r (omega (arith, len, ap length (append_assoc y (sign s.CloseRound q ∷ []) r))))

  simple_set : (e d : ℕ) → e + d ≡ D → (v : List ℕ) (p q : Place) (x : Tokens) (a : Expr) → IsExpr l e x a → (r : Tokens) → Ends 10 r → e + length (x ++ r) < c → GetsL L (b.Set p v a) r (simple n m c d (token (k.Name v) p ∷ (sign s.Assign q ∷ (x ++ r))))
  unfolding simple
  simple_set e d eq v p q x a h r end len = set_gets e d eq p v x a h r end len

  simple_send : (e d : ℕ) → e + d ≡ D → (v : List ℕ) (x y : Tokens) (p : Place) (w : Owner) (es : List Expr) → ReadsOwner l e x w → ReadsCall l e y es → (r : Tokens) → e + length (x ++ (token (k.Name v) p ∷ (y ++ r))) < c
      → GetsL L (b.Send (start x) w v es) r (simple n m c d (x ++ (token (k.Name v) p ∷ (y ++ r))))
  simple_send e d eq v x y p w es h (ReadsCall.call z p1 q room i) r len =
      let inner : Tokens = z ++ sign s.CloseRound q ∷ r in
      let all : (z ++ sign s.CloseRound q ∷ []) ++ r ≡ inner = append_assoc z (sign s.CloseRound q ∷ []) r in
      owner_gets e d eq h _ len (b.Send (start x) w v es) r (λ p2 same. subst (λ z2. GetsL L (b.Send (start x) w v es) r (send n m c d p2 w (token (k.Name v) p ∷ (sign s.OpenRound p1 ∷ z2)))) (sym all) (
      subst (λ p3. GetsL L (b.Send p3 w v es) r (send n m c d p2 w (token (k.Name v) p ∷ (sign s.OpenRound p1 ∷ inner)))) same (
      send_gets e d eq p2 w v z es room i p p1 q r (omega (arith, len, ap length all, length-append x (token (k.Name v) p ∷ (sign s.OpenRound p1 ∷ ((z ++ sign s.CloseRound q ∷ []) ++ r))))))))

  pub simple_gets : (e d : ℕ) {x : Tokens} {a : Stmt} → e + d ≡ D → ReadsSimple l e x a → (r : Tokens) → Ends 10 r → e + length (x ++ r) < c → GetsL L a r (simple n m c d (x ++ r))
  simple_gets e d eq (ReadsSimple.set v x p q h) r end len = simple_set e d eq v p q x _ h r end (omega (arith, len))
  simple_gets e d eq (ReadsSimple.run v x p h) r end len = simple_run e d eq v p x _ h r (omega (arith, len))
  simple_gets e d eq (ReadsSimple.send v x y p h i) r end len =
      let all : (x ++ token (k.Name v) p ∷ y) ++ r ≡ x ++ (token (k.Name v) p ∷ (y ++ r)) = append_assoc x (token (k.Name v) p ∷ y) r in
      rw all (simple_send e d eq v x y p _ _ h i r (rw all at len))

  -- ---- listeners

  last_gets_simple : (d : ℕ) → 0 + d ≡ D → (x : Tokens) (a : Stmt) → ReadsSimple l 0 x a → length x < c → (i : ℕ) → 0 < i → GetsL L (a ∷ []) [] (listener n m c d i x)
  unfolding listener
  last_gets_simple d eq x a h len zero some = absurd (omega arith)
  last_gets_simple d eq x a h len (suc i) some =
      then_l L (simple n m c d x) _ a [] (a ∷ []) [] (subst (λ z. GetsL L a [] (simple n m c d z)) (append-nil x) (simple_gets 0 d eq h [] (omega arith) (rw append-nil (omega arith)))) refl

  ended_gets : (d : ℕ) → 0 + d ≡ D → (x : Tokens) (a : Stmt) (p : Place) → ReadsSimple l 0 x a → length (x ++ sign s.Semicolon p ∷ []) < c → (i : ℕ) → 0 < i → GetsL L (a ∷ []) [] (listener n m c d i (x ++ sign s.Semicolon p ∷ []))
  unfolding listener
  ended_gets d eq x a p h len zero some = absurd (omega arith)
  ended_gets d eq x a p h len (suc i) some =
      let t : Tokens = sign s.Semicolon p ∷ [] in
      then_l L (simple n m c d (x ++ t)) _ a t (a ∷ []) [] (simple_gets 0 d eq h t (omega arith) (omega arith)) (rw dot_is.2 refl)

  more_gets_simple : (d : ℕ) → 0 + d ≡ D → (x y : Tokens) (a : Stmt) (others : List Stmt) (p : Place) → ReadsSimple l 0 x a → length (x ++ sign s.Semicolon p ∷ y) < c → is_last y ≡ false
      → ((i : ℕ) → length y ≤ i → GetsL L others [] (listener n m c d i y)) → (i : ℕ) → length x + suc (length y) ≤ i → GetsL L (a ∷ others) [] (listener n m c d i (x ++ sign s.Semicolon p ∷ y))
  unfolding listener
  more_gets_simple d eq x y a others p h len on again zero few = absurd (omega arith)
  more_gets_simple d eq x y a others p h len on again (suc i) few =
      let t : Tokens = sign s.Semicolon p ∷ y in
      then_l L (simple n m c d (x ++ t)) _ a t (a ∷ others) [] (simple_gets 0 d eq h t (omega arith) (omega arith))
      (rw dot_is.2 (rw on (then_l L (listener n m c d i y) _ others [] (a ∷ others) [] (again i (omega arith)) refl)))

  first_owner : {e : ℕ} {x : Tokens} {w : Owner} → ReadsOwner l e x w → (t : Token) × (z : Tokens) × (x ≡ t ∷ z)
  first_owner (ReadsOwner.named v p q) = (token (k.Name v) p, sign s.Dot q ∷ [], refl)
  first_owner (ReadsOwner.safe v p q) = (token (k.Name v) p, sign s.SafeDot q ∷ [], refl)
  first_owner (ReadsOwner.apart v p q r) = (token (k.Name v) p, sign s.Question q ∷ sign s.Dot r ∷ [], refl)
  first_owner (ReadsOwner.item v x p q r t room h) = (token (k.Name v) p, sign s.OpenSquare q ∷ x ++ sign s.CloseSquare r ∷ sign s.Dot t ∷ [], refl)

  first_simple : {e : ℕ} {x : Tokens} {a : Stmt} → ReadsSimple l e x a → (t : Token) × (z : Tokens) × (x ≡ t ∷ z)
  first_simple (ReadsSimple.set v x p q h) = (token (k.Name v) p, sign s.Assign q ∷ x, refl)
  first_simple (ReadsSimple.run v x p h) = (token (k.Name v) p, x, refl)
  first_simple (ReadsSimple.send v x y p h i) = let f = first_owner h in (f.0, f.1 ++ token (k.Name v) p ∷ y, ap (λ z. z ++ token (k.Name v) p ∷ y) f.2)

  first_of_more : (x y : Tokens) → (t : Token) × (z : Tokens) × (x ≡ t ∷ z) → is_last (x ++ y) ≡ false
  first_of_more x y f = rw f.2 refl

  not_last : {y : Tokens} {others : List Stmt} → ReadsListener l y others → is_last y ≡ false
  not_last (ReadsListener.last {x = x} h) = subst (λ z. is_last z ≡ false) (append-nil x) (first_of_more x [] (first_simple h))
  not_last (ReadsListener.ended x p h) = first_of_more x _ (first_simple h)
  not_last (ReadsListener.more x y p h i) = first_of_more x _ (first_simple h)

  some_simple : {e : ℕ} {x : Tokens} {a : Stmt} → ReadsSimple l e x a → 0 < length x
  some_simple {x = x} h = let f : (t : Token) × (z : Tokens) × (x ≡ t ∷ z) = first_simple h in rw f.2 (omega arith)

  pub listener_gets : (d : ℕ) {x : Tokens} {others : List Stmt} → 0 + d ≡ D → ReadsListener l x others → length x < c → (i : ℕ) → length x ≤ i → GetsL L others [] (listener n m c d i x)
  listener_gets d eq (ReadsListener.last h) len i few = last_gets_simple d eq _ _ h len i (omega (arith, some_simple h, few))
  listener_gets d eq (ReadsListener.ended x p h) len i few = ended_gets d eq x _ p h len i (omega (arith, few, length-append x (sign s.Semicolon p ∷ [])))
  listener_gets d eq (ReadsListener.more x y p h i) len j few =
      more_gets_simple d eq x y _ _ p h len (not_last i) (λ j' few'. listener_gets d eq i (omega (arith, len, length-append x (sign s.Semicolon p ∷ y))) j' few') j (omega (arith, few, length-append x (sign s.Semicolon p ∷ y)))
