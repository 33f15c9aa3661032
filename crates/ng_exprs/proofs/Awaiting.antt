-- Where statements await an expression, the function reads one; so what keeps the limits has no front that ends in an expression that is too long.
use Rattle.std.proofs.Common.{◌≡◌, ℕ, zero, suc, ◌+◌, ◌<◌, List, [], ◌∷◌, ◌++◌, length, refl, sym, ◌∙◌, ap, subst, append_assoc, arith, length-append, inl, inr}
use Rattle.std.specs.Prelude.{Bool, true, false, cond, Ok, Err}
use Rattle.ng_ast.specs.declared.Place.{Place}
use Rattle.ng_ast.specs.declared.Expr.{Expr}
use Rattle.ng_ast.specs.declared.Owner.{Owner}
use Rattle.ng_ast.specs.declared.Owner.TheVariants as o
use Rattle.ng_ast.specs.declared.Stmt.{Stmt}
use Rattle.ng_tokens.specs.declared.kinds.Sign.{Sign}
use Rattle.ng_tokens.specs.declared.kinds.Sign.TheVariants as s
use Rattle.ng_tokens.specs.declared.kinds.Kind.TheVariants as k
use Rattle.ng_tokens.specs.declared.kinds.Token.{Token}
use Rattle.ng_exprs.specs.Grammar.{Tokens, token, sign, ReadsPiped}
use Rattle.ng_exprs.specs.Parse.{Outcome, Parser, and_then, same, peek, rest, is_sign, expect, turns}
use Rattle.ng_exprs.specs.Statements.{IsExpr, ReadsOwner, ReadsSimple, EndsLong}
use Rattle.ng_exprs.specs.Awaits.{AwaitsArg, AwaitsSimple, AwaitsListener}
use Rattle.ng_exprs.specs.Lines.{list_of, measured, args, set, run, send, apart, item, simple, is_last, listener}
use Rattle.ng_exprs.proofs.Complete.{Ends, extends, extends_at, not_closed_piped}
use Rattle.ng_exprs.proofs.Outcomes.{Is, seen, expect_is}
use Rattle.ng_exprs.proofs.Public.{no_longer}
use Rattle.ng_exprs.proofs.LinesComplete.{GetsL, simple_gets}
use Rattle.ng_exprs.proofs.LinesSound.{Read, Halted, AtStart, measured_sound}
use Rattle.ng_exprs.proofs.Serving.{Cuts, cuts, read_before, serves_any}

-- an expression was read here within the limits, and a token that ends one stands behind it
abbrev pub Reached : Tokens → Type 0
Reached w = (c d e : ℕ) × (e + d ≡ 32) × (a : Expr) × (us : Tokens) × (measured turns 256 c d w ≡ Ok (a, us)) × Ends 10 us

-- no such expression begins with more than 256 tokens of one that is begun
pub too_long : (x more tail : Tokens) (v : Expr) → 256 < length x → ReadsPiped (x ++ more) v → Reached (x ++ tail) → ⊥
too_long x more tail v long h (c, d, e, eq, a, us, found, end) = by read (cuts x tail read.text us (sym read.all))
  where
    read : Read (IsExpr true e) (x ++ tail) a us
    read = subst (Is (Read (IsExpr true e) (x ++ tail)) (Halted ReadsPiped AtStart (suc d) (x ++ tail))) found (measured_sound c e d eq (x ++ tail))

    by : (t : Read (IsExpr true e) (x ++ tail) a us) → Cuts x t.text us → ⊥
    by t (inl (y, same)) = absurd (omega (arith, ap length same, length-append x y, t.reads.1))
    by t (inr (u, w, same, next)) = no_longer t.text a t.reads.0 u (w ++ more) (subst (λ z. 10 < extends_at z) (sym (next (w ++ more))) end) v
        (subst (λ z. ReadsPiped z v) (ap (λ z. z ++ more) same ∙ append_assoc t.text (u ∷ w) more) h)

-- ---- outcomes

pub then_ok : {A B : Type 0} (r : Outcome A) (f : A → Parser B) (q : B × Tokens) → and_then r f ≡ Ok q → (p : A × Tokens) × (r ≡ Ok p) × (f p.0 p.1 ≡ Ok q)
then_ok (Ok p) f q e = (p, refl, e)
then_ok (Err x) f q e = absurd (cc)

pub gets_ok : {A : Type 0} (L : Type 0) (a : A) (r : Tokens) (p : A × Tokens) (t : Outcome A) → GetsL L a r t → t ≡ Ok p → p ≡ (a, r)
gets_ok L a r p t g e = subst (GetsL L a r) e g

-- an outcome that is known, and what follows it
pub then_gets : {A B : Type 0} (L : Type 0) (r : Outcome A) (f : A → Parser B) (q : B × Tokens) (a : A) (us : Tokens) → GetsL L a us r → and_then r f ≡ Ok q → f a us ≡ Ok q
then_gets L r f q a us g e =
    let t : (p : _) × (r ≡ Ok p) × (f p.0 p.1 ≡ Ok q) = then_ok r f q e in
    subst (λ p. f p.0 p.1 ≡ Ok q) (gets_ok L a us t.0 r g t.1) t.2

same_end : {A B : Type 0} (p : A × Tokens) (b : B) (q : B × Tokens) → ◌≡◌ {A = Outcome B} (Ok (b, p.1)) (Ok q) → p.1 ≡ q.1
same_end p b q e = cc

-- ---- signs

signs_are : (same s.Comma s.Comma ≡ true) × (same s.OpenRound s.OpenRound ≡ true) × (same s.CloseSquare s.CloseSquare ≡ true) × (same s.Dot s.Dot ≡ true) × (same s.Semicolon s.Semicolon ≡ true)
unfolding same
signs_are = (refl, refl, refl, refl, refl)

pub expect_ends : (x : Sign) → 10 < extends x → (us : Tokens) (p : Unit {0} × Tokens) → expect x us ≡ Ok p → Ends 10 us
expect_ends x end us p e =
    let f : (q : Place) × (us ≡ sign x q ∷ p.1) = subst (Is (λ _ vs. (q : Place) × (us ≡ sign x q ∷ vs)) ⊥) e (expect_is x us) in
    subst (λ z. Ends 10 z) (sym f.1) end

comma_ends : (us : Tokens) → is_sign s.Comma (peek us) ≡ true → Ends 10 us
comma_ends us e = let f : (q : Place) × (us ≡ sign s.Comma q ∷ rest us) = seen s.Comma us e in subst (λ z. Ends 10 z) (sym f.1) (omega arith)

-- ---- arguments

item_ends : (us : Tokens) (v : Bool) → is_sign s.Comma (peek us) ≡ v → (more : Outcome (List Expr)) (a : Expr) (q : List Expr × Tokens) → cond {A = Outcome (List Expr)} v more (Ok (a ∷ [], us)) ≡ Ok q → Ends 10 q.1 → Ends 10 us
item_ends us true e more a q h end = comma_ends us e
item_ends us false e more a q h end = subst (λ z. Ends 10 z) (sym (same_end (a, us) (a ∷ []) q h)) end

reach_first : (c e d : ℕ) → e + d ≡ 32 → (w : Tokens) (j : ℕ) (q : List Expr × Tokens) → list_of (measured turns 256 c d) j w ≡ Ok q → Ends 10 q.1 → Reached w
unfolding list_of
reach_first c e d eq w zero q h end = absurd (cc)
reach_first c e d eq w (suc j) q h end =
    let t = then_ok (measured turns 256 c d w) _ q h in
    (c, d, e, eq, t.0.0, t.0.1, t.1, item_ends t.0.1 (is_sign s.Comma (peek t.0.1)) refl _ t.0.0 q t.2 end)

-- the list after an argument and a comma
list_again : (c d : ℕ) (x : Tokens) (a : Expr) (p : Place) → ReadsPiped x a → (ts : Tokens) (j : ℕ) (q : List Expr × Tokens) → list_of (measured turns 256 c d) j (x ++ sign s.Comma p ∷ ts) ≡ Ok q
    → (i : ℕ) × (r : List Expr × Tokens) × (list_of (measured turns 256 c d) i ts ≡ Ok r) × (r.1 ≡ q.1)
unfolding list_of
list_again c d x a p h ts zero q e = absurd (cc)
list_again c d x a p h ts (suc j) q e =
    let comma : Tokens = sign s.Comma p ∷ ts in
    let t = then_gets (Unit {0}) (measured turns 256 c d (x ++ comma)) _ q a comma (read_before c d x a h comma (omega arith)) e in
    let u = then_ok (list_of (measured turns 256 c d) j ts) (λ es vs. Ok (a ∷ es, vs)) q (rw signs_are.0 at t) in
    (j, u.0, u.1, same_end u.0 (a ∷ u.0.0) q u.2)

reach_list : (c e d : ℕ) → e + d ≡ 32 → {y : Tokens} → AwaitsArg y → (w : Tokens) (j : ℕ) (q : List Expr × Tokens) → list_of (measured turns 256 c d) j (y ++ w) ≡ Ok q → Ends 10 q.1 → Reached w
reach_list c e d eq AwaitsArg.first w j q h end = reach_first c e d eq w j q h end
reach_list c e d eq (AwaitsArg.later x y p i aw) w j q h end =
    let all : (x ++ sign s.Comma p ∷ y) ++ w ≡ x ++ sign s.Comma p ∷ (y ++ w) = append_assoc x (sign s.Comma p ∷ y) w in
    let t = list_again c d x _ p i (y ++ w) j q (subst (λ z. list_of (measured turns 256 c d) j z ≡ Ok q) all h) in
    reach_list c e d eq aw w t.0 t.1 t.2 (subst (λ z. Ends 10 z) (sym t.3) end)

-- no bracket closes at once
abbrev pub Wide : Tokens → Type 0
Wide w = is_sign s.CloseRound (peek w) ≡ false

wide_more : {y : Tokens} → AwaitsArg y → (w : Tokens) → Wide w → Wide (y ++ w)
wide_more AwaitsArg.first w n = n
wide_more (AwaitsArg.later x y p i aw) w n = subst Wide (sym (append_assoc x (sign s.Comma p ∷ y) w)) (not_closed_piped i s.CloseRound tt (sign s.Comma p ∷ (y ++ w)))

no_args : (c : ℕ) (ts : Tokens) (q : List Expr × Tokens) → args turns 256 c 0 ts ≡ Ok q → ⊥
unfolding args
no_args c ts q h = cc

args_list : (c d : ℕ) (ts : Tokens) → Wide ts → (q : List Expr × Tokens) → args turns 256 c (suc d) ts ≡ Ok q → (p : List Expr × Tokens) × (list_of (measured turns 256 c d) c ts ≡ Ok p) × Ends 10 p.1
unfolding args
args_list c d ts n q h =
    let t = then_ok (list_of (measured turns 256 c d) c ts) _ q (rw n at h) in
    let u = then_ok (expect s.CloseRound t.0.1) _ q t.2 in
    (t.0, t.1, expect_ends s.CloseRound (omega arith) t.0.1 u.0 u.1)

reach_some : (c e d : ℕ) → suc e + d ≡ 32 → {y : Tokens} → AwaitsArg y → (w : Tokens) → Wide w → (q : List Expr × Tokens) → args turns 256 c (suc d) (y ++ w) ≡ Ok q → Reached w
reach_some c e d eq {y = y} aw w n q h = let t = args_list c d (y ++ w) (wide_more aw w n) q h in reach_list c (suc e) d eq aw w c t.0 t.1 t.2

pub reach_args : (c e d : ℕ) → e + d ≡ 32 → {y : Tokens} → AwaitsArg y → (w : Tokens) → Wide w → (q : List Expr × Tokens) → args turns 256 c d (y ++ w) ≡ Ok q → Reached w
reach_args c e zero eq {y = y} aw w n q h = absurd (no_args c (y ++ w) q h)
reach_args c e (suc d) eq aw w n q h = reach_some c e d (omega arith) aw w n q h

-- ---- statements without `if`

reach_value : (c e d : ℕ) → e + d ≡ 32 → (v : List ℕ) (p p2 : Place) (w : Tokens) (q : Stmt × Tokens) → simple turns 256 c d (token (k.Name v) p ∷ (sign s.Assign p2 ∷ w)) ≡ Ok q → Ends 10 q.1 → Reached w
unfolding simple set
reach_value c e d eq v p p2 w q h end =
    let t = then_ok (measured turns 256 c d w) _ q h in
    (c, d, e, eq, t.0.0, t.0.1, t.1, subst (λ z. Ends 10 z) (sym (same_end t.0 _ q t.2)) end)

reach_item : (c e d : ℕ) → e + d ≡ 32 → (v : List ℕ) (p : Place) (w : Tokens) (q : Stmt × Tokens) → item turns 256 c d p v w ≡ Ok q → Reached w
unfolding item
reach_item c e zero eq v p w q h = absurd (cc)
reach_item c e (suc d) eq v p w q h =
    let t = then_ok (measured turns 256 c d w) _ q h in
    let u = then_ok (expect s.CloseSquare t.0.1) _ q t.2 in
    (c, d, suc e, omega arith, t.0.0, t.0.1, t.1, expect_ends s.CloseSquare (omega arith) t.0.1 u.0 u.1)

reach_position : (c e d : ℕ) → e + d ≡ 32 → (v : List ℕ) (p p2 : Place) (w : Tokens) (q : Stmt × Tokens) → simple turns 256 c d (token (k.Name v) p ∷ (sign s.OpenSquare p2 ∷ w)) ≡ Ok q → Reached w
unfolding simple
reach_position c e d eq v p p2 w q h = reach_item c e d eq v p w q h

reach_run : (c e d : ℕ) → e + d ≡ 32 → (v : List ℕ) (p p2 : Place) {y : Tokens} → AwaitsArg y → (w : Tokens) → Wide w → (q : Stmt × Tokens) → simple turns 256 c d (token (k.Name v) p ∷ (sign s.OpenRound p2 ∷ (y ++ w))) ≡ Ok q → Reached w
unfolding simple run
reach_run c e d eq v p p2 {y = y} aw w n q h = let t = then_ok (args turns 256 c d (y ++ w)) _ q h in reach_args c e d eq aw w n t.0 t.1

reach_send : (c e d : ℕ) → e + d ≡ 32 → (v : List ℕ) (p p1 p2 : Place) (f : Owner) {y : Tokens} → AwaitsArg y → (w : Tokens) → Wide w → (q : Stmt × Tokens)
    → send turns 256 c d p f (token (k.Name v) p1 ∷ (sign s.OpenRound p2 ∷ (y ++ w))) ≡ Ok q → Reached w
unfolding send
reach_send c e d eq v p p1 p2 f {y = y} aw w n q h = let t = then_ok (args turns 256 c d (y ++ w)) _ q (rw signs_are.1 at h) in reach_args c e d eq aw w n t.0 t.1

-- what follows an owner is read as a call of it
abbrev Sends : ℕ → ℕ → Owner → Tokens → Stmt × Tokens → Type 0
Sends c d f ts q = (p : Place) × (send turns 256 c d p f ts ≡ Ok q)

apart_sends : (c d : ℕ) (v : List ℕ) (p p2 : Place) (ts : Tokens) (q : Stmt × Tokens) → apart turns 256 c d p v (sign s.Dot p2 ∷ ts) ≡ Ok q → Sends c d (o.Safe p v) ts q
unfolding apart
apart_sends c d v p p2 ts q h = (p, rw signs_are.3 at h)

item_sends : (c d : ℕ) (v : List ℕ) (p : Place) (x : Tokens) (a : Expr) → ReadsPiped x a → (p1 p2 : Place) (ts : Tokens) (q : Stmt × Tokens) → item turns 256 c d p v (x ++ sign s.CloseSquare p1 ∷ (sign s.Dot p2 ∷ ts)) ≡ Ok q
    → Sends c d (o.Item p v a) ts q
unfolding item
item_sends c zero v p x a h p1 p2 ts q e = absurd (cc)
item_sends c (suc d) v p x a h p1 p2 ts q e =
    let close : Tokens = sign s.CloseSquare p1 ∷ (sign s.Dot p2 ∷ ts) in
    let t = then_gets (Unit {0}) (measured turns 256 c d (x ++ close)) _ q a close (read_before c d x a h close (omega arith)) e in
    (p, rw signs_are.3 at (rw signs_are.2 at t))

owner_sends : (c d : ℕ) {e : ℕ} {x : Tokens} {f : Owner} → ReadsOwner false e x f → (ts : Tokens) (q : Stmt × Tokens) → simple turns 256 c d (x ++ ts) ≡ Ok q → Sends c d f ts q
unfolding simple
owner_sends c d (ReadsOwner.named v p p2) ts q h = (p, h)
owner_sends c d (ReadsOwner.safe v p p2) ts q h = (p, h)
owner_sends c d (ReadsOwner.apart v p p2 p3) ts q h = apart_sends c d v p p3 ts q h
owner_sends c d (ReadsOwner.item v x p p2 p3 p4 room i) ts q h =
    item_sends c d v p x _ i p3 p4 ts q (subst (λ z. item turns 256 c d p v z ≡ Ok q) (append_assoc x (sign s.CloseSquare p3 ∷ sign s.Dot p4 ∷ []) ts) h)

pub reach_simple : (c e d : ℕ) → e + d ≡ 32 → {y : Tokens} → AwaitsSimple y → (w : Tokens) → Wide w → (q : Stmt × Tokens) → simple turns 256 c d (y ++ w) ≡ Ok q → Ends 10 q.1 → Reached w
reach_simple c e d eq (AwaitsSimple.value v p p2) w n q h end = reach_value c e d eq v p p2 w q h end
reach_simple c e d eq (AwaitsSimple.position v p p2) w n q h end = reach_position c e d eq v p p2 w q h
reach_simple c e d eq (AwaitsSimple.argument v y p p2 aw) w n q h end = reach_run c e d eq v p p2 aw w n q h
reach_simple c e d eq (AwaitsSimple.sent v x y p p2 f aw) w n q h end =
    let all : (x ++ token (k.Name v) p ∷ sign s.OpenRound p2 ∷ y) ++ w ≡ x ++ token (k.Name v) p ∷ (sign s.OpenRound p2 ∷ (y ++ w)) = append_assoc x (token (k.Name v) p ∷ sign s.OpenRound p2 ∷ y) w in
    let t = owner_sends c d f (token (k.Name v) p ∷ (sign s.OpenRound p2 ∷ (y ++ w))) q (subst (λ z. simple turns 256 c d z ≡ Ok q) all h) in
    reach_send c e d eq v t.0 p p2 _ aw w n q t.1

-- ---- listeners

last_ends : (us : Tokens) (v : Bool) → is_last us ≡ v → (a : Stmt) (f : Unit {0} → Parser (List Stmt)) (q : List Stmt × Tokens) → cond {A = Outcome (List Stmt)} v (Ok (a ∷ [], us)) (and_then (expect s.Semicolon us) f) ≡ Ok q → Ends 10 us
last_ends [] v e a f q h = omega arith
last_ends (t ∷ us) true e a f q h = absurd (cc)
last_ends (t ∷ us) false e a f q h = let g = then_ok (expect s.Semicolon (t ∷ us)) f q h in expect_ends s.Semicolon (omega arith) (t ∷ us) g.0 g.1

reach_front : (c : ℕ) {y : Tokens} → AwaitsSimple y → (w : Tokens) → Wide w → (i : ℕ) (q : List Stmt × Tokens) → listener turns 256 c 32 i (y ++ w) ≡ Ok q → Reached w
unfolding listener
reach_front c aw w n zero q h = absurd (cc)
reach_front c {y = y} aw w n (suc i) q h =
    let t = then_ok (simple turns 256 c 32 (y ++ w)) _ q h in
    reach_simple c 0 32 (omega arith) aw w n t.0 t.1 (last_ends t.0.1 (is_last t.0.1) refl t.0.0 _ q t.2)

-- the listener after a statement and its `;`
listener_again : (c : ℕ) (x : Tokens) (a : Stmt) (p : Place) → ReadsSimple false 0 x a → (t : Token) (ts : Tokens) → length (x ++ sign s.Semicolon p ∷ (t ∷ ts)) < c → (i : ℕ) (q : List Stmt × Tokens)
    → listener turns 256 c 32 i (x ++ sign s.Semicolon p ∷ (t ∷ ts)) ≡ Ok q → (j : ℕ) × (r : List Stmt × Tokens) × (listener turns 256 c 32 j (t ∷ ts) ≡ Ok r)
unfolding listener
listener_again c x a p h t ts len zero q e = absurd (cc)
listener_again c x a p h t ts len (suc i) q e =
    let tail : Tokens = sign s.Semicolon p ∷ (t ∷ ts) in
    let f = then_gets (Unit {0}) (simple turns 256 c 32 (x ++ tail)) _ q a tail (simple_gets false (Unit {0}) turns 256 c 32 (serves_any c) 0 32 (omega arith) h tail (omega arith) (omega arith)) e in
    let g = then_ok (listener turns 256 c 32 i (t ∷ ts)) (λ others vs. Ok (a ∷ others, vs)) q (rw signs_are.4 at f) in
    (i, g.0, g.1)

some_first : (y w : Tokens) → is_last w ≡ false → (t : Token) × (ts : Tokens) × (y ++ w ≡ t ∷ ts)
some_first [] [] e = absurd (cc)
some_first [] (t ∷ w) e = (t, w, refl)
some_first (t ∷ y) w e = (t, y ++ w, refl)

pub reach_listener : (c : ℕ) {y : Tokens} → AwaitsListener y → (w : Tokens) → Wide w → is_last w ≡ false → length (y ++ w) < c → (i : ℕ) (q : List Stmt × Tokens) → listener turns 256 c 32 i (y ++ w) ≡ Ok q → Reached w
reach_listener c (AwaitsListener.here aw) w n on len i q h = reach_front c aw w n i q h
reach_listener c (AwaitsListener.later x y p j aw) w n on len i q h =
    let f : (t : Token) × (ts : Tokens) × (y ++ w ≡ t ∷ ts) = some_first y w on in
    let all : (x ++ sign s.Semicolon p ∷ y) ++ w ≡ x ++ sign s.Semicolon p ∷ (f.0 ∷ f.1) = append_assoc x (sign s.Semicolon p ∷ y) w ∙ ap (λ z. x ++ sign s.Semicolon p ∷ z) f.2 in
    let g = listener_again c x _ p j f.0 f.1 (omega (arith, len, ap length all)) i q (subst (λ z. listener turns 256 c 32 i z ≡ Ok q) all h) in
    reach_listener c aw w n on (omega (arith, len, ap length all, ap length f.2, length-append x (sign s.Semicolon p ∷ (f.0 ∷ f.1)))) g.0 g.1 (subst (λ z. listener turns 256 c 32 g.0 z ≡ Ok g.1) (sym f.2) g.2)

-- a long expression that is begun stands before no bracket that closes, and isn't empty
pub long_wide : (x more tail : Tokens) (v : Expr) → 256 < length x → ReadsPiped (x ++ more) v → Wide (x ++ tail) × (is_last (x ++ tail) ≡ false)
long_wide [] more tail v long h = absurd (omega arith)
long_wide (t ∷ x) more tail v long h = (not_closed_piped h s.CloseRound tt [], refl)

pub listener_not_long : (c : ℕ) (front tail : Tokens) (q : List Stmt × Tokens) → length (front ++ tail) < c → listener turns 256 c 32 c (front ++ tail) ≡ Ok q → EndsLong AwaitsListener front → ⊥
listener_not_long c front tail q len h (before, x, eq, awaits, long, (more, v, begun)) =
    let all : front ++ tail ≡ before ++ (x ++ tail) = ap (λ z. z ++ tail) eq ∙ append_assoc before x tail in
    let wide : Wide (x ++ tail) × (is_last (x ++ tail) ≡ false) = long_wide x more tail v long begun in
    too_long x more tail v long begun (reach_listener c awaits (x ++ tail) wide.0 wide.1 (omega (arith, len, ap length all)) c q (subst (λ z. listener turns 256 c 32 c z ≡ Ok q) all h))
