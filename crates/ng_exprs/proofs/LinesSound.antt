-- What the function of listeners reads is in the grammar and keeps the limits, and where it stops at a limit, one is passed.
use Rattle.std.proofs.Common.{◌≡◌, ℕ, zero, suc, ◌+◌, ◌-◌, ◌<◌, ◌≤◌, List, [], ◌∷◌, ◌++◌, length, refl, sym, ◌∙◌, ap, subst, append_assoc, arith, length-append, inl, inr}
use Rattle.std.proofs.lemmas.List.{append-nil}
use Rattle.std.specs.Prelude.{Bool, true, false, Ok, Err, cond, nat_lt, ◌⊎◌}
use Rattle.ng_ast.specs.declared.Place.{Place}
use Rattle.ng_ast.specs.declared.Expr.{Expr}
use Rattle.ng_ast.specs.declared.Owner.{Owner}
use Rattle.ng_ast.specs.declared.Owner.TheVariants as o
use Rattle.ng_ast.specs.declared.Stmt.{Stmt}
use Rattle.ng_ast.specs.declared.Stmt.TheVariants as b
use Rattle.ng_tokens.specs.declared.kinds.Sign.TheVariants as s
use Rattle.ng_tokens.specs.declared.kinds.Kind.{Kind}
use Rattle.ng_tokens.specs.declared.kinds.Kind.TheVariants as k
use Rattle.ng_exprs.specs.Grammar.{Tokens, token, sign, start, origin, ReadsPiped}
use Rattle.ng_exprs.specs.Limits.{opens, Within}
use Rattle.ng_exprs.specs.Parse.{Limit, Outcome, sign_of, peek, rest, is_sign, expect, name, turns, whole}
use Rattle.ng_exprs.specs.Statements.{IsExpr, IsOpen, ReadsSomeArgs, ReadsArgs, ReadsCall, ReadsOwner, ReadsSimple, ReadsListener, EndsLong}
use Rattle.ng_exprs.specs.Awaits.{AwaitsArg, AwaitsSimple, AwaitsListener}
use Rattle.ng_exprs.specs.Lines.{list_of, measured, args, set, run, send, apart, item, after_name, go_on, simple, is_last, listener}
use Rattle.ng_exprs.proofs.Outcomes.{Took, Stuck, Is, Inside, explain, case_if, seen, expect_is, name_is, zero_tokens, zero_piped}
use Rattle.ng_exprs.proofs.Sound.{sound}

-- some tokens were read, and each of their brackets is closed
pub record Read {A : Type 0} (R : Tokens → A → Type 0) (ts : Tokens) (a : A) (us : Tokens) : Type 0 where
  pub text : Tokens
  pub all : ts ≡ text ++ us
  pub reads : R text a
  pub even : (m : ℕ) (r : Tokens) → opens m (text ++ r) ≡ opens m r

-- a front is begun, and passes a limit: d more brackets are open after it, or an expression is too long
pub record Halted {A : Type 0} (R : Tokens → A → Type 0) (W : Tokens → Type 0) (d : ℕ) (ts : Tokens) : Type 0 where
  pub text : Tokens
  pub tail : Tokens
  pub more : Tokens
  pub value : A
  pub all : ts ≡ text ++ tail
  pub reads : R (text ++ more) value
  pub passes : ((m : ℕ) → m + d ≤ opens m text) ⊎ EndsLong W text

long_in : (W W' : Tokens → Type 0) (p : Tokens) → ((y : Tokens) → W y → W' (p ++ y)) → (text : Tokens) → EndsLong W text → EndsLong W' (p ++ text)
long_in W W' p awaits text (before, x, eq, here, long, begins) = (p ++ before, x, ap (λ z. p ++ z) eq ∙ sym (append_assoc p before x), awaits before here, long, begins)

passes_in : (W W' : Tokens → Type 0) (p : Tokens) → ((y : Tokens) → W y → W' (p ++ y)) → (k : ℕ → ℕ) → ((m : ℕ) (r : Tokens) → opens m (p ++ r) ≡ opens (k m) r)
    → (d d' : ℕ) → ((m : ℕ) → m + d' ≤ k m + d) → (text : Tokens) → ((m : ℕ) → m + d ≤ opens m text) ⊎ EndsLong W text → ((m : ℕ) → m + d' ≤ opens m (p ++ text)) ⊎ EndsLong W' (p ++ text)
passes_in W W' p awaits k counts d d' room text (inl h) = inl (λ m. rw (counts m text) (omega (arith, h (k m), room m)))
passes_in W W' p awaits k counts d d' room text (inr h) = inr (long_in W W' p awaits text h)

-- A limit in a part is one in the whole: p stands before the part, c makes the whole complete, and k counts the brackets of p.
pub halted_in : {A B : Type 0} (R : Tokens → A → Type 0) (W : Tokens → Type 0) (R' : Tokens → B → Type 0) (W' : Tokens → Type 0) (p c : Tokens) (f : A → B) → ((x : Tokens) (a : A) → R x a → R' (p ++ (x ++ c)) (f a))
    → ((y : Tokens) → W y → W' (p ++ y)) → (k : ℕ → ℕ) → ((m : ℕ) (r : Tokens) → opens m (p ++ r) ≡ opens (k m) r)
    → (d d' : ℕ) → ((m : ℕ) → m + d' ≤ k m + d) → (ts us : Tokens) → us ≡ p ++ ts → Halted R W d ts → Halted R' W' d' us
halted_in R W R' W' p c f wrap awaits k counts d d' room ts us eq h = record {
  text = p ++ h.text;
  tail = h.tail;
  more = h.more ++ c;
  value = f h.value;
  all = eq ∙ ap (λ x. p ++ x) h.all ∙ sym (append_assoc p h.text h.tail);
  reads = subst (λ x. R' x (f h.value)) (simp append_assoc) (wrap (h.text ++ h.more) h.value h.reads);
  passes = passes_in W W' p awaits k counts d d' room h.text h.passes;
}

-- at the start of an expression
abbrev pub AtStart : Tokens → Type 0
AtStart y = y ≡ []

at_start : (W : Tokens → Type 0) (p : Tokens) → W p → (y : Tokens) → AtStart y → W (p ++ y)
at_start W p w y e = subst (λ z. W (p ++ z)) (sym e) (subst W (sym (append-nil p)) w)

-- ---- expressions

few_taken : (ts text us : Tokens) → ts ≡ text ++ us → length ts - length us ≡ length text
few_taken ts text us e = omega (arith, ap length e, length-append text us)

over_256 : (n : ℕ) → nat_lt 256 n ≡ true → 256 < n
over_256 n e = grind arith

within_256 : (n : ℕ) → nat_lt 256 n ≡ false → n ≤ 256
within_256 n e = grind arith

long_alone : (x more : Tokens) (a : Expr) → ReadsPiped (x ++ more) a → 256 < length x → EndsLong AtStart x
long_alone x more a h long = ([], x, refl, refl, long, (more, a, h))

stuck_halted : (d : ℕ) (ts : Tokens) → Stuck ReadsPiped (suc d) turns ts → Halted ReadsPiped AtStart (suc d) ts
unfolding turns
stuck_halted d ts st = record { text = st.text; tail = st.tail; more = st.more; value = st.value; all = st.all; reads = st.reads; passes = by st.passes }
  where
    by : ((m : ℕ) → m + suc d ≤ opens m st.text) ⊎ (257 ≤ length st.text) → ((m : ℕ) → m + suc d ≤ opens m st.text) ⊎ EndsLong AtStart st.text
    by (inl h) = inl h
    by (inr h) = inr (long_alone st.text st.more st.value st.reads (omega arith))

measured_if : (e d : ℕ) → e + d ≡ 32 → (ts : Tokens) (a : Expr) (us : Tokens) → Took ReadsPiped d ts a us → (v : Bool) → nat_lt 256 (length ts - length us) ≡ v
    → Is (Read (IsExpr true e) ts) (Halted ReadsPiped AtStart (suc d) ts) (cond {A = Outcome Expr} v (Err Limit) (Ok (a, us)))
measured_if e d eq ts a us t true w = record {
  text = t.text;
  tail = us;
  more = [];
  value = a;
  all = t.all;
  reads = subst (λ z. ReadsPiped z a) (sym (append-nil t.text)) t.reads;
  passes = inr (long_alone t.text [] a (subst (λ z. ReadsPiped z a) (sym (append-nil t.text)) t.reads) (over_256 (length t.text) (ap (nat_lt 256) (sym (few_taken ts t.text us t.all)) ∙ w)));
}
measured_if e d eq ts a us t false w = record {
  text = t.text;
  all = t.all;
  reads = (t.reads, within_256 (length t.text) (ap (nat_lt 256) (sym (few_taken ts t.text us t.all)) ∙ w), subst (λ z. Within 32 e z) (append-nil t.text) (t.calm.nests 32 e (omega arith) [] tt));
  even = t.calm.even;
}

pub measured_sound : (c e d : ℕ) → e + d ≡ 32 → (ts : Tokens) → Is (Read (IsExpr true e) ts) (Halted ReadsPiped AtStart (suc d) ts) (measured turns 256 c d ts)
unfolding measured
measured_sound c e d eq ts =
    explain (Inside (suc d) ts) (Stuck ReadsPiped (suc d) turns ts) (Read (IsExpr true e) ts) (Halted ReadsPiped AtStart (suc d) ts) (whole turns (suc d) ts) _ (sound turns (suc d) ts)
    (λ a us t. measured_if e d eq ts a us (subst (λ z. Took ReadsPiped z ts a us) (same t.0 t.1) t.2) (nat_lt 256 (length ts - length us)) refl)
    (stuck_halted d ts)
  where
    same : (f : ℕ) → suc d ≡ suc f → f ≡ d
    same f e = omega arith

-- ---- arguments

pub no_tail : {A : Type 0} (R : Tokens → A → Type 0) (p x : Tokens) (a : A) → R (p ++ x) a → R (p ++ (x ++ [])) a
no_tail R p x a h = subst (λ z. R (p ++ z) a) (sym (append-nil x)) h

list_sound : (c e d : ℕ) → e + d ≡ 32 → (j : ℕ) (ts : Tokens) → Is (Read (ReadsSomeArgs true e) ts) (Halted (ReadsSomeArgs false e) AwaitsArg (suc d) ts) (list_of (measured turns 256 c d) j ts)
unfolding list_of
list_sound c e d eq zero ts = tt
list_sound c e d eq (suc j) ts =
    let T : List Expr → Tokens → Type 0 = Read (ReadsSomeArgs true e) ts in
    let Q : Type 0 = Halted (ReadsSomeArgs false e) AwaitsArg (suc d) ts in
    explain (Read (IsExpr true e) ts) (Halted ReadsPiped AtStart (suc d) ts) T Q (measured turns 256 c d ts) _ (measured_sound c e d eq ts)
    (λ a us t. case_if T Q (is_sign s.Comma (peek us)) _ _
    (λ y. let q : (q : Place) × (us ≡ sign s.Comma q ∷ rest us) = seen s.Comma us y in
    let p : Tokens = t.text ++ sign s.Comma q.0 ∷ [] in
    let all : ts ≡ p ++ rest us = t.all ∙ ap (λ z. t.text ++ z) q.1 ∙ sym (append_assoc t.text (sign s.Comma q.0 ∷ []) (rest us)) in
    let even : (m : ℕ) (r : Tokens) → opens m (p ++ r) ≡ opens m r = λ m r. ap (opens m) (append_assoc t.text (sign s.Comma q.0 ∷ []) r) ∙ t.even m (sign s.Comma q.0 ∷ r) in
    explain (Read (ReadsSomeArgs true e) (rest us)) (Halted (ReadsSomeArgs false e) AwaitsArg (suc d) (rest us)) T Q (list_of (measured turns 256 c d) j (rest us)) _ (list_sound c e d eq j (rest us))
    (λ es ws w. record {
      text = p ++ w.text;
      all = all ∙ ap (λ z. p ++ z) w.all ∙ sym (append_assoc p w.text ws);
      reads = subst (λ z. ReadsSomeArgs true e z (a ∷ es)) (sym (append_assoc t.text (sign s.Comma q.0 ∷ []) w.text)) (ReadsSomeArgs.next_arg t.text w.text q.0 t.reads w.reads);
      even = λ m r. ap (opens m) (append_assoc p w.text r) ∙ even m (w.text ++ r) ∙ w.even m r;
    })
    (halted_in (ReadsSomeArgs false e) AwaitsArg (ReadsSomeArgs false e) AwaitsArg p [] (λ es. a ∷ es)
    (λ x es r. no_tail (ReadsSomeArgs false e) p x (a ∷ es) (subst (λ z. ReadsSomeArgs false e z (a ∷ es)) (sym (append_assoc t.text (sign s.Comma q.0 ∷ []) x)) (ReadsSomeArgs.next_arg t.text x q.0 t.reads.0 r)))
    (λ y w. subst AwaitsArg (sym (append_assoc t.text (sign s.Comma q.0 ∷ []) y)) (AwaitsArg.later t.text y q.0 t.reads.0 w)) (λ m. m) even (suc d) (suc d) (λ m. omega arith) (rest us) ts all))
    (λ n. record { text = t.text; all = t.all; reads = ReadsSomeArgs.last_arg t.reads; even = t.even }))
    (halted_in ReadsPiped AtStart (ReadsSomeArgs false e) AwaitsArg [] [] (λ a. a ∷ []) (λ x a r. no_tail (ReadsSomeArgs false e) [] x (a ∷ []) (ReadsSomeArgs.last_arg r)) (at_start AwaitsArg [] AwaitsArg.first) (λ m. m) (λ m r. refl) (suc d) (suc d) (λ m. omega arith) ts ts refl)

-- the arguments and the bracket that closes them
abbrev pub Closes : ℕ → Tokens → List Expr → Tokens → Type 0
Closes e ts es us = (x : Tokens) × (q : Place) × (ts ≡ x ++ sign s.CloseRound q ∷ us) × IsOpen true (suc e) × ReadsArgs true (suc e) x es × ((m : ℕ) (r : Tokens) → opens m (x ++ r) ≡ opens m r)

args_by : (c e d : ℕ) → suc e + d ≡ 32 → (ts : Tokens) → Is (Closes e ts) (Halted (ReadsArgs false (suc e)) AwaitsArg (suc d) ts) (args turns 256 c (suc d) ts)
unfolding args
args_by c e d eq ts =
    let T : List Expr → Tokens → Type 0 = Closes e ts in
    let Q : Type 0 = Halted (ReadsArgs false (suc e)) AwaitsArg (suc d) ts in
    case_if T Q (is_sign s.CloseRound (peek ts)) (Ok ([], rest ts)) _
    (λ y. let q : (q : Place) × (ts ≡ sign s.CloseRound q ∷ rest ts) = seen s.CloseRound ts y in ([], q.0, q.1, omega arith, ReadsArgs.no_arg, λ m r. refl))
    (λ n. explain (Read (ReadsSomeArgs true (suc e)) ts) (Halted (ReadsSomeArgs false (suc e)) AwaitsArg (suc d) ts) T Q (list_of (measured turns 256 c d) c ts) _ (list_sound c (suc e) d eq c ts)
    (λ es us t. explain (λ _ vs. (q : Place) × (us ≡ sign s.CloseRound q ∷ vs)) ⊥ T Q (expect s.CloseRound us) _ (expect_is s.CloseRound us)
    (λ _ vs f. (t.text, f.0, t.all ∙ ap (λ z. t.text ++ z) f.1, omega arith, ReadsArgs.some_args t.reads, t.even))
    (λ none. absurd none))
    (halted_in (ReadsSomeArgs false (suc e)) AwaitsArg (ReadsArgs false (suc e)) AwaitsArg [] [] (λ es. es) (λ x es r. no_tail (ReadsArgs false (suc e)) [] x es (ReadsArgs.some_args r)) (λ y w. w) (λ m. m) (λ m r. refl) (suc d) (suc d) (λ m. omega arith) ts ts refl))

args_none : (c e : ℕ) (ts : Tokens) → Is (Closes e ts) (Halted (ReadsArgs false (suc e)) AwaitsArg 0 ts) (args turns 256 c 0 ts)
unfolding args
args_none c e ts = record { text = []; tail = ts; more = []; value = []; all = refl; reads = ReadsArgs.no_arg; passes = inl (λ m. omega arith) }

pub args_sound : (c e d : ℕ) → e + d ≡ 32 → (ts : Tokens) → Is (Closes e ts) (Halted (ReadsArgs false (suc e)) AwaitsArg d ts) (args turns 256 c d ts)
args_sound c e zero eq ts = args_none c e ts
args_sound c e (suc d) eq ts = args_by c e d (omega arith) ts

-- ---- statements

zero_simple : (e : ℕ) → ReadsSimple false e (token (k.Name []) origin ∷ sign s.OpenRound origin ∷ sign s.CloseRound origin ∷ []) (b.Do origin [] [])
zero_simple e = ReadsSimple.run [] _ origin (ReadsCall.call [] origin origin tt ReadsArgs.no_arg)

no_args : (e : ℕ) → ReadsCall false e (sign s.OpenRound origin ∷ sign s.CloseRound origin ∷ []) []
no_args e = ReadsCall.call [] origin origin tt ReadsArgs.no_arg

-- what a statement is to its parser, after the tokens pre
abbrev pub Goes : ℕ → ℕ → Tokens → Outcome Stmt → Type 0
Goes e d ts r = Is (Read (ReadsSimple true e) ts) (Halted (ReadsSimple false e) AwaitsSimple (suc d) ts) r

set_sound : (c e d : ℕ) → e + d ≡ 32 → (v : List ℕ) (p q : Place) (ts : Tokens) → Goes e d (token (k.Name v) p ∷ sign s.Assign q ∷ ts) (set turns 256 c d p v ts)
unfolding set
set_sound c e d eq v p q ts =
    let pre : Tokens = token (k.Name v) p ∷ sign s.Assign q ∷ [] in
    explain (Read (IsExpr true e) ts) (Halted ReadsPiped AtStart (suc d) ts) (Read (ReadsSimple true e) (pre ++ ts)) (Halted (ReadsSimple false e) AwaitsSimple (suc d) (pre ++ ts)) (measured turns 256 c d ts) _ (measured_sound c e d eq ts)
    (λ a us t. record { text = pre ++ t.text; all = ap (λ z. pre ++ z) t.all; reads = ReadsSimple.set v t.text p q t.reads; even = λ m r. t.even m r })
    (halted_in ReadsPiped AtStart (ReadsSimple false e) AwaitsSimple pre [] (b.Set p v) (λ x a r. no_tail (ReadsSimple false e) pre x (b.Set p v a) (ReadsSimple.set v x p q r)) (at_start AwaitsSimple pre (AwaitsSimple.value v p q)) (λ m. m) (λ m r. refl) (suc d) (suc d) (λ m. omega arith) ts (pre ++ ts) refl)

run_sound : (c e d : ℕ) → e + d ≡ 32 → (v : List ℕ) (p q : Place) (ts : Tokens) → Goes e d (token (k.Name v) p ∷ sign s.OpenRound q ∷ ts) (run turns 256 c d p v ts)
unfolding run
run_sound c e d eq v p q ts =
    let pre : Tokens = token (k.Name v) p ∷ sign s.OpenRound q ∷ [] in
    explain (Closes e ts) (Halted (ReadsArgs false (suc e)) AwaitsArg d ts) (Read (ReadsSimple true e) (pre ++ ts)) (Halted (ReadsSimple false e) AwaitsSimple (suc d) (pre ++ ts)) (args turns 256 c d ts) _ (args_sound c e d eq ts)
    (λ es us t. record {
      text = pre ++ (t.0 ++ sign s.CloseRound t.1 ∷ []);
      all = ap (λ z. pre ++ z) (t.2 ∙ sym (append_assoc t.0 (sign s.CloseRound t.1 ∷ []) us));
      reads = ReadsSimple.run v _ p (ReadsCall.call t.0 q t.1 t.3 t.4);
      even = λ m r. ap (opens (suc m)) (append_assoc t.0 (sign s.CloseRound t.1 ∷ []) r) ∙ t.5 (suc m) (sign s.CloseRound t.1 ∷ r);
    })
    (halted_in (ReadsArgs false (suc e)) AwaitsArg (ReadsSimple false e) AwaitsSimple pre (sign s.CloseRound p ∷ []) (b.Do p v) (λ x es r. ReadsSimple.run v _ p (ReadsCall.call x q p tt r)) (λ y w. AwaitsSimple.argument v y p q w) suc (λ m r. refl) d (suc d) (λ m. omega arith) ts (pre ++ ts) refl)

-- after an owner and its point
send_sound : (c e d : ℕ) → e + d ≡ 32 → (pre : Tokens) (w : Owner) → ReadsOwner true e pre w → ReadsOwner false e pre w → ((m : ℕ) (r : Tokens) → opens m (pre ++ r) ≡ opens m r) → (ts : Tokens)
    → Goes e d (pre ++ ts) (send turns 256 c d (start pre) w ts)
unfolding send
send_sound c e d eq pre w ho hf even ts =
    let T : Stmt → Tokens → Type 0 = Read (ReadsSimple true e) (pre ++ ts) in
    let Q : Type 0 = Halted (ReadsSimple false e) AwaitsSimple (suc d) (pre ++ ts) in
    explain (λ v us. (q : Place) × (ts ≡ token (k.Name v) q ∷ us)) ⊥ T Q (name ts) _ (name_is ts)
    (λ v us f. explain (λ _ vs. (q : Place) × (us ≡ sign s.OpenRound q ∷ vs)) ⊥ T Q (expect s.OpenRound us) _ (expect_is s.OpenRound us)
    (λ _ vs g.
    let two : Tokens = token (k.Name v) f.0 ∷ sign s.OpenRound g.0 ∷ [] in
    let b2 : Tokens = pre ++ two in
    let whole_text : pre ++ ts ≡ b2 ++ vs = ap (λ z. pre ++ z) (f.1 ∙ ap (λ z. token (k.Name v) f.0 ∷ z) g.1) ∙ sym (append_assoc pre two vs) in
    let counts : (m : ℕ) (r : Tokens) → opens m (b2 ++ r) ≡ opens (suc m) r = λ m r. ap (opens m) (append_assoc pre two r) ∙ even m (two ++ r) in
    explain (Closes e vs) (Halted (ReadsArgs false (suc e)) AwaitsArg d vs) T Q (args turns 256 c d vs) _ (args_sound c e d eq vs)
    (λ es ws t. record {
      text = b2 ++ (t.0 ++ sign s.CloseRound t.1 ∷ []);
      all = whole_text ∙ ap (λ z. b2 ++ z) (t.2 ∙ sym (append_assoc t.0 (sign s.CloseRound t.1 ∷ []) ws)) ∙ sym (append_assoc b2 (t.0 ++ sign s.CloseRound t.1 ∷ []) ws);
      reads = sent true pre w v f.0 g.0 t.0 es t.1 ho t.3 t.4;
      even = λ m r. ap (opens m) (append_assoc b2 (t.0 ++ sign s.CloseRound t.1 ∷ []) r) ∙ counts m ((t.0 ++ sign s.CloseRound t.1 ∷ []) ++ r)
          ∙ ap (opens (suc m)) (append_assoc t.0 (sign s.CloseRound t.1 ∷ []) r) ∙ t.5 (suc m) (sign s.CloseRound t.1 ∷ r);
    })
    (halted_in (ReadsArgs false (suc e)) AwaitsArg (ReadsSimple false e) AwaitsSimple b2 (sign s.CloseRound origin ∷ []) (b.Send (start pre) w v) (λ x es r. sent false pre w v f.0 g.0 x es origin hf tt r) (λ y awaits. subst AwaitsSimple (sym (append_assoc pre two y)) (AwaitsSimple.sent v pre y f.0 g.0 hf awaits)) suc counts d (suc d) (λ m. omega arith) vs (pre ++ ts) whole_text))
    (λ none. absurd none))
    (λ none. absurd none)
  where
    sent : (l : Bool) (pre : Tokens) (w : Owner) (v : List ℕ) (p1 p2 : Place) (x : Tokens) (es : List Expr) (q : Place) → ReadsOwner l e pre w → IsOpen l (suc e) → ReadsArgs l (suc e) x es
        → ReadsSimple l e ((pre ++ token (k.Name v) p1 ∷ sign s.OpenRound p2 ∷ []) ++ (x ++ sign s.CloseRound q ∷ [])) (b.Send (start pre) w v es)
    sent l pre w v p1 p2 x es q ho room r =
        subst (λ z. ReadsSimple l e z (b.Send (start pre) w v es)) (sym (append_assoc pre (token (k.Name v) p1 ∷ sign s.OpenRound p2 ∷ []) (x ++ sign s.CloseRound q ∷ [])))
        (ReadsSimple.send v pre _ p1 ho (ReadsCall.call x p2 q room r))

apart_sound : (c e d : ℕ) → e + d ≡ 32 → (v : List ℕ) (p q : Place) (ts : Tokens) → Goes e d (token (k.Name v) p ∷ sign s.Question q ∷ ts) (apart turns 256 c d p v ts)
unfolding apart
apart_sound c e d eq v p q ts =
    let us : Tokens = token (k.Name v) p ∷ sign s.Question q ∷ ts in
    explain (λ _ vs. (r : Place) × (ts ≡ sign s.Dot r ∷ vs)) ⊥ (Read (ReadsSimple true e) us) (Halted (ReadsSimple false e) AwaitsSimple (suc d) us) (expect s.Dot ts) _ (expect_is s.Dot ts)
    (λ _ vs f.
    let pre : Tokens = token (k.Name v) p ∷ sign s.Question q ∷ sign s.Dot f.0 ∷ [] in
    subst (λ z. Goes e d (token (k.Name v) p ∷ sign s.Question q ∷ z) (send turns 256 c d p (o.Safe p v) vs)) (sym f.1)
    (send_sound c e d eq pre (o.Safe p v) (ReadsOwner.apart v p q f.0) (ReadsOwner.apart v p q f.0) (λ m r. refl) vs))
    (λ none. absurd none)

item_owner : (l : Bool) (e : ℕ) (v : List ℕ) (x : Tokens) (a : Expr) (p q r t : Place) → IsOpen l (suc e) → IsExpr l (suc e) x a
    → ReadsOwner l e ((token (k.Name v) p ∷ sign s.OpenSquare q ∷ []) ++ (x ++ sign s.CloseSquare r ∷ sign s.Dot t ∷ [])) (o.Item p v a)
item_owner l e v x a p q r t room h = ReadsOwner.item v x p q r t room h

item_by : (c e d : ℕ) → suc e + d ≡ 32 → (v : List ℕ) (p q : Place) (ts : Tokens) → Goes e (suc d) (token (k.Name v) p ∷ sign s.OpenSquare q ∷ ts) (item turns 256 c (suc d) p v ts)
unfolding item
item_by c e d eq v p q ts =
    let two : Tokens = token (k.Name v) p ∷ sign s.OpenSquare q ∷ [] in
    let T : Stmt → Tokens → Type 0 = Read (ReadsSimple true e) (two ++ ts) in
    let Q : Type 0 = Halted (ReadsSimple false e) AwaitsSimple (suc (suc d)) (two ++ ts) in
    explain (Read (IsExpr true (suc e)) ts) (Halted ReadsPiped AtStart (suc d) ts) T Q (measured turns 256 c d ts) _ (measured_sound c (suc e) d eq ts)
    (λ a us t. explain (λ _ vs. (r : Place) × (us ≡ sign s.CloseSquare r ∷ vs)) ⊥ T Q (expect s.CloseSquare us) _ (expect_is s.CloseSquare us)
    (λ _ vs f. explain (λ _ ws. (r : Place) × (vs ≡ sign s.Dot r ∷ ws)) ⊥ T Q (expect s.Dot vs) _ (expect_is s.Dot vs)
    (λ _ ws g.
    let last : Tokens = sign s.CloseSquare f.0 ∷ sign s.Dot g.0 ∷ [] in
    let pre : Tokens = two ++ (t.text ++ last) in
    let all : two ++ ts ≡ pre ++ ws = ap (λ z. two ++ z) (t.all ∙ ap (λ z. t.text ++ z) (f.1 ∙ ap (λ z. sign s.CloseSquare f.0 ∷ z) g.1) ∙ sym (append_assoc t.text last ws)) in
    let even : (m : ℕ) (r : Tokens) → opens m (pre ++ r) ≡ opens m r = λ m r. ap (opens (suc m)) (append_assoc t.text last r) ∙ t.even (suc m) (last ++ r) in
    subst (λ z. Goes e (suc d) z (send turns 256 c (suc d) p (o.Item p v a) ws)) (sym all)
    (send_sound c e (suc d) (omega arith) pre (o.Item p v a) (item_owner true e v t.text a p q f.0 g.0 (omega arith) t.reads) (item_owner false e v t.text a p q f.0 g.0 tt t.reads.0) even ws))
    (λ none. absurd none))
    (λ none. absurd none))
    (halted_in ReadsPiped AtStart (ReadsSimple false e) AwaitsSimple two (sign s.CloseSquare p ∷ sign s.Dot p ∷ token (k.Name []) p ∷ sign s.OpenRound origin ∷ sign s.CloseRound origin ∷ []) (λ a. b.Send p (o.Item p v a) [] [])
    (λ x a r. subst (λ z. ReadsSimple false e (two ++ z) (b.Send p (o.Item p v a) [] [])) (append_assoc x (sign s.CloseSquare p ∷ sign s.Dot p ∷ []) (token (k.Name []) p ∷ sign s.OpenRound origin ∷ sign s.CloseRound origin ∷ []))
    (ReadsSimple.send [] _ _ p (item_owner false e v x a p q p p tt r) (no_args e)))
    (at_start AwaitsSimple two (AwaitsSimple.position v p q)) suc (λ m r. refl) (suc d) (suc (suc d)) (λ m. omega arith) ts (two ++ ts) refl)

item_none : (c e : ℕ) (v : List ℕ) (p q : Place) (ts : Tokens) → Goes e 0 (token (k.Name v) p ∷ sign s.OpenSquare q ∷ ts) (item turns 256 c 0 p v ts)
unfolding item
item_none c e v p q ts = record {
  text = token (k.Name v) p ∷ sign s.OpenSquare q ∷ [];
  tail = ts;
  more = zero_tokens ++ (sign s.CloseSquare p ∷ sign s.Dot p ∷ token (k.Name []) p ∷ sign s.OpenRound origin ∷ sign s.CloseRound origin ∷ []);
  value = b.Send p (o.Item p v _) [] [];
  all = refl;
  reads = ReadsSimple.send [] _ _ p (item_owner false e v zero_tokens _ p q p p tt zero_piped) (no_args e);
  passes = inl (λ m. omega arith);
}

item_sound : (c e d : ℕ) → e + d ≡ 32 → (v : List ℕ) (p q : Place) (ts : Tokens) → Goes e d (token (k.Name v) p ∷ sign s.OpenSquare q ∷ ts) (item turns 256 c d p v ts)
item_sound c e zero eq v p q ts = item_none c e v p q ts
item_sound c e (suc d) eq v p q ts = item_by c e d (omega arith) v p q ts

go_kind : (c e d : ℕ) → e + d ≡ 32 → (v : List ℕ) (p : Place) (kind : Kind) (q : Place) (ts : Tokens) → Goes e d (token (k.Name v) p ∷ token kind q ∷ ts) (go_on turns 256 c (after_name turns 256 c d p v (sign_of kind)) (token kind q ∷ ts))
go_kind c e d eq v p (k.Sign s.Assign) q ts = set_sound c e d eq v p q ts
go_kind c e d eq v p (k.Sign s.OpenRound) q ts = run_sound c e d eq v p q ts
go_kind c e d eq v p (k.Sign s.Dot) q ts = send_sound c e d eq (token (k.Name v) p ∷ sign s.Dot q ∷ []) (o.Name p v) (ReadsOwner.named v p q) (ReadsOwner.named v p q) (λ m r. refl) ts
go_kind c e d eq v p (k.Sign s.SafeDot) q ts = send_sound c e d eq (token (k.Name v) p ∷ sign s.SafeDot q ∷ []) (o.Safe p v) (ReadsOwner.safe v p q) (ReadsOwner.safe v p q) (λ m r. refl) ts
go_kind c e d eq v p (k.Sign s.Question) q ts = apart_sound c e d eq v p q ts
go_kind c e d eq v p (k.Sign s.OpenSquare) q ts = item_sound c e d eq v p q ts
go_kind c e d eq v p (k.Sign _) q ts = tt
go_kind c e d eq v p (k.Number _) q ts = tt
go_kind c e d eq v p (k.Name _) q ts = tt
go_kind c e d eq v p (k.Variable _) q ts = tt
go_kind c e d eq v p (k.Text _) q ts = tt

go_sound : (c e d : ℕ) → e + d ≡ 32 → (v : List ℕ) (p : Place) (ts : Tokens) → Goes e d (token (k.Name v) p ∷ ts) (go_on turns 256 c (after_name turns 256 c d p v (peek ts)) ts)
go_sound c e d eq v p [] = tt
go_sound c e d eq v p (t ∷ ts) = go_kind c e d eq v p t.kind t.place ts

pub simple_sound : (c e d : ℕ) → e + d ≡ 32 → (ts : Tokens) → Goes e d ts (simple turns 256 c d ts)
unfolding simple
simple_sound c e d eq ts =
    explain (λ v us. (q : Place) × (ts ≡ token (k.Name v) q ∷ us)) ⊥ (Read (ReadsSimple true e) ts) (Halted (ReadsSimple false e) AwaitsSimple (suc d) ts) (name ts) _ (name_is ts)
    (λ v us f. subst (λ z. Goes e d z (go_on turns 256 c (after_name turns 256 c d (start z) v (peek us)) us)) (sym f.1) (go_sound c e d eq v f.0 us))
    (λ none. absurd none)

-- ---- what keeps the limits is in the grammar

unlimited_some : {e : ℕ} {x : Tokens} {es : List Expr} → ReadsSomeArgs true e x es → ReadsSomeArgs false e x es
unlimited_some (ReadsSomeArgs.last_arg h) = ReadsSomeArgs.last_arg h.0
unlimited_some (ReadsSomeArgs.next_arg x y p h i) = ReadsSomeArgs.next_arg x y p h.0 (unlimited_some i)

pub unlimited_args : {e : ℕ} {x : Tokens} {es : List Expr} → ReadsArgs true e x es → ReadsArgs false e x es
unlimited_args ReadsArgs.no_arg = ReadsArgs.no_arg
unlimited_args (ReadsArgs.some_args h) = ReadsArgs.some_args (unlimited_some h)

unlimited_call : {e : ℕ} {x : Tokens} {es : List Expr} → ReadsCall true e x es → ReadsCall false e x es
unlimited_call (ReadsCall.call x p q room h) = ReadsCall.call x p q tt (unlimited_args h)

unlimited_owner : {e : ℕ} {x : Tokens} {w : Owner} → ReadsOwner true e x w → ReadsOwner false e x w
unlimited_owner (ReadsOwner.named n p q) = ReadsOwner.named n p q
unlimited_owner (ReadsOwner.safe n p q) = ReadsOwner.safe n p q
unlimited_owner (ReadsOwner.apart n p q r) = ReadsOwner.apart n p q r
unlimited_owner (ReadsOwner.item n x p q r t room h) = ReadsOwner.item n x p q r t tt h.0

pub unlimited : {e : ℕ} {x : Tokens} {a : Stmt} → ReadsSimple true e x a → ReadsSimple false e x a
unlimited (ReadsSimple.set n x p q h) = ReadsSimple.set n x p q h.0
unlimited (ReadsSimple.run n x p h) = ReadsSimple.run n x p (unlimited_call h)
unlimited (ReadsSimple.send n x y p h i) = ReadsSimple.send n x y p (unlimited_owner h) (unlimited_call i)

pub unlimited_listener : {x : Tokens} {bs : List Stmt} → ReadsListener true x bs → ReadsListener false x bs
unlimited_listener (ReadsListener.last h) = ReadsListener.last (unlimited h)
unlimited_listener (ReadsListener.ended x p h) = ReadsListener.ended x p (unlimited h)
unlimited_listener (ReadsListener.more x y p h i) = ReadsListener.more x y p (unlimited h) (unlimited_listener i)

-- ---- listeners

-- the whole of the tokens is a listener
abbrev pub Listens : Tokens → List Stmt → Tokens → Type 0
Listens ts bs us = (us ≡ []) × ReadsListener true ts bs

ends_all : (us : Tokens) → is_last us ≡ true → us ≡ []
ends_all [] e = refl
ends_all (t ∷ us) e = absurd (cc)

pub listener_sound : (c i : ℕ) (ts : Tokens) → Is (Listens ts) (Halted (ReadsListener false) AwaitsListener 33 ts) (listener turns 256 c 32 i ts)
unfolding listener
listener_sound c zero ts = tt
listener_sound c (suc i) ts =
    let T : List Stmt → Tokens → Type 0 = Listens ts in
    let Q : Type 0 = Halted (ReadsListener false) AwaitsListener 33 ts in
    explain (Read (ReadsSimple true 0) ts) (Halted (ReadsSimple false 0) AwaitsSimple 33 ts) T Q (simple turns 256 c 32 ts) _ (simple_sound c 0 32 (omega arith) ts)
    (λ a us t. case_if T Q (is_last us) (Ok (a ∷ [], us)) _
    (λ y. (ends_all us y, subst (λ z. ReadsListener true z (a ∷ [])) (sym (t.all ∙ ap (λ z. t.text ++ z) (ends_all us y) ∙ append-nil t.text)) (ReadsListener.last t.reads)))
    (λ n. explain (λ _ vs. (q : Place) × (us ≡ sign s.Semicolon q ∷ vs)) ⊥ T Q (expect s.Semicolon us) _ (expect_is s.Semicolon us)
    (λ _ vs f.
    let p : Tokens = t.text ++ sign s.Semicolon f.0 ∷ [] in
    let all : ts ≡ p ++ vs = t.all ∙ ap (λ z. t.text ++ z) f.1 ∙ sym (append_assoc t.text (sign s.Semicolon f.0 ∷ []) vs) in
    case_if T Q (is_last vs) (Ok (a ∷ [], vs)) _
    (λ y. (ends_all vs y, subst (λ z. ReadsListener true z (a ∷ [])) (sym (all ∙ ap (λ z. p ++ z) (ends_all vs y) ∙ append-nil p)) (ReadsListener.ended t.text f.0 t.reads)))
    (λ n2. explain (Listens vs) (Halted (ReadsListener false) AwaitsListener 33 vs) T Q (listener turns 256 c 32 i vs) _ (listener_sound c i vs)
    (λ bs ws w. (w.0, subst (λ z. ReadsListener true z (a ∷ bs)) (sym (all ∙ append_assoc t.text (sign s.Semicolon f.0 ∷ []) vs)) (ReadsListener.more t.text vs f.0 t.reads w.1)))
    (halted_in (ReadsListener false) AwaitsListener (ReadsListener false) AwaitsListener p [] (λ bs. a ∷ bs)
    (λ x bs r. no_tail (ReadsListener false) p x (a ∷ bs) (subst (λ z. ReadsListener false z (a ∷ bs)) (sym (append_assoc t.text (sign s.Semicolon f.0 ∷ []) x)) (ReadsListener.more t.text x f.0 (unlimited t.reads) r)))
    (λ y w. subst AwaitsListener (sym (append_assoc t.text (sign s.Semicolon f.0 ∷ []) y)) (AwaitsListener.later t.text y f.0 (unlimited t.reads) w)) (λ m. m) (λ m r. ap (opens m) (append_assoc t.text (sign s.Semicolon f.0 ∷ []) r) ∙ t.even m (sign s.Semicolon f.0 ∷ r)) 33 33 (λ m. omega arith) vs ts all)))
    (λ none. absurd none)))
    (halted_in (ReadsSimple false 0) AwaitsSimple (ReadsListener false) AwaitsListener [] [] (λ a. a ∷ []) (λ x a r. no_tail (ReadsListener false) [] x (a ∷ []) (ReadsListener.last r)) (λ y w. AwaitsListener.here w) (λ m. m) (λ m r. refl) 33 33 (λ m. omega arith) ts ts refl)
