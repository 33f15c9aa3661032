-- What the function of bodies reads is in the grammar and keeps the limits, and where it stops at a limit, one is passed.
use Rattle.std.proofs.Common.{◌≡◌, ℕ, zero, suc, ◌+◌, List, [], ◌∷◌, ◌++◌, refl, sym, ◌∙◌, ap, subst, append_assoc, arith, inl}
use Rattle.std.specs.Prelude.{Bool, true, false, cond, codes, Ok}
use Rattle.ng_ast.specs.declared.Place.{Place}
use Rattle.ng_ast.specs.declared.Expr.{Expr}
use Rattle.ng_ast.specs.declared.Stmt.{Stmt}
use Rattle.ng_ast.specs.declared.Stmt.TheVariants as b
use Rattle.ng_tokens.specs.declared.kinds.Sign.{Sign}
use Rattle.ng_tokens.specs.declared.kinds.Sign.TheVariants as s
use Rattle.ng_tokens.specs.declared.kinds.Kind.{Kind}
use Rattle.ng_tokens.specs.declared.kinds.Kind.TheVariants as k
use Rattle.ng_exprs.specs.Grammar.{Tokens, token, sign, start, origin}
use Rattle.ng_exprs.specs.Limits.{opens}
use Rattle.ng_exprs.specs.Parse.{Outcome, Parser, same, peek, rest, is_sign, expect, limit, turns}
use Rattle.ng_exprs.specs.Statements.{IsExpr, IsOpen, ReadsSomeArgs, ReadsArgs, ReadsCall, ReadsSimple, ReadsTest, ReadsStmt, ReadsBlock, ReadsElse, ReadsStmts}
use Rattle.ng_exprs.specs.Awaits.{AwaitsArg, AwaitsSimple, AwaitsBody}
use Rattle.ng_exprs.specs.Lines.{args, simple}
use Rattle.ng_exprs.specs.Blocks.{is_word, sees_word, is_over, block, other, only, branch, branched, conditional, statement, statements, body}
use Rattle.ng_exprs.proofs.Outcomes.{Is, explain, weaken, case_if, seen, expect_is}
use Rattle.ng_exprs.proofs.LinesSound.{Read, Halted, halted_in, no_tail, Closes, args_sound, simple_sound, unlimited}
use Rattle.ng_exprs.proofs.BlocksComplete.{word_is}

-- ---- what keeps the limits is in the grammar

unlimited_test : {e : ℕ} {x : Tokens} {a : Expr} → ReadsTest true e x a → ReadsTest false e x a
unlimited_test (ReadsTest.test x p q r room h) = ReadsTest.test x p q r tt h.0

mutual
  unlimited_stmt : {e : ℕ} {x : Tokens} {a : Stmt} → ReadsStmt true e x a → ReadsStmt false e x a
  unlimited_stmt (ReadsStmt.plain x p h) = ReadsStmt.plain x p (unlimited h)
  unlimited_stmt (ReadsStmt.conditional x y z h i j) = ReadsStmt.conditional x y z (unlimited_test h) (unlimited_block i) (unlimited_else j)

  unlimited_block : {e : ℕ} {x : Tokens} {bs : List Stmt} → ReadsBlock true e x bs → ReadsBlock false e x bs
  unlimited_block (ReadsBlock.block x p q room h) = ReadsBlock.block x p q tt (unlimited_stmts h)

  unlimited_else : {e : ℕ} {x : Tokens} {bs : List Stmt} → ReadsElse true e x bs → ReadsElse false e x bs
  unlimited_else ReadsElse.no_else = ReadsElse.no_else
  unlimited_else (ReadsElse.with_else x p h) = ReadsElse.with_else x p (unlimited_block h)

  pub unlimited_stmts : {e : ℕ} {x : Tokens} {bs : List Stmt} → ReadsStmts true e x bs → ReadsStmts false e x bs
  unlimited_stmts ReadsStmts.none = ReadsStmts.none
  unlimited_stmts (ReadsStmts.next x y h i) = ReadsStmts.next x y (unlimited_stmt h) (unlimited_stmts i)

-- ---- words

seen_if : (w : List ℕ) (x : Sign) (kind : Kind) (p : Place) (us : Tokens) (u : Bool) → is_word w kind ≡ u → cond u (is_sign x (peek us)) false ≡ true → (q : Place) × (token kind p ∷ us ≡ token (k.Name w) p ∷ (sign x q ∷ rest us))
seen_if w x (k.Name n) p us true e f = let g : (q : Place) × (us ≡ sign x q ∷ rest us) = seen x us f in (g.0, ap (λ v. token (k.Name v) p ∷ us) (sym (word_is w n e)) ∙ ap (λ z. token (k.Name w) p ∷ z) g.1)
seen_if w x (k.Number n) p us true e f = absurd (cc)
seen_if w x (k.Text n) p us true e f = absurd (cc)
seen_if w x (k.Variable n) p us true e f = absurd (cc)
seen_if w x (k.Sign n) p us true e f = absurd (cc)
seen_if w x kind p us false e f = absurd (cc)

-- a word and a sign that are seen are there
seen_word : (w : List ℕ) (x : Sign) (ts : Tokens) → sees_word w x ts ≡ true → (p : Place) × (q : Place) × (ts ≡ token (k.Name w) p ∷ (sign x q ∷ rest (rest ts)))
seen_word w x [] e = absurd (cc)
seen_word w x (t ∷ us) e = let g = seen_if w x t.kind t.place us (is_word w t.kind) refl e in (t.place, g.0, g.1)

-- ---- blocks

-- where a block that is begun awaits an expression
abbrev pub InBlock : ℕ → Tokens → Type 0
InBlock e y = (q : Place) × (z : Tokens) × (y ≡ sign s.OpenBrace q ∷ z) × AwaitsBody (suc e) z

-- and where an `else` part does
abbrev pub InElse : ℕ → Tokens → Type 0
InElse e y = (p : Place) × (z : Tokens) × (y ≡ token (k.Name (codes "else")) p ∷ z) × InBlock e z

awaits_block : (e : ℕ) (pre : Tokens) (a : Expr) → ReadsTest false e pre a → (y : Tokens) → InBlock e y → AwaitsBody e (pre ++ y)
awaits_block e pre a h y (q, z, eq, w) = subst (λ v. AwaitsBody e (pre ++ v)) (sym eq) (AwaitsBody.taken pre z q h w)

awaits_else : (e : ℕ) (pre text : Tokens) (a : Expr) (bs : List Stmt) → ReadsTest false e pre a → ReadsBlock false e text bs → (y : Tokens) → InElse e y → AwaitsBody e ((pre ++ text) ++ y)
awaits_else e pre text a bs h i y (p, z, eq, (q, u, eq2, w)) =
    subst (AwaitsBody e) (sym (append_assoc pre text y)) (
    subst (λ v. AwaitsBody e (pre ++ (text ++ v))) (sym (eq ∙ ap (λ v. token (k.Name (codes "else")) p ∷ v) eq2)) (AwaitsBody.otherwise pre text u p q h i w))

-- what a block is to its parser, where d more brackets may be open
abbrev pub Braces : ℕ → ℕ → Parser (List Stmt) → Type 0
Braces e d inner = (ts : Tokens) → Is (Read (ReadsBlock true e) ts) (Halted (ReadsBlock false e) (InBlock e) (suc d) ts) (block inner ts)

no_braces : (e : ℕ) → Braces e 0 limit
unfolding block
no_braces e = λ ts.
    let T : List Stmt → Tokens → Type 0 = Read (ReadsBlock true e) ts in
    let Q : Type 0 = Halted (ReadsBlock false e) (InBlock e) 1 ts in
    explain (λ _ us. (q : Place) × (ts ≡ sign s.OpenBrace q ∷ us)) ⊥ T Q (expect s.OpenBrace ts) _ (expect_is s.OpenBrace ts)
    (λ _ us f. record {
      text = sign s.OpenBrace f.0 ∷ [];
      tail = us;
      more = sign s.CloseBrace origin ∷ [];
      value = [];
      all = f.1;
      reads = ReadsBlock.block [] f.0 origin tt ReadsStmts.none;
      passes = inl (λ m. omega arith);
    })
    (λ none. absurd none)

some_braces : (e d : ℕ) → suc e + d ≡ 32 → (inner : Parser (List Stmt)) → ((ts : Tokens) → Is (Read (ReadsStmts true (suc e)) ts) (Halted (ReadsStmts false (suc e)) (AwaitsBody (suc e)) (suc d) ts) (inner ts)) → Braces e (suc d) inner
unfolding block
some_braces e d eq inner h = λ ts.
    let T : List Stmt → Tokens → Type 0 = Read (ReadsBlock true e) ts in
    let Q : Type 0 = Halted (ReadsBlock false e) (InBlock e) (suc (suc d)) ts in
    explain (λ _ us. (q : Place) × (ts ≡ sign s.OpenBrace q ∷ us)) ⊥ T Q (expect s.OpenBrace ts) _ (expect_is s.OpenBrace ts)
    (λ _ us f. explain (Read (ReadsStmts true (suc e)) us) (Halted (ReadsStmts false (suc e)) (AwaitsBody (suc e)) (suc d) us) T Q (inner us) _ (h us)
    (λ bs vs t. explain (λ _ ws. (q : Place) × (vs ≡ sign s.CloseBrace q ∷ ws)) ⊥ T Q (expect s.CloseBrace vs) _ (expect_is s.CloseBrace vs)
    (λ _ ws g.
    let close : Tokens = sign s.CloseBrace g.0 ∷ [] in record {
      text = sign s.OpenBrace f.0 ∷ t.text ++ close;
      all = f.1 ∙ ap (λ z. sign s.OpenBrace f.0 ∷ z) (t.all ∙ ap (λ z. t.text ++ z) g.1 ∙ sym (append_assoc t.text close ws));
      reads = ReadsBlock.block t.text f.0 g.0 (omega arith) t.reads;
      even = λ m r. ap (opens (suc m)) (append_assoc t.text close r) ∙ t.even (suc m) (close ++ r);
    })
    (λ none. absurd none))
    (halted_in (ReadsStmts false (suc e)) (AwaitsBody (suc e)) (ReadsBlock false e) (InBlock e) (sign s.OpenBrace f.0 ∷ []) (sign s.CloseBrace origin ∷ []) (λ bs. bs) (λ x bs r. ReadsBlock.block x f.0 origin tt r)
    (λ y w. (f.0, y, refl, w)) suc (λ m r. refl) (suc d) (suc (suc d)) (λ m. omega arith) us ts f.1))
    (λ none. absurd none)

-- the `else` part, or nothing
other_sound : (e d : ℕ) (inner : Parser (List Stmt)) → Braces e d inner → (ts : Tokens) → Is (Read (ReadsElse true e) ts) (Halted (ReadsElse false e) (InElse e) (suc d) ts) (other inner ts)
unfolding other
other_sound e d inner h ts =
    let T : List Stmt → Tokens → Type 0 = Read (ReadsElse true e) ts in
    let Q : Type 0 = Halted (ReadsElse false e) (InElse e) (suc d) ts in
    case_if T Q (sees_word (codes "else") s.OpenBrace ts) (block inner (rest ts)) (Ok ([], ts))
    (λ y. let f : (p : Place) × (q : Place) × (ts ≡ token (k.Name (codes "else")) p ∷ (sign s.OpenBrace q ∷ rest (rest ts))) = seen_word (codes "else") s.OpenBrace ts y in
    let word : Tokens = token (k.Name (codes "else")) f.0 ∷ [] in
    let all : ts ≡ word ++ rest ts = f.2 ∙ ap (λ z. token (k.Name (codes "else")) f.0 ∷ z) (sym (ap rest f.2)) in
    weaken (Read (ReadsBlock true e) (rest ts)) (Halted (ReadsBlock false e) (InBlock e) (suc d) (rest ts)) T Q (block inner (rest ts)) (h (rest ts)) (λ bs us t. record {
      text = word ++ t.text;
      all = all ∙ ap (λ z. word ++ z) t.all;
      reads = ReadsElse.with_else t.text f.0 t.reads;
      even = λ m r. t.even m r;
    })
    (halted_in (ReadsBlock false e) (InBlock e) (ReadsElse false e) (InElse e) word [] (λ bs. bs) (λ x bs r. no_tail (ReadsElse false e) word x bs (ReadsElse.with_else x f.0 r)) (λ y w. (f.0, y, refl, w)) (λ m. m) (λ m r. refl) (suc d) (suc d) (λ m. omega arith) (rest ts) ts all))
    (λ n. record { text = []; all = refl; reads = ReadsElse.no_else; even = λ m r. refl })

-- ---- statements

-- what a statement is to its parser
abbrev pub Goes : ℕ → ℕ → Tokens → Outcome Stmt → Type 0
Goes e d ts r = Is (Read (ReadsStmt true e) ts) (Halted (ReadsStmt false e) (AwaitsBody e) (suc d) ts) r

branch_sound : (e d : ℕ) (inner : Parser (List Stmt)) → Braces e d inner → (pre : Tokens) (a : Expr) → ReadsTest true e pre a → ((m : ℕ) (r : Tokens) → opens m (pre ++ r) ≡ opens m r) → (ts : Tokens)
    → Goes e d (pre ++ ts) (branch inner (start pre) a ts)
unfolding branch
branch_sound e d inner h pre a tested even ts =
    let T : Stmt → Tokens → Type 0 = Read (ReadsStmt true e) (pre ++ ts) in
    let Q : Type 0 = Halted (ReadsStmt false e) (AwaitsBody e) (suc d) (pre ++ ts) in
    explain (Read (ReadsBlock true e) ts) (Halted (ReadsBlock false e) (InBlock e) (suc d) ts) T Q (block inner ts) _ (h ts)
    (λ taken us t.
    let before : Tokens = pre ++ t.text in
    let all : pre ++ ts ≡ before ++ us = ap (λ z. pre ++ z) t.all ∙ sym (append_assoc pre t.text us) in
    let counts : (m : ℕ) (r : Tokens) → opens m (before ++ r) ≡ opens m r = λ m r. ap (opens m) (append_assoc pre t.text r) ∙ even m (t.text ++ r) ∙ t.even m r in
    explain (Read (ReadsElse true e) us) (Halted (ReadsElse false e) (InElse e) (suc d) us) T Q (other inner us) _ (other_sound e d inner h us)
    (λ otherwise vs w. record {
      text = pre ++ (t.text ++ w.text);
      all = ap (λ z. pre ++ z) (t.all ∙ ap (λ z. t.text ++ z) w.all ∙ sym (append_assoc t.text w.text vs)) ∙ sym (append_assoc pre (t.text ++ w.text) vs);
      reads = ReadsStmt.conditional pre t.text w.text tested t.reads w.reads;
      even = λ m r. ap (opens m) (append_assoc pre (t.text ++ w.text) r ∙ ap (λ z. pre ++ z) (append_assoc t.text w.text r)) ∙ even m (t.text ++ (w.text ++ r)) ∙ t.even m (w.text ++ r) ∙ w.even m r;
    })
    (halted_in (ReadsElse false e) (InElse e) (ReadsStmt false e) (AwaitsBody e) before [] (λ otherwise. b.If (start pre) a taken otherwise)
    (λ x otherwise r. no_tail (ReadsStmt false e) before x (b.If (start pre) a taken otherwise) (subst (λ z. ReadsStmt false e z (b.If (start pre) a taken otherwise)) (sym (append_assoc pre t.text x)) (ReadsStmt.conditional pre t.text x (unlimited_test tested) (unlimited_block t.reads) r)))
    (awaits_else e pre t.text a taken (unlimited_test tested) (unlimited_block t.reads)) (λ m. m) counts (suc d) (suc d) (λ m. omega arith) us (pre ++ ts) all))
    (halted_in (ReadsBlock false e) (InBlock e) (ReadsStmt false e) (AwaitsBody e) pre [] (λ taken. b.If (start pre) a taken []) (λ x taken r. ReadsStmt.conditional pre x [] (unlimited_test tested) r ReadsElse.no_else) (awaits_block e pre a (unlimited_test tested)) (λ m. m) even (suc d) (suc d) (λ m. omega arith) ts (pre ++ ts) refl)

-- one expression, where arguments may stand
one_arg : {e : ℕ} {x : Tokens} {es : List Expr} → ReadsSomeArgs true e x es → (a : Expr) → es ≡ a ∷ [] → IsExpr true e x a
one_arg {e = e} (ReadsSomeArgs.last_arg {x = x} h) a same_list = subst (λ z. IsExpr true e x z) (first same_list) h
  where
    first : {b a : Expr} → b ∷ [] ≡ a ∷ [] → b ≡ a
    first g = cc
one_arg (ReadsSomeArgs.next_arg x y p h i) a same_list = absurd (some i (tail same_list))
  where
    tail : {b a : Expr} {es : List Expr} → b ∷ es ≡ a ∷ [] → es ≡ []
    tail g = cc

    some : {e : ℕ} {x : Tokens} {es : List Expr} → ReadsSomeArgs true e x es → es ≡ [] → ⊥
    some (ReadsSomeArgs.last_arg h) g = cc
    some (ReadsSomeArgs.next_arg x y p h i) g = cc

one_of : {e : ℕ} {x : Tokens} {es : List Expr} → ReadsArgs true e x es → (a : Expr) → es ≡ a ∷ [] → IsExpr true e x a
one_of ReadsArgs.no_arg a g = absurd (cc)
one_of (ReadsArgs.some_args h) a g = one_arg h a g

-- after the arguments of what may be an `if`
blocks_sound : (e d : ℕ) (inner : Parser (List Stmt)) → Braces e d inner → (p q r : Place) (x : Tokens) (es : List Expr) → IsOpen true (suc e) → ReadsArgs true (suc e) x es → ((m : ℕ) (z : Tokens) → opens m (x ++ z) ≡ opens m z) → (ts : Tokens)
    → Goes e d ((token (k.Name (codes "if")) p ∷ sign s.OpenRound q ∷ x ++ sign s.CloseRound r ∷ []) ++ ts) (branched inner p (only es) ts)
blocks_sound e d inner h p q r x [] room reads even ts = tt
blocks_sound e d inner h p q r x (a ∷ []) room reads even ts =
    let pre : Tokens = token (k.Name (codes "if")) p ∷ sign s.OpenRound q ∷ x ++ sign s.CloseRound r ∷ [] in
    branch_sound e d inner h pre a (ReadsTest.test x p q r room (one_of reads a refl)) (λ m z. ap (opens (suc m)) (append_assoc x (sign s.CloseRound r ∷ []) z) ∙ even (suc m) (sign s.CloseRound r ∷ z)) ts
blocks_sound e d inner h p q r x (a ∷ c ∷ es) room reads even ts = tt

conditional_sound : (c e d : ℕ) → e + d ≡ 32 → (inner : Parser (List Stmt)) → Braces e d inner → (p q : Place) (ts : Tokens)
    → Goes e d (token (k.Name (codes "if")) p ∷ (sign s.OpenRound q ∷ ts)) (conditional turns 256 c inner d p (token (k.Name (codes "if")) p ∷ (sign s.OpenRound q ∷ ts)))
unfolding conditional same
conditional_sound c e d eq inner h p q ts =
    let pre : Tokens = token (k.Name (codes "if")) p ∷ sign s.OpenRound q ∷ [] in
    let T : Stmt → Tokens → Type 0 = Read (ReadsStmt true e) (pre ++ ts) in
    let Q : Type 0 = Halted (ReadsStmt false e) (AwaitsBody e) (suc d) (pre ++ ts) in
    explain (Closes e ts) (Halted (ReadsArgs false (suc e)) AwaitsArg d ts) T Q (args turns 256 c d ts) _ (args_sound c e d eq ts)
    (λ es us t.
    let close : Tokens = sign s.CloseRound t.1 ∷ [] in
    let all : pre ++ ts ≡ (pre ++ (t.0 ++ close)) ++ us = ap (λ z. pre ++ z) (t.2 ∙ sym (append_assoc t.0 close us)) in
    case_if T Q (is_sign s.OpenBrace (peek us)) (branched inner p (only es) us) _
    (λ y. subst (λ z. Goes e d z (branched inner p (only es) us)) (sym all) (blocks_sound e d inner h p q t.1 t.0 es t.3 t.4 t.5 us))
    (λ n. explain (λ _ vs. (u : Place) × (us ≡ sign s.Semicolon u ∷ vs)) ⊥ T Q (expect s.Semicolon us) _ (expect_is s.Semicolon us)
    (λ _ vs f. let last : Tokens = sign s.Semicolon f.0 ∷ [] in record {
      text = (pre ++ (t.0 ++ close)) ++ last;
      all = all ∙ ap (λ z. (pre ++ (t.0 ++ close)) ++ z) f.1 ∙ sym (append_assoc (pre ++ (t.0 ++ close)) last vs);
      reads = ReadsStmt.plain (pre ++ (t.0 ++ close)) f.0 (ReadsSimple.run (codes "if") _ p (ReadsCall.call t.0 q t.1 t.3 t.4));
      even = λ m r. ap (opens m) (append_assoc (pre ++ (t.0 ++ close)) last r) ∙ ap (opens (suc m)) (append_assoc t.0 close (last ++ r)) ∙ t.5 (suc m) (close ++ (last ++ r));
    })
    (λ none. absurd none)))
    (halted_in (ReadsArgs false (suc e)) AwaitsArg (ReadsStmt false e) (AwaitsBody e) pre (sign s.CloseRound p ∷ sign s.Semicolon p ∷ []) (b.Do p (codes "if"))
    (λ x es r. subst (λ z. ReadsStmt false e (pre ++ z) (b.Do p (codes "if") es)) (append_assoc x (sign s.CloseRound p ∷ []) (sign s.Semicolon p ∷ []))
    (ReadsStmt.plain _ p (ReadsSimple.run (codes "if") _ p (ReadsCall.call x q p tt r))))
    (λ y w. AwaitsBody.here (AwaitsSimple.argument (codes "if") y p q w)) suc (λ m r. refl) d (suc d) (λ m. omega arith) ts (pre ++ ts) refl)

statement_sound : (c e d : ℕ) → e + d ≡ 32 → (inner : Parser (List Stmt)) → Braces e d inner → (ts : Tokens) → Goes e d ts (statement turns 256 c inner d ts)
unfolding statement
statement_sound c e d eq inner h ts =
    let T : Stmt → Tokens → Type 0 = Read (ReadsStmt true e) ts in
    let Q : Type 0 = Halted (ReadsStmt false e) (AwaitsBody e) (suc d) ts in
    case_if T Q (sees_word (codes "if") s.OpenRound ts) (conditional turns 256 c inner d (start ts) ts) _
    (λ y. let f : (p : Place) × (q : Place) × (ts ≡ token (k.Name (codes "if")) p ∷ (sign s.OpenRound q ∷ rest (rest ts))) = seen_word (codes "if") s.OpenRound ts y in
    subst (λ z. Goes e d z (conditional turns 256 c inner d (start z) z)) (sym f.2) (conditional_sound c e d eq inner h f.0 f.1 (rest (rest ts))))
    (λ n. explain (Read (ReadsSimple true e) ts) (Halted (ReadsSimple false e) AwaitsSimple (suc d) ts) T Q (simple turns 256 c d ts) _ (simple_sound c e d eq ts)
    (λ a us t. explain (λ _ vs. (q : Place) × (us ≡ sign s.Semicolon q ∷ vs)) ⊥ T Q (expect s.Semicolon us) _ (expect_is s.Semicolon us)
    (λ _ vs f. record {
      text = t.text ++ sign s.Semicolon f.0 ∷ [];
      all = t.all ∙ ap (λ z. t.text ++ z) f.1 ∙ sym (append_assoc t.text (sign s.Semicolon f.0 ∷ []) vs);
      reads = ReadsStmt.plain t.text f.0 t.reads;
      even = λ m r. ap (opens m) (append_assoc t.text (sign s.Semicolon f.0 ∷ []) r) ∙ t.even m (sign s.Semicolon f.0 ∷ r);
    })
    (λ none. absurd none))
    (halted_in (ReadsSimple false e) AwaitsSimple (ReadsStmt false e) (AwaitsBody e) [] (sign s.Semicolon origin ∷ []) (λ a. a) (λ x a r. ReadsStmt.plain x origin r) (λ y w. AwaitsBody.here w) (λ m. m) (λ m r. refl) (suc d) (suc d) (λ m. omega arith) ts ts refl))

-- ---- statements, one after another

statements_sound : (c e d : ℕ) → e + d ≡ 32 → (inner : Parser (List Stmt)) → Braces e d inner → (i : ℕ) (ts : Tokens) → Is (Read (ReadsStmts true e) ts) (Halted (ReadsStmts false e) (AwaitsBody e) (suc d) ts) (statements turns 256 c inner d i ts)
unfolding statements
statements_sound c e d eq inner h zero ts = tt
statements_sound c e d eq inner h (suc i) ts =
    let T : List Stmt → Tokens → Type 0 = Read (ReadsStmts true e) ts in
    let Q : Type 0 = Halted (ReadsStmts false e) (AwaitsBody e) (suc d) ts in
    case_if T Q (is_over ts) (Ok ([], ts)) _
    (λ y. record { text = []; all = refl; reads = ReadsStmts.none; even = λ m r. refl })
    (λ n. explain (Read (ReadsStmt true e) ts) (Halted (ReadsStmt false e) (AwaitsBody e) (suc d) ts) T Q (statement turns 256 c inner d ts) _ (statement_sound c e d eq inner h ts)
    (λ a us t. explain (Read (ReadsStmts true e) us) (Halted (ReadsStmts false e) (AwaitsBody e) (suc d) us) T Q (statements turns 256 c inner d i us) _ (statements_sound c e d eq inner h i us)
    (λ others vs w. record {
      text = t.text ++ w.text;
      all = t.all ∙ ap (λ z. t.text ++ z) w.all ∙ sym (append_assoc t.text w.text vs);
      reads = ReadsStmts.next t.text w.text t.reads w.reads;
      even = λ m r. ap (opens m) (append_assoc t.text w.text r) ∙ t.even m (w.text ++ r) ∙ w.even m r;
    })
    (halted_in (ReadsStmts false e) (AwaitsBody e) (ReadsStmts false e) (AwaitsBody e) t.text [] (λ others. a ∷ others) (λ x others r. no_tail (ReadsStmts false e) t.text x (a ∷ others) (ReadsStmts.next t.text x (unlimited_stmt t.reads) r))
    (λ y w. AwaitsBody.later t.text y (unlimited_stmt t.reads) w) (λ m. m) t.even (suc d) (suc d) (λ m. omega arith) us ts t.all))
    (halted_in (ReadsStmt false e) (AwaitsBody e) (ReadsStmts false e) (AwaitsBody e) [] [] (λ a. a ∷ []) (λ x a r. ReadsStmts.next x [] r ReadsStmts.none) (λ y w. w) (λ m. m) (λ m r. refl) (suc d) (suc d) (λ m. omega arith) ts ts refl))

-- a body where e brackets are open, and d more may be
pub body_sound : (c e d : ℕ) → e + d ≡ 32 → (ts : Tokens) → Is (Read (ReadsStmts true e) ts) (Halted (ReadsStmts false e) (AwaitsBody e) (suc d) ts) (body turns 256 c (suc d) ts)
unfolding body
body_sound c e zero eq ts = statements_sound c e zero eq limit (no_braces e) c ts
body_sound c e (suc d) eq ts = statements_sound c e (suc d) eq (body turns 256 c (suc d)) (some_braces e d (omega arith) (body turns 256 c (suc d)) (body_sound c (suc e) d (omega arith))) c ts
