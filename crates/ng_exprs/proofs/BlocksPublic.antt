-- The laws of bodies at a whole list of tokens.
use Rattle.std.proofs.Common.{◌≡◌, ℕ, suc, ◌<◌, ◌≤◌, List, [], ◌∷◌, ◌++◌, length, refl, sym, ◌∙◌, ap, subst, arith}
use Rattle.std.proofs.lemmas.List.{append-nil}
use Rattle.std.specs.Prelude.{Bool, true, false, Ok, Err}
use Rattle.ng_ast.specs.declared.Stmt.{Stmt}
use Rattle.ng_exprs.specs.declared.halt.Halt.{Halt}
use Rattle.ng_exprs.specs.declared.halt.Halt.TheVariants as h
use Rattle.ng_exprs.specs.Gives.{Fails}
use Rattle.ng_exprs.specs.Grammar.{Tokens}
use Rattle.ng_exprs.specs.Limits.{Within}
use Rattle.ng_exprs.specs.Parse.{Syntax, Limit, turns}
use Rattle.ng_exprs.specs.Statements.{ReadsStmts, EndsLong, OverIn}
use Rattle.ng_exprs.specs.Awaits.{AwaitsBody}
use Rattle.ng_exprs.specs.Lines.{most}
use Rattle.ng_exprs.specs.Blocks.{statements, body}
use Rattle.ng_exprs.specs.Bodies.{ReadsWhole, AnswersStatements}
use Rattle.ng_exprs.proofs.Outcomes.{Is}
use Rattle.ng_exprs.proofs.Keeping.{keeps_stmts}
use Rattle.ng_exprs.proofs.AwaitingBlocks.{body_not_long}
use Rattle.ng_exprs.proofs.Serving.{serves_any, serves_exactly, serves_freely}
use Rattle.ng_exprs.proofs.Phrases.{exact_by, one_by, over_by, not_over_by, within_not}
use Rattle.ng_exprs.proofs.LinesComplete.{GetsL, Serves}
use Rattle.ng_exprs.proofs.LinesSound.{Read, Halted}
use Rattle.ng_exprs.proofs.BlocksComplete.{stmts_gets}
use Rattle.ng_exprs.proofs.BlocksSound.{body_sound, unlimited_stmts}

whole_gets : (l : Bool) (L : Type 0) (n m c D : ℕ) → Serves l L n m c D → (ts : Tokens) (bs : List Stmt) → length ts < c → ReadsWhole l ts bs → GetsL L bs [] (body n m c (suc D) ts)
unfolding body
whole_gets l L n m c D serves ts bs len i =
    subst (λ z. GetsL L bs [] (statements n m c (body n m c D) D c z)) (append-nil ts)
    (stmts_gets l L n m c D serves 0 D (omega arith) i [] refl (rw append-nil (omega arith)) c len)

no_more : (us : Tokens) → length us ≤ 0 → us ≡ []
no_more [] e = refl
no_more (t ∷ us) e = absurd (omega arith)

-- a body that was read to the end of the tokens
pub body_ok : (ts : Tokens) (bs : List Stmt) (us : Tokens) → body turns 256 most 33 ts ≡ Ok (bs, us) → length us ≤ 0 → AnswersStatements ts (Ok bs)
body_ok ts bs us e none =
    let t : Read (ReadsStmts true 0) ts bs us = subst (Is (Read (ReadsStmts true 0) ts) (Halted (ReadsStmts false 0) (AwaitsBody 0) 33 ts)) e (body_sound most 0 32 (omega arith) ts) in
    subst (λ z. ReadsStmts true 0 z bs) (sym (t.all ∙ ap (λ z. t.text ++ z) (no_more us none) ∙ append-nil t.text)) t.reads

gets_any : (c : ℕ) (ts : Tokens) (bs : List Stmt) → length ts < c → ReadsWhole false ts bs → GetsL (Unit {0}) bs [] (body turns 256 c 33 ts)
gets_any c ts bs len i = whole_gets false (Unit {0}) turns 256 c 32 (serves_any c) ts bs len i

-- tokens that are left make the whole no body
pub body_rest : (ts : Tokens) (found : List Stmt) (us : Tokens) → length ts < 1048577 → body turns 256 most 33 ts ≡ Ok (found, us) → 0 < length us → (bs : List Stmt) → ReadsWhole false ts bs → ⊥
unfolding most
body_rest ts found us len e some bs i =
    let g : ◌≡◌ {A = List Stmt × Tokens} (found, us) (bs, []) = subst (GetsL (Unit {0}) bs []) e (gets_any most ts bs len i) in
    let none : us ≡ [] = ap (λ q. q.1) g in
    absurd (omega (arith, ap length none))

silent : (c : ℕ) (ts : Tokens) → length ts < c → body turns 256 c 33 ts ≡ Err Syntax → (bs : List Stmt) → ReadsWhole false ts bs → ⊥
silent c ts len e bs i = subst (GetsL (Unit {0}) bs []) e (gets_any c ts bs len i)

over : (c : ℕ) (ts : Tokens) → body turns 256 c 33 ts ≡ Err Limit → OverIn (ReadsWhole false) (AwaitsBody 0) ts
over c ts e = over_by (ReadsWhole false) (AwaitsBody 0) ts (subst (Is (Read (ReadsStmts true 0) ts) (Halted (ReadsStmts false 0) (AwaitsBody 0) 33 ts)) e (body_sound c 0 32 (omega arith) ts))

within : (c : ℕ) (ts : Tokens) → length ts < c → body turns 256 c 33 ts ≡ Err Limit → (bs : List Stmt) → ReadsWhole true ts bs → ⊥
within c ts len e bs i = within_not bs (body turns 256 c 33 ts) e (whole_gets true ⊥ turns 256 c 32 (serves_exactly c) ts bs len i)

pub body_err : (ts : Tokens) (e : Halt) → length ts < 1048577 → Fails (body turns 256 most 33 ts) e → AnswersStatements ts (Err e)
unfolding most
body_err ts (h.Syntax p) len f = silent most ts len f
body_err ts (h.Limit p) len f = (over most ts f, within most ts len f)
body_err ts h.Memory len f = tt

-- tokens are one body at most
pub body_one : (ts : Tokens) (a b : List Stmt) → ReadsWhole false ts a → ReadsWhole false ts b → a ≡ b
body_one ts a b i j = let c : ℕ = suc (length ts) in one_by a b (body c c c (suc c) ts) (gets c (omega arith) a i) (gets c (omega arith) b j)
  where
    gets : (c : ℕ) → length ts < c → (x : List Stmt) → ReadsWhole false ts x → GetsL ⊥ x [] (body c c c (suc c) ts)
    gets c len x i = whole_gets false ⊥ c c c c (serves_freely c) ts x len i

pub unlimited_body : (ts : Tokens) (bs : List Stmt) → ReadsWhole true ts bs → ReadsWhole false ts bs
unlimited_body ts bs i = unlimited_stmts i

-- a body within the limits is over none
pub body_inside : (ts : Tokens) (bs : List Stmt) → ReadsWhole true ts bs → OverIn (ReadsWhole false) (AwaitsBody 0) ts → ⊥
body_inside ts bs i = not_over_by (ReadsWhole false) (AwaitsBody 0) ts (subst (Within 32 0) (append-nil ts) (keeps_stmts (omega arith) i [] tt)) (short (suc (length ts)) (omega arith))
  where
    short : (c : ℕ) → length ts < c → (front tail : Tokens) → ts ≡ front ++ tail → EndsLong (AwaitsBody 0) front → ⊥
    short c len front tail all =
        let found : body turns 256 c 33 ts ≡ Ok (bs, []) = exact_by bs (body turns 256 c 33 ts) (whole_gets true ⊥ turns 256 c 32 (serves_exactly c) ts bs len i) in
        body_not_long c front tail (bs, []) (omega (arith, len, ap length all)) (subst (λ z. body turns 256 c 33 z ≡ Ok (bs, [])) all found)
