-- The laws of listeners at a whole list of tokens.
use Rattle.std.proofs.Common.{◌≡◌, ℕ, suc, ◌<◌, List, [], ◌++◌, length, ap, subst, arith}
use Rattle.std.proofs.lemmas.List.{append-nil}
use Rattle.std.specs.Prelude.{true, false, Ok, Err}
use Rattle.ng_ast.specs.declared.Stmt.{Stmt}
use Rattle.ng_exprs.specs.declared.halt.Halt.{Halt}
use Rattle.ng_exprs.specs.declared.halt.Halt.TheVariants as h
use Rattle.ng_exprs.specs.Gives.{Fails}
use Rattle.ng_exprs.specs.Grammar.{Tokens}
use Rattle.ng_exprs.specs.Limits.{Within}
use Rattle.ng_exprs.specs.Parse.{Syntax, Limit, turns}
use Rattle.ng_exprs.specs.Statements.{ReadsListener, EndsLong, OverIn}
use Rattle.ng_exprs.specs.Awaits.{AwaitsListener}
use Rattle.ng_exprs.specs.Lines.{listener, most}
use Rattle.ng_exprs.specs.Listening.{AnswersListener}
use Rattle.ng_exprs.proofs.Outcomes.{Is}
use Rattle.ng_exprs.proofs.Keeping.{keeps_listener}
use Rattle.ng_exprs.proofs.Awaiting.{listener_not_long}
use Rattle.ng_exprs.proofs.Serving.{serves_any, serves_exactly, serves_freely}
use Rattle.ng_exprs.proofs.Phrases.{exact_by, one_by, over_by, not_over_by, within_not}
use Rattle.ng_exprs.proofs.LinesComplete.{GetsL, listener_gets}
use Rattle.ng_exprs.proofs.LinesSound.{Halted, Listens, listener_sound, unlimited_listener}

pub listener_ok : (ts : Tokens) (bs : List Stmt) (us : Tokens) → listener turns 256 most 32 most ts ≡ Ok (bs, us) → AnswersListener ts (Ok bs)
listener_ok ts bs us e = (subst (Is (Listens ts) (Halted (ReadsListener false) AwaitsListener 33 ts)) e (listener_sound most most ts)).1

silent : (c : ℕ) (ts : Tokens) → length ts < c → listener turns 256 c 32 c ts ≡ Err Syntax → (bs : List Stmt) → ReadsListener false ts bs → ⊥
silent c ts len e bs i = subst (GetsL (Unit {0}) bs []) e (listener_gets false (Unit {0}) turns 256 c 32 (serves_any c) 32 (omega arith) i len c (omega arith))

over : (c : ℕ) (ts : Tokens) → listener turns 256 c 32 c ts ≡ Err Limit → OverIn (ReadsListener false) AwaitsListener ts
over c ts e = over_by (ReadsListener false) AwaitsListener ts (subst (Is (Listens ts) (Halted (ReadsListener false) AwaitsListener 33 ts)) e (listener_sound c c ts))

within : (c : ℕ) (ts : Tokens) → length ts < c → listener turns 256 c 32 c ts ≡ Err Limit → (bs : List Stmt) → ReadsListener true ts bs → ⊥
within c ts len e bs i = within_not bs (listener turns 256 c 32 c ts) e (listener_gets true ⊥ turns 256 c 32 (serves_exactly c) 32 (omega arith) i len c (omega arith))

pub listener_err : (ts : Tokens) (e : Halt) → length ts < 1048577 → Fails (listener turns 256 most 32 most ts) e → AnswersListener ts (Err e)
unfolding most
listener_err ts (h.Syntax p) len f = silent most ts len f
listener_err ts (h.Limit p) len f = (over most ts f, within most ts len f)
listener_err ts h.Memory len f = tt

-- tokens are one listener at most
pub listener_one : (ts : Tokens) (a b : List Stmt) → ReadsListener false ts a → ReadsListener false ts b → a ≡ b
listener_one ts a b i j =
    let c : ℕ = suc (length ts) in
    one_by a b (listener c c c c c ts) (gets a i) (gets b j)
  where
    gets : (x : List Stmt) → ReadsListener false ts x → GetsL ⊥ x [] (listener (suc (length ts)) (suc (length ts)) (suc (length ts)) (suc (length ts)) (suc (length ts)) ts)
    gets x i = let c : ℕ = suc (length ts) in listener_gets false ⊥ c c c c (serves_freely c) c (omega arith) i (omega arith) c (omega arith)

pub unlimited_lines : (ts : Tokens) (bs : List Stmt) → ReadsListener true ts bs → ReadsListener false ts bs
unlimited_lines ts bs i = unlimited_listener i

-- a listener within the limits is over none
pub lines_inside : (ts : Tokens) (bs : List Stmt) → ReadsListener true ts bs → OverIn (ReadsListener false) AwaitsListener ts → ⊥
lines_inside ts bs i = not_over_by (ReadsListener false) AwaitsListener ts (subst (Within 32 0) (append-nil ts) (keeps_listener i [] tt)) (short (suc (length ts)) (omega arith))
  where
    short : (c : ℕ) → length ts < c → (front tail : Tokens) → ts ≡ front ++ tail → EndsLong AwaitsListener front → ⊥
    short c len front tail all =
        let found : listener turns 256 c 32 c ts ≡ Ok (bs, []) = exact_by bs (listener turns 256 c 32 c ts) (listener_gets true ⊥ turns 256 c 32 (serves_exactly c) 32 (omega arith) i len c (omega arith)) in
        listener_not_long c front tail (bs, []) (omega (arith, len, ap length all)) (subst (λ z. listener turns 256 c 32 c z ≡ Ok (bs, [])) all found)
