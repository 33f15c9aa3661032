-- What the grammar reads, the function reads, or it stops at a limit.
use Rattle.std.proofs.Common.{◌≡◌, ℕ, zero, suc, ◌<◌, List, [], ◌∷◌, ◌++◌, refl, sym, ◌∙◌, ap, subst, append_assoc, arith}
use Rattle.std.proofs.lemmas.List.{append-nil}
use Rattle.std.specs.Prelude.{Bool, true, false, Option, Some, None, Ok, Err, cond, if◌then◌else◌, ◌==◌}
use Rattle.ng_ast.specs.declared.Place.{Place}
use Rattle.ng_ast.specs.declared.Binary.{Binary}
use Rattle.ng_ast.specs.declared.Binary.TheVariants as binary
use Rattle.ng_ast.specs.declared.Unary.{Unary}
use Rattle.ng_ast.specs.declared.Unary.TheVariants as unary
use Rattle.ng_ast.specs.declared.Expr.{Expr}
use Rattle.ng_ast.specs.declared.Expr.TheVariants as e
use Rattle.ng_values.specs.declared.value.Value.{Value}
use Rattle.ng_tokens.specs.declared.kinds.Sign.{Sign}
use Rattle.ng_tokens.specs.declared.kinds.Sign.TheVariants as s
use Rattle.ng_tokens.specs.declared.kinds.Kind.{Kind}
use Rattle.ng_tokens.specs.declared.kinds.Kind.TheVariants as k
use Rattle.ng_exprs.specs.Grammar.{Tokens, token, sign, start, written, prefixed as written_prefix, below, literal_of, key_of, Chain, Reads, ReadsAny, ReadsPiped, ReadsArguments, ReadsAll, ReadsSome, ReadsPairs, ReadsSomePairs, ReadsPair}
use Rattle.ng_exprs.specs.Parse.{Syntax, Limit, Outcome, Parser, Brackets, brackets, and_then, same, peek, is_sign, key, infix_at, prefix_at, of_rank, some_of, all_of, group, list, pair, rec, named, atom, member, safe, index, call, followed, chain, prefixed, joins, ranked, chosen, arguments, pipe, pipes, piped, whole, follow_by, atom_by, infix_of, prefix_of}

-- the answer is this, or a limit
abbrev pub Gets : {A : Type 0} → A → Tokens → Outcome A → Type 0
Gets x ts (Ok p) = p ≡ (x, ts)
Gets x ts (Err Limit) = Unit {0}
Gets x ts (Err Syntax) = ⊥

pub gets_then : {A B : Type 0} (r : Outcome A) (f : A → Parser B) (x : A) (ts : Tokens) (y : B) (us : Tokens) → Gets x ts r → Gets y us (f x ts) → Gets y us (and_then r f)
gets_then (Ok p) f x ts y us e h = subst (λ q. Gets y us (f q.0 q.1)) (sym e) h
gets_then (Err Limit) f x ts y us e h = tt
gets_then (Err Syntax) f x ts y us e h = absurd e

-- the rank of a phrase that a sign goes on with: 9 is `? :`, 10 a pipe and its arguments
abbrev pub extends : Sign → ℕ
extends s.Dot = 0
extends s.SafeDot = 0
extends s.OpenSquare = 0
extends s.OpenRound = 0
extends s.Or = 8
extends s.And = 7
extends s.OrNull = 6
extends s.Eq = 5
extends s.Ne = 5
extends s.Same = 5
extends s.NotSame = 5
extends s.Lt = 4
extends s.Le = 4
extends s.Gt = 4
extends s.Ge = 4
extends s.Plus = 3
extends s.Minus = 3
extends s.Star = 2
extends s.Slash = 2
extends s.Percent = 2
extends s.Question = 9
extends s.Bar = 10
extends s.Colon = 10
extends _ = 19

abbrev pub extends_at : Option Sign → ℕ
extends_at None = 19
extends_at (Some x) = extends x

-- what follows goes on with no phrase of this rank
abbrev pub Ends : ℕ → Tokens → Type 0
Ends n ts = n < extends_at (peek ts)

-- ---- the first token of a phrase

pub starts_chain : {c : Bool} {x : Tokens} {a : Expr} → Chain c x a → (r : Tokens) → start (x ++ r) ≡ start x
starts_chain (Chain.number n p) r = refl
starts_chain (Chain.quoted n p) r = refl
starts_chain (Chain.word n p e) r = refl
starts_chain (Chain.name n p e) r = refl
starts_chain (Chain.variable n p) r = refl
starts_chain (Chain.group x p q h) r = refl
starts_chain (Chain.list x p q h) r = refl
starts_chain (Chain.rec x p q h) r = refl
starts_chain (Chain.member x p q h) r = simp append_assoc (starts_chain h _ ∙ sym (starts_chain h _))
starts_chain (Chain.safe x p q h) r = simp append_assoc (starts_chain h _ ∙ sym (starts_chain h _))
starts_chain (Chain.index x y p q h i) r = simp append_assoc (starts_chain h _ ∙ sym (starts_chain h _))
starts_chain (Chain.call x y p q h i) r = simp append_assoc (starts_chain h _ ∙ sym (starts_chain h _))

pub starts : {n : ℕ} {x : Tokens} {a : Expr} → Reads n x a → (r : Tokens) → start (x ++ r) ≡ start x
starts (Reads.alone h) r = starts_chain h r
starts (Reads.prefixing op p h) r = refl
starts (Reads.tighter h) r = starts h r
starts (Reads.operator op x y p h i) r = simp append_assoc (starts h _ ∙ sym (starts h _))

pub starts_any : {x : Tokens} {a : Expr} → ReadsAny x a → (r : Tokens) → start (x ++ r) ≡ start x
starts_any (ReadsAny.plain h) r = starts h r
starts_any (ReadsAny.choose x y z p q h i j) r = simp append_assoc (starts h _ ∙ sym (starts h _))

pub starts_piped : {x : Tokens} {a : Expr} → ReadsPiped x a → (r : Tokens) → start (x ++ r) ≡ start x
starts_piped (ReadsPiped.unpiped h) r = starts_any h r
starts_piped (ReadsPiped.piped x y p q h i) r = simp append_assoc (starts_piped h _ ∙ sym (starts_piped h _))

-- what stands at the front of a chain is no prefix
no_prefix : {c : Bool} {x : Tokens} {a : Expr} → Chain c x a → (r : Tokens) → prefix_at (peek (x ++ r)) ≡ None
no_prefix (Chain.number n p) r = refl
no_prefix (Chain.quoted n p) r = refl
no_prefix (Chain.word n p e) r = refl
no_prefix (Chain.name n p e) r = refl
no_prefix (Chain.variable n p) r = refl
no_prefix (Chain.group x p q h) r = refl
no_prefix (Chain.list x p q h) r = refl
no_prefix (Chain.rec x p q h) r = refl
no_prefix (Chain.member x p q h) r = simp append_assoc (no_prefix h _)
no_prefix (Chain.safe x p q h) r = simp append_assoc (no_prefix h _)
no_prefix (Chain.index x y p q h i) r = simp append_assoc (no_prefix h _)
no_prefix (Chain.call x y p q h i) r = simp append_assoc (no_prefix h _)

-- a phrase doesn't begin with this closing bracket
abbrev pub Opens : Sign → Tokens → Type 0
Opens close x = (r : Tokens) → is_sign close (peek (x ++ r)) ≡ false

abbrev IsClose : Sign → Type 0
IsClose s.CloseRound = Unit {0}
IsClose s.CloseSquare = Unit {0}
IsClose s.CloseBrace = Unit {0}
IsClose _ = ⊥

-- a sign that closes is none of those that begin a phrase
open_close : (x close : Sign) → IsClose close → (IsClose x → ⊥) → same x close ≡ false
unfolding same
open_close x s.CloseRound h n = other x n
  where
    other : (x : Sign) → (IsClose x → ⊥) → same x s.CloseRound ≡ false
    other s.CloseRound n = absurd (n tt)
    other _ n = refl
open_close x s.CloseSquare h n = other x n
  where
    other : (x : Sign) → (IsClose x → ⊥) → same x s.CloseSquare ≡ false
    other s.CloseSquare n = absurd (n tt)
    other _ n = refl
open_close x s.CloseBrace h n = other x n
  where
    other : (x : Sign) → (IsClose x → ⊥) → same x s.CloseBrace ≡ false
    other s.CloseBrace n = absurd (n tt)
    other _ n = refl
open_close x _ h n = absurd h

open_prefix : (op : Unary) → IsClose (written_prefix op) → ⊥
open_prefix unary.Not h = h
open_prefix unary.Neg h = h
open_prefix unary.Plus h = h

not_closed_chain : {c : Bool} {x : Tokens} {a : Expr} → Chain c x a → (close : Sign) → IsClose close → Opens close x
not_closed_chain (Chain.number n p) close k = λ r. refl
not_closed_chain (Chain.quoted n p) close k = λ r. refl
not_closed_chain (Chain.word n p e) close k = λ r. refl
not_closed_chain (Chain.name n p e) close k = λ r. refl
not_closed_chain (Chain.variable n p) close k = λ r. refl
not_closed_chain (Chain.group x p q h) close k = λ r. open_close s.OpenRound close k (λ n. n)
not_closed_chain (Chain.list x p q h) close k = λ r. open_close s.OpenSquare close k (λ n. n)
not_closed_chain (Chain.rec x p q h) close k = λ r. open_close s.OpenBrace close k (λ n. n)
not_closed_chain (Chain.member x p q h) close k = λ r. simp append_assoc (not_closed_chain h close k _)
not_closed_chain (Chain.safe x p q h) close k = λ r. simp append_assoc (not_closed_chain h close k _)
not_closed_chain (Chain.index x y p q h i) close k = λ r. simp append_assoc (not_closed_chain h close k _)
not_closed_chain (Chain.call x y p q h i) close k = λ r. simp append_assoc (not_closed_chain h close k _)

not_closed : {n : ℕ} {x : Tokens} {a : Expr} → Reads n x a → (close : Sign) → IsClose close → Opens close x
not_closed (Reads.alone h) close k = not_closed_chain h close k
not_closed (Reads.prefixing op p h) close k = λ r. open_close (written_prefix op) close k (open_prefix op)
not_closed (Reads.tighter h) close k = not_closed h close k
not_closed (Reads.operator op x y p h i) close k = λ r. simp append_assoc (not_closed h close k _)

not_closed_any : {x : Tokens} {a : Expr} → ReadsAny x a → (close : Sign) → IsClose close → Opens close x
not_closed_any (ReadsAny.plain h) close k = not_closed h close k
not_closed_any (ReadsAny.choose x y z p q h i j) close k = λ r. simp append_assoc (not_closed h close k _)

pub not_closed_piped : {x : Tokens} {a : Expr} → ReadsPiped x a → (close : Sign) → IsClose close → Opens close x
not_closed_piped (ReadsPiped.unpiped h) close k = not_closed_any h close k
not_closed_piped (ReadsPiped.piped x y p q h i) close k = λ r. simp append_assoc (not_closed_piped h close k _)

not_closed_some : {x : Tokens} {es : List Expr} → ReadsSome x es → (close : Sign) → IsClose close → Opens close x
not_closed_some (ReadsSome.one h) close k = not_closed_piped h close k
not_closed_some (ReadsSome.more x y p h i) close k = λ r. simp append_assoc (not_closed_piped h close k _)

not_closed_pair : {x : Tokens} {f : List ℕ × Expr} → ReadsPair x f → (close : Sign) → IsClose close → Opens close x
not_closed_pair (ReadsPair.pair (k.Name n) p q x e h) close c = λ r. refl
not_closed_pair (ReadsPair.pair (k.Text n) p q x e h) close c = λ r. refl
not_closed_pair (ReadsPair.pair (k.Number n) p q x e h) close c = λ r. refl
not_closed_pair (ReadsPair.pair (k.Variable n) p q x e h) close c = λ r. refl
not_closed_pair (ReadsPair.pair (k.Sign y) p q x e h) close c = absurd (cc)

not_closed_pairs : {x : Tokens} {fs : List (List ℕ × Expr)} → ReadsSomePairs x fs → (close : Sign) → IsClose close → Opens close x
not_closed_pairs (ReadsSomePairs.one_pair h) close k = not_closed_pair h close k
not_closed_pairs (ReadsSomePairs.more_pairs x y p h i) close k = λ r. simp append_assoc (not_closed_pair h close k _)

-- ---- what a phrase is to its parser. Where it can grow to the right, whatever the growing gives.

abbrev pub GoesChain : Brackets → Bool → Tokens → Expr → Type 0
GoesChain inner c x a = (r : Tokens) (y : Expr) (us : Tokens) → ((m : ℕ) → Gets y us (followed inner m c (start x) a r)) → Gets y us (chain inner (x ++ r))

abbrev pub Goes : Brackets → ℕ → Tokens → Expr → Type 0
Goes inner zero x a = Unit {0}
Goes inner (suc zero) x a = (m : ℕ) (r : Tokens) → Ends 0 r → Gets a r (prefixed inner m (x ++ r))
Goes inner (suc (suc n)) x a = (r : Tokens) (y : Expr) (us : Tokens) → Ends (suc n) r
    → ((m : ℕ) → Gets y us (joins inner (ranked inner n) (suc n) m (start x) a r)) → Gets y us (ranked inner (suc n) (x ++ r))

abbrev pub GoesAny : Brackets → Tokens → Expr → Type 0
GoesAny inner x a = (m : ℕ) (r : Tokens) → Ends 9 r → Gets a r (chosen inner m (x ++ r))

-- what follows is no argument of a pipe
abbrev pub NoColon : Tokens → Type 0
NoColon r = is_sign s.Colon (peek r) ≡ false

abbrev pub GoesPiped : Brackets → Tokens → Expr → Type 0
GoesPiped inner x a = (r : Tokens) (y : Expr) (us : Tokens) → Ends 9 r → NoColon r → ((m : ℕ) → Gets y us (pipes inner m (start x) a r)) → Gets y us (piped inner (x ++ r))

-- what an expression within brackets is to its parser
abbrev pub GoesInside : Brackets → Tokens → Expr → Type 0
GoesInside inner x a = (r : Tokens) → Ends 10 r → Gets a r (inner.parse (x ++ r))

-- what follows doesn't go on
no_follow : (inner : Brackets) (p : Place) (c : Bool) (a : Expr) (o : Option Sign) → 0 < extends_at o → follow_by inner p c a o ≡ None
no_follow inner p true a None h = refl
no_follow inner p false a None h = refl
no_follow inner p c a (Some s.Dot) h = absurd (omega arith)
no_follow inner p c a (Some s.SafeDot) h = absurd (omega arith)
no_follow inner p c a (Some s.OpenSquare) h = absurd (omega arith)
no_follow inner p c a (Some s.OpenRound) h = absurd (omega arith)
no_follow inner p true a (Some _) h = refl
no_follow inner p false a (Some _) h = refl

ends_chain : (inner : Brackets) (p : Place) (c : Bool) (a : Expr) (r : Tokens) → Ends 0 r → (m : ℕ) → Gets a r (followed inner m c p a r)
unfolding followed
ends_chain inner p c a r h zero = tt
ends_chain inner p c a r h (suc m) = rw (no_follow inner p c a (peek r) h) refl

unlike : (m n : ℕ) (o : Option Binary) → suc n < suc m → (if m == n then o else None) ≡ None
unlike m n o h = grind arith

-- an operator of this rank or a tighter one isn't next
no_operator : (n : ℕ) (o : Option Sign) → suc n < extends_at o → of_rank n (infix_at o) ≡ None
no_operator n None h = refl
no_operator n (Some s.Or) h = unlike 7 n _ h
no_operator n (Some s.And) h = unlike 6 n _ h
no_operator n (Some s.OrNull) h = unlike 5 n _ h
no_operator n (Some s.Eq) h = unlike 4 n _ h
no_operator n (Some s.Ne) h = unlike 4 n _ h
no_operator n (Some s.Same) h = unlike 4 n _ h
no_operator n (Some s.NotSame) h = unlike 4 n _ h
no_operator n (Some s.Lt) h = unlike 3 n _ h
no_operator n (Some s.Le) h = unlike 3 n _ h
no_operator n (Some s.Gt) h = unlike 3 n _ h
no_operator n (Some s.Ge) h = unlike 3 n _ h
no_operator n (Some s.Plus) h = unlike 2 n _ h
no_operator n (Some s.Minus) h = unlike 2 n _ h
no_operator n (Some s.Star) h = unlike 1 n _ h
no_operator n (Some s.Slash) h = unlike 1 n _ h
no_operator n (Some s.Percent) h = unlike 1 n _ h
no_operator n (Some _) h = refl

ends_ranked : (inner : Brackets) (operand : Parser Expr) (n : ℕ) (p : Place) (a : Expr) (r : Tokens) → Ends (suc n) r → (m : ℕ) → Gets a r (joins inner operand n m p a r)
unfolding joins
ends_ranked inner operand n p a r h zero = tt
ends_ranked inner operand n p a r h (suc m) = rw (no_operator n (peek r) h) refl

finish : (inner : Brackets) (n : ℕ) (x : Tokens) (a : Expr) → Goes inner (suc n) x a → (r : Tokens) → Ends (suc n) r → Gets a r (ranked inner n (x ++ r))
unfolding ranked
finish inner zero x a h r e = h inner.turns r (omega arith)
finish inner (suc n) x a h r e = h r a r (omega arith) (ends_ranked inner (ranked inner n) (suc n) (start x) a r e)

-- an operator of the rank is next
has_operator : (op : Binary) → of_rank (below op) (infix_of (written op)) ≡ Some op
has_operator binary.Or = refl
has_operator binary.And = refl
has_operator binary.OrNull = refl
has_operator binary.Eq = refl
has_operator binary.Ne = refl
has_operator binary.Same = refl
has_operator binary.NotSame = refl
has_operator binary.Lt = refl
has_operator binary.Le = refl
has_operator binary.Gt = refl
has_operator binary.Ge = refl
has_operator binary.Add = refl
has_operator binary.Sub = refl
has_operator binary.Mul = refl
has_operator binary.Div = refl
has_operator binary.Rem = refl

has_prefix : (op : Unary) → prefix_of (written_prefix op) ≡ Some op
has_prefix unary.Not = refl
has_prefix unary.Neg = refl
has_prefix unary.Plus = refl

extends_operator : (op : Binary) → extends (written op) ≡ suc (below op)
extends_operator binary.Or = refl
extends_operator binary.And = refl
extends_operator binary.OrNull = refl
extends_operator binary.Eq = refl
extends_operator binary.Ne = refl
extends_operator binary.Same = refl
extends_operator binary.NotSame = refl
extends_operator binary.Lt = refl
extends_operator binary.Le = refl
extends_operator binary.Gt = refl
extends_operator binary.Ge = refl
extends_operator binary.Add = refl
extends_operator binary.Sub = refl
extends_operator binary.Mul = refl
extends_operator binary.Div = refl
extends_operator binary.Rem = refl

above_prefixes : (op : Binary) → 0 < below op
above_prefixes binary.Or = omega arith
above_prefixes binary.And = omega arith
above_prefixes binary.OrNull = omega arith
above_prefixes binary.Eq = omega arith
above_prefixes binary.Ne = omega arith
above_prefixes binary.Same = omega arith
above_prefixes binary.NotSame = omega arith
above_prefixes binary.Lt = omega arith
above_prefixes binary.Le = omega arith
above_prefixes binary.Gt = omega arith
above_prefixes binary.Ge = omega arith
above_prefixes binary.Add = omega arith
above_prefixes binary.Sub = omega arith
above_prefixes binary.Mul = omega arith
above_prefixes binary.Div = omega arith
above_prefixes binary.Rem = omega arith

-- ---- one lemma for each rule

-- a chain of one token
one_goes : (inner : Brackets) (c : Bool) (kind : Kind) (p : Place) (a : Expr) → ((r : Tokens) → atom_by inner p kind r ≡ Ok ((c, a), r)) → GoesChain inner c (token kind p ∷ []) a
unfolding chain atom
one_goes inner c kind p a h = λ r y us go. rw (h r) (go inner.turns)

named_word : (p : Place) (n : List ℕ) (w : Value) → literal_of n ≡ Some w → named p n (literal_of n) ≡ (false, e.Literal p w)
named_word p n w h = rw h refl

named_name : (p : Place) (n : List ℕ) → literal_of n ≡ None → named p n (literal_of n) ≡ (true, e.Name p n)
named_name p n h = rw h refl

group_goes : (inner : Brackets) (x : Tokens) (a : Expr) (p q : Place) → GoesInside inner x a → GoesChain inner false (sign s.OpenRound p ∷ x ++ sign s.CloseRound q ∷ []) (e.Group p a)
unfolding chain atom group same
group_goes inner x a p q h = λ r y us go. subst (λ ts. Gets y us (chain inner (sign s.OpenRound p ∷ ts))) (sym (append_assoc x (sign s.CloseRound q ∷ []) r)) (
    let close : Tokens = sign s.CloseRound q ∷ r in
    gets_then _ _ (false, e.Group p a) r y us (gets_then _ _ (e.Group p a) r (false, e.Group p a) r (gets_then (inner.parse (x ++ close)) _ a close (e.Group p a) r (h close (omega arith)) refl) refl) (go inner.turns))

list_goes : (inner : Brackets) (x : Tokens) (es : List Expr) (p q : Place)
    → ((r : Tokens) → Gets es r (all_of inner inner.parse s.CloseSquare (x ++ sign s.CloseSquare q ∷ r))) → GoesChain inner false (sign s.OpenSquare p ∷ x ++ sign s.CloseSquare q ∷ []) (e.List p es)
unfolding chain atom list
list_goes inner x es p q h = λ r y us go. subst (λ ts. Gets y us (chain inner (sign s.OpenSquare p ∷ ts))) (sym (append_assoc x (sign s.CloseSquare q ∷ []) r)) (
    gets_then _ _ (false, e.List p es) r y us (gets_then _ _ (e.List p es) r (false, e.List p es) r (
    gets_then (all_of inner inner.parse s.CloseSquare (x ++ sign s.CloseSquare q ∷ r)) _ es r (e.List p es) r (h r) refl) refl) (go inner.turns))

rec_goes : (inner : Brackets) (x : Tokens) (fs : List (List ℕ × Expr)) (p q : Place)
    → ((r : Tokens) → Gets fs r (all_of inner (pair inner) s.CloseBrace (x ++ sign s.CloseBrace q ∷ r))) → GoesChain inner false (sign s.OpenBrace p ∷ x ++ sign s.CloseBrace q ∷ []) (e.Rec p fs)
unfolding chain atom rec
rec_goes inner x fs p q h = λ r y us go. subst (λ ts. Gets y us (chain inner (sign s.OpenBrace p ∷ ts))) (sym (append_assoc x (sign s.CloseBrace q ∷ []) r)) (
    gets_then _ _ (false, e.Rec p fs) r y us (gets_then _ _ (e.Rec p fs) r (false, e.Rec p fs) r (
    gets_then (all_of inner (pair inner) s.CloseBrace (x ++ sign s.CloseBrace q ∷ r)) _ fs r (e.Rec p fs) r (h r) refl) refl) (go inner.turns))

followed_member : (inner : Brackets) (p : Place) (c : Bool) (a : Expr) (n : List ℕ) (q1 q2 : Place) (r : Tokens) (y : Expr) (us : Tokens)
    → ((m : ℕ) → Gets y us (followed inner m true p (e.Member p a n) r)) → (m : ℕ) → Gets y us (followed inner m c p a (sign s.Dot q1 ∷ token (k.Name n) q2 ∷ r))
unfolding followed member
followed_member inner p c a n q1 q2 r y us go zero = tt
followed_member inner p true a n q1 q2 r y us go (suc m) = go m
followed_member inner p false a n q1 q2 r y us go (suc m) = go m

member_goes : (inner : Brackets) (c : Bool) (x : Tokens) (a : Expr) (n : List ℕ) (p q : Place) → ((r : Tokens) → start (x ++ r) ≡ start x) → GoesChain inner c x a
    → GoesChain inner true (x ++ sign s.Dot p ∷ token (k.Name n) q ∷ []) (e.Member (start x) a n)
member_goes inner c x a n p q st h = λ r y us go. rw append_assoc (h _ y us (followed_member inner (start x) c a n p q r y us (rw st at go)))

followed_safe : (inner : Brackets) (p : Place) (c : Bool) (a : Expr) (n : List ℕ) (q1 q2 : Place) (r : Tokens) (y : Expr) (us : Tokens)
    → ((m : ℕ) → Gets y us (followed inner m true p (e.Safe p a n) r)) → (m : ℕ) → Gets y us (followed inner m c p a (sign s.SafeDot q1 ∷ token (k.Name n) q2 ∷ r))
unfolding followed safe
followed_safe inner p c a n q1 q2 r y us go zero = tt
followed_safe inner p true a n q1 q2 r y us go (suc m) = go m
followed_safe inner p false a n q1 q2 r y us go (suc m) = go m

safe_goes : (inner : Brackets) (c : Bool) (x : Tokens) (a : Expr) (n : List ℕ) (p q : Place) → ((r : Tokens) → start (x ++ r) ≡ start x) → GoesChain inner c x a
    → GoesChain inner true (x ++ sign s.SafeDot p ∷ token (k.Name n) q ∷ []) (e.Safe (start x) a n)
safe_goes inner c x a n p q st h = λ r y us go. rw append_assoc (h _ y us (followed_safe inner (start x) c a n p q r y us (rw st at go)))

index_gets : (inner : Brackets) (p : Place) (a b : Expr) (z : Tokens) (q : Place) (r : Tokens) → GoesInside inner z b → Gets (e.Index p a b) r (index inner p a (z ++ sign s.CloseSquare q ∷ r))
unfolding index same
index_gets inner p a b z q r h = let close : Tokens = sign s.CloseSquare q ∷ r in gets_then (inner.parse (z ++ close)) _ b close (e.Index p a b) r (h close (omega arith)) refl

followed_index : (inner : Brackets) (p : Place) (c : Bool) (a b : Expr) (z : Tokens) (q1 q2 : Place) (r : Tokens) (y : Expr) (us : Tokens) → GoesInside inner z b
    → ((m : ℕ) → Gets y us (followed inner m false p (e.Index p a b) r)) → (m : ℕ) → Gets y us (followed inner m c p a (sign s.OpenSquare q1 ∷ z ++ sign s.CloseSquare q2 ∷ r))
unfolding followed
followed_index inner p c a b z q1 q2 r y us h go zero = tt
followed_index inner p true a b z q1 q2 r y us h go (suc m) = gets_then _ _ (e.Index p a b) r y us (index_gets inner p a b z q2 r h) (go m)
followed_index inner p false a b z q1 q2 r y us h go (suc m) = gets_then _ _ (e.Index p a b) r y us (index_gets inner p a b z q2 r h) (go m)

index_goes : (inner : Brackets) (c : Bool) (x z : Tokens) (a b : Expr) (p q : Place) → ((r : Tokens) → start (x ++ r) ≡ start x) → GoesChain inner c x a → GoesInside inner z b
    → GoesChain inner false (x ++ sign s.OpenSquare p ∷ z ++ sign s.CloseSquare q ∷ []) (e.Index (start x) a b)
index_goes inner c x z a b p q st h i = λ r y us go. simp append_assoc (h _ y us (followed_index inner (start x) c a b z p q r y us i (simp (append_assoc, st) at go)))

call_gets : (inner : Brackets) (p : Place) (a : Expr) (es : List Expr) (r ts : Tokens) → Gets es r (all_of inner inner.parse s.CloseRound ts) → Gets (e.Call p a es) r (call inner p a ts)
unfolding call
call_gets inner p a es r ts h = gets_then (all_of inner inner.parse s.CloseRound ts) _ es r (e.Call p a es) r h refl

followed_call : (inner : Brackets) (p : Place) (a : Expr) (es : List Expr) (z : Tokens) (q1 : Place) (r : Tokens) (y : Expr) (us : Tokens) → Gets es r (all_of inner inner.parse s.CloseRound z)
    → ((m : ℕ) → Gets y us (followed inner m false p (e.Call p a es) r)) → (m : ℕ) → Gets y us (followed inner m true p a (sign s.OpenRound q1 ∷ z))
unfolding followed
followed_call inner p a es z q1 r y us h go zero = tt
followed_call inner p a es z q1 r y us h go (suc m) = gets_then _ _ (e.Call p a es) r y us (call_gets inner p a es r z h) (go m)

call_goes : (inner : Brackets) (x z : Tokens) (a : Expr) (es : List Expr) (p q : Place) → ((r : Tokens) → start (x ++ r) ≡ start x) → GoesChain inner true x a
    → ((r : Tokens) → Gets es r (all_of inner inner.parse s.CloseRound (z ++ sign s.CloseRound q ∷ r)))
    → GoesChain inner false (x ++ sign s.OpenRound p ∷ z ++ sign s.CloseRound q ∷ []) (e.Call (start x) a es)
call_goes inner x z a es p q st h i = λ r y us go. simp append_assoc (h _ y us (followed_call inner (start x) a es (z ++ sign s.CloseRound q ∷ r) p r y us (i r) (simp (append_assoc, st) at go)))

alone_gets : (inner : Brackets) (c : Bool) (x : Tokens) (a : Expr) → ((r : Tokens) → prefix_at (peek (x ++ r)) ≡ None) → GoesChain inner c x a → (r : Tokens) → Ends 0 r → (m : ℕ)
    → Gets a r (prefixed inner m (x ++ r))
unfolding prefixed
alone_gets inner c x a none h r end zero = tt
alone_gets inner c x a none h r end (suc m) = rw (none r) (h r a r (ends_chain inner (start x) c a r end))

alone_goes : (inner : Brackets) (c : Bool) (x : Tokens) (a : Expr) → ((r : Tokens) → prefix_at (peek (x ++ r)) ≡ None) → GoesChain inner c x a → Goes inner 1 x a
alone_goes inner c x a none h = λ m r end. alone_gets inner c x a none h r end m

prefix_gets : (inner : Brackets) (x : Tokens) (a : Expr) (op : Unary) (p : Place) → Goes inner 1 x a → (r : Tokens) → Ends 0 r → (m : ℕ)
    → Gets (e.Unary p op a) r (prefixed inner m (sign (written_prefix op) p ∷ x ++ r))
unfolding prefixed
prefix_gets inner x a op p h r end zero = tt
prefix_gets inner x a op p h r end (suc m) = rw (has_prefix op) (gets_then (prefixed inner m (x ++ r)) _ a r (e.Unary p op a) r (h m r end) refl)

prefix_goes : (inner : Brackets) (x : Tokens) (a : Expr) (op : Unary) (p : Place) → Goes inner 1 x a → Goes inner 1 (sign (written_prefix op) p ∷ x) (e.Unary p op a)
prefix_goes inner x a op p h = λ m r end. prefix_gets inner x a op p h r end m

tighter_goes : (inner : Brackets) (n : ℕ) (x : Tokens) (a : Expr) → ((r : Tokens) → start (x ++ r) ≡ start x) → Goes inner (suc n) x a → Goes inner (suc (suc n)) x a
unfolding ranked
tighter_goes inner n x a st h = λ r y us end go. rw st (gets_then (ranked inner n (x ++ r)) _ a r y us (finish inner n x a h r end) (go inner.turns))

-- an operator and its right operand take a loop one turn further
joins_step : (inner : Brackets) (n : ℕ) (op : Binary) → below op ≡ suc n → (p q : Place) (a b : Expr) (z r : Tokens) → Goes inner (suc n) z b → Ends (suc n) r
    → (y : Expr) (us : Tokens) → ((m : ℕ) → Gets y us (joins inner (ranked inner n) (suc n) m p (e.Binary p op a b) r))
    → (m : ℕ) → Gets y us (joins inner (ranked inner n) (suc n) m p a (sign (written op) q ∷ z ++ r))
unfolding joins
joins_step inner n op e p q a b z r h end y us go zero = tt
joins_step inner n op e p q a b z r h end y us go (suc m) =
    let o : of_rank (suc n) (infix_of (written op)) ≡ Some op = rw e at (has_operator op) in
    rw o (gets_then (ranked inner n (z ++ r)) _ b r y us (finish inner n z b h r end) (go m))

operator_goes : (inner : Brackets) (op : Binary) (m : ℕ) → below op ≡ m → 0 < m → (x z : Tokens) (a b : Expr) (p : Place) → ((r : Tokens) → start (x ++ r) ≡ start x)
    → Goes inner (suc m) x a → Goes inner m z b → Goes inner (suc m) (x ++ sign (written op) p ∷ z) (e.Binary (start x) op a b)
operator_goes inner op zero e pos x z a b p st h i = absurd (omega arith)
operator_goes inner op (suc n) e pos x z a b p st h i = λ r y us end go. rw append_assoc (
    h (sign (written op) p ∷ z ++ r) y us (omega (arith, extends_operator op, e)) (joins_step inner n op e (start x) p a b z r i end y us (rw st at go)))

no_question : (o : Option Sign) → 9 < extends_at o → is_sign s.Question o ≡ false
unfolding same
no_question None h = refl
no_question (Some s.Question) h = absurd (omega arith)
no_question (Some _) h = refl

plain_gets : (inner : Brackets) (x : Tokens) (a : Expr) → Goes inner 8 x a → (r : Tokens) → Ends 9 r → (m : ℕ) → Gets a r (chosen inner m (x ++ r))
unfolding chosen
plain_gets inner x a h r end zero = tt
plain_gets inner x a h r end (suc m) = gets_then (ranked inner 7 (x ++ r)) _ a r a r (finish inner 7 x a h r (omega arith)) (rw (no_question (peek r) end) refl)

choose_gets : (inner : Brackets) (x y z : Tokens) (c a b : Expr) (p q : Place) → ((r : Tokens) → start (x ++ r) ≡ start x) → Goes inner 8 x c → GoesAny inner y a → GoesAny inner z b
    → (r : Tokens) → Ends 9 r → (m : ℕ) → Gets (e.Choose (start x) c a b) r (chosen inner m (x ++ (sign s.Question p ∷ (y ++ (sign s.Colon q ∷ (z ++ r))))))
unfolding chosen same
choose_gets inner x y z c a b p q st h i j r end zero = tt
choose_gets inner x y z c a b p q st h i j r end (suc m) =
    let tail : Tokens = z ++ r in
    let colon : Tokens = sign s.Colon q ∷ tail in
    let question : Tokens = sign s.Question p ∷ (y ++ colon) in
    rw st (gets_then (ranked inner 7 (x ++ question)) _ c question (e.Choose (start x) c a b) r (finish inner 7 x c h question (omega arith)) (
    gets_then (chosen inner m (y ++ colon)) _ a colon (e.Choose (start x) c a b) r (i m colon (omega arith)) (
    gets_then (chosen inner m tail) _ b r (e.Choose (start x) c a b) r (j m r end) refl)))

-- ---- pipes

no_bar : (o : Option Sign) → 10 < extends_at o → is_sign s.Bar o ≡ false
unfolding same
no_bar None h = refl
no_bar (Some s.Bar) h = absurd (omega arith)
no_bar (Some _) h = refl

no_colon : (o : Option Sign) → 10 < extends_at o → is_sign s.Colon o ≡ false
unfolding same
no_colon None h = refl
no_colon (Some s.Colon) h = absurd (omega arith)
no_colon (Some _) h = refl

ends_piped : (inner : Brackets) (p : Place) (a : Expr) (r : Tokens) → Ends 10 r → (m : ℕ) → Gets a r (pipes inner m p a r)
unfolding pipes
ends_piped inner p a r h zero = tt
ends_piped inner p a r h (suc m) = rw (no_bar (peek r) h) refl

-- the arguments of a pipe, before what is no colon
abbrev pub GoesArguments : Brackets → Tokens → List Expr → Type 0
GoesArguments inner x es = (m : ℕ) (r : Tokens) → Ends 9 r → NoColon r → Gets es r (arguments inner m (x ++ r))

none_gets : (inner : Brackets) (r : Tokens) → NoColon r → (m : ℕ) → Gets [] r (arguments inner m r)
unfolding arguments
none_gets inner r h zero = tt
none_gets inner r h (suc m) = rw h refl

-- what follows an argument ends it
ends_argument : {y : Tokens} {es : List Expr} → ReadsArguments y es → (r : Tokens) → Ends 9 r → Ends 9 (y ++ r)
ends_argument ReadsArguments.none r end = end
ends_argument (ReadsArguments.argument x y p h i) r end = omega arith

argument_gets : (inner : Brackets) (x y : Tokens) (a : Expr) (es : List Expr) (p : Place) → GoesAny inner x a → ((r : Tokens) → Ends 9 r → Ends 9 (y ++ r)) → GoesArguments inner y es
    → (r : Tokens) → Ends 9 r → NoColon r → (m : ℕ) → Gets (a ∷ es) r (arguments inner m (sign s.Colon p ∷ (x ++ (y ++ r))))
unfolding arguments same
argument_gets inner x y a es p h ends i r end no_more zero = tt
argument_gets inner x y a es p h ends i r end no_more (suc m) =
    gets_then (chosen inner inner.turns (x ++ (y ++ r))) _ a (y ++ r) (a ∷ es) r (h inner.turns (y ++ r) (ends r end)) (
    gets_then (arguments inner m (y ++ r)) _ es r (a ∷ es) r (i m r end no_more) refl)

pipe_gets : (inner : Brackets) (p : Place) (a : Expr) (n : List ℕ) (es : List Expr) (q : Place) (y r : Tokens) → Ends 9 r → NoColon r → GoesArguments inner y es
    → Gets (e.Pipe p a n es) r (pipe inner p a (token (k.Name n) q ∷ (y ++ r)))
unfolding pipe
pipe_gets inner p a n es q y r end no_more h = gets_then (arguments inner inner.turns (y ++ r)) _ es r (e.Pipe p a n es) r (h inner.turns r end no_more) refl

pipes_step : (inner : Brackets) (p : Place) (a : Expr) (n : List ℕ) (es : List Expr) (q1 q2 : Place) (z r : Tokens) → Ends 9 r → NoColon r → GoesArguments inner z es
    → (y : Expr) (us : Tokens) → ((m : ℕ) → Gets y us (pipes inner m p (e.Pipe p a n es) r)) → (m : ℕ) → Gets y us (pipes inner m p a (sign s.Bar q1 ∷ (token (k.Name n) q2 ∷ (z ++ r))))
unfolding pipes same
pipes_step inner p a n es q1 q2 z r end no_more h y us go zero = tt
pipes_step inner p a n es q1 q2 z r end no_more h y us go (suc m) = gets_then _ _ (e.Pipe p a n es) r y us (pipe_gets inner p a n es q2 z r end no_more h) (go m)

unpiped_goes : (inner : Brackets) (x : Tokens) (a : Expr) → ((r : Tokens) → start (x ++ r) ≡ start x) → GoesAny inner x a → GoesPiped inner x a
unfolding piped
unpiped_goes inner x a st h = λ r y us end no_more go. rw st (gets_then (chosen inner inner.turns (x ++ r)) _ a r y us (h inner.turns r end) (go inner.turns))

bar_no_colon : (q : Place) (ts : Tokens) → NoColon (sign s.Bar q ∷ ts)
unfolding same
bar_no_colon q ts = refl

piped_goes : (inner : Brackets) (x z : Tokens) (a : Expr) (n : List ℕ) (es : List Expr) (p q : Place) → ((r : Tokens) → start (x ++ r) ≡ start x) → GoesPiped inner x a → GoesArguments inner z es
    → GoesPiped inner (x ++ sign s.Bar p ∷ token (k.Name n) q ∷ z) (e.Pipe (start x) a n es)
piped_goes inner x z a n es p q st h i = λ r y us end no_more go. rw append_assoc (
    h (sign s.Bar p ∷ (token (k.Name n) q ∷ (z ++ r))) y us (omega arith) (bar_no_colon p (token (k.Name n) q ∷ (z ++ r))) (pipes_step inner (start x) a n es p q z r end no_more i y us (rw st at go)))

-- ---- lists and records

if_room : {A : Type 0} (b : Bool) (o : Outcome A) (x : A) (r : Tokens) → Gets x r o → Gets x r (cond b o (Err Limit))
if_room true o x r h = h
if_room false o x r h = tt

-- the last of several, and one with more after it; a closing bracket is no comma
one_gets : {A : Type 0} (item : Parser A) (close : Sign) → same close s.Comma ≡ false → (x : Tokens) (a : A) → ((r : Tokens) → Ends 10 r → Gets a r (item (x ++ r))) → 10 < extends close
    → (q : Place) (r : Tokens) (m : ℕ) → Gets (a ∷ []) (sign close q ∷ r) (some_of item m (x ++ sign close q ∷ r))
unfolding some_of
one_gets item close c x a h end q r zero = tt
one_gets item close c x a h end q r (suc m) = let t : Tokens = sign close q ∷ r in gets_then (item (x ++ t)) _ a t (a ∷ []) t (h t end) (rw c refl)

more_gets : {A : Type 0} (item : Parser A) (close : Sign) (x y : Tokens) (a : A) (es : List A) (p : Place) → ((r : Tokens) → Ends 10 r → Gets a r (item (x ++ r)))
    → (q : Place) (r : Tokens) → ((m : ℕ) → Gets es (sign close q ∷ r) (some_of item m (y ++ sign close q ∷ r)))
    → (m : ℕ) → Gets (a ∷ es) (sign close q ∷ r) (some_of item m (x ++ (sign s.Comma p ∷ (y ++ (sign close q ∷ r)))))
unfolding some_of same
more_gets item close x y a es p h q r i zero = tt
more_gets item close x y a es p h q r i (suc m) =
    let t : Tokens = sign close q ∷ r in
    let comma : Tokens = sign s.Comma p ∷ (y ++ t) in
    gets_then (item (x ++ comma)) _ a comma (a ∷ es) t (h comma (omega arith)) (gets_then (some_of item m (y ++ t)) _ es t (a ∷ es) t (i m) refl)

same_sign : (x : Sign) → IsClose x → (same x x ≡ true) × (same x s.Comma ≡ false) × (10 < extends x)
unfolding same
same_sign s.CloseRound h = (refl, refl, omega arith)
same_sign s.CloseSquare h = (refl, refl, omega arith)
same_sign s.CloseBrace h = (refl, refl, omega arith)
same_sign _ h = absurd h

all_gets : {A : Type 0} (inner : Brackets) (item : Parser A) (close : Sign) → IsClose close → (x : Tokens) (es : List A) (q : Place) (r : Tokens) → Opens close x
    → ((m : ℕ) → Gets es (sign close q ∷ r) (some_of item m (x ++ sign close q ∷ r))) → Gets es r (all_of inner item close (x ++ sign close q ∷ r))
unfolding all_of
all_gets inner item close k x es q r opens h =
    let t : Tokens = sign close q ∷ r in
    if_room inner.room _ es r (rw (opens t) (gets_then (some_of item inner.turns (x ++ t)) _ es t es r (h inner.turns) (rw (same_sign close k).0 refl)))

nothing_gets : {A : Type 0} (inner : Brackets) (item : Parser A) (close : Sign) → IsClose close → (q : Place) (r : Tokens) → Gets {A = List A} [] r (all_of inner item close (sign close q ∷ r))
unfolding all_of
nothing_gets inner item close k q r = if_room inner.room _ [] r (rw (same_sign close k).0 refl)

pair_gets : (inner : Brackets) (kind : Kind) (n : List ℕ) (p q : Place) (x : Tokens) (a : Expr) → key_of kind ≡ Some n → GoesInside inner x a
    → (r : Tokens) → Ends 10 r → Gets (n, a) r (pair inner (token kind p ∷ (sign s.Colon q ∷ (x ++ r))))
unfolding pair same
pair_gets inner kind n p q x a e h r end = rw e (gets_then (inner.parse (x ++ r)) _ a r (n, a) r (h r end) refl)

-- ---- within brackets

inside : (x : Tokens) (a : Expr) (n : ℕ) → ((d : ℕ) → GoesPiped (brackets n d) x a) → (d : ℕ) → GoesInside (brackets n d) x a
unfolding whole
inside x a n h zero = λ r end. tt
inside x a n h (suc d) = λ r end. h d r a r (omega arith) (no_colon (peek r) end) (ends_piped (brackets n d) (start x) a r end)

mutual
  through_chain : {c : Bool} {x : Tokens} {a : Expr} → Chain c x a → (n d : ℕ) → GoesChain (brackets n d) c x a
  through_chain (Chain.number m p) n d = one_goes (brackets n d) false (k.Number m) p _ (λ r. refl)
  through_chain (Chain.quoted m p) n d = one_goes (brackets n d) false (k.Text m) p _ (λ r. refl)
  through_chain (Chain.word m p h) n d = one_goes (brackets n d) false (k.Name m) p _ (λ r. ap (λ q. Ok (q, r)) (named_word p m _ h))
  through_chain (Chain.name m p h) n d = one_goes (brackets n d) true (k.Name m) p _ (λ r. ap (λ q. Ok (q, r)) (named_name p m h))
  through_chain (Chain.variable m p) n d = one_goes (brackets n d) true (k.Variable m) p _ (λ r. refl)
  through_chain (Chain.group x p q h) n d = group_goes (brackets n d) x _ p q (inside x _ n (through_piped h n) d)
  through_chain (Chain.list x p q h) n d = list_goes (brackets n d) x _ p q (through_all h n d s.CloseSquare tt q)
  through_chain (Chain.rec x p q h) n d = rec_goes (brackets n d) x _ p q (through_pairs h n d q)
  through_chain (Chain.member x p q h) n d = member_goes (brackets n d) _ x _ _ p q (starts_chain h) (through_chain h n d)
  through_chain (Chain.safe x p q h) n d = safe_goes (brackets n d) _ x _ _ p q (starts_chain h) (through_chain h n d)
  through_chain (Chain.index x y p q h i) n d = index_goes (brackets n d) _ x y _ _ p q (starts_chain h) (through_chain h n d) (inside y _ n (through_piped i n) d)
  through_chain (Chain.call x y p q h i) n d = call_goes (brackets n d) x y _ _ p q (starts_chain h) (through_chain h n d) (through_all i n d s.CloseRound tt q)

  through : {k : ℕ} {x : Tokens} {a : Expr} → Reads k x a → (n d : ℕ) → Goes (brackets n d) k x a
  through (Reads.alone h) n d = alone_goes (brackets n d) _ _ _ (no_prefix h) (through_chain h n d)
  through (Reads.prefixing op p h) n d = prefix_goes (brackets n d) _ _ op p (through h n d)
  through (Reads.tighter h) n d = tighter_goes (brackets n d) _ _ _ (starts h) (through h n d)
  through (Reads.operator op x y p h i) n d = operator_goes (brackets n d) op (below op) refl (above_prefixes op) x y _ _ p (starts h) (through h n d) (through i n d)

  through_any : {x : Tokens} {a : Expr} → ReadsAny x a → (n d : ℕ) → GoesAny (brackets n d) x a
  through_any (ReadsAny.plain h) n d = λ m r end. plain_gets (brackets n d) _ _ (through h n d) r end m
  through_any (ReadsAny.choose x y z p q h i j) n d = λ m r end. simp append_assoc (choose_gets (brackets n d) x y z _ _ _ p q (starts h) (through h n d) (through_any i n d) (through_any j n d) r end m)

  through_piped : {x : Tokens} {a : Expr} → ReadsPiped x a → (n d : ℕ) → GoesPiped (brackets n d) x a
  through_piped (ReadsPiped.unpiped h) n d = unpiped_goes (brackets n d) _ _ (starts_any h) (through_any h n d)
  through_piped (ReadsPiped.piped x y p q h i) n d = piped_goes (brackets n d) x y _ _ _ p q (starts_piped h) (through_piped h n d) (through_arguments i n d)

  through_arguments : {x : Tokens} {es : List Expr} → ReadsArguments x es → (n d : ℕ) → GoesArguments (brackets n d) x es
  through_arguments ReadsArguments.none n d = λ m r end no_more. none_gets (brackets n d) r no_more m
  through_arguments (ReadsArguments.argument x y p h i) n d = λ m r end no_more. simp append_assoc (
      argument_gets (brackets n d) x y _ _ p (through_any h n d) (ends_argument i) (through_arguments i n d) r end no_more m)

  through_all : {x : Tokens} {es : List Expr} → ReadsAll x es → (n d : ℕ) (close : Sign) → IsClose close → (q : Place) (r : Tokens)
      → Gets es r (all_of (brackets n d) (brackets n d).parse close (x ++ sign close q ∷ r))
  through_all ReadsAll.nothing n d close k q r = nothing_gets (brackets n d) (brackets n d).parse close k q r
  through_all (ReadsAll.several h) n d close k q r = all_gets (brackets n d) (brackets n d).parse close k _ _ q r (not_closed_some h close k) (through_some h n d close k q r)

  through_some : {x : Tokens} {es : List Expr} → ReadsSome x es → (n d : ℕ) (close : Sign) → IsClose close → (q : Place) (r : Tokens) (m : ℕ)
      → Gets es (sign close q ∷ r) (some_of (brackets n d).parse m (x ++ sign close q ∷ r))
  through_some (ReadsSome.one h) n d close k q r m =
      one_gets (brackets n d).parse close (same_sign close k).1 _ _ (inside _ _ n (through_piped h n) d) (same_sign close k).2 q r m
  through_some (ReadsSome.more x y p h i) n d close k q r m = simp append_assoc (
      more_gets (brackets n d).parse close x y _ _ p (inside _ _ n (through_piped h n) d) q r (through_some i n d close k q r) m)

  through_pairs : {x : Tokens} {fs : List (List ℕ × Expr)} → ReadsPairs x fs → (n d : ℕ) (q : Place) (r : Tokens)
      → Gets fs r (all_of (brackets n d) (pair (brackets n d)) s.CloseBrace (x ++ sign s.CloseBrace q ∷ r))
  through_pairs ReadsPairs.no_pair n d q r = nothing_gets (brackets n d) (pair (brackets n d)) s.CloseBrace tt q r
  through_pairs (ReadsPairs.some_pairs h) n d q r = all_gets (brackets n d) (pair (brackets n d)) s.CloseBrace tt _ _ q r (not_closed_pairs h s.CloseBrace tt) (through_some_pairs h n d q r)

  through_some_pairs : {x : Tokens} {fs : List (List ℕ × Expr)} → ReadsSomePairs x fs → (n d : ℕ) (q : Place) (r : Tokens) (m : ℕ)
      → Gets fs (sign s.CloseBrace q ∷ r) (some_of (pair (brackets n d)) m (x ++ sign s.CloseBrace q ∷ r))
  through_some_pairs (ReadsSomePairs.one_pair h) n d q r m =
      one_gets (pair (brackets n d)) s.CloseBrace (same_sign s.CloseBrace tt).1 _ _ (through_pair h n d) (same_sign s.CloseBrace tt).2 q r m
  through_some_pairs (ReadsSomePairs.more_pairs x y p h i) n d q r m = simp append_assoc (
      more_gets (pair (brackets n d)) s.CloseBrace x y _ _ p (through_pair h n d) q r (through_some_pairs i n d q r) m)

  through_pair : {x : Tokens} {f : List ℕ × Expr} → ReadsPair x f → (n d : ℕ) (r : Tokens) → Ends 10 r → Gets f r (pair (brackets n d) (x ++ r))
  through_pair (ReadsPair.pair kind p q x key h) n d r end = pair_gets (brackets n d) kind _ p q x _ key (inside x _ n (through_piped h n) d) r end

-- ---- the law: what the grammar reads, the function reads, or it stops at a limit
pub complete : {x : Tokens} {a : Expr} → ReadsPiped x a → (n d : ℕ) → Gets a [] (whole n d x)
complete {x = x} {a = a} h n d = subst (λ ts. Gets a [] (whole n d ts)) (append-nil x) (inside x a n (through_piped h n) d [] (omega arith))

-- the same before a token that goes on with no expression
pub complete_before : {x : Tokens} {a : Expr} → ReadsPiped x a → (n d : ℕ) (r : Tokens) → Ends 10 r → Gets a r (whole n d (x ++ r))
complete_before {x = x} {a = a} h n d r end = inside x a n (through_piped h n) d r end
