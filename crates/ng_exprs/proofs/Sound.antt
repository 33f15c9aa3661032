-- What the function reads is in the grammar, and where it stops at a limit, a limit is passed.
use Rattle.std.proofs.Common.{◌≡◌, ℕ, zero, suc, ◌+◌, ◌≤◌, List, [], ◌∷◌, ◌++◌, length, refl, sym, ◌∙◌, ap, subst, append_assoc, arith, length-append}
use Rattle.std.specs.Prelude.{Bool, true, false, Option, Some, None, Ok, if◌then◌else◌, ◌==◌, nat_lt, pos}
use Rattle.std.proofs.Common.{inl}
use Rattle.ng_ast.specs.declared.Place.{Place}
use Rattle.ng_ast.specs.declared.Binary.{Binary}
use Rattle.ng_ast.specs.declared.Binary.TheVariants as binary
use Rattle.ng_ast.specs.declared.Unary.{Unary}
use Rattle.ng_ast.specs.declared.Unary.TheVariants as unary
use Rattle.ng_ast.specs.declared.Expr.{Expr}
use Rattle.ng_ast.specs.declared.Expr.TheVariants as e
use Rattle.ng_values.specs.declared.value.Value.TheVariants as v
use Rattle.ng_tokens.specs.declared.kinds.Sign.{Sign}
use Rattle.ng_tokens.specs.declared.kinds.Sign.TheVariants as s
use Rattle.ng_tokens.specs.declared.kinds.Kind.{Kind}
use Rattle.ng_tokens.specs.declared.kinds.Kind.TheVariants as k
use Rattle.ng_exprs.specs.Grammar.{Tokens, token, sign, start, origin, written, prefixed as written_prefix, below, Chain, Reads, ReadsAny, ReadsPiped, ReadsArguments}
use Rattle.ng_exprs.proofs.Complete.{starts, starts_any, starts_piped}
use Rattle.std.proofs.lemmas.List.{append-nil}
use Rattle.ng_exprs.specs.Limits.{after}
use Rattle.ng_exprs.specs.Ends.{stops}
use Rattle.ng_exprs.specs.Parse.{Parser, Brackets, brackets, peek, rest, is_sign, expect, name, infix_at, prefix_at, of_rank, chain, prefixed, joins, ranked, chosen, arguments, pipe, pipes, piped, whole, prefix_by, joined, arms, infix_of, prefix_of}
use Rattle.ng_exprs.proofs.SoundOperands.{AnyChain, Grew, Room, chain_sound, out_of_turns, stopped}
use Rattle.ng_exprs.proofs.Outcomes.{Calm, Inside, Is, Sound, Stuck, Took, begun, calm_append, calm_nothing, calm_one, case_if, expect_is, explain, name_is, no_tail, seen, stuck_after, stuck_as, stuck_at, stuck_in, weaken, zero_any, zero_piped, zero_tokens}

prefix_written : (x : Sign) (op : Unary) → prefix_of x ≡ Some op → x ≡ written_prefix op
prefix_written s.Not op e = let f : unary.Not ≡ op = cc in subst (λ o. s.Not ≡ written_prefix o) f refl
prefix_written s.Minus op e = let f : unary.Neg ≡ op = cc in subst (λ o. s.Minus ≡ written_prefix o) f refl
prefix_written s.Plus op e = let f : unary.Plus ≡ op = cc in subst (λ o. s.Plus ≡ written_prefix o) f refl
prefix_written _ op e = cc

prefix_flat : (op : Unary) (n : ℕ) → after (k.Sign (written_prefix op)) n ≡ n
prefix_flat unary.Not n = refl
prefix_flat unary.Neg n = refl
prefix_flat unary.Plus n = refl

prefix_on : (op : Unary) (n : ℕ) → stops (k.Sign (written_prefix op)) n ≡ false
prefix_on unary.Not n = refl
prefix_on unary.Neg n = refl
prefix_on unary.Plus n = refl

prefix_seen_by : (kind : Kind) (p : Place) (ts : Tokens) (op : Unary) → prefix_at (peek (token kind p ∷ ts)) ≡ Some op → token kind p ∷ ts ≡ sign (written_prefix op) p ∷ ts
prefix_seen_by (k.Sign x) p ts op e = ap (λ z. sign z p ∷ ts) (prefix_written x op e)
prefix_seen_by (k.Number n) p ts op e = cc
prefix_seen_by (k.Text n) p ts op e = cc
prefix_seen_by (k.Name n) p ts op e = cc
prefix_seen_by (k.Variable n) p ts op e = cc

prefix_seen : (ts : Tokens) (op : Unary) → prefix_at (peek ts) ≡ Some op → ts ≡ sign (written_prefix op) (start ts) ∷ rest ts
prefix_seen [] op e = cc
prefix_seen (t ∷ ts) op e = prefix_seen_by t.kind t.place ts op e

took_prefix : (d : ℕ) (ts : Tokens) (op : Unary) (p : Place) (us : Tokens) → ts ≡ sign (written_prefix op) p ∷ us → (a : Expr) (vs : Tokens) → Took (Reads 1) d us a vs → Took (Reads 1) d ts (e.Unary p op a) vs
took_prefix d ts op p us eq a vs t = record {
  text = sign (written_prefix op) p ∷ t.text;
  all = eq ∙ ap (λ z. sign (written_prefix op) p ∷ z) t.all;
  reads = Reads.prefixing op p t.reads;
  calm = calm_append d (sign (written_prefix op) p ∷ []) t.text (calm_one d _ (prefix_flat op) (prefix_on op)) t.calm;
}

prefix_by_sound : (inner : Brackets) (d : ℕ) → Room d inner → Sound d inner → (m : ℕ) → suc m ≤ inner.turns
    → ((us : Tokens) → Is (Took (Reads 1) d us) (Stuck (Reads 1) (suc d) m us) (prefixed inner m us))
    → (ts : Tokens) (o : Option Unary) → prefix_at (peek ts) ≡ o
    → Is (Took (Reads 1) d ts) (Stuck (Reads 1) (suc d) (suc m) ts) (prefix_by inner (prefixed inner m) (start ts) o ts)
prefix_by_sound inner d room h m len again ts None eq =
    weaken (Took AnyChain d ts) (Stuck AnyChain (suc d) inner.turns ts) _ _ (chain inner ts) (chain_sound inner d room h ts)
    (λ a us t. record { text = t.text; all = t.all; reads = Reads.alone t.reads.1; calm = t.calm })
    (stuck_as AnyChain (Reads 1) (λ a. a) (λ x a r. Reads.alone r.1) (suc d) inner.turns (suc m) len ts)
prefix_by_sound inner d room h m len again ts (Some op) eq =
    let seen : ts ≡ sign (written_prefix op) (start ts) ∷ rest ts = prefix_seen ts op eq in
    explain (Took (Reads 1) d (rest ts)) (Stuck (Reads 1) (suc d) m (rest ts)) (Took (Reads 1) d ts) (Stuck (Reads 1) (suc d) (suc m) ts) (prefixed inner m (rest ts)) _ (again (rest ts))
    (λ a us t. took_prefix d ts op (start ts) (rest ts) seen a us t)
    (λ st. stuck_at (Reads 1) (suc d) (suc m) ts _ (sym seen)
    (stuck_after (Reads 1) (Reads 1) [] (sign (written_prefix op) (start ts)) [] (e.Unary (start ts) op) (λ y a r. no_tail (Reads 1) [] y _ _ (Reads.prefixing op (start ts) r))
    (λ m r. refl) (λ m. m) (prefix_flat op) (suc d) (suc d) m (suc m) (λ m. omega arith) (omega arith) (rest ts) st))

prefixed_sound : (inner : Brackets) (d : ℕ) → Room d inner → Sound d inner → (m : ℕ) → m ≤ inner.turns → (ts : Tokens) → Is (Took (Reads 1) d ts) (Stuck (Reads 1) (suc d) m ts) (prefixed inner m ts)
unfolding prefixed
prefixed_sound inner d room h zero len ts = begun (Reads 1) (suc d) zero_tokens _ (Reads.alone (Chain.number (pos 0) origin)) ts
prefixed_sound inner d room h (suc m) len ts = prefix_by_sound inner d room h m len (prefixed_sound inner d room h m (omega arith)) ts (prefix_at (peek ts)) refl

-- ---- operators

infix_written : (x : Sign) (op : Binary) → infix_of x ≡ Some op → x ≡ written op
infix_written s.Or op e = let f : binary.Or ≡ op = cc in subst (λ o. s.Or ≡ written o) f refl
infix_written s.And op e = let f : binary.And ≡ op = cc in subst (λ o. s.And ≡ written o) f refl
infix_written s.OrNull op e = let f : binary.OrNull ≡ op = cc in subst (λ o. s.OrNull ≡ written o) f refl
infix_written s.Eq op e = let f : binary.Eq ≡ op = cc in subst (λ o. s.Eq ≡ written o) f refl
infix_written s.Ne op e = let f : binary.Ne ≡ op = cc in subst (λ o. s.Ne ≡ written o) f refl
infix_written s.Same op e = let f : binary.Same ≡ op = cc in subst (λ o. s.Same ≡ written o) f refl
infix_written s.NotSame op e = let f : binary.NotSame ≡ op = cc in subst (λ o. s.NotSame ≡ written o) f refl
infix_written s.Lt op e = let f : binary.Lt ≡ op = cc in subst (λ o. s.Lt ≡ written o) f refl
infix_written s.Le op e = let f : binary.Le ≡ op = cc in subst (λ o. s.Le ≡ written o) f refl
infix_written s.Gt op e = let f : binary.Gt ≡ op = cc in subst (λ o. s.Gt ≡ written o) f refl
infix_written s.Ge op e = let f : binary.Ge ≡ op = cc in subst (λ o. s.Ge ≡ written o) f refl
infix_written s.Plus op e = let f : binary.Add ≡ op = cc in subst (λ o. s.Plus ≡ written o) f refl
infix_written s.Minus op e = let f : binary.Sub ≡ op = cc in subst (λ o. s.Minus ≡ written o) f refl
infix_written s.Star op e = let f : binary.Mul ≡ op = cc in subst (λ o. s.Star ≡ written o) f refl
infix_written s.Slash op e = let f : binary.Div ≡ op = cc in subst (λ o. s.Slash ≡ written o) f refl
infix_written s.Percent op e = let f : binary.Rem ≡ op = cc in subst (λ o. s.Percent ≡ written o) f refl
infix_written _ op e = cc

infix_flat : (op : Binary) (n : ℕ) → after (k.Sign (written op)) n ≡ n
infix_flat binary.Or n = refl
infix_flat binary.And n = refl
infix_flat binary.OrNull n = refl
infix_flat binary.Eq n = refl
infix_flat binary.Ne n = refl
infix_flat binary.Same n = refl
infix_flat binary.NotSame n = refl
infix_flat binary.Lt n = refl
infix_flat binary.Le n = refl
infix_flat binary.Gt n = refl
infix_flat binary.Ge n = refl
infix_flat binary.Add n = refl
infix_flat binary.Sub n = refl
infix_flat binary.Mul n = refl
infix_flat binary.Div n = refl
infix_flat binary.Rem n = refl

infix_on : (op : Binary) (n : ℕ) → stops (k.Sign (written op)) n ≡ false
infix_on binary.Or n = refl
infix_on binary.And n = refl
infix_on binary.OrNull n = refl
infix_on binary.Eq n = refl
infix_on binary.Ne n = refl
infix_on binary.Same n = refl
infix_on binary.NotSame n = refl
infix_on binary.Lt n = refl
infix_on binary.Le n = refl
infix_on binary.Gt n = refl
infix_on binary.Ge n = refl
infix_on binary.Add n = refl
infix_on binary.Sub n = refl
infix_on binary.Mul n = refl
infix_on binary.Div n = refl
infix_on binary.Rem n = refl

same_number : (m n : ℕ) → (m == n) ≡ true → m ≡ n
same_number m n e = grind arith

of_rank_some : (r : ℕ) (o : Option Binary) (op : Binary) → of_rank r o ≡ Some op → (o ≡ Some op) × (below op ≡ r)
of_rank_some r None op e = cc
of_rank_some r (Some o) op e = of_test (below o == r) refl e
  where
    of_test : (b : Bool) → (below o == r) ≡ b → (if b then Some o else None) ≡ Some op → (Some o ≡ Some op) × (below op ≡ r)
    of_test true t f = let same : o ≡ op = cc in (ap Some same, ap below (sym same) ∙ same_number (below o) r t)
    of_test false t f = cc

infix_seen_by : (kind : Kind) (p : Place) (ts : Tokens) (op : Binary) → infix_at (peek (token kind p ∷ ts)) ≡ Some op → token kind p ∷ ts ≡ sign (written op) p ∷ ts
infix_seen_by (k.Sign x) p ts op e = ap (λ z. sign z p ∷ ts) (infix_written x op e)
infix_seen_by (k.Number n) p ts op e = cc
infix_seen_by (k.Text n) p ts op e = cc
infix_seen_by (k.Name n) p ts op e = cc
infix_seen_by (k.Variable n) p ts op e = cc

infix_seen : (ts : Tokens) (op : Binary) → infix_at (peek ts) ≡ Some op → ts ≡ sign (written op) (start ts) ∷ rest ts
infix_seen [] op e = cc
infix_seen (t ∷ ts) op e = infix_seen_by t.kind t.place ts op e

-- what is known of the parser of the operands of an operator
abbrev pub Operands : ℕ → ℕ → ℕ → Parser Expr → Type 0
Operands m n d operand = (ts : Tokens) → Is (Took (Reads (suc n)) d ts) (Stuck (Reads (suc n)) (suc d) m ts) (operand ts)

JoinLoop : Brackets → Parser Expr → ℕ → ℕ → ℕ → Type 0
JoinLoop inner operand n d m = (x : Tokens) (a : Expr) → Reads (suc (suc n)) x a → Calm d x → inner.turns ≤ length x + m → (ts : Tokens)
    → Is (Took (Reads (suc (suc n))) d (x ++ ts)) (Stuck (Reads (suc (suc n))) (suc d) inner.turns (x ++ ts)) (joins inner operand (suc n) m (start x) a ts)

-- the operator and its operands
operated : (op : Binary) (n : ℕ) → below op ≡ suc n → (x y : Tokens) (a b : Expr) (p : Place) → Reads (suc (suc n)) x a → Reads (suc n) y b → Reads (suc (suc n)) (x ++ sign (written op) p ∷ y) (e.Binary (start x) op a b)
operated op n eq x y a b p ra rb =
    subst (λ m. Reads (suc m) (x ++ sign (written op) p ∷ y) (e.Binary (start x) op a b)) eq
    (Reads.operator op x y p (subst (λ m. Reads (suc m) x a) (sym eq) ra) (subst (λ m. Reads m y b) (sym eq) rb))

join_again : (inner : Brackets) (operand : Parser Expr) (n d m : ℕ) → JoinLoop inner operand n d m → (x : Tokens) (a : Expr) → Reads (suc (suc n)) x a → Calm d x → inner.turns ≤ length x + suc m
    → (op : Binary) → below op ≡ suc n → (p : Place) (us : Tokens) (b : Expr) (vs : Tokens) → Took (Reads (suc n)) d us b vs
    → Is (Took (Reads (suc (suc n))) d (x ++ sign (written op) p ∷ us)) (Stuck (Reads (suc (suc n))) (suc d) inner.turns (x ++ sign (written op) p ∷ us)) (joins inner operand (suc n) m (start x) (e.Binary (start x) op a b) vs)
unfolding JoinLoop
join_again inner operand n d m loop x a ra cx len op eq p us b vs t =
    let y : Tokens = sign (written op) p ∷ t.text in
    let R : Tokens → Expr → Type 0 = Reads (suc (suc n)) in
    subst (λ z. Is (Took R d (x ++ sign (written op) p ∷ z)) (Stuck R (suc d) inner.turns (x ++ sign (written op) p ∷ z)) (joins inner operand (suc n) m (start x) (e.Binary (start x) op a b) vs)) (sym t.all)
    (subst (λ z. Is (Took R d z) (Stuck R (suc d) inner.turns z) (joins inner operand (suc n) m (start x) (e.Binary (start x) op a b) vs)) (append_assoc x y vs)
    (subst (λ z. Is (Took R d ((x ++ y) ++ vs)) (Stuck R (suc d) inner.turns ((x ++ y) ++ vs)) (joins inner operand (suc n) m z (e.Binary (start x) op a b) vs)) (starts ra y)
    (loop (x ++ y) (e.Binary (start x) op a b) (operated op n eq x t.text a b p ra t.reads)
    (calm_append d x y cx (calm_append d (sign (written op) p ∷ []) t.text (calm_one d _ (infix_flat op) (infix_on op)) t.calm))
    (omega (arith, length-append x y)) vs)))

joined_sound : (inner : Brackets) (operand : Parser Expr) (n d m : ℕ) → Operands inner.turns n d operand → JoinLoop inner operand n d m → (x : Tokens) (a : Expr) → Reads (suc (suc n)) x a → Calm d x → inner.turns ≤ length x + suc m
    → (ts : Tokens) (o : Option Binary) → of_rank (suc n) (infix_at (peek ts)) ≡ o
    → Is (Took (Reads (suc (suc n))) d (x ++ ts)) (Stuck (Reads (suc (suc n))) (suc d) inner.turns (x ++ ts)) (joined inner operand (joins inner operand (suc n) m (start x)) (start x) a o ts)
joined_sound inner operand n d m h loop x a ra cx len ts None eq = stopped (Reads (suc (suc n))) d x a ra cx ts
joined_sound inner operand n d m h loop x a ra cx len ts (Some op) eq =
    let both : (infix_at (peek ts) ≡ Some op) × (below op ≡ suc n) = of_rank_some (suc n) _ op eq in
    let seen : ts ≡ sign (written op) (start ts) ∷ rest ts = infix_seen ts op both.0 in
    let us : Tokens = rest ts in
    let p : Place = start ts in
    let R : Tokens → Expr → Type 0 = Reads (suc (suc n)) in
    let T : Expr → Tokens → Type 0 = Took R d (x ++ ts) in
    let S : Type 0 = Stuck R (suc d) inner.turns (x ++ ts) in
    explain (Took (Reads (suc n)) d us) (Stuck (Reads (suc n)) (suc d) inner.turns us) T S (operand us) _ (h us)
    (λ b vs t. subst (λ z. Is (Took R d (x ++ z)) (Stuck R (suc d) inner.turns (x ++ z)) (joins inner operand (suc n) m (start x) (e.Binary (start x) op a b) vs)) (sym seen)
    (join_again inner operand n d m loop x a ra cx len op both.1 p us b vs t))
    (λ st. stuck_at R (suc d) inner.turns (x ++ ts) _ (ap (λ z. x ++ z) (sym seen))
    (stuck_after (Reads (suc n)) R x (sign (written op) p) [] (e.Binary (start x) op a)
    (λ y b r. no_tail R x y _ _ (operated op n both.1 x y a b p ra r)) cx.even (λ m. m) (infix_flat op) (suc d) (suc d) inner.turns inner.turns (λ m. omega arith) (omega arith) us st))

joins_sound : (inner : Brackets) (operand : Parser Expr) (n d : ℕ) → Operands inner.turns n d operand → (m : ℕ) → JoinLoop inner operand n d m
unfolding joins JoinLoop
joins_sound inner operand n d h zero = λ x a ra cx len ts. out_of_turns (Reads (suc (suc n))) (suc d) inner.turns x a ra len ts
joins_sound inner operand n d h (suc m) = λ x a ra cx len ts. joined_sound inner operand n d m h (joins_sound inner operand n d h m) x a ra cx len ts (of_rank (suc n) (infix_at (peek ts))) refl

ranked_sound : (inner : Brackets) (d : ℕ) → Room d inner → Sound d inner → (n : ℕ) → Operands inner.turns n d (ranked inner n)
unfolding ranked JoinLoop
ranked_sound inner d room h zero = λ ts. prefixed_sound inner d room h inner.turns (omega arith) ts
ranked_sound inner d room h (suc n) = λ ts.
    let R : Tokens → Expr → Type 0 = Reads (suc n) in
    let R' : Tokens → Expr → Type 0 = Reads (suc (suc n)) in
    explain (Took R d ts) (Stuck R (suc d) inner.turns ts) (Took R' d ts) (Stuck R' (suc d) inner.turns ts) (ranked inner n ts) _ (ranked_sound inner d room h n ts)
    (λ a us t. subst (λ z. Is (Took R' d z) (Stuck R' (suc d) inner.turns z) (joins inner (ranked inner n) (suc n) inner.turns (start z) a us)) (sym t.all)
    (subst (λ z. Is (Took R' d (t.text ++ us)) (Stuck R' (suc d) inner.turns (t.text ++ us)) (joins inner (ranked inner n) (suc n) inner.turns z a us)) (sym (starts t.reads us))
    (joins_sound inner (ranked inner n) n d (ranked_sound inner d room h n) inner.turns t.text a (Reads.tighter t.reads) t.calm (omega arith) us)))
    (stuck_as R R' (λ a. a) (λ x a r. Reads.tighter r) (suc d) inner.turns inner.turns (omega arith) ts)

Chooses : Brackets → ℕ → ℕ → Type 0
Chooses inner d m = (ts : Tokens) → Is (Took ReadsAny d ts) (Stuck ReadsAny (suc d) m ts) (chosen inner m ts)

choice : (x y z : Tokens) (c a b : Expr) (p q : Place) → Reads 8 x c → ReadsAny y a → ReadsAny z b → ReadsAny (x ++ (sign s.Question p ∷ (y ++ (sign s.Colon q ∷ z)))) (e.Choose (start x) c a b)
choice x y z c a b p q rc ra rb = subst (λ w. ReadsAny w (e.Choose (start x) c a b)) (simp append_assoc) (ReadsAny.choose x y z p q rc ra rb)

arms_sound : (inner : Brackets) (d m : ℕ) → Chooses inner d m → (x : Tokens) (c : Expr) → Reads 8 x c → Calm d x → (p : Place) (ts : Tokens)
    → Is (Took ReadsAny d (x ++ sign s.Question p ∷ ts)) (Stuck ReadsAny (suc d) (suc m) (x ++ sign s.Question p ∷ ts)) (arms inner (chosen inner m) (start x) c ts)
unfolding Chooses
arms_sound inner d m h x c rc cx p ts =
    let T : Expr → Tokens → Type 0 = Took ReadsAny d (x ++ sign s.Question p ∷ ts) in
    let S : Type 0 = Stuck ReadsAny (suc d) (suc m) (x ++ sign s.Question p ∷ ts) in
    explain (Took ReadsAny d ts) (Stuck ReadsAny (suc d) m ts) T S (chosen inner m ts) _ (h ts)
    (λ a us t. explain (λ _ vs. (q : Place) × (us ≡ sign s.Colon q ∷ vs)) ⊥ T S (expect s.Colon us) _ (expect_is s.Colon us)
    (λ _ vs eq.
    let y : Tokens = sign s.Question p ∷ t.text in
    let cy : Calm d y = calm_append d (sign s.Question p ∷ []) t.text (calm_one d _ (λ n. refl) (λ n. refl)) t.calm in
    let cxy : Calm d (x ++ y) = calm_append d x y cx cy in
    let whole_text : x ++ sign s.Question p ∷ ts ≡ (x ++ y) ++ sign s.Colon eq.0 ∷ vs =
    ap (λ z. x ++ sign s.Question p ∷ z) (t.all ∙ ap (λ z. t.text ++ z) eq.1) ∙ sym (append_assoc x y (sign s.Colon eq.0 ∷ vs)) in
    explain (Took ReadsAny d vs) (Stuck ReadsAny (suc d) m vs) T S (chosen inner m vs) _ (h vs)
    (λ b ws u. record {
      text = (x ++ y) ++ sign s.Colon eq.0 ∷ u.text;
      all = whole_text ∙ ap (λ z. (x ++ y) ++ sign s.Colon eq.0 ∷ z) u.all ∙ sym (append_assoc (x ++ y) (sign s.Colon eq.0 ∷ u.text) ws);
      reads = ReadsAny.choose x t.text u.text p eq.0 rc t.reads u.reads;
      calm = calm_append d (x ++ y) _ cxy (calm_append d (sign s.Colon eq.0 ∷ []) u.text (calm_one d _ (λ n. refl) (λ n. refl)) u.calm);
    })
    (λ st. stuck_at ReadsAny (suc d) (suc m) _ _ (sym whole_text)
    (stuck_after ReadsAny ReadsAny (x ++ y) (sign s.Colon eq.0) [] (e.Choose (start x) c a)
    (λ z b r. no_tail ReadsAny (x ++ y) z _ _ (ReadsAny.choose x t.text z p eq.0 rc t.reads r)) cxy.even (λ n. n) (λ n. refl) (suc d) (suc d) m (suc m) (λ n. omega arith) (omega arith) vs st)))
    (λ no. absurd no))
    (stuck_after ReadsAny ReadsAny x (sign s.Question p) (sign s.Colon p ∷ zero_tokens) (λ a. e.Choose (start x) c a (e.Literal origin (v.Int (pos 0))))
    (λ y a r. choice x y zero_tokens c a (e.Literal origin (v.Int (pos 0))) p p rc r zero_any) cx.even (λ n. n) (λ n. refl) (suc d) (suc d) m (suc m) (λ n. omega arith) (omega arith) ts)

chosen_sound : (inner : Brackets) (d : ℕ) → Room d inner → Sound d inner → (m : ℕ) → m ≤ inner.turns → Chooses inner d m
unfolding chosen Chooses
chosen_sound inner d room h zero len = λ ts. begun ReadsAny (suc d) zero_tokens _ zero_any ts
chosen_sound inner d room h (suc m) len = λ ts.
    let T : Expr → Tokens → Type 0 = Took ReadsAny d ts in
    let S : Type 0 = Stuck ReadsAny (suc d) (suc m) ts in
    explain (Took (Reads 8) d ts) (Stuck (Reads 8) (suc d) inner.turns ts) T S (ranked inner 7 ts) _ (ranked_sound inner d room h 7 ts)
    (λ c us t. case_if T S (is_sign s.Question (peek us)) _ _
    (λ y. let q : (q : Place) × (us ≡ sign s.Question q ∷ rest us) = seen s.Question us y in
    let all : t.text ++ sign s.Question q.0 ∷ rest us ≡ ts = ap (λ z. t.text ++ z) (sym q.1) ∙ sym t.all in
    subst (λ z. Is (Took ReadsAny d z) (Stuck ReadsAny (suc d) (suc m) z) (arms inner (chosen inner m) (start z) c (rest us))) all
    (subst (λ z. Is (Took ReadsAny d (t.text ++ sign s.Question q.0 ∷ rest us)) (Stuck ReadsAny (suc d) (suc m) (t.text ++ sign s.Question q.0 ∷ rest us)) (arms inner (chosen inner m) z c (rest us)))
    (sym (starts t.reads (sign s.Question q.0 ∷ rest us)))
    (arms_sound inner d m (chosen_sound inner d room h m (omega arith)) t.text c t.reads t.calm q.0 (rest us))))
    (λ n. record { text = t.text; all = t.all; reads = ReadsAny.plain t.reads; calm = t.calm }))
    (stuck_as (Reads 8) ReadsAny (λ a. a) (λ x a r. ReadsAny.plain r) (suc d) inner.turns (suc m) len ts)

-- ---- pipes

-- the arguments that were read, after a colon
arguments_sound : (inner : Brackets) (d : ℕ) → Room d inner → Sound d inner → (m : ℕ) → m ≤ inner.turns → (ts : Tokens) → Is (Took ReadsArguments d ts) (Stuck ReadsArguments (suc d) m ts) (arguments inner m ts)
unfolding arguments Chooses
arguments_sound inner d room h zero len ts = begun ReadsArguments (suc d) [] [] ReadsArguments.none ts
arguments_sound inner d room h (suc m) len ts =
    let T : List Expr → Tokens → Type 0 = Took ReadsArguments d ts in
    let S : Type 0 = Stuck ReadsArguments (suc d) (suc m) ts in
    let us : Tokens = rest ts in
    case_if T S (is_sign s.Colon (peek ts)) _ (Ok ([], ts))
    (λ y. let c : (q : Place) × (ts ≡ sign s.Colon q ∷ us) = seen s.Colon ts y in
    explain (Took ReadsAny d us) (Stuck ReadsAny (suc d) inner.turns us) T S (chosen inner inner.turns us) _ (chosen_sound inner d room h inner.turns (omega arith) us)
    (λ a vs t.
    let b : Tokens = sign s.Colon c.0 ∷ t.text in
    let cb : Calm d b = calm_append d (sign s.Colon c.0 ∷ []) t.text (calm_one d _ (λ n. refl) (λ n. refl)) t.calm in
    let whole_text : ts ≡ b ++ vs = c.1 ∙ ap (λ z. sign s.Colon c.0 ∷ z) t.all in
    explain (Took ReadsArguments d vs) (Stuck ReadsArguments (suc d) m vs) T S (arguments inner m vs) _ (arguments_sound inner d room h m (omega arith) vs)
    (λ es ws u. record {
      text = b ++ u.text;
      all = whole_text ∙ ap (λ z. b ++ z) u.all ∙ sym (append_assoc b u.text ws);
      reads = ReadsArguments.argument t.text u.text c.0 t.reads u.reads;
      calm = calm_append d b u.text cb u.calm;
    })
    (λ st. stuck_at ReadsArguments (suc d) (suc m) ts _ (sym whole_text)
    (stuck_in ReadsArguments ReadsArguments b [] (λ es. a ∷ es) (λ z es r. subst (λ w. ReadsArguments (b ++ w) (a ∷ es)) (sym (append-nil z)) (ReadsArguments.argument t.text z c.0 t.reads r))
    (λ n. n) (λ n r. cb.even n r) (suc d) (suc d) m (suc m) (λ n. omega arith) (omega arith) vs st)))
    (λ st. stuck_at ReadsArguments (suc d) (suc m) ts _ (sym c.1)
    (stuck_after ReadsAny ReadsArguments [] (sign s.Colon c.0) [] (λ a. a ∷ []) (λ z a r. ReadsArguments.argument z [] c.0 r ReadsArguments.none)
    (λ n r. refl) (λ n. n) (λ n. refl) (suc d) (suc d) inner.turns (suc m) (λ n. omega arith) (omega arith) us st)))
    (λ n. record { text = []; all = refl; reads = ReadsArguments.none; calm = calm_nothing d })

piped_more : (x y : Tokens) (a : Expr) (n : List ℕ) (es : List Expr) (p q : Place) → ReadsPiped x a → ReadsArguments y es → ReadsPiped (x ++ (sign s.Bar p ∷ (token (k.Name n) q ∷ y))) (e.Pipe (start x) a n es)
piped_more x y a n es p q ra rb = ReadsPiped.piped x y p q ra rb

pipe_sound : (inner : Brackets) (d : ℕ) → Room d inner → Sound d inner → (x : Tokens) (a : Expr) → ReadsPiped x a → Calm d x → (p : Place) (ts : Tokens)
    → Is (Grew ReadsPiped d x (sign s.Bar p ∷ ts)) (Stuck ReadsPiped (suc d) inner.turns (x ++ sign s.Bar p ∷ ts)) (pipe inner (start x) a ts)
unfolding pipe
pipe_sound inner d room h x a ra cx p ts =
    let T : Expr → Tokens → Type 0 = Grew ReadsPiped d x (sign s.Bar p ∷ ts) in
    let S : Type 0 = Stuck ReadsPiped (suc d) inner.turns (x ++ sign s.Bar p ∷ ts) in
    explain (λ n us. (q : Place) × (ts ≡ token (k.Name n) q ∷ us)) ⊥ T S (name ts) _ (name_is ts)
    (λ n us f.
    let two : Tokens = sign s.Bar p ∷ token (k.Name n) f.0 ∷ [] in
    let ctwo : Calm d two = calm_append d (sign s.Bar p ∷ []) _ (calm_one d _ (λ n. refl) (λ n. refl)) (calm_one d _ (λ n. refl) (λ n. refl)) in
    let whole_text : sign s.Bar p ∷ ts ≡ two ++ us = ap (λ z. sign s.Bar p ∷ z) f.1 in
    let b : Tokens = x ++ two in
    let cb : Calm d b = calm_append d x two cx ctwo in
    explain (Took ReadsArguments d us) (Stuck ReadsArguments (suc d) inner.turns us) T S (arguments inner inner.turns us) _ (arguments_sound inner d room h inner.turns (omega arith) us)
    (λ es vs t. record {
      text = two ++ t.text;
      all = whole_text ∙ ap (λ z. two ++ z) t.all;
      reads = piped_more x t.text a n es p f.0 ra t.reads;
      calm = calm_append d two t.text ctwo t.calm;
      long = omega arith;
    })
    (λ st. stuck_at ReadsPiped (suc d) inner.turns _ _ (append_assoc x two us ∙ ap (λ z. x ++ z) (sym whole_text))
    (stuck_in ReadsArguments ReadsPiped b [] (e.Pipe (start x) a n) (λ z es r. subst (λ w. ReadsPiped w (e.Pipe (start x) a n es)) (sym (append_assoc x two (z ++ []))) (
    subst (λ w. ReadsPiped (x ++ (two ++ w)) (e.Pipe (start x) a n es)) (sym (append-nil z)) (piped_more x z a n es p f.0 ra r)))
    (λ n. n) (λ n r. cb.even n r) (suc d) (suc d) inner.turns inner.turns (λ n. omega arith) (omega arith) us st)))
    (λ no. absurd no)

PipeLoop : Brackets → ℕ → ℕ → Type 0
PipeLoop inner d m = (x : Tokens) (a : Expr) → ReadsPiped x a → Calm d x → inner.turns ≤ length x + m → (ts : Tokens)
    → Is (Took ReadsPiped d (x ++ ts)) (Stuck ReadsPiped (suc d) inner.turns (x ++ ts)) (pipes inner m (start x) a ts)

pipe_again : (inner : Brackets) (d m : ℕ) → PipeLoop inner d m → (x : Tokens) → Calm d x → inner.turns ≤ length x + suc m → (ts : Tokens) (b : Expr) (us : Tokens) → Grew ReadsPiped d x ts b us
    → ((r : Tokens) → start (x ++ r) ≡ start x) → Is (Took ReadsPiped d (x ++ ts)) (Stuck ReadsPiped (suc d) inner.turns (x ++ ts)) (pipes inner m (start x) b us)
unfolding PipeLoop
pipe_again inner d m loop x cx len ts b us g st =
    subst (λ z. Is (Took ReadsPiped d z) (Stuck ReadsPiped (suc d) inner.turns z) (pipes inner m (start x) b us)) (append_assoc x g.text us ∙ ap (λ z. x ++ z) (sym g.all))
    (subst (λ z. Is (Took ReadsPiped d ((x ++ g.text) ++ us)) (Stuck ReadsPiped (suc d) inner.turns ((x ++ g.text) ++ us)) (pipes inner m z b us)) (st g.text)
    (loop (x ++ g.text) b g.reads (calm_append d x g.text cx g.calm) (omega (arith, length-append x g.text, g.long)) us))

pipes_sound : (inner : Brackets) (d : ℕ) → Room d inner → Sound d inner → (m : ℕ) → PipeLoop inner d m
unfolding pipes PipeLoop
pipes_sound inner d room h zero = λ x a ra cx len ts. out_of_turns ReadsPiped (suc d) inner.turns x a ra len ts
pipes_sound inner d room h (suc m) = λ x a ra cx len ts.
    let T : Expr → Tokens → Type 0 = Took ReadsPiped d (x ++ ts) in
    let S : Type 0 = Stuck ReadsPiped (suc d) inner.turns (x ++ ts) in
    case_if T S (is_sign s.Bar (peek ts)) _ (Ok (a, ts))
    (λ y. let c : (q : Place) × (ts ≡ sign s.Bar q ∷ rest ts) = seen s.Bar ts y in
    let us : Tokens = sign s.Bar c.0 ∷ rest ts in
    explain (Grew ReadsPiped d x us) (Stuck ReadsPiped (suc d) inner.turns (x ++ us)) T S (pipe inner (start x) a (rest ts)) _ (pipe_sound inner d room h x a ra cx c.0 (rest ts))
    (λ b vs g. subst (λ z. Is (Took ReadsPiped d (x ++ z)) (Stuck ReadsPiped (suc d) inner.turns (x ++ z)) (pipes inner m (start x) b vs)) (sym c.1) (
    pipe_again inner d m (pipes_sound inner d room h m) x cx len us b vs g (starts_piped ra)))
    (λ st. subst (λ z. Stuck ReadsPiped (suc d) inner.turns (x ++ z)) (sym c.1) st))
    (λ n. stopped ReadsPiped d x a ra cx ts)

piped_sound : (inner : Brackets) (d : ℕ) → Room d inner → Sound d inner → (ts : Tokens) → Is (Took ReadsPiped d ts) (Stuck ReadsPiped (suc d) inner.turns ts) (piped inner ts)
unfolding piped Chooses PipeLoop
piped_sound inner d room h ts =
    let T : Expr → Tokens → Type 0 = Took ReadsPiped d ts in
    let S : Type 0 = Stuck ReadsPiped (suc d) inner.turns ts in
    explain (Took ReadsAny d ts) (Stuck ReadsAny (suc d) inner.turns ts) T S (chosen inner inner.turns ts) _ (chosen_sound inner d room h inner.turns (omega arith) ts)
    (λ a us t. subst (λ z. Is (Took ReadsPiped d z) (Stuck ReadsPiped (suc d) inner.turns z) (pipes inner inner.turns (start z) a us)) (sym t.all)
    (subst (λ z. Is (Took ReadsPiped d (t.text ++ us)) (Stuck ReadsPiped (suc d) inner.turns (t.text ++ us)) (pipes inner inner.turns z a us)) (sym (starts_any t.reads us))
    (pipes_sound inner d room h inner.turns t.text a (ReadsPiped.unpiped t.reads) t.calm (omega arith) us)))
    (stuck_as ReadsAny ReadsPiped (λ a. a) (λ x a r. ReadsPiped.unpiped r) (suc d) inner.turns inner.turns (omega arith) ts)

-- ---- the law: what the function reads is in the grammar, and a limit stands where it stops at one

no_room : (d : ℕ) → nat_lt 0 (suc d) ≡ false → suc d ≡ 0
no_room d eq = grind arith

pub has_room : (n d : ℕ) → Room d (brackets n d)
has_room n zero = (λ eq. absurd cc, λ eq. refl)
has_room n (suc d) = (λ eq. (d, refl), no_room d)

pub sound : (n d : ℕ) → Sound d (brackets n d)
unfolding whole
sound n zero = λ ts. record { text = []; tail = ts; more = zero_tokens; value = e.Literal origin (v.Int (pos 0)); all = refl; reads = zero_piped; passes = inl (λ m. omega arith) }
sound n (suc d) = λ ts. weaken (Took ReadsPiped d ts) (Stuck ReadsPiped (suc d) n ts) (Inside (suc d) ts) (Stuck ReadsPiped (suc d) n ts) (piped (brackets n d) ts)
    (piped_sound (brackets n d) d (has_room n d) (sound n d) ts) (λ a us t. (d, refl, t)) (λ st. st)
