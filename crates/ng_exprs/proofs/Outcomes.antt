-- What a parser took, and where it stopped at a limit.
use Rattle.std.proofs.Common.{◌≡◌, ℕ, suc, pred, ◌+◌, ◌≤◌, List, [], ◌∷◌, ◌++◌, length, refl, sym, ◌∙◌, ap, subst, append_assoc, arith, length-append}
use Rattle.std.specs.Prelude.{Bool, true, false, Option, Some, None, Ok, Err, cond, ◌⊎◌, pos}
use Rattle.std.proofs.Common.{inl, inr}
use denote.Enum.Bare.{same_true}
use Rattle.ng_tokens.specs.contracts.kinds.Sign.{the_type}
use Rattle.ng_ast.specs.declared.Place.{Place}
use Rattle.ng_ast.specs.declared.Expr.{Expr}
use Rattle.ng_ast.specs.declared.Expr.TheVariants as e
use Rattle.ng_values.specs.declared.value.Value.TheVariants as v
use Rattle.ng_tokens.specs.declared.kinds.Sign.{Sign}
use Rattle.ng_tokens.specs.declared.kinds.Kind.{Kind}
use Rattle.ng_tokens.specs.declared.kinds.Kind.TheVariants as k
use Rattle.ng_tokens.specs.declared.kinds.Token.{Token}
use Rattle.ng_exprs.specs.Grammar.{Tokens, token, sign, origin, key_of, Chain, Reads, ReadsAny, ReadsPiped}
use Rattle.std.proofs.lemmas.List.{append-nil}
use Rattle.ng_exprs.specs.Limits.{after, opens, Within}
use Rattle.ng_exprs.specs.Ends.{stops}
use Rattle.ng_exprs.specs.Parse.{Syntax, Limit, Outcome, Parser, Brackets, and_then, same, peek, rest, is_sign, expect, name, name_by, key, key_by}

-- none of the tokens ends an expression in which so many brackets are open at first
abbrev pub NoStop : ℕ → Tokens → Type 0
NoStop n [] = Unit {0}
NoStop n (t ∷ ts) = (stops t.kind n ≡ false) × NoStop (after t.kind n) ts

-- each bracket is closed, and at most d are open at once
pub record Calm (d : ℕ) (x : Tokens) : Type 0 where
  pub even : (m : ℕ) (r : Tokens) → opens m (x ++ r) ≡ opens m r
  pub nests : (m n : ℕ) → n + d ≤ m → (r : Tokens) → Within m n r → Within m n (x ++ r)
  pub steady : (n : ℕ) (r : Tokens) → NoStop n r → NoStop n (x ++ r)

pub calm_nothing : (d : ℕ) → Calm d []
calm_nothing d = record { even = λ m r. refl; nests = λ m n h r w. w; steady = λ n r w. w }

pub calm_one : (d : ℕ) (t : Token) → ((n : ℕ) → after t.kind n ≡ n) → ((n : ℕ) → stops t.kind n ≡ false) → Calm d (t ∷ [])
calm_one d t flat on = record {
  even = λ m r. ap (λ n. opens n r) (flat m);
  nests = λ m n h r w. rw (flat n) (omega arith, w);
  steady = λ n r w. (on n, subst (λ m. NoStop m r) (sym (flat n)) w);
}

pub calm_append : (d : ℕ) (x y : Tokens) → Calm d x → Calm d y → Calm d (x ++ y)
calm_append d x y c f = record {
  even = λ m r. rw append_assoc (c.even m (y ++ r) ∙ f.even m r);
  nests = λ m n h r w. rw append_assoc (c.nests m n h (y ++ r) (f.nests m n h r w));
  steady = λ n r w. rw append_assoc (c.steady n (y ++ r) (f.steady n r w));
}

nest_brackets : (d : ℕ) (t : Token) (x : Tokens) (u : Token) → ((n : ℕ) → after t.kind n ≡ suc n) → ((n : ℕ) → after u.kind n ≡ pred n) → Calm d x
    → (m n : ℕ) → n + suc d ≤ m → (r : Tokens) → Within m n r → Within m n ((t ∷ x ++ u ∷ []) ++ r)
nest_brackets d t x u opening closing c m n h r w =
    subst (λ z. Within m n (t ∷ z)) (sym (append_assoc x (u ∷ []) r)) (rw (opening n) (omega arith, c.nests m (suc n) (omega arith) (u ∷ r) (rw (closing (suc n)) (omega arith, w))))

pub calm_brackets : (d : ℕ) (t : Token) (x : Tokens) (u : Token) → ((n : ℕ) → after t.kind n ≡ suc n) → ((n : ℕ) → after u.kind n ≡ pred n) → ((n : ℕ) → stops t.kind n ≡ false) → ((n : ℕ) → stops u.kind (suc n) ≡ false)
    → Calm d x → Calm (suc d) (t ∷ x ++ u ∷ [])
calm_brackets d t x u opening closing on off c = record {
  even = λ m r. rw append_assoc (ap (λ n. opens n (x ++ u ∷ r)) (opening m) ∙ c.even (suc m) (u ∷ r) ∙ ap (λ n. opens n r) (closing (suc m)));
  nests = λ m n h r w. nest_brackets d t x u opening closing c m n h r w;
  steady = λ n r w. (
    on n,
    subst (λ z. NoStop (after t.kind n) z) (sym (append_assoc x (u ∷ []) r)) (
        subst (λ m. NoStop m (x ++ u ∷ r)) (sym (opening n)) (c.steady (suc n) (u ∷ r) (off n, subst (λ m. NoStop m r) (sym (closing (suc n))) w))),
  );
}

pub record Took {A : Type 0} (R : Tokens → A → Type 0) (d : ℕ) (ts : Tokens) (a : A) (us : Tokens) : Type 0 where
  pub text : Tokens
  pub all : ts ≡ text ++ us
  pub reads : R text a
  pub calm : Calm d text

pub record Stuck {A : Type 0} (R : Tokens → A → Type 0) (d n : ℕ) (ts : Tokens) : Type 0 where
  pub text : Tokens
  pub tail : Tokens
  pub more : Tokens
  pub value : A
  pub all : ts ≡ text ++ tail
  pub reads : R (text ++ more) value
  pub passes : ((m : ℕ) → m + d ≤ opens m text) ⊎ (n ≤ length text)

abbrev pub Is : {A : Type 0} → (A → Tokens → Type 0) → Type 0 → Outcome A → Type 0
Is T S (Ok p) = T p.0 p.1
Is T S (Err Limit) = S
Is T S (Err Syntax) = Unit {0}

pub explain : {A B : Type 0} (T : A → Tokens → Type 0) (S : Type 0) (T' : B → Tokens → Type 0) (S' : Type 0) (r : Outcome A) (f : A → Parser B)
    → Is T S r → ((a : A) (us : Tokens) → T a us → Is T' S' (f a us)) → (S → S') → Is T' S' (and_then r f)
explain T S T' S' (Ok p) f h go stop = go p.0 p.1 h
explain T S T' S' (Err Limit) f h go stop = stop h
explain T S T' S' (Err Syntax) f h go stop = tt

pub weaken : {A : Type 0} (T : A → Tokens → Type 0) (S : Type 0) (T' : A → Tokens → Type 0) (S' : Type 0) (r : Outcome A)
    → Is T S r → ((a : A) (us : Tokens) → T a us → T' a us) → (S → S') → Is T' S' r
weaken T S T' S' (Ok p) h go stop = go p.0 p.1 h
weaken T S T' S' (Err Limit) h go stop = stop h
weaken T S T' S' (Err Syntax) h go stop = tt

passes_in : (b p : Tokens) (k : ℕ → ℕ) → ((m : ℕ) (r : Tokens) → opens m (b ++ r) ≡ opens (k m) r) → (d d' n n' : ℕ) → ((m : ℕ) → m + d' ≤ k m + d) → n' ≤ length b + n
    → ((m : ℕ) → m + d ≤ opens m p) ⊎ (n ≤ length p) → ((m : ℕ) → m + d' ≤ opens m (b ++ p)) ⊎ (n' ≤ length (b ++ p))
passes_in b p k counts d d' n n' room len (inl h) = inl (λ m. rw (counts m p) (omega (arith, h (k m), room m)))
passes_in b p k counts d d' n n' room len (inr h) = inr (omega (arith, length-append b p))

-- A limit in a part is one in the whole: b stands before the part, c makes the whole complete, and k counts the brackets of b.
pub stuck_in : {A B : Type 0} (R : Tokens → A → Type 0) (R' : Tokens → B → Type 0) (b c : Tokens) (f : A → B) → ((x : Tokens) (a : A) → R x a → R' (b ++ (x ++ c)) (f a))
    → (k : ℕ → ℕ) → ((m : ℕ) (r : Tokens) → opens m (b ++ r) ≡ opens (k m) r) → (d d' n n' : ℕ) → ((m : ℕ) → m + d' ≤ k m + d) → n' ≤ length b + n
    → (ts : Tokens) → Stuck R d n ts → Stuck R' d' n' (b ++ ts)
stuck_in R R' b c f wrap k counts d d' n n' room len ts h = record {
  text = b ++ h.text;
  tail = h.tail;
  more = h.more ++ c;
  value = f h.value;
  all = ap (λ x. b ++ x) h.all ∙ sym (append_assoc b h.text h.tail);
  reads = subst (λ x. R' x (f h.value)) (simp append_assoc) (wrap (h.text ++ h.more) h.value h.reads);
  passes = passes_in b h.text k counts d d' n n' room len h.passes;
}

expect_if : (x y : Sign) (p : Place) (ts : Tokens) (b : Bool) → same y x ≡ b → Is (λ _ us. (q : Place) × (sign y p ∷ ts ≡ sign x q ∷ us)) ⊥ (cond {A = Outcome (Unit {0})} b (Ok (tt, ts)) (Err Syntax))
unfolding same
expect_if x y p ts true e = (p, ap (λ z. sign z p ∷ ts) (same_true the_type tt y x e))
expect_if x y p ts false e = tt

expect_by : (x : Sign) (kind : Kind) (p : Place) (ts : Tokens) → Is (λ _ us. (q : Place) × (token kind p ∷ ts ≡ sign x q ∷ us)) ⊥ (expect x (token kind p ∷ ts))
unfolding same
expect_by x (k.Sign y) p ts = expect_if x y p ts (same y x) refl
expect_by x (k.Number n) p ts = tt
expect_by x (k.Text n) p ts = tt
expect_by x (k.Name n) p ts = tt
expect_by x (k.Variable n) p ts = tt

-- the sign x
pub expect_is : (x : Sign) (ts : Tokens) → Is (λ _ us. (q : Place) × (ts ≡ sign x q ∷ us)) ⊥ (expect x ts)
unfolding same
expect_is x [] = tt
expect_is x (t ∷ ts) = expect_by x t.kind t.place ts

-- what is known of the parser of what stands in brackets
abbrev pub InsideOf : {A : Type 0} → (Tokens → A → Type 0) → ℕ → Tokens → A → Tokens → Type 0
InsideOf R d ts a us = (c : ℕ) × (d ≡ suc c) × Took R c ts a us

abbrev pub Inside : ℕ → Tokens → Expr → Tokens → Type 0
Inside = InsideOf ReadsPiped

abbrev pub Sound : ℕ → Brackets → Type 0
Sound d inner = (ts : Tokens) → Is (Inside d ts) (Stuck ReadsPiped d inner.turns ts) (inner.parse ts)

pub case_if : {A : Type 0} (T : A → Tokens → Type 0) (S : Type 0) (b : Bool) (r r' : Outcome A) → (b ≡ true → Is T S r) → (b ≡ false → Is T S r') → Is T S (cond b r r')
case_if T S true r r' h h' = h refl
case_if T S false r r' h h' = h' refl

-- a sign that is seen is there
pub seen : (x : Sign) (us : Tokens) → is_sign x (peek us) ≡ true → (q : Place) × (us ≡ sign x q ∷ rest us)
seen x us e = rw e at (expect_is x us)

-- a limit in a part that is the whole
pub stuck_as : {A B : Type 0} (R : Tokens → A → Type 0) (R' : Tokens → B → Type 0) (f : A → B) → ((x : Tokens) (a : A) → R x a → R' x (f a)) → (d n n' : ℕ) → n' ≤ n → (ts : Tokens) → Stuck R d n ts → Stuck R' d n' ts
stuck_as R R' f wrap d n n' len ts h = stuck_in R R' [] [] f (λ x a r. subst (λ z. R' z (f a)) (sym (append-nil x)) (wrap x a r)) (λ m. m) (λ m r. refl) d d n n' (λ m. omega arith) (omega arith) ts h

pub calm_same : (d c f : ℕ) → d ≡ suc c → d ≡ suc f → (x : Tokens) → Calm f x → Calm c x
calm_same d c f ec ef x h = let e : f ≡ c = omega arith in subst (λ n. Calm n x) e h

-- after the tokens x, which are calm, and one more
pub stuck_after : {A B : Type 0} (R : Tokens → A → Type 0) (R' : Tokens → B → Type 0) (x : Tokens) (t : Token) (c : Tokens) (f : A → B) → ((y : Tokens) (a : A) → R y a → R' (x ++ (t ∷ (y ++ c))) (f a))
    → ((m : ℕ) (r : Tokens) → opens m (x ++ r) ≡ opens m r) → (k : ℕ → ℕ) → ((m : ℕ) → after t.kind m ≡ k m) → (d d' n n' : ℕ) → ((m : ℕ) → m + d' ≤ k m + d) → n' ≤ suc n
    → (ts : Tokens) → Stuck R d n ts → Stuck R' d' n' (x ++ (t ∷ ts))
stuck_after R R' x t c f wrap even k turn d d' n n' room len ts st =
    subst (λ z. Stuck R' d' n' z) (append_assoc x (t ∷ []) ts)
    (stuck_in R R' (x ++ t ∷ []) c f (λ y a r. subst (λ z. R' z (f a)) (sym (append_assoc x (t ∷ []) (y ++ c))) (wrap y a r)) k
    (λ m r. rw append_assoc (even m (t ∷ r) ∙ ap (λ n. opens n r) (turn m))) d d' n n' room (omega (arith, length-append x (t ∷ []))) ts st)

pub stuck_at : {A : Type 0} (R : Tokens → A → Type 0) (d n : ℕ) (ts us : Tokens) → us ≡ ts → Stuck R d n us → Stuck R d n ts
stuck_at R d n ts us e st = subst (λ z. Stuck R d n z) e st

pub no_tail : (R : Tokens → Expr → Type 0) (x y : Tokens) (t : Token) (a : Expr) → R (x ++ (t ∷ y)) a → R (x ++ (t ∷ (y ++ []))) a
no_tail R x y t a r = subst (λ z. R (x ++ (t ∷ z)) a) (sym (append-nil y)) r

abbrev pub zero_tokens : Tokens
zero_tokens = token (k.Number (pos 0)) origin ∷ []

zero_reads : Reads 8 zero_tokens (e.Literal origin (v.Int (pos 0)))
zero_reads = Reads.tighter (Reads.tighter (Reads.tighter (Reads.tighter (Reads.tighter (Reads.tighter (Reads.tighter (Reads.alone (Chain.number (pos 0) origin))))))))

pub zero_any : ReadsAny zero_tokens (e.Literal origin (v.Int (pos 0)))
zero_any = ReadsAny.plain zero_reads

pub zero_piped : ReadsPiped zero_tokens (e.Literal origin (v.Int (pos 0)))
zero_piped = ReadsPiped.unpiped zero_any

-- at the start of a phrase
pub begun : {A : Type 0} (R : Tokens → A → Type 0) (d : ℕ) (y : Tokens) (a : A) → R y a → (ts : Tokens) → Stuck R d 0 ts
begun R d y a r ts = record { text = []; tail = ts; more = y; value = a; all = refl; reads = r; passes = inr (omega arith) }

-- at a name or a key
pub name_is : (ts : Tokens) → Is (λ n us. (q : Place) × (ts ≡ token (k.Name n) q ∷ us)) ⊥ (name ts)
name_is [] = tt
name_is (t ∷ ts) = name_kind t.kind t.place ts
  where
    name_kind : (kind : Kind) (p : Place) (ts : Tokens) → Is (λ n us. (q : Place) × (token kind p ∷ ts ≡ token (k.Name n) q ∷ us)) ⊥ (name_by kind ts)
    name_kind (k.Name n) p ts = (p, refl)
    name_kind (k.Number n) p ts = tt
    name_kind (k.Text n) p ts = tt
    name_kind (k.Variable n) p ts = tt
    name_kind (k.Sign x) p ts = tt

pub key_is : (ts : Tokens) → Is (λ n us. (kind : Kind) × (p : Place) × (ts ≡ token kind p ∷ us) × (key_of kind ≡ Some n)) ⊥ (key ts)
key_is [] = tt
key_is (t ∷ ts) = key_kind t.kind t.place ts (key_of t.kind) refl
  where
    key_kind : (kind : Kind) (p : Place) (ts : Tokens) (o : Option (List ℕ)) → key_of kind ≡ o → Is (λ n us. (kind' : Kind) × (p' : Place) × (token kind p ∷ ts ≡ token kind' p' ∷ us) × (key_of kind' ≡ Some n)) ⊥ (key_by o ts)
    key_kind kind p ts (Some n) e = (kind, p, refl, e)
    key_kind kind p ts None e = tt

pub key_flat : (kind : Kind) (n : List ℕ) → key_of kind ≡ Some n → (m : ℕ) → after kind m ≡ m
key_flat (k.Name x) n e m = refl
key_flat (k.Text x) n e m = refl
key_flat (k.Number x) n e m = refl
key_flat (k.Variable x) n e m = refl
key_flat (k.Sign x) n e m = absurd (cc)

pub key_on : (kind : Kind) (n : List ℕ) → key_of kind ≡ Some n → (m : ℕ) → stops kind m ≡ false
key_on (k.Name x) n e m = refl
key_on (k.Text x) n e m = refl
key_on (k.Number x) n e m = refl
key_on (k.Variable x) n e m = refl
key_on (k.Sign x) n e m = absurd (cc)
