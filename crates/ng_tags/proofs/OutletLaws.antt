-- The forms of outlets: tokens are one at most, since no `?` and no `:` stands outside of the brackets of their tests.
use Rattle.std.proofs.Common.{◌≡◌, ℕ, suc, List, [], ◌∷◌, ◌++◌, refl, sym, ◌∙◌, ap, subst, append_assoc, inl, inr}
use Rattle.std.specs.Prelude.{Bool, true, false, codes, ◌⊎◌, Some}
use Rattle.ng_ast.specs.declared.Place.{Place}
use Rattle.ng_ast.specs.declared.Binary.{Binary}
use Rattle.ng_ast.specs.declared.Binary.TheVariants as binary
use Rattle.ng_ast.specs.declared.Unary.{Unary}
use Rattle.ng_ast.specs.declared.Unary.TheVariants as unary
use Rattle.ng_ast.specs.declared.Expr.{Expr}
use Rattle.ng_ast.specs.declared.OutletForm.{OutletForm}
use Rattle.ng_ast.specs.declared.OutletForm.TheVariants as outlet
use Rattle.ng_tokens.specs.declared.kinds.Sign.{Sign}
use Rattle.ng_tokens.specs.declared.kinds.Sign.TheVariants as s
use Rattle.ng_tokens.specs.declared.kinds.Kind.{Kind}
use Rattle.ng_tokens.specs.declared.kinds.Kind.TheVariants as k
use Rattle.ng_tokens.specs.declared.kinds.Token.{Token}
use Rattle.ng_tokens.specs.Lexis.{same_text}
use Rattle.ng_exprs.specs.Grammar.{Tokens, token, sign, start, written, prefixed, key_of, Chain, Reads, ReadsAny, ReadsPiped, ReadsArguments, ReadsAll, ReadsSome, ReadsPairs, ReadsSomePairs, ReadsPair}
use Rattle.ng_exprs.specs.Limits.{after, opens}
use Rattle.ng_exprs.specs.Ends.{is_zero}
use Rattle.ng_exprs.proofs.Public.{reads_one}
use Rattle.ng_lex.specs.Values.{ReadsOutlet}
use Rattle.ng_tags.specs.Outlets.{is_top, AtColon}
use Rattle.ng_attributes.proofs.Texts.{not_both}

-- ---- signs outside of brackets

-- no `?`, `:` or `|` stands outside of brackets, of which so many are open
abbrev pub NoTop : ℕ → Tokens → Type 0
NoTop n [] = Unit {0}
NoTop n (t ∷ ts) = (is_top t.kind n ≡ false) × NoTop (after t.kind n) ts

-- Each bracket is closed.
abbrev pub Even : Tokens → Type 0
Even x = (n : ℕ) → opens n x ≡ n

-- and no such sign stands outside of them
abbrev pub Both : Tokens → Type 0
Both x = Even x × ((n : ℕ) → NoTop n x)

-- the same inside of brackets
abbrev pub Inner : Tokens → Type 0
Inner x = Even x × ((n : ℕ) → NoTop (suc n) x)

inner : (x : Tokens) → Both x → Inner x
inner x h = (h.0, λ n. h.1 (suc n))

pub opens_append : (n : ℕ) (x y : Tokens) → opens n (x ++ y) ≡ opens (opens n x) y
opens_append n [] y = refl
opens_append n (t ∷ x) y = opens_append (after t.kind n) x y

pub top_append : (n : ℕ) (x y : Tokens) → NoTop n x → NoTop (opens n x) y → NoTop n (x ++ y)
top_append n [] y h i = i
top_append n (t ∷ x) y h i = (h.0, top_append (after t.kind n) x y h.1 i)

even_append : (x y : Tokens) → Even x → Even y → Even (x ++ y)
even_append x y h i = λ n. opens_append n x y ∙ i (opens n x) ∙ h n

both_append : (x y : Tokens) → Both x → Both y → Both (x ++ y)
both_append x y h i = (even_append x y h.0 i.0, λ n. top_append n x y (h.1 n) (i.1 (opens n x)))

inner_append : (x y : Tokens) → Inner x → Inner y → Inner (x ++ y)
inner_append x y h i = (even_append x y h.0 i.0, λ n. top_append (suc n) x y (h.1 n) (subst (λ m. NoTop m y) (sym (h.0 (suc n))) (i.1 n)))

-- a token that opens and closes nothing, and is no such sign
record IsPlain (kind : Kind) : Type 0 where
  keeps : (n : ℕ) → after kind n ≡ n
  low : (n : ℕ) → is_top kind n ≡ false

both_token : (kind : Kind) (p : Place) (x : Tokens) → IsPlain kind → Both x → Both (token kind p ∷ x)
both_token kind p x i h = (λ n. ap (λ m. opens m x) (i.keeps n) ∙ h.0 n, λ n. (i.low n, h.1 (after kind n)))

inner_token : (kind : Kind) (p : Place) (x : Tokens) → IsPlain kind → Inner x → Inner (token kind p ∷ x)
inner_token kind p x i h = (λ n. ap (λ m. opens m x) (i.keeps n) ∙ h.0 n, λ n. (i.low (suc n), subst (λ m. NoTop m x) (sym (i.keeps (suc n))) (h.1 n)))

none : Both []
none = (λ n. refl, λ n. tt)

plain : {kind : Kind} → ((n : ℕ) → after kind n ≡ n) → ((n : ℕ) → is_top kind n ≡ false) → IsPlain kind
plain f g = record { keeps = f; low = g }

-- a sign inside of brackets
inner_sign : (x : Sign) (p : Place) (z : Tokens) → ((n : ℕ) → after (k.Sign x) n ≡ n) → ((n : ℕ) → is_top (k.Sign x) (suc n) ≡ false) → Inner z → Inner (sign x p ∷ z)
inner_sign x p z f g h = (λ n. ap (λ m. opens m z) (f n) ∙ h.0 n, λ n. (g n, subst (λ m. NoTop m z) (sym (f (suc n))) (h.1 n)))

-- a pair of brackets
record IsPair (o c : Sign) : Type 0 where
  opens_one : (n : ℕ) → after (k.Sign o) n ≡ suc n
  closes_one : (n : ℕ) → after (k.Sign c) (suc n) ≡ n
  low_open : (n : ℕ) → is_top (k.Sign o) n ≡ false
  low_close : (n : ℕ) → is_top (k.Sign c) n ≡ false

round : IsPair s.OpenRound s.CloseRound
round = record { opens_one = λ n. refl; closes_one = λ n. refl; low_open = λ n. refl; low_close = λ n. refl }

square : IsPair s.OpenSquare s.CloseSquare
square = record { opens_one = λ n. refl; closes_one = λ n. refl; low_open = λ n. refl; low_close = λ n. refl }

brace : IsPair s.OpenBrace s.CloseBrace
brace = record { opens_one = λ n. refl; closes_one = λ n. refl; low_open = λ n. refl; low_close = λ n. refl }

bracketed : (o c : Sign) (p q : Place) (x : Tokens) → IsPair o c → Inner x → Both (sign o p ∷ (x ++ (sign c q ∷ [])))
bracketed o c p q x i h = (even, λ n. (i.low_open n, subst (λ m. NoTop m (x ++ (sign c q ∷ []))) (sym (i.opens_one n)) (top_append (suc n) x (sign c q ∷ []) (h.1 n) (i.low_close (opens (suc n) x), tt))))
  where
    even : Even (sign o p ∷ (x ++ (sign c q ∷ [])))
    even n = ap (λ m. opens m (x ++ (sign c q ∷ []))) (i.opens_one n) ∙ opens_append (suc n) x (sign c q ∷ []) ∙ ap (λ m. opens m (sign c q ∷ [])) (h.0 (suc n)) ∙ i.closes_one n

after_bracketed : (o c : Sign) (p q : Place) (x y : Tokens) → IsPair o c → Both x → Inner y → Both (x ++ sign o p ∷ y ++ sign c q ∷ [])
after_bracketed o c p q x y i h j = subst Both (sym (append_assoc x (sign o p ∷ y) (sign c q ∷ []))) (both_append x (sign o p ∷ (y ++ (sign c q ∷ []))) h (bracketed o c p q y i j))

operator_plain : (op : Binary) → IsPlain (k.Sign (written op))
operator_plain binary.Or = plain (λ n. refl) (λ n. refl)
operator_plain binary.And = plain (λ n. refl) (λ n. refl)
operator_plain binary.OrNull = plain (λ n. refl) (λ n. refl)
operator_plain binary.Eq = plain (λ n. refl) (λ n. refl)
operator_plain binary.Ne = plain (λ n. refl) (λ n. refl)
operator_plain binary.Same = plain (λ n. refl) (λ n. refl)
operator_plain binary.NotSame = plain (λ n. refl) (λ n. refl)
operator_plain binary.Lt = plain (λ n. refl) (λ n. refl)
operator_plain binary.Le = plain (λ n. refl) (λ n. refl)
operator_plain binary.Gt = plain (λ n. refl) (λ n. refl)
operator_plain binary.Ge = plain (λ n. refl) (λ n. refl)
operator_plain binary.Add = plain (λ n. refl) (λ n. refl)
operator_plain binary.Sub = plain (λ n. refl) (λ n. refl)
operator_plain binary.Mul = plain (λ n. refl) (λ n. refl)
operator_plain binary.Div = plain (λ n. refl) (λ n. refl)
operator_plain binary.Rem = plain (λ n. refl) (λ n. refl)

prefix_plain : (op : Unary) → IsPlain (k.Sign (prefixed op))
prefix_plain unary.Not = plain (λ n. refl) (λ n. refl)
prefix_plain unary.Neg = plain (λ n. refl) (λ n. refl)
prefix_plain unary.Plus = plain (λ n. refl) (λ n. refl)

key_plain : (kind : Kind) (n : List ℕ) → key_of kind ≡ Some n → IsPlain kind
key_plain (k.Name m) n e = plain (λ i. refl) (λ i. refl)
key_plain (k.Text m) n e = plain (λ i. refl) (λ i. refl)
key_plain (k.Number m) n e = absurd (cc)
key_plain (k.Variable m) n e = absurd (cc)
key_plain (k.Sign x) n e = absurd (cc)

name_plain : (n : List ℕ) → IsPlain (k.Name n)
name_plain n = plain (λ i. refl) (λ i. refl)

mutual
  both_chain : {c : Bool} {x : Tokens} {a : Expr} → Chain c x a → Both x
  both_chain (Chain.number n p) = both_token (k.Number n) p [] (plain (λ i. refl) (λ i. refl)) none
  both_chain (Chain.quoted n p) = both_token (k.Text n) p [] (plain (λ i. refl) (λ i. refl)) none
  both_chain (Chain.word n p h) = both_token (k.Name n) p [] (name_plain n) none
  both_chain (Chain.name n p h) = both_token (k.Name n) p [] (name_plain n) none
  both_chain (Chain.variable n p) = both_token (k.Variable n) p [] (plain (λ i. refl) (λ i. refl)) none
  both_chain (Chain.group x p q h) = bracketed s.OpenRound s.CloseRound p q x round (inner_piped h)
  both_chain (Chain.list x p q h) = bracketed s.OpenSquare s.CloseSquare p q x square (inner_all h)
  both_chain (Chain.rec x p q h) = bracketed s.OpenBrace s.CloseBrace p q x brace (inner_pairs h)
  both_chain (Chain.member {n = n} x p q h) = both_append x (sign s.Dot p ∷ token (k.Name n) q ∷ []) (both_chain h) (both_token (k.Sign s.Dot) p (token (k.Name n) q ∷ []) (plain (λ i. refl) (λ i. refl)) (both_token (k.Name n) q [] (name_plain n) none))
  both_chain (Chain.safe {n = n} x p q h) = both_append x (sign s.SafeDot p ∷ token (k.Name n) q ∷ []) (both_chain h) (both_token (k.Sign s.SafeDot) p (token (k.Name n) q ∷ []) (plain (λ i. refl) (λ i. refl)) (both_token (k.Name n) q [] (name_plain n) none))
  both_chain (Chain.index x y p q h i) = after_bracketed s.OpenSquare s.CloseSquare p q x y square (both_chain h) (inner_piped i)
  both_chain (Chain.call x y p q h i) = after_bracketed s.OpenRound s.CloseRound p q x y round (both_chain h) (inner_all i)

  pub both_reads : {n : ℕ} {x : Tokens} {a : Expr} → Reads n x a → Both x
  both_reads (Reads.alone h) = both_chain h
  both_reads (Reads.prefixing {x = x} op p h) = both_token (k.Sign (prefixed op)) p x (prefix_plain op) (both_reads h)
  both_reads (Reads.tighter h) = both_reads h
  both_reads (Reads.operator op x y p h i) = both_append x (sign (written op) p ∷ y) (both_reads h) (both_token (k.Sign (written op)) p y (operator_plain op) (both_reads i))

  inner_any : {x : Tokens} {a : Expr} → ReadsAny x a → Inner x
  inner_any (ReadsAny.plain {x = x} h) = inner x (both_reads h)
  inner_any (ReadsAny.choose x y z p q h i j) =
      inner_append (x ++ sign s.Question p ∷ y) (sign s.Colon q ∷ z) (inner_append x (sign s.Question p ∷ y) (inner x (both_reads h)) (inner_sign s.Question p y (λ n. refl) (λ n. refl) (inner_any i)))
      (inner_sign s.Colon q z (λ n. refl) (λ n. refl) (inner_any j))

  pub inner_piped : {x : Tokens} {a : Expr} → ReadsPiped x a → Inner x
  inner_piped (ReadsPiped.unpiped h) = inner_any h
  inner_piped (ReadsPiped.piped {n = n} x y p q h i) =
      inner_append x (sign s.Bar p ∷ token (k.Name n) q ∷ y) (inner_piped h) (inner_sign s.Bar p (token (k.Name n) q ∷ y) (λ n. refl) (λ n. refl) (inner_token (k.Name n) q y (name_plain n) (inner_arguments i)))

  inner_arguments : {x : Tokens} {es : List Expr} → ReadsArguments x es → Inner x
  inner_arguments ReadsArguments.none = inner [] none
  inner_arguments (ReadsArguments.argument x y p h i) = inner_append (sign s.Colon p ∷ x) y (inner_sign s.Colon p x (λ n. refl) (λ n. refl) (inner_any h)) (inner_arguments i)

  inner_all : {x : Tokens} {es : List Expr} → ReadsAll x es → Inner x
  inner_all ReadsAll.nothing = inner [] none
  inner_all (ReadsAll.several h) = inner_some h

  inner_some : {x : Tokens} {es : List Expr} → ReadsSome x es → Inner x
  inner_some (ReadsSome.one h) = inner_piped h
  inner_some (ReadsSome.more x y p h i) = inner_append x (sign s.Comma p ∷ y) (inner_piped h) (inner_sign s.Comma p y (λ n. refl) (λ n. refl) (inner_some i))

  inner_pairs : {x : Tokens} {fs : List (List ℕ × Expr)} → ReadsPairs x fs → Inner x
  inner_pairs ReadsPairs.no_pair = inner [] none
  inner_pairs (ReadsPairs.some_pairs h) = inner_some_pairs h

  inner_some_pairs : {x : Tokens} {fs : List (List ℕ × Expr)} → ReadsSomePairs x fs → Inner x
  inner_some_pairs (ReadsSomePairs.one_pair h) = inner_pair h
  inner_some_pairs (ReadsSomePairs.more_pairs x y p h i) = inner_append x (sign s.Comma p ∷ y) (inner_pair h) (inner_sign s.Comma p y (λ n. refl) (λ n. refl) (inner_some_pairs i))

  inner_pair : {x : Tokens} {f : List ℕ × Expr} → ReadsPair x f → Inner x
  inner_pair (ReadsPair.pair {n = n} kind p q x h i) = inner_token kind p (sign s.Colon q ∷ x) (key_plain kind n h) (inner_sign s.Colon q x (λ n. refl) (λ n. refl) (inner_piped i))

-- ---- one form

-- the first `?` outside of brackets
no_question : (n : ℕ) (p : Place) (t : Token) (x y : Tokens) → n ≡ 0 → sign s.Question p ∷ x ≡ t ∷ y → is_top t.kind n ≡ false → ⊥
no_question n p t x y e same low = let f : sign s.Question p ≡ t = cc in not_both (is_top t.kind n) (ap (λ v. is_top v.kind n) (sym f) ∙ ap is_zero e) low

one_test : (n : ℕ) (x y z r : Tokens) (p q : Place) → NoTop n x → opens n x ≡ 0 → NoTop n y → opens n y ≡ 0 → x ++ (sign s.Question p ∷ z) ≡ y ++ (sign s.Question q ∷ r) → (x ≡ y) × (sign s.Question p ∷ z ≡ sign s.Question q ∷ r)
one_test n [] [] z r p q h e i f same = (refl, same)
one_test n [] (t ∷ y) z r p q h e i f same = absurd (no_question n p t z (y ++ (sign s.Question q ∷ r)) e same i.0)
one_test n (t ∷ x) [] z r p q h e i f same = absurd (no_question n q t r (x ++ (sign s.Question p ∷ z)) f (sym same) h.0)
one_test n (t ∷ x) (u ∷ y) z r p q h e i f same =
    let b : t ≡ u = cc in
    let rest : x ++ (sign s.Question p ∷ z) ≡ y ++ (sign s.Question q ∷ r) = cc in
    let g = one_test (after t.kind n) x y z r p q h.1 e (subst (λ v. NoTop (after v.kind n) y) (sym b) i.1) (ap (λ v. opens (after v.kind n) y) b ∙ f) rest in
    (ap (λ v. v ∷ x) b ∙ ap (λ v. u ∷ v) g.0, g.1)

chain_some : {c : Bool} {x : Tokens} {a : Expr} → Chain c x a → (t : Token) × (y : Tokens) × (x ≡ t ∷ y)
chain_some (Chain.number n p) = (_, _, refl)
chain_some (Chain.quoted n p) = (_, _, refl)
chain_some (Chain.word n p h) = (_, _, refl)
chain_some (Chain.name n p h) = (_, _, refl)
chain_some (Chain.variable n p) = (_, _, refl)
chain_some (Chain.group x p q h) = (_, _, refl)
chain_some (Chain.list x p q h) = (_, _, refl)
chain_some (Chain.rec x p q h) = (_, _, refl)
chain_some (Chain.member {n = n} x p q h) = let g = chain_some h in (g.0, g.1 ++ sign s.Dot p ∷ token (k.Name n) q ∷ [], ap (λ v. v ++ sign s.Dot p ∷ token (k.Name n) q ∷ []) g.2)
chain_some (Chain.safe {n = n} x p q h) = let g = chain_some h in (g.0, g.1 ++ sign s.SafeDot p ∷ token (k.Name n) q ∷ [], ap (λ v. v ++ sign s.SafeDot p ∷ token (k.Name n) q ∷ []) g.2)
chain_some (Chain.index x y p q h i) = let g = chain_some h in (g.0, g.1 ++ sign s.OpenSquare p ∷ y ++ sign s.CloseSquare q ∷ [], ap (λ v. v ++ sign s.OpenSquare p ∷ y ++ sign s.CloseSquare q ∷ []) g.2)
chain_some (Chain.call x y p q h i) = let g = chain_some h in (g.0, g.1 ++ sign s.OpenRound p ∷ y ++ sign s.CloseRound q ∷ [], ap (λ v. v ++ sign s.OpenRound p ∷ y ++ sign s.CloseRound q ∷ []) g.2)

pub reads_some : {n : ℕ} {x : Tokens} {a : Expr} → Reads n x a → (t : Token) × (y : Tokens) × (x ≡ t ∷ y)
reads_some (Reads.alone h) = chain_some h
reads_some (Reads.prefixing op p h) = (_, _, refl)
reads_some (Reads.tighter h) = reads_some h
reads_some (Reads.operator op x y p h i) = let g = reads_some h in (g.0, g.1 ++ sign (written op) p ∷ y, ap (λ v. v ++ sign (written op) p ∷ y) g.2)

tokens_head : {t u : Token} {x y : Tokens} → t ∷ x ≡ u ∷ y → t ≡ u
tokens_head e = cc

tokens_tail : {t u : Token} {x y : Tokens} → t ∷ x ≡ u ∷ y → x ≡ y
tokens_tail e = cc

-- a name alone is no choice
leaf_no_choice : (n : List ℕ) (p q : Place) (x z r : Tokens) (e : Expr) → Reads 8 x e → AtColon r → token (k.Name n) p ∷ r ≡ x ++ (sign s.Question q ∷ z) → ⊥
leaf_no_choice n p q x z r e h at same = by (reads_some h)
  where
    kinds : k.Sign s.Colon ≡ k.Sign s.Question → s.Colon ≡ s.Question
    kinds f = cc

    signs : s.Colon ≡ s.Question → ⊥
    signs f = cc

    colon_no_question : (o : Place) → sign s.Colon o ≡ sign s.Question q → ⊥
    colon_no_question o f = signs (kinds (ap (λ v. v.kind) f))

    at_question : (y : Tokens) → AtColon y → y ≡ sign s.Question q ∷ z → ⊥
    at_question [] a f = absurd (cc)
    at_question (t ∷ ts) a f = colon_no_question a.0 (sym a.1 ∙ tokens_head f)

    at_more : (y : Tokens) (u : Token) (us : Tokens) → AtColon y → y ≡ u ∷ us → is_top u.kind 0 ≡ false → ⊥
    at_more [] u us a f low = absurd (cc)
    at_more (t ∷ ts) u us a f low = not_both (is_top u.kind 0) (ap (λ v. is_top v.kind 0) (sym (tokens_head f) ∙ a.1)) low

    short : (t : Token) (y : Tokens) → NoTop 0 (t ∷ y) → t ≡ token (k.Name n) p → token (k.Name n) p ∷ r ≡ (t ∷ y) ++ (sign s.Question q ∷ z) → ⊥
    short t [] i f g = at_question r at (tokens_tail g)
    short t (u ∷ y) i f g = at_more r u (y ++ (sign s.Question q ∷ z)) at (tokens_tail g) (ap (λ v. is_top u.kind (after v.kind 0)) (sym f) ∙ i.1.0)

    by : ((t : Token) × (y : Tokens) × (x ≡ t ∷ y)) → ⊥
    by (t, y, f) = short t y (subst (NoTop 0) f ((both_reads h).1 0)) (sym (tokens_head (same ∙ ap (λ v. v ++ (sign s.Question q ∷ z)) f))) (same ∙ ap (λ v. v ++ (sign s.Question q ∷ z)) f)

-- what an outlet's form begins with
abbrev pub FirstForm : Tokens → OutletForm → Type 0
FirstForm ts a =
    ((n : List ℕ) × (p : Place) × (ts ≡ token (k.Name n) p ∷ []) × (same_text (codes "null") n ≡ true) × (a ≡ outlet.Null))
    ⊎ (((n : List ℕ) × (p : Place) × (ts ≡ token (k.Name n) p ∷ []) × (same_text (codes "null") n ≡ false) × (a ≡ outlet.Name p n))
    ⊎ ((x y z : Tokens) × (p q : Place) × (e : Expr) × (left right : OutletForm) × (ts ≡ x ++ (sign s.Question p ∷ (y ++ (sign s.Colon q ∷ z)))) × Reads 8 x e × ReadsOutlet y left × ReadsOutlet z right
    × (a ≡ outlet.Choose (start x) e left right)))

pub first_form : {ts : Tokens} {a : OutletForm} → ReadsOutlet ts a → FirstForm ts a
first_form (ReadsOutlet.nothing n p h) = inl (n, p, refl, h, refl)
first_form (ReadsOutlet.template n p h) = inr (inl (n, p, refl, h, refl))
first_form (ReadsOutlet.choose {e = e} {left = left} {right = right} x y z p q h i j) = inr (inr (x, y, z, p, q, e, left, right, refl, h, i, j, refl))

name_is : {n m : List ℕ} {p q : Place} → token (k.Name n) p ≡ token (k.Name m) q → (n ≡ m) × (p ≡ q)
name_is {n} {m} {p} {q} e = (kinds (ap (λ v. v.kind) e), ap (λ v. v.place) e)
  where
    kinds : k.Name n ≡ k.Name m → n ≡ m
    kinds f = cc

abbrev pub SameForm : Tokens → OutletForm → Tokens → Tokens → OutletForm → Tokens → Type 0
SameForm x a r y b z = (x ≡ y) × (a ≡ b) × (r ≡ z)

regroup : (x y z r : Tokens) (p q : Place) → (x ++ (sign s.Question p ∷ (y ++ (sign s.Colon q ∷ z)))) ++ r ≡ x ++ (sign s.Question p ∷ (y ++ (sign s.Colon q ∷ (z ++ r))))
regroup x y z r p q = append_assoc x (sign s.Question p ∷ (y ++ (sign s.Colon q ∷ z))) r ∙ ap (λ v. x ++ (sign s.Question p ∷ v)) (append_assoc y (sign s.Colon q ∷ z) r)

same_leaf : (n m : List ℕ) (p q : Place) (r z : Tokens) → token (k.Name n) p ∷ r ≡ token (k.Name m) q ∷ z → (n ≡ m) × (p ≡ q) × (r ≡ z)
same_leaf n m p q r z e = let g = name_is (tokens_head e) in (g.0, g.1, tokens_tail e)

same_token : (n m : List ℕ) (p q : Place) → n ≡ m → p ≡ q → token (k.Name n) p ∷ [] ≡ token (k.Name m) q ∷ []
same_token n m p q e f = ap (λ v. token (k.Name v) p ∷ []) e ∙ ap (λ v. token (k.Name m) v ∷ []) f

-- what these tokens give, each other reading does
abbrev Leads : Tokens → OutletForm → Type 0
Leads u a = (r y : Tokens) (b : OutletForm) (z : Tokens) → ReadsOutlet y b → AtColon r → AtColon z → u ++ r ≡ y ++ z → SameForm u a r y b z

pub one_form : {x : Tokens} {a : OutletForm} → ReadsOutlet x a → (r y : Tokens) (b : OutletForm) (z : Tokens) → ReadsOutlet y b → AtColon r → AtColon z → x ++ r ≡ y ++ z → SameForm x a r y b z
one_form (ReadsOutlet.nothing n p h) r y b z i at also same = by (first_form i)
  where
    by : FirstForm y b → SameForm (token (k.Name n) p ∷ []) outlet.Null r y b z
    by (inl (m, q, f, g, e)) =
        let o = same_leaf n m p q r z (same ∙ ap (λ v. v ++ z) f) in (same_token n m p q o.0 o.1 ∙ sym f, sym e, o.2)
    by (inr (inl (m, q, f, g, e))) =
        let o = same_leaf n m p q r z (same ∙ ap (λ v. v ++ z) f) in absurd (not_both (same_text (codes "null") m) (ap (same_text (codes "null")) (sym o.0) ∙ h) g)
    by (inr (inr (u, v, w, q, o, e, left, right, f, reads, g, j, d))) = absurd (leaf_no_choice n p q u (v ++ (sign s.Colon o ∷ (w ++ z))) r e reads at (same ∙ ap (λ t. t ++ z) f ∙ regroup u v w z q o))
one_form (ReadsOutlet.template n p h) r y b z i at also same = by (first_form i)
  where
    by : FirstForm y b → SameForm (token (k.Name n) p ∷ []) (outlet.Name p n) r y b z
    by (inl (m, q, f, g, e)) =
        let o = same_leaf n m p q r z (same ∙ ap (λ v. v ++ z) f) in absurd (not_both (same_text (codes "null") m) g (ap (same_text (codes "null")) (sym o.0) ∙ h))
    by (inr (inl (m, q, f, g, e))) =
        let o = same_leaf n m p q r z (same ∙ ap (λ v. v ++ z) f) in (same_token n m p q o.0 o.1 ∙ sym f, ap (λ v. outlet.Name v n) o.1 ∙ ap (outlet.Name q) o.0 ∙ sym e, o.2)
    by (inr (inr (u, v, w, q, o, e, left, right, f, reads, g, j, d))) = absurd (leaf_no_choice n p q u (v ++ (sign s.Colon o ∷ (w ++ z))) r e reads at (same ∙ ap (λ t. t ++ z) f ∙ regroup u v w z q o))
one_form (ReadsOutlet.choose {e = e} {left = left} {right = right} x v w p q h i j) r y b z k2 at also same =
    by (first_form k2) (λ r2 y2 b2 z2 l a2 o2 s2. one_form i r2 y2 b2 z2 l a2 o2 s2) (λ r2 y2 b2 z2 l a2 o2 s2. one_form j r2 y2 b2 z2 l a2 o2 s2)
  where
    here : Tokens
    here = x ++ (sign s.Question p ∷ (v ++ (sign s.Colon q ∷ w)))

    by : FirstForm y b → Leads v left → Leads w right → SameForm here (outlet.Choose (start x) e left right) r y b z
    by (inl (m, o, f, g, d)) go more = absurd (leaf_no_choice m o p x (v ++ (sign s.Colon q ∷ (w ++ r))) z e h also (sym (sym (regroup x v w r p q) ∙ same ∙ ap (λ t. t ++ z) f)))
    by (inr (inl (m, o, f, g, d))) go more = absurd (leaf_no_choice m o p x (v ++ (sign s.Colon q ∷ (w ++ r))) z e h also (sym (sym (regroup x v w r p q) ∙ same ∙ ap (λ t. t ++ z) f)))
    by (inr (inr (u, t, c, o, l, a, one, two, f, reads, g, k3, d))) go more =
        let whole : x ++ (sign s.Question p ∷ (v ++ (sign s.Colon q ∷ (w ++ r)))) ≡ u ++ (sign s.Question o ∷ (t ++ (sign s.Colon l ∷ (c ++ z)))) = sym (regroup x v w r p q) ∙ same ∙ ap (λ s2. s2 ++ z) f ∙ regroup u t c z o l in
        let bx = both_reads h in
        let bu = both_reads reads in
        let tests = one_test 0 x u _ _ p o (bx.1 0) (bx.0 0) (bu.1 0) (bu.0 0) whole in
        let lefts = go (sign s.Colon q ∷ (w ++ r)) t one (sign s.Colon l ∷ (c ++ z)) g (q, refl) (l, refl) (tokens_tail tests.1) in
        let rights = more r c two z k3 at also (tokens_tail lefts.2) in
        let exprs : e ≡ a = reads_one x e a (ReadsPiped.unpiped (ReadsAny.plain h)) (subst (λ s2. ReadsPiped s2 a) (sym tests.0) (ReadsPiped.unpiped (ReadsAny.plain reads))) in
        let forms : outlet.Choose (start x) e left right ≡ outlet.Choose (start u) a one two =
        ap (λ s2. outlet.Choose (start s2) e left right) tests.0 ∙ ap (λ s2. outlet.Choose (start u) s2 left right) exprs ∙ ap (λ s2. outlet.Choose (start u) a s2 right) lefts.1 ∙ ap (outlet.Choose (start u) a one) rights.1 in
        let asks : p ≡ o = ap (λ v2. v2.place) (tokens_head tests.1) in
        let colons : q ≡ l = ap (λ v2. v2.place) (tokens_head lefts.2) in
        let texts : here ≡ u ++ (sign s.Question o ∷ (t ++ (sign s.Colon l ∷ c))) =
        ap (λ s2. s2 ++ (sign s.Question p ∷ (v ++ (sign s.Colon q ∷ w)))) tests.0 ∙ ap (λ s2. u ++ (sign s.Question s2 ∷ (v ++ (sign s.Colon q ∷ w)))) asks
        ∙ ap (λ s2. u ++ (sign s.Question o ∷ (s2 ++ (sign s.Colon q ∷ w)))) lefts.0 ∙ ap (λ s2. u ++ (sign s.Question o ∷ (t ++ (sign s.Colon s2 ∷ w)))) colons
        ∙ ap (λ s2. u ++ (sign s.Question o ∷ (t ++ (sign s.Colon l ∷ s2)))) rights.0 in
        (texts ∙ sym f, forms ∙ sym d, rights.2)

-- Tokens are one form of an outlet at most.
pub one_outlet : (ts : Tokens) (a b : OutletForm) → ReadsOutlet ts a → ReadsOutlet ts b → a ≡ b
one_outlet ts a b h i = (one_form h [] ts b [] i tt tt refl).1
