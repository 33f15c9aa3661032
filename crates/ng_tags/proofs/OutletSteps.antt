-- The forms of outlets, one test after another.
use Rattle.std.proofs.Common.{◌≡◌, ℕ, suc, ◌<◌, ◌≤◌, List, [], ◌∷◌, ◌++◌, length, take, drop, refl, sym, ◌∙◌, ap, subst, append_assoc, arith, inl, inr}
use Rattle.std.proofs.Math.Seq.{take-append_seam, drop-append_seam}
use Rattle.std.specs.Prelude.{Bool, true, false, cond, codes, ◌⊎◌, Some, None}
use Rattle.ng_ast.specs.declared.Place.{Place}
use Rattle.ng_ast.specs.declared.Expr.{Expr}
use Rattle.ng_ast.specs.declared.OutletForm.{OutletForm}
use Rattle.ng_ast.specs.declared.OutletForm.TheVariants as outlet
use Rattle.ng_tokens.specs.declared.kinds.Sign.{Sign}
use Rattle.ng_tokens.specs.declared.kinds.Sign.TheVariants as s
use Rattle.ng_tokens.specs.declared.kinds.Kind.TheVariants as k
use Rattle.ng_tokens.specs.declared.kinds.Token.{Token}
use Rattle.ng_tokens.specs.Lexis.{Text, Lexes}
use Rattle.ng_tokens.proofs.Tokens as lex
use Rattle.ng_tokens.specs.Scan.{scan}
use Rattle.ng_exprs.specs.Grammar.{Tokens, token, sign, start, Reads, ReadsAny, ReadsPiped}
use Rattle.ng_exprs.specs.Limits.{after, opens, Within}
use Rattle.ng_exprs.specs.Ends.{is_zero}
use Rattle.ng_exprs.specs.Parse.{sign_of}
use Rattle.ng_exprs.specs.Reading.{OverText}
use Rattle.ng_exprs.specs.Statements.{Begins}
use Rattle.ng_lex.specs.Values.{ReadsOutlet}
use Rattle.ng_tags.specs.Outlets.{is_top, top_len, sign_at, AtColon, leaf_of}
use Rattle.ng_attributes.proofs.Texts.{not_both}
use Rattle.ng_tags.proofs.OutletLaws.{NoTop, opens_append, both_reads, inner_piped, FirstForm, first_form}

-- ---- lists of tokens

tokens_head : {t u : Token} {x y : Tokens} → t ∷ x ≡ u ∷ y → t ≡ u
tokens_head e = cc

pub tokens_tail : {t u : Token} {x y : Tokens} → t ∷ x ≡ u ∷ y → x ≡ y
tokens_tail e = cc

-- of two fronts one is a front of the other
abbrev Fronts : Tokens → Tokens → Tokens → Type 0
Fronts x z f = ((m : Tokens) × (x ≡ f ++ m)) ⊎ ((t : Token) × (w y : Tokens) × (f ≡ x ++ (t ∷ w)) × (z ≡ t ∷ y))

fronts : (x z f more : Tokens) → x ++ z ≡ f ++ more → Fronts x z f
fronts x z [] more e = inl (x, refl)
fronts [] z (t ∷ f) more e = inr (t, f, f ++ more, refl, e)
fronts (u ∷ x) z (t ∷ f) more e = by (fronts x z f more (tokens_tail e))
  where
    by : Fronts x z f → Fronts (u ∷ x) z (t ∷ f)
    by (inl (m, g)) = inl (m, ap (λ v. v ∷ x) (tokens_head e) ∙ ap (λ v. t ∷ v) g)
    by (inr (v, w, y, g, h)) = inr (v, w, y, ap (λ i. t ∷ i) g ∙ ap (λ i. i ∷ (x ++ (v ∷ w))) (sym (tokens_head e)), h)

-- ---- signs outside of brackets

top_split : (n : ℕ) (x y : Tokens) → NoTop n (x ++ y) → NoTop (opens n x) y
top_split n [] y h = h
top_split n (t ∷ x) y h = top_split (after t.kind n) x y h.1

pub top_less : (n : ℕ) (x y : Tokens) → NoTop n (x ++ y) → NoTop n x
top_less n [] y h = tt
top_less n (t ∷ x) y h = (h.0, top_less (after t.kind n) x y h.1)

-- no such sign stands where none is open
no_top_here : (x : Tokens) (t : Token) (y : Tokens) → opens 0 x ≡ 0 → is_top t.kind 0 ≡ true → NoTop 0 (x ++ (t ∷ y)) → ⊥
no_top_here x t y e top h = not_both (is_top t.kind 0) top (ap (λ n. is_top t.kind n) (sym e) ∙ (top_split 0 x (t ∷ y) h).0)

top_by : (v : Bool) (n : ℕ) → v ≡ false → cond v 0 (suc n) ≡ suc n
top_by v n e = rw e refl

-- the first such sign
pub first_top : (n : ℕ) (x : Tokens) (t : Token) (y : Tokens) → NoTop n x → is_top t.kind (opens n x) ≡ true → top_len n (x ++ (t ∷ y)) ≡ length x
first_top n [] t y h e = rw e refl
first_top n (u ∷ x) t y h e = top_by (is_top u.kind n) (top_len (after u.kind n) (x ++ (t ∷ y))) h.0 ∙ ap suc (first_top (after u.kind n) x t y h.1 e)

sign_here : (x : Tokens) (t : Token) (y : Tokens) → sign_at (x ++ (t ∷ y)) (length x) ≡ sign_of t.kind
sign_here [] t y = refl
sign_here (u ∷ x) t y = sign_here x t y

-- no such sign stands before the first
pub top_front : (n : ℕ) (ts : Tokens) → NoTop n (take (top_len n ts) ts)
top_front n [] = tt
top_front n (t ∷ ts) = by (is_top t.kind n) refl (top_front (after t.kind n) ts)
  where
    by : (v : Bool) → is_top t.kind n ≡ v → NoTop (after t.kind n) (take (top_len (after t.kind n) ts) ts) → NoTop n (take (cond v 0 (suc (top_len (after t.kind n) ts))) (t ∷ ts))
    by true e h = tt
    by false e h = (e, h)

pub top_taken : (ts : Tokens) (n : ℕ) → n ≡ top_len 0 ts → NoTop 0 (take n ts)
top_taken ts n e = subst (λ m. NoTop 0 (take m ts)) (sym e) (top_front 0 ts)

-- what stands at the first
abbrev pub Stops : Tokens → ℕ → Type 0
Stops ts n = ((drop n ts ≡ []) × (sign_at ts n ≡ None)) ⊎ ((t : Token) × (y : Tokens) × (m : ℕ) × (drop n ts ≡ t ∷ y) × (sign_at ts n ≡ sign_of t.kind) × (is_top t.kind m ≡ true))

pub top_stops : (n : ℕ) (ts : Tokens) → Stops ts (top_len n ts)
top_stops n [] = inl (refl, refl)
top_stops n (t ∷ ts) = by (is_top t.kind n) refl (top_stops (after t.kind n) ts)
  where
    by : (v : Bool) → is_top t.kind n ≡ v → Stops ts (top_len (after t.kind n) ts) → Stops (t ∷ ts) (cond v 0 (suc (top_len (after t.kind n) ts)))
    by true e h = inr (t, ts, n, refl, refl, e)
    by false e h = h

pub top_within : (n : ℕ) (ts : Tokens) → top_len n ts ≤ length ts
top_within n [] = omega arith
top_within n (t ∷ ts) = by (is_top t.kind n) (top_within (after t.kind n) ts)
  where
    by : (v : Bool) → top_len (after t.kind n) ts ≤ length ts → cond v 0 (suc (top_len (after t.kind n) ts)) ≤ length (t ∷ ts)
    by true h = omega arith
    by false h = omega arith

-- ---- tests

pub reads_plain : {x : Tokens} {a : Expr} → ReadsPiped x a → NoTop 0 x → Reads 8 x a
reads_plain (ReadsPiped.unpiped (ReadsAny.plain h)) top = h
reads_plain (ReadsPiped.unpiped (ReadsAny.choose x y z p q h i j)) top =
    absurd (no_top_here x (sign s.Question p) (y ++ sign s.Colon q ∷ z) ((both_reads h).0 0) refl (subst (NoTop 0) (append_assoc x (sign s.Question p ∷ y) (sign s.Colon q ∷ z)) top))
reads_plain (ReadsPiped.piped {n = n} x y p q h i) top = absurd (no_top_here x (sign s.Bar p) (token (k.Name n) q ∷ y) ((inner_piped h).0 0) refl top)

-- a test that is begun
abbrev BegunTest : Tokens → Type 0
BegunTest f = (more : Tokens) × (e : Expr) × Reads 8 (f ++ more) e

begun_more : (f m x : Tokens) (a : Expr) → x ≡ f ++ m → Reads 8 x a → BegunTest f
begun_more f m x a e h = (m, a, subst (λ v. Reads 8 v a) e h)

pub begun_test : {y : Tokens} {a : Expr} → ReadsPiped y a → (f more : Tokens) → y ≡ f ++ more → NoTop 0 f → BegunTest f
begun_test (ReadsPiped.unpiped (ReadsAny.plain {x = x} {a = a} h)) f more e top = begun_more f more x a e h
begun_test (ReadsPiped.unpiped (ReadsAny.choose {c = c} x y z p q h i j)) f more e top = by (fronts x (sign s.Question p ∷ (y ++ sign s.Colon q ∷ z)) f more (sym (append_assoc x (sign s.Question p ∷ y) (sign s.Colon q ∷ z)) ∙ e))
  where
    by : Fronts x (sign s.Question p ∷ (y ++ sign s.Colon q ∷ z)) f → BegunTest f
    by (inl (m, g)) = begun_more f m x c g h
    by (inr (t, w, r, g, d)) = absurd (no_top_here x t w ((both_reads h).0 0) (ap (λ v. is_top v.kind 0) (sym (tokens_head d))) (subst (NoTop 0) g top))
begun_test (ReadsPiped.piped {n = n} x y p q h i) f more e top = by (fronts x (sign s.Bar p ∷ token (k.Name n) q ∷ y) f more e) (λ m g. begun_test h f m g top)
  where
    by : Fronts x (sign s.Bar p ∷ token (k.Name n) q ∷ y) f → ((m : Tokens) → x ≡ f ++ m → BegunTest f) → BegunTest f
    by (inl (m, g)) go = go m g
    by (inr (t, w, r, g, d)) go = absurd (no_top_here x t w ((inner_piped h).0 0) (ap (λ v. is_top v.kind 0) (sym (tokens_head d))) (subst (NoTop 0) g top))

-- ---- brackets

within_of : (n : ℕ) (x : Tokens) → ((f g : Tokens) → x ≡ f ++ g → opens n f ≤ 32) → Within 32 n x
within_of n [] law = tt
within_of n (t ∷ x) law = (law (t ∷ []) x refl, within_of (after t.kind n) x (λ f g e. law (t ∷ f) g (ap (λ v. t ∷ v) e)))

pub within_append : (n : ℕ) (x y : Tokens) → Within 32 n x → Within 32 (opens n x) y → Within 32 n (x ++ y)
within_append n [] y h i = i
within_append n (t ∷ x) y h i = (h.0, within_append (after t.kind n) x y h.1 i)

-- the test of a text that passes no limit
pub test_within : (p : Place) (t : Text) (x : Tokens) (a : Expr) → Lexes false p t x [] → ReadsPiped x a → (OverText false p t → ⊥) → Within 32 0 x
test_within p t x a lx h none = within_of 0 x (λ f g e. below f g e)
  where
    below : (f g : Tokens) → x ≡ f ++ g → opens 0 f ≤ 32
    below f g e =
        let c = lex.cut lx f g e in
        let no : 32 < opens 0 f → ⊥ = λ h2. none (f, c.0, c.1, (g, a, subst (λ v. ReadsPiped v a) e h), inl h2) in
        omega (arith, no)

pub same_tokens : (p : Place) (t : Text) (x y : Tokens) → Lexes false p t x [] → Lexes false p t y [] → x ≡ y
same_tokens p t x y h i = lex.one_list false p t x y h i

-- a front of a text's tokens
pub front_of : (p : Place) (t : Text) (x f : Tokens) (rest : Text) → Lexes false p t x [] → Lexes false p t f rest → (more : Tokens) × (x ≡ f ++ more)
front_of p t x f rest h i = let g = lex.complete i in lex.prepended_front f (scan false 0 g.0 rest) x (sym g.1 ∙ lex.whole false p t x h)

-- ---- forms that are begun

abbrev nowhere : Place
nowhere = record { line = 0; column = 0; byte = 0 }

null_reads : ReadsOutlet (token (k.Name (codes "null")) nowhere ∷ []) outlet.Null
null_reads = ReadsOutlet.nothing (codes "null") nowhere refl

-- what makes a test whole
abbrev ask : Tokens
ask = sign s.Question nowhere ∷ (token (k.Name (codes "null")) nowhere ∷ (sign s.Colon nowhere ∷ (token (k.Name (codes "null")) nowhere ∷ [])))

pub test_begins : (f : Tokens) → BegunTest f → Begins ReadsOutlet f
test_begins f (more, e, h) = (
  more ++ ask,
  outlet.Choose (start (f ++ more)) e outlet.Null outlet.Null,
  subst (λ v. ReadsOutlet v (outlet.Choose (start (f ++ more)) e outlet.Null outlet.Null)) (append_assoc f more ask)
      (ReadsOutlet.choose (f ++ more) (token (k.Name (codes "null")) nowhere ∷ []) (token (k.Name (codes "null")) nowhere ∷ []) nowhere nowhere h null_reads null_reads),
)

-- a form that is begun behind a test
pub left_begins : (x f : Tokens) (p : Place) (e : Expr) → Reads 8 x e → Begins ReadsOutlet f → Begins ReadsOutlet (x ++ (sign s.Question p ∷ f))
left_begins x f p e h (more, a, reads) = (
  more ++ (sign s.Colon nowhere ∷ (token (k.Name (codes "null")) nowhere ∷ [])),
  outlet.Choose (start x) e a outlet.Null,
  subst (λ v. ReadsOutlet v (outlet.Choose (start x) e a outlet.Null))
      (ap (λ v. x ++ (sign s.Question p ∷ v)) (append_assoc f more (sign s.Colon nowhere ∷ (token (k.Name (codes "null")) nowhere ∷ []))) ∙ sym (append_assoc x (sign s.Question p ∷ f) (more ++ (sign s.Colon nowhere ∷ (token (k.Name (codes "null")) nowhere ∷ [])))))
      (ReadsOutlet.choose x (f ++ more) (token (k.Name (codes "null")) nowhere ∷ []) p nowhere h reads null_reads),
)

pub none_begins : Begins ReadsOutlet []
none_begins = (token (k.Name (codes "null")) nowhere ∷ [], outlet.Null, null_reads)

-- and one behind a test and a form
pub right_begins : (x y f : Tokens) (p q : Place) (e : Expr) (a : OutletForm) → Reads 8 x e → ReadsOutlet y a → Begins ReadsOutlet f → Begins ReadsOutlet (x ++ (sign s.Question p ∷ (y ++ (sign s.Colon q ∷ f))))
right_begins x y f p q e a h i (more, b, reads) = (
  more,
  outlet.Choose (start x) e a b,
  subst (λ v. ReadsOutlet v (outlet.Choose (start x) e a b))
      (ap (λ v. x ++ (sign s.Question p ∷ v)) (sym (append_assoc y (sign s.Colon q ∷ f) more)) ∙ sym (append_assoc x (sign s.Question p ∷ (y ++ (sign s.Colon q ∷ f))) more))
      (ReadsOutlet.choose x y (f ++ more) p q h i reads),
)

pub outlet_even : {x : Tokens} {a : OutletForm} → ReadsOutlet x a → opens 0 x ≡ 0
outlet_even (ReadsOutlet.nothing n p h) = refl
outlet_even (ReadsOutlet.template n p h) = refl
outlet_even (ReadsOutlet.choose x y z p q h i j) =
    opens_append 0 x (sign s.Question p ∷ (y ++ (sign s.Colon q ∷ z))) ∙ ap (λ n. opens n (y ++ (sign s.Colon q ∷ z))) ((both_reads h).0 0) ∙ opens_append 0 y (sign s.Colon q ∷ z) ∙ ap (λ n. opens n z) (outlet_even i) ∙ outlet_even j

-- ---- what the first sign says

colon_top : (r : Tokens) → AtColon r → (t : Token) (y : Tokens) → r ≡ t ∷ y → (p : Place) × (t ≡ sign s.Colon p)
colon_top [] h t y e = absurd (cc)
colon_top (u ∷ us) h t y e = (h.0, sym (tokens_head e) ∙ h.1)

-- a name alone
pub record LeafAt (ts r : Tokens) (a : OutletForm) : Type 0 where
  pub n : List ℕ
  pub p : Place
  pub is : ts ≡ token (k.Name n) p ∷ r
  pub leaf : leaf_of (token (k.Name n) p ∷ []) ≡ Some a

-- a choice
pub record ChoiceAt (ts r : Tokens) : Type 0 where
  pub u : Tokens
  pub v : Tokens
  pub w : Tokens
  pub p : Place
  pub q : Place
  pub e : Expr
  pub left : OutletForm
  pub right : OutletForm
  pub is : ts ≡ u ++ (sign s.Question p ∷ (v ++ (sign s.Colon q ∷ (w ++ r))))
  pub test : Reads 8 u e
  pub yes : ReadsOutlet v left
  pub no : ReadsOutlet w right

pub form_at : (ts x r : Tokens) (a : OutletForm) → ts ≡ x ++ r → ReadsOutlet x a → LeafAt ts r a ⊎ ChoiceAt ts r
form_at ts x r a e h = by (first_form h)
  where
    by : FirstForm x a → LeafAt ts r a ⊎ ChoiceAt ts r
    by (inl (n, p, f, g, d)) = inl (record { n = n; p = p; is = e ∙ ap (λ v. v ++ r) f; leaf = rw g (ap Some (sym d)) })
    by (inr (inl (n, p, f, g, d))) = inl (record { n = n; p = p; is = e ∙ ap (λ v. v ++ r) f; leaf = rw g (ap Some (sym d)) })
    by (inr (inr (u, v, w, p, q, d, left, right, f, asked, first, second, g))) = inr (record {
      u = u;
      v = v;
      w = w;
      p = p;
      q = q;
      e = d;
      left = left;
      right = right;
      is = e ∙ ap (λ i. i ++ r) f ∙ append_assoc u (sign s.Question p ∷ (v ++ (sign s.Colon q ∷ w))) r ∙ ap (λ i. u ++ (sign s.Question p ∷ i)) (append_assoc v (sign s.Colon q ∷ w) r);
      test = asked;
      yes = first;
      no = second;
    })

-- where the first sign of a name alone stands
leaf_top : (n : List ℕ) (p : Place) (r : Tokens) → AtColon r → top_len 0 (token (k.Name n) p ∷ r) ≡ 1
leaf_top n p [] h = refl
leaf_top n p (t ∷ r) h = ap (λ v. suc (cond (is_top v.kind 0) 0 (suc (top_len (after v.kind 0) r)))) h.1

leaf_sign : (n : List ℕ) (p : Place) (r : Tokens) → AtColon r → (sign_at (token (k.Name n) p ∷ r) 1 ≡ None) ⊎ (sign_at (token (k.Name n) p ∷ r) 1 ≡ Some s.Colon)
leaf_sign n p [] h = inl refl
leaf_sign n p (t ∷ r) h = inr (ap (λ v. sign_of v.kind) h.1)

pub leaf_len : (ts r : Tokens) (a : OutletForm) → AtColon r → LeafAt ts r a → top_len 0 ts ≡ 1
leaf_len ts r a h i = ap (top_len 0) i.is ∙ leaf_top i.n i.p r h

-- no `?` or `|` follows a name alone
pub leaf_no : (x : Sign) → (s.Colon ≡ x → ⊥) → (ts r : Tokens) (a : OutletForm) → AtColon r → LeafAt ts r a → sign_at ts (top_len 0 ts) ≡ Some x → ⊥
leaf_no x differ ts r a h i e = by (leaf_sign i.n i.p r h) (sym (ap (λ v. sign_at v (top_len 0 ts)) i.is ∙ ap (sign_at (token (k.Name i.n) i.p ∷ r)) (leaf_len ts r a h i)) ∙ e)
  where
    by : (sign_at (token (k.Name i.n) i.p ∷ r) 1 ≡ None) ⊎ (sign_at (token (k.Name i.n) i.p ∷ r) 1 ≡ Some s.Colon) → sign_at (token (k.Name i.n) i.p ∷ r) 1 ≡ Some x → ⊥
    by (inl f) g = let d : None ≡ Some x = sym f ∙ g in cc
    by (inr f) g = let d : Some s.Colon ≡ Some x = sym f ∙ g in differ (let c : s.Colon ≡ x = cc in c)

pub choice_len : (ts r : Tokens) → (h : ChoiceAt ts r) → top_len 0 ts ≡ length h.u
choice_len ts r h = ap (top_len 0) h.is ∙ first_top 0 h.u (sign s.Question h.p) (h.v ++ (sign s.Colon h.q ∷ (h.w ++ r))) ((both_reads h.test).1 0) (ap is_zero ((both_reads h.test).0 0))

pub choice_sign : (ts r : Tokens) → ChoiceAt ts r → sign_at ts (top_len 0 ts) ≡ Some s.Question
choice_sign ts r h = ap (sign_at ts) (choice_len ts r h) ∙ ap (λ v. sign_at v (length h.u)) h.is ∙ sign_here h.u (sign s.Question h.p) (h.v ++ (sign s.Colon h.q ∷ (h.w ++ r)))

pub choice_test : (ts r : Tokens) → (h : ChoiceAt ts r) → take (top_len 0 ts) ts ≡ h.u
choice_test ts r h = ap (λ n. take n ts) (choice_len ts r h) ∙ ap (take (length h.u)) h.is ∙ take-append_seam h.u (sign s.Question h.p ∷ (h.v ++ (sign s.Colon h.q ∷ (h.w ++ r))))

pub choice_rest : (ts r : Tokens) → (h : ChoiceAt ts r) → drop (top_len 0 ts) ts ≡ sign s.Question h.p ∷ (h.v ++ (sign s.Colon h.q ∷ (h.w ++ r)))
choice_rest ts r h = ap (λ n. drop n ts) (choice_len ts r h) ∙ ap (drop (length h.u)) h.is ∙ drop-append_seam h.u (sign s.Question h.p ∷ (h.v ++ (sign s.Colon h.q ∷ (h.w ++ r))))
