-- How the forms of outlets are read, over tokens.
use Rattle.std.specs.Prelude.{◌≡◌, ℕ, zero, suc, ◌+◌, ◌-◌, ◌<◌, ◌≤◌, ◌⊎◌, Bool, true, false, if◌then◌else◌, [], ◌∷◌, ◌++◌, length, take, drop, codes, Vec, Option, Some, None, Result, Ok, Err}
use Rattle.std.specs.declared.alloc.Global.{Global}
use Rattle.std.specs.Str.{IsUtf8}
use Rattle.ng_ast.specs.declared.Place.{Place}
use Rattle.ng_ast.specs.declared.Expr.{Expr}
use Rattle.ng_ast.specs.declared.OutletForm.{OutletForm}
use Rattle.ng_ast.specs.declared.OutletForm.TheVariants as outlet
use Rattle.ng_tokens.specs.declared.kinds.Sign.{Sign}
use Rattle.ng_tokens.specs.declared.kinds.Sign.TheVariants as s
use Rattle.ng_tokens.specs.declared.kinds.Kind.{Kind}
use Rattle.ng_tokens.specs.declared.kinds.Kind.TheVariants as k
use Rattle.ng_tokens.specs.declared.kinds.Token.{Token}
use Rattle.ng_tokens.specs.Lexis.{Text, same_text, Lexes}
use Rattle.ng_exprs.specs.Grammar.{Tokens, sign, start, Reads}
use Rattle.ng_exprs.specs.Limits.{after, opens, Within}
use Rattle.ng_exprs.specs.Ends.{is_zero}
use Rattle.ng_exprs.specs.Parse.{sign_of}
use Rattle.ng_exprs.specs.Statements.{Begins}
use Rattle.ng_lex.specs.Values.{ReadsOutlet}
use Rattle.ng_tags.specs.declared.outlets.Cursor.{Cursor}
use Rattle.ng_attributes.specs.declared.stop.Stop.{Stop}
use Rattle.ng_attributes.specs.Answers.{Halts}
use Rattle.ng_attributes.specs.Places.{Fits}

-- ---- signs outside of brackets

-- a `?`, `:` or `|` where so many brackets are open, and none is
abbrev pub is_top : Kind → ℕ → Bool
is_top (k.Sign s.Question) n = is_zero n
is_top (k.Sign s.Colon) n = is_zero n
is_top (k.Sign s.Bar) n = is_zero n
is_top _ n = false

-- the tokens before the first of them
abbrev pub top_len : ℕ → Tokens → ℕ
top_len n [] = 0
top_len n (t ∷ ts) = if is_top t.kind n then 0 else suc (top_len (after t.kind n) ts)

-- the sign that stands there
abbrev pub sign_at : Tokens → ℕ → Option Sign
sign_at [] n = None
sign_at (t ∷ ts) zero = sign_of t.kind
sign_at (t ∷ ts) (suc n) = sign_at ts n

abbrev pub is_question : Option Sign → Bool
is_question (Some s.Question) = true
is_question _ = false

abbrev pub is_colon : Option Sign → Bool
is_colon (Some s.Colon) = true
is_colon _ = false

abbrev pub is_bar : Option Sign → Bool
is_bar (Some s.Bar) = true
is_bar _ = false

-- nothing, or a `:`
abbrev pub AtColon : Tokens → Type 0
AtColon [] = Unit {0}
AtColon (t ∷ ts) = (p : Place) × (t ≡ sign s.Colon p)

-- ---- forms without a test

abbrev pub leaf_by : Place → Kind → Option OutletForm
leaf_by p (k.Name n) = Some (if same_text (codes "null") n then outlet.Null else outlet.Name p n)
leaf_by p _ = None

abbrev pub leaf_of : Tokens → Option OutletForm
leaf_of [] = None
leaf_of (t ∷ []) = leaf_by t.place t.kind
leaf_of (t ∷ u ∷ ts) = None

-- ---- cursors

-- So many bytes as the places are apart stand before what is a text of its own.
abbrev pub IsCutAt : Text → Place → Place → Type 0
IsCutAt t from to = (a z : Text) × (t ≡ a ++ z) × (to.byte ≡ from.byte + length a) × (IsUtf8 t → IsUtf8 z)

abbrev pub AreCut : Text → Place → Place → Text → Text → Type 0
AreCut t from to a z = (a ≡ take (to.byte - from.byte) t) × (z ≡ drop (to.byte - from.byte) t)

-- the tokens are those of the text, which isn't too long
pub record IsCursor (c : Cursor) : Type 0 where
  pub lexes : Lexes false c.place c.text.now c.tokens.now []
  pub fits : Fits c.place c.text.now

-- the text of so many tokens, and what comes after them
pub record Advances (c : Cursor) (n : ℕ) (a : Text) (rest : Cursor) : Type 0 where
  pub front : Lexes false c.place a (take n c.tokens.now) []
  pub back : IsCursor rest
  pub tokens : rest.tokens.now ≡ drop n c.tokens.now
  pub fits : Fits c.place a

pub record Skips (c : Cursor) (n : ℕ) (rest : Cursor) : Type 0 where
  pub back : IsCursor rest
  pub tokens : rest.tokens.now ≡ drop n c.tokens.now

abbrev pub AfterColon : Cursor → Option Cursor → Type 0
AfterColon c None = (p : Place) (ts : Tokens) → c.tokens.now ≡ sign s.Colon p ∷ ts → ⊥
AfterColon c (Some rest) = (p : Place) × (c.tokens.now ≡ sign s.Colon p ∷ rest.tokens.now) × IsCursor rest

-- ---- forms

-- a front of the tokens is a form that is begun, and has more than 32 brackets open or more than so many tokens
abbrev pub OverForm : ℕ → Tokens → Type 0
OverForm m ts = (front rest : Tokens) × (ts ≡ front ++ rest) × Begins ReadsOutlet front × ((32 < opens 0 front) ⊎ (m < length front))

-- a form at the front within the limits, and what comes after it
pub record FormAt (m : ℕ) (c : Cursor) (a : OutletForm) (rest : Cursor) : Type 0 where
  pub x : Tokens
  pub is : c.tokens.now ≡ x ++ rest.tokens.now
  pub reads : ReadsOutlet x a
  pub ends : AtColon rest.tokens.now
  pub within : Within 32 0 x
  pub short : length x ≤ m
  pub back : IsCursor rest

-- no form that ends or that a `:` follows stands at the front
abbrev pub NoForm : Tokens → Type 0
NoForm ts = (x r : Tokens) (a : OutletForm) → ts ≡ x ++ r → AtColon r → ReadsOutlet x a → ⊥

abbrev pub AnswersForm : ℕ → Cursor → Result (OutletForm × Cursor) Stop → Type 0
AnswersForm m c (Ok v) = FormAt m c v.0 v.1
AnswersForm m c (Err e) = Halts (NoForm c.tokens.now) (OverForm m c.tokens.now) e

-- the test of a choice, and what comes after its `?`
pub record TestAt (m n : ℕ) (c : Cursor) (a : Expr) (rest : Cursor) : Type 0 where
  pub p : Place
  pub is : c.tokens.now ≡ take n c.tokens.now ++ (sign s.Question p ∷ rest.tokens.now)
  pub long : length (take n c.tokens.now) ≡ n
  pub reads : Reads 8 (take n c.tokens.now) a
  pub within : Within 32 0 (take n c.tokens.now)
  pub short : n < m
  pub back : IsCursor rest

abbrev pub ChosenBy : ℕ → Cursor → Expr → OutletForm → Result (OutletForm × Cursor) Stop → Type 0
ChosenBy m c e left (Ok v) = FormAt m c (outlet.Choose (start c.tokens.now) e left v.0) v.1
ChosenBy m c e left (Err s) = Halts (NoForm c.tokens.now) (OverForm m c.tokens.now) s

abbrev pub AnswersTest : ℕ → ℕ → Cursor → Result (Expr × Cursor) Stop → Type 0
AnswersTest m n c (Ok v) = TestAt m n c v.0 v.1
AnswersTest m n c (Err e) = Halts (NoForm c.tokens.now) (OverForm m c.tokens.now) e

-- a choice with this form behind its `:`, and what comes after it, for each test and form that stand before
abbrev pub AnswersRight : ℕ → Cursor → Cursor → Result (OutletForm × Cursor) Stop → Type 0
AnswersRight room asked rest r = (m n : ℕ) (c : Cursor) (e : Expr) (left : OutletForm) → n ≡ top_len 0 c.tokens.now → TestAt m n c e asked → room ≡ m - n - 1 → FormAt room asked left rest → ChosenBy m c e left r

-- the same of both forms, for each test that stands before
abbrev pub AnswersBranches : Place → Expr → ℕ → Cursor → Result (OutletForm × Cursor) Stop → Type 0
AnswersBranches p e room asked r = (m n : ℕ) (c : Cursor) → n ≡ top_len 0 c.tokens.now → TestAt m n c e asked → room ≡ m - n - 1 → p ≡ start c.tokens.now → AnswersForm m c r

abbrev pub Scanned : Place → Text → Result (Vec Token Global) Stop → Type 0
Scanned p t (Ok v) = Lexes false p t v.items []
Scanned p t (Err e) = Halts ((ts : Tokens) → Lexes false p t ts [] → ⊥) ⊥ e
