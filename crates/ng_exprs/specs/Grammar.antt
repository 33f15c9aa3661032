-- The grammar of expressions, by the table of levels.
use Rattle.std.specs.Prelude.{◌≡◌, ℕ, ℤ, suc, Bool, true, false, List, [], ◌∷◌, ◌++◌, Option, Some, None, codes, if◌then◌else◌}
use Rattle.ng_ast.specs.declared.Place.{Place}
use Rattle.ng_ast.specs.declared.Binary.{Binary}
use Rattle.ng_ast.specs.declared.Binary.TheVariants as binary
use Rattle.ng_ast.specs.declared.Unary.{Unary}
use Rattle.ng_ast.specs.declared.Unary.TheVariants as unary
use Rattle.ng_ast.specs.declared.Expr.{Expr}
use Rattle.ng_ast.specs.declared.Expr.TheVariants as e
use Rattle.ng_values.specs.declared.value.Value.{Value}
use Rattle.ng_values.specs.declared.value.Value.TheVariants as v
use Rattle.ng_tokens.specs.declared.kinds.Sign.{Sign}
use Rattle.ng_tokens.specs.declared.kinds.Sign.TheVariants as s
use Rattle.ng_tokens.specs.declared.kinds.Kind.{Kind}
use Rattle.ng_tokens.specs.declared.kinds.Kind.TheVariants as k
use Rattle.ng_tokens.specs.declared.kinds.Token.{Token}
use Rattle.ng_tokens.specs.Lexis.{same_text}

abbrev pub Tokens : Type 0
Tokens = List Token

abbrev pub token : Kind → Place → Token
token kind place = record { kind = kind; place = place }

abbrev pub sign : Sign → Place → Token
sign s p = token (k.Sign s) p

abbrev pub origin : Place
origin = record { line = 0; column = 0; byte = 0 }

-- the place of the first token
abbrev pub start : Tokens → Place
start [] = origin
start (t ∷ ts) = t.place

-- how an operator is written
abbrev pub written : Binary → Sign
written binary.Or = s.Or
written binary.And = s.And
written binary.OrNull = s.OrNull
written binary.Eq = s.Eq
written binary.Ne = s.Ne
written binary.Same = s.Same
written binary.NotSame = s.NotSame
written binary.Lt = s.Lt
written binary.Le = s.Le
written binary.Gt = s.Gt
written binary.Ge = s.Ge
written binary.Add = s.Plus
written binary.Sub = s.Minus
written binary.Mul = s.Star
written binary.Div = s.Slash
written binary.Rem = s.Percent

abbrev pub prefixed : Unary → Sign
prefixed unary.Not = s.Not
prefixed unary.Neg = s.Minus
prefixed unary.Plus = s.Plus

-- The ranks of operators, from the tightest: 1 is a prefix before an operand, and an operator has the rank above that of its right operand.
-- So rank 2 is * / %, 3 is + -, 4 is < <= > >=, 5 is == != === !==, 6 is ??, 7 is &&, 8 is ||.
abbrev pub below : Binary → ℕ
below binary.Or = 7
below binary.And = 6
below binary.OrNull = 5
below binary.Eq = 4
below binary.Ne = 4
below binary.Same = 4
below binary.NotSame = 4
below binary.Lt = 3
below binary.Le = 3
below binary.Gt = 3
below binary.Ge = 3
below binary.Add = 2
below binary.Sub = 2
below binary.Mul = 1
below binary.Div = 1
below binary.Rem = 1

-- the names that are literals where an operand stands
unfoldable pub literal_of : List ℕ → Option Value
literal_of n = if same_text (codes "null") n then Some v.Null else (
    if same_text (codes "undefined") n then Some v.Null else (
    if same_text (codes "true") n then Some (v.Bool true) else (
    if same_text (codes "false") n then Some (v.Bool false) else None)))

-- the key of a pair: a name or a text
abbrev pub key_of : Kind → Option (List ℕ)
key_of (k.Name n) = Some n
key_of (k.Text n) = Some n
key_of _ = None

mutual
  -- An operand and what follows it: the tokens, all of them, are this expression. The truth value says that it ends in a name, so that `(args)` may follow.
  pub data Chain : Bool → Tokens → Expr → Type 0 where
    number : (n : ℤ) (p : Place) → Chain false (token (k.Number n) p ∷ []) (e.Literal p (v.Int n))
    quoted : (n : List ℕ) (p : Place) → Chain false (token (k.Text n) p ∷ []) (e.Literal p (v.Text n))
    word : {w : Value} (n : List ℕ) (p : Place) → literal_of n ≡ Some w → Chain false (token (k.Name n) p ∷ []) (e.Literal p w)
    name : (n : List ℕ) (p : Place) → literal_of n ≡ None → Chain true (token (k.Name n) p ∷ []) (e.Name p n)
    variable : (n : List ℕ) (p : Place) → Chain true (token (k.Variable n) p ∷ []) (e.Name p n)
    group : {a : Expr} (x : Tokens) (p q : Place) → ReadsPiped x a → Chain false (sign s.OpenRound p ∷ x ++ sign s.CloseRound q ∷ []) (e.Group p a)
    list : {es : List Expr} (x : Tokens) (p q : Place) → ReadsAll x es → Chain false (sign s.OpenSquare p ∷ x ++ sign s.CloseSquare q ∷ []) (e.List p es)
    rec : {fs : List (List ℕ × Expr)} (x : Tokens) (p q : Place) → ReadsPairs x fs → Chain false (sign s.OpenBrace p ∷ x ++ sign s.CloseBrace q ∷ []) (e.Rec p fs)
    member : {c : Bool} {a : Expr} {n : List ℕ} (x : Tokens) (p q : Place) → Chain c x a → Chain true (x ++ sign s.Dot p ∷ token (k.Name n) q ∷ []) (e.Member (start x) a n)
    safe : {c : Bool} {a : Expr} {n : List ℕ} (x : Tokens) (p q : Place) → Chain c x a → Chain true (x ++ sign s.SafeDot p ∷ token (k.Name n) q ∷ []) (e.Safe (start x) a n)
    index : {c : Bool} {a b : Expr} (x y : Tokens) (p q : Place) → Chain c x a → ReadsPiped y b
        → Chain false (x ++ sign s.OpenSquare p ∷ y ++ sign s.CloseSquare q ∷ []) (e.Index (start x) a b)
    call : {a : Expr} {es : List Expr} (x y : Tokens) (p q : Place) → Chain true x a → ReadsAll y es
        → Chain false (x ++ sign s.OpenRound p ∷ y ++ sign s.CloseRound q ∷ []) (e.Call (start x) a es)

  -- prefixes and operators, by rank
  pub data Reads : ℕ → Tokens → Expr → Type 0 where
    alone : {c : Bool} {x : Tokens} {a : Expr} → Chain c x a → Reads 1 x a
    prefixing : {x : Tokens} {a : Expr} (op : Unary) (p : Place) → Reads 1 x a → Reads 1 (sign (prefixed op) p ∷ x) (e.Unary p op a)
    tighter : {n : ℕ} {x : Tokens} {a : Expr} → Reads (suc n) x a → Reads (suc (suc n)) x a
    operator : {a b : Expr} (op : Binary) (x y : Tokens) (p : Place) → Reads (suc (below op)) x a → Reads (below op) y b
        → Reads (suc (below op)) (x ++ sign (written op) p ∷ y) (e.Binary (start x) op a b)

  -- c ? a : b over operators of any rank, grouped to the right
  pub data ReadsAny : Tokens → Expr → Type 0 where
    plain : {x : Tokens} {a : Expr} → Reads 8 x a → ReadsAny x a
    choose : {c a b : Expr} (x y z : Tokens) (p q : Place) → Reads 8 x c → ReadsAny y a → ReadsAny z b
        → ReadsAny (x ++ sign s.Question p ∷ y ++ sign s.Colon q ∷ z) (e.Choose (start x) c a b)

  -- any expression: pipes with their arguments
  pub data ReadsPiped : Tokens → Expr → Type 0 where
    unpiped : {x : Tokens} {a : Expr} → ReadsAny x a → ReadsPiped x a
    piped : {a : Expr} {n : List ℕ} {es : List Expr} (x y : Tokens) (p q : Place) → ReadsPiped x a → ReadsArguments y es
        → ReadsPiped (x ++ sign s.Bar p ∷ token (k.Name n) q ∷ y) (e.Pipe (start x) a n es)

  -- the arguments of a pipe, each after a colon
  pub data ReadsArguments : Tokens → List Expr → Type 0 where
    none : ReadsArguments [] []
    argument : {a : Expr} {es : List Expr} (x y : Tokens) (p : Place) → ReadsAny x a → ReadsArguments y es → ReadsArguments (sign s.Colon p ∷ x ++ y) (a ∷ es)

  -- no expression, or several with commas between
  pub data ReadsAll : Tokens → List Expr → Type 0 where
    nothing : ReadsAll [] []
    several : {x : Tokens} {es : List Expr} → ReadsSome x es → ReadsAll x es

  pub data ReadsSome : Tokens → List Expr → Type 0 where
    one : {x : Tokens} {a : Expr} → ReadsPiped x a → ReadsSome x (a ∷ [])
    more : {a : Expr} {es : List Expr} (x y : Tokens) (p : Place) → ReadsPiped x a → ReadsSome y es → ReadsSome (x ++ sign s.Comma p ∷ y) (a ∷ es)

  -- no pair, or several with commas between
  pub data ReadsPairs : Tokens → List (List ℕ × Expr) → Type 0 where
    no_pair : ReadsPairs [] []
    some_pairs : {x : Tokens} {fs : List (List ℕ × Expr)} → ReadsSomePairs x fs → ReadsPairs x fs

  pub data ReadsSomePairs : Tokens → List (List ℕ × Expr) → Type 0 where
    one_pair : {x : Tokens} {f : List ℕ × Expr} → ReadsPair x f → ReadsSomePairs x (f ∷ [])
    more_pairs : {f : List ℕ × Expr} {fs : List (List ℕ × Expr)} (x y : Tokens) (p : Place) → ReadsPair x f → ReadsSomePairs y fs → ReadsSomePairs (x ++ sign s.Comma p ∷ y) (f ∷ fs)

  -- key : e
  pub data ReadsPair : Tokens → List ℕ × Expr → Type 0 where
    pair : {n : List ℕ} {a : Expr} (kind : Kind) (p q : Place) (x : Tokens) → key_of kind ≡ Some n → ReadsPiped x a → ReadsPair (token kind p ∷ sign s.Colon q ∷ x) (n, a)
