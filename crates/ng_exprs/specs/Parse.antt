-- The same as a function: it takes an expression from the front, and gives it with the tokens after it.
use Rattle.std.specs.Prelude.{ℕ, zero, suc, Bool, true, false, ◌==◌, nat_lt, if◌then◌else◌, List, [], ◌∷◌, ◌++◌, Option, Some, None, Result, Ok, Err}
use denote.Enum.Bare.{sameb}
use Rattle.ng_tokens.specs.contracts.kinds.Sign.{the_type}
use Rattle.ng_ast.specs.declared.Place.{Place}
use Rattle.ng_ast.specs.declared.Binary.{Binary}
use Rattle.ng_ast.specs.declared.Binary.TheVariants as binary
use Rattle.ng_ast.specs.declared.Unary.{Unary}
use Rattle.ng_ast.specs.declared.Unary.TheVariants as unary
use Rattle.ng_ast.specs.declared.Expr.{Expr}
use Rattle.ng_ast.specs.declared.Expr.TheVariants as e
use Rattle.ng_values.specs.declared.value.Value.{Value}
use Rattle.ng_values.specs.declared.value.Value.TheVariants as v
use Rattle.ng_tokens.specs.declared.kinds.Sign.{Sign}
use Rattle.ng_tokens.specs.declared.kinds.Sign.TheVariants as s
use Rattle.ng_tokens.specs.declared.kinds.Kind.{Kind}
use Rattle.ng_tokens.specs.declared.kinds.Kind.TheVariants as k
use Rattle.ng_exprs.specs.Grammar.{Tokens, start, literal_of, key_of}
pub use Rattle.ng_exprs.specs.Grammar.{below}

-- why there is no answer
pub data Stop : Type 0 where
  Syntax : Stop
  Limit : Stop

abbrev pub Outcome : Type 0 → Type 0
Outcome A = Result (A × Tokens) Stop

abbrev pub Parser : Type 0 → Type 0
Parser A = Tokens → Outcome A

abbrev pub and_then : {A B : Type 0} → Outcome A → (A → Parser B) → Outcome B
and_then (Ok p) f = f p.0 p.1
and_then (Err e) f = Err e

infixl 10 ◌>>=◌
abbrev pub ◌>>=◌ : {A B : Type 0} → Parser A → (A → Parser B) → Parser B
p >>= f = λ ts. and_then (p ts) f

infixl 10 ◌>>◌
abbrev pub ◌>>◌ : {A B : Type 0} → Parser A → Parser B → Parser B
p >> q = p >>= (λ _. q)

abbrev pub pure : {A : Type 0} → A → Parser A
pure a = λ ts. Ok (a, ts)

abbrev pub refuse : {A : Type 0} → Parser A
refuse = λ ts. Err Syntax

abbrev pub limit : {A : Type 0} → Parser A
limit = λ ts. Err Limit

-- ---- the token at the front

unfoldable pub same : Sign → Sign → Bool
same = sameb the_type

abbrev pub sign_of : Kind → Option Sign
sign_of (k.Sign x) = Some x
sign_of _ = None

abbrev pub peek : Tokens → Option Sign
peek [] = None
peek (t ∷ ts) = sign_of t.kind

abbrev pub rest : Tokens → Tokens
rest [] = []
rest (t ∷ ts) = ts

abbrev pub skip : Parser (Unit {0})
skip = λ ts. Ok (tt, rest ts)

abbrev pub is_sign : Sign → Option Sign → Bool
is_sign x None = false
is_sign x (Some y) = same y x

abbrev pub expect : Sign → Parser (Unit {0})
expect x = λ ts. if is_sign x (peek ts) then Ok (tt, rest ts) else Err Syntax

abbrev pub name_by : Kind → Parser (List ℕ)
name_by (k.Name n) = λ ts. Ok (n, ts)
name_by _ = λ ts. Err Syntax

abbrev pub name : Parser (List ℕ)
name [] = Err Syntax
name (t ∷ ts) = name_by t.kind ts

abbrev pub key_by : Option (List ℕ) → Parser (List ℕ)
key_by (Some n) = λ ts. Ok (n, ts)
key_by None = λ ts. Err Syntax

abbrev pub key : Parser (List ℕ)
key [] = Err Syntax
key (t ∷ ts) = key_by (key_of t.kind) ts

-- ---- what a sign does after or before an operand

abbrev pub infix_of : Sign → Option Binary
infix_of s.Or = Some binary.Or
infix_of s.And = Some binary.And
infix_of s.OrNull = Some binary.OrNull
infix_of s.Eq = Some binary.Eq
infix_of s.Ne = Some binary.Ne
infix_of s.Same = Some binary.Same
infix_of s.NotSame = Some binary.NotSame
infix_of s.Lt = Some binary.Lt
infix_of s.Le = Some binary.Le
infix_of s.Gt = Some binary.Gt
infix_of s.Ge = Some binary.Ge
infix_of s.Plus = Some binary.Add
infix_of s.Minus = Some binary.Sub
infix_of s.Star = Some binary.Mul
infix_of s.Slash = Some binary.Div
infix_of s.Percent = Some binary.Rem
infix_of _ = None

abbrev pub prefix_of : Sign → Option Unary
prefix_of s.Not = Some unary.Not
prefix_of s.Minus = Some unary.Neg
prefix_of s.Plus = Some unary.Plus
prefix_of _ = None

abbrev pub infix_at : Option Sign → Option Binary
infix_at None = None
infix_at (Some x) = infix_of x

abbrev pub prefix_at : Option Sign → Option Unary
prefix_at None = None
prefix_at (Some x) = prefix_of x

abbrev pub of_rank : ℕ → Option Binary → Option Binary
of_rank r None = None
of_rank r (Some op) = if below op == r then Some op else None

-- how often a loop turns, and one more than the tokens of an expression
unfoldable pub turns : ℕ
turns = 257

-- what was found stands before what is to come
abbrev pub front : {A : Type 0} → List A → Outcome (List A) → Outcome (List A)
front found (Ok p) = Ok (found ++ p.0, p.1)
front found (Err e) = Err e

-- what may stand in brackets: whether one more may be open, and the parser
pub record Brackets : Type 0 where
  pub room : Bool
  pub turns : ℕ
  pub parse : Parser Expr

-- one or more, with commas between
unfoldable pub some_of : {A : Type 0} → Parser A → ℕ → Parser (List A)
some_of item zero = limit
some_of item (suc n) = do
  a ← item
  λ ts. if is_sign s.Comma (peek ts) then (do es ← some_of item n; pure (a ∷ es)) (rest ts) else Ok (a ∷ [], ts)

-- a name, or the literal that it is
abbrev pub named : Place → List ℕ → Option Value → Bool × Expr
named p n None = (true, e.Name p n)
named p n (Some w) = (false, e.Literal p w)

abbrev pub plain : Parser Expr → Parser (Bool × Expr)
plain p = p >>= λ a. pure (false, a)

module _ (inner : Brackets) where
  -- none or more in brackets, after the one that opens
  unfoldable pub all_of : {A : Type 0} → Parser A → Sign → Parser (List A)
  all_of item close = λ ts. if inner.room then (if is_sign close (peek ts) then Ok ([], rest ts) else (do es ← some_of item inner.turns; expect close; pure es) ts) else Err Limit

  unfoldable pub group : Place → Parser Expr
  group p = do
    a ← inner.parse
    expect s.CloseRound
    pure (e.Group p a)

  unfoldable pub list : Place → Parser Expr
  list p = do
    es ← all_of inner.parse s.CloseSquare
    pure (e.List p es)

  -- key : e
  unfoldable pub pair : Parser (List ℕ × Expr)
  pair = do
    n ← key
    expect s.Colon
    a ← inner.parse
    pure (n, a)

  unfoldable pub rec : Place → Parser Expr
  rec p = do
    fs ← all_of pair s.CloseBrace
    pure (e.Rec p fs)

  abbrev pub atom_by : Place → Kind → Parser (Bool × Expr)
  atom_by p (k.Number n) = pure (false, e.Literal p (v.Int n))
  atom_by p (k.Text n) = pure (false, e.Literal p (v.Text n))
  atom_by p (k.Name n) = pure (named p n (literal_of n))
  atom_by p (k.Variable n) = pure (true, e.Name p n)
  atom_by p (k.Sign s.OpenRound) = plain (group p)
  atom_by p (k.Sign s.OpenSquare) = plain (list p)
  atom_by p (k.Sign s.OpenBrace) = plain (rec p)
  atom_by p (k.Sign _) = refuse

  -- an operand, and whether it is a name
  unfoldable pub atom : Parser (Bool × Expr)
  atom [] = Err Syntax
  atom (t ∷ ts) = atom_by t.place t.kind ts

  unfoldable pub member : Place → Expr → Parser Expr
  member p a = do
    n ← name
    pure (e.Member p a n)

  unfoldable pub safe : Place → Expr → Parser Expr
  safe p a = do
    n ← name
    pure (e.Safe p a n)

  unfoldable pub index : Place → Expr → Parser Expr
  index p a = do
    b ← inner.parse
    expect s.CloseSquare
    pure (e.Index p a b)

  unfoldable pub call : Place → Expr → Parser Expr
  call p a = do
    es ← all_of inner.parse s.CloseRound
    pure (e.Call p a es)

  -- a call follows what ends in a name
  abbrev pub called : Place → Bool → Expr → Option (Bool × Parser Expr)
  called p true a = Some (false, call p a)
  called p false a = None

  -- what follows an operand, and whether it ends in a name
  abbrev pub follow_by : Place → Bool → Expr → Option Sign → Option (Bool × Parser Expr)
  follow_by p c a (Some s.Dot) = Some (true, member p a)
  follow_by p c a (Some s.SafeDot) = Some (true, safe p a)
  follow_by p c a (Some s.OpenSquare) = Some (false, index p a)
  follow_by p c a (Some s.OpenRound) = called p c a
  follow_by p c a _ = None

  abbrev pub follow : (Bool → Expr → Parser Expr) → Expr → Option (Bool × Parser Expr) → Parser Expr
  follow again a None = pure a
  follow again a (Some q) = skip >> q.1 >>= again q.0

  unfoldable pub followed : ℕ → Bool → Place → Expr → Parser Expr
  followed zero c p a = limit
  followed (suc n) c p a = λ ts. follow (λ d. followed n d p) a (follow_by p c a (peek ts)) ts

  unfoldable pub chain : Parser Expr
  chain = λ ts. (atom >>= λ q. followed inner.turns q.0 (start ts) q.1) ts

  abbrev pub prefix_by : Parser Expr → Place → Option Unary → Parser Expr
  prefix_by again p None = chain
  prefix_by again p (Some op) = skip >> again >>= λ a. pure (e.Unary p op a)

  unfoldable pub prefixed : ℕ → Parser Expr
  prefixed zero = limit
  prefixed (suc n) = λ ts. prefix_by (prefixed n) (start ts) (prefix_at (peek ts)) ts

  -- the operators of a rank, over operands of the one below
  abbrev pub joined : Parser Expr → (Expr → Parser Expr) → Place → Expr → Option Binary → Parser Expr
  joined operand again p a None = pure a
  joined operand again p a (Some op) = skip >> operand >>= λ b. again (e.Binary p op a b)

  unfoldable pub joins : Parser Expr → ℕ → ℕ → Place → Expr → Parser Expr
  joins operand r zero p a = limit
  joins operand r (suc n) p a = λ ts. joined operand (joins operand r n p) p a (of_rank r (infix_at (peek ts))) ts

  unfoldable pub ranked : ℕ → Parser Expr
  ranked zero = prefixed inner.turns
  ranked (suc r) = λ ts. (ranked r >>= joins (ranked r) (suc r) inner.turns (start ts)) ts

  abbrev pub arms : Parser Expr → Place → Expr → Parser Expr
  arms arm p c = do
    a ← arm
    expect s.Colon
    b ← arm
    pure (e.Choose p c a b)

  unfoldable pub chosen : ℕ → Parser Expr
  chosen zero = limit
  chosen (suc n) = λ ts. (ranked 7 >>= λ c us. if is_sign s.Question (peek us) then arms (chosen n) (start ts) c (rest us) else Ok (c, us)) ts

  -- the arguments of a pipe
  unfoldable pub arguments : ℕ → Parser (List Expr)
  arguments zero = limit
  arguments (suc n) = λ ts. if is_sign s.Colon (peek ts) then (do a ← chosen inner.turns; es ← arguments n; pure (a ∷ es)) (rest ts) else Ok ([], ts)

  -- a pipe, after its sign
  unfoldable pub pipe : Place → Expr → Parser Expr
  pipe p a = do
    n ← name
    es ← arguments inner.turns
    pure (e.Pipe p a n es)

  unfoldable pub pipes : ℕ → Place → Expr → Parser Expr
  pipes zero p a = limit
  pipes (suc n) p a = λ ts. if is_sign s.Bar (peek ts) then (pipe p a >>= pipes n p) (rest ts) else Ok (a, ts)

  unfoldable pub piped : Parser Expr
  piped = λ ts. (chosen inner.turns >>= pipes inner.turns (start ts)) ts

-- with fewer brackets open than d, and loops of at most n turns
unfoldable pub whole : ℕ → ℕ → Parser Expr
whole n zero = limit
whole n (suc d) = piped (record { room = nat_lt 0 d; turns = n; parse = whole n d })

abbrev pub brackets : ℕ → ℕ → Brackets
brackets n d = record { room = nat_lt 0 d; turns = n; parse = whole n d }
