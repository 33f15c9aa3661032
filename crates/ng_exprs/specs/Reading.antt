-- The readings of a text, and what its reader answers.
use Rattle.std.specs.Prelude.{◌≡◌, ◌≤◌, Bool, List, [], Option, Some, None, Result, Ok, Err}
use Rattle.ng_ast.specs.declared.Place.{Place}
use Rattle.ng_ast.specs.declared.Expr.{Expr}
use Rattle.ng_tokens.specs.declared.kinds.Token.{Token}
use Rattle.ng_tokens.specs.Lexis.{Text, Lexes}
use Rattle.ng_exprs.specs.declared.halt.Halt.{Halt}
use Rattle.ng_exprs.specs.declared.halt.Halt.TheVariants as h
use Rattle.ng_ast.specs.declared.refusals.Rule.TheVariants as rule
use Rattle.ng_ast.specs.declared.refusals.ReadError.{ReadError}
use Rattle.ng_ast.specs.declared.refusals.ReadError.TheVariants as r
use Rattle.ng_exprs.specs.Grammar.{Tokens, ReadsPiped}
use Rattle.ng_exprs.specs.Limits.{IsBegun, Passes, Over}

-- the numbers of the place are at most 2 ^ 30: a text of 1 MiB that begins there has no place beyond 2 ^ 31
abbrev pub IsNear : Place → Type 0
IsNear p = (p.line ≤ 1073741824) × (p.column ≤ 1073741824) × (p.byte ≤ 1073741824)

-- the text, whose first byte stands at the place, is this expression
abbrev pub ReadsExpr : Bool → Place → Text → Expr → Type 0
ReadsExpr comments base t a = (ts : List Token) × Lexes comments base t ts [] × ReadsPiped ts a

-- a front of the text is an expression that is begun, and passes a limit
abbrev pub OverText : Bool → Place → Text → Type 0
OverText comments base t = (ts : List Token) × (rest : Text) × Lexes comments base t ts rest × IsBegun ts × Passes ts

-- the text is no expression
abbrev pub IsUnread : Bool → Place → Text → Type 0
IsUnread comments base t = (a : Expr) → ReadsExpr comments base t a → ⊥

-- What a refusal says: Syntax only where the first holds, Limit only where the second does.
abbrev pub Refused : Type 0 → Type 0 → ReadError → Type 0
Refused unread over r.Utf8 = ⊥
Refused unread over (r.Syntax f) = (f.rule ≡ rule.Syntax) × (f.name ≡ []) × unread
Refused unread over (r.Limit f) = (f.rule ≡ rule.Limit) × (f.name ≡ []) × over
Refused unread over r.Memory = Unit {0}

-- this value, unless memory ran out
abbrev pub IsOrMemory : {A : Type 0} → A → Result A ReadError → Type 0
IsOrMemory a (Ok b) = b ≡ a
IsOrMemory a (Err r.Memory) = Unit {0}
IsOrMemory a (Err _) = ⊥

-- ---- what the reader of tokens gives
abbrev pub Halts : Type 0 → Type 0 → Halt → Type 0
Halts unread over (h.Syntax p) = unread
Halts unread over (h.Limit p) = over
Halts unread over h.Memory = Unit {0}

abbrev pub Answers : Tokens → Result Expr Halt → Type 0
Answers ts (Ok a) = ReadsPiped ts a × (Over ts → ⊥)
Answers ts (Err e) = Halts ((a : Expr) → ReadsPiped ts a → ⊥) (Over ts) e

-- what a halt is told as
abbrev pub Tells : Halt → ReadError → Type 0
Tells halt r.Memory = Unit {0}
Tells (h.Syntax p) (r.Syntax f) = (f.rule ≡ rule.Syntax) × (f.name ≡ [])
Tells (h.Limit p) (r.Limit f) = (f.rule ≡ rule.Limit) × (f.name ≡ [])
Tells _ _ = ⊥

-- the tokens of a text, or why there are none
abbrev pub Scanned : Option Tokens → Result Tokens ReadError → Type 0
Scanned o (Ok ts) = o ≡ Some ts
Scanned o (Err e) = Refused (o ≡ None) ⊥ e

-- ---- what the reader of a text gives
abbrev pub AnswersText : Bool → Place → Text → Result Expr ReadError → Type 0
AnswersText comments base t (Ok a) = ReadsExpr comments base t a × (OverText comments base t → ⊥)
AnswersText comments base t (Err e) = Refused (IsUnread comments base t) (OverText comments base t) e
