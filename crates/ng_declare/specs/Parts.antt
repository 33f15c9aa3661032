-- Parts of a file whose grammar is one of tokens: an expression before its `;`, a body before its `}`.
use Rattle.std.specs.Prelude.{◌≡◌, ℕ, true, ◌++◌, take, drop, Option, Some, None, Ok, Err}
use Rattle.std.specs.Option.{option_and_then}
use Rattle.ng_ast.specs.declared.Place.{Place}
use Rattle.ng_tokens.specs.declared.kinds.Sign.{Sign}
use Rattle.ng_tokens.specs.Lexis.{Text, Lexes, steps}
use Rattle.ng_tokens.specs.Scan.{scan}
use Rattle.ng_exprs.specs.Grammar.{Tokens}
use Rattle.ng_phrases.specs.Parser.{Stop, Parser}
use Rattle.ng_declare.specs.Ends.{Comes, end_of}

-- The text is such tokens, with white space and comments round them, and the sign comes after it.
abbrev pub ReadsPart : {A : Type 0} → Sign → (Tokens → A → Type 0) → Place → Text → Text → A → Type 0
ReadsPart x R p t z a = (ts : Tokens) × Lexes true p (t ++ z) ts z × R ts a × Comes x z

-- nothing that stands at the front is read so
abbrev pub NoPart : {A : Type 0} → Sign → (Tokens → A → Type 0) → Place → Text → Type 0
NoPart {A} x R p t = (y z : Text) (a : A) → t ≡ y ++ z → ReadsPart x R p y z a → ⊥

-- a front of the text is such tokens begun, and they pass a limit
abbrev pub OverPart : {A : Type 0} → (Tokens → A → Type 0) → (Tokens → Type 0) → Place → Text → Type 0
OverPart {A} R passes p t = (ts : Tokens) × (rest : Text) × Lexes true p t ts rest × ((more : Tokens) × (a : A) × R (ts ++ more) a) × passes ts

-- ---- the same as a function, by one on tokens

abbrev pub found_at : {Q A : Type 0} → Q → ℕ → Option A → Parser Q A
found_at q n (Some a) = λ p t. Ok (a, steps p (take n t), drop n t)
found_at q n None = λ p t. Err (Stop.Refused q)

abbrev pub part_by : {Q A : Type 0} → (Tokens → Option A) → (Place → Text → Q) → Option ℕ → Parser Q A
part_by find ask None = λ p t. Err Stop.Syntax
part_by find ask (Some n) = λ p t. found_at (ask p t) n (option_and_then find (scan true 0 p (take n t))) p t

-- Another reader is asked about what stands before the sign.
unfoldable pub parse_part : {Q A : Type 0} → Sign → (Tokens → Option A) → (Place → Text → Q) → Parser Q A
parse_part x find ask = λ p t. part_by find ask (end_of x t) p t
