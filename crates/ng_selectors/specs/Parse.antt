-- The selector of a text, as a function that computes.
use Rattle.std.specs.Prelude.{ℕ, zero, suc, Bool, true, false, ◌||◌, ◌==◌, if◌then◌else◌, List, [], ◌∷◌, length, take, drop, codes, Option, Some, None}
use Rattle.std.specs.List.{prefix_len}
use Rattle.ng_tokens.specs.Lexis.{Text, is_blank, is_letter, is_word}
use Rattle.ng_ast.specs.declared.One.{One}
use Rattle.ng_ast.specs.declared.SelPart.{SelPart}
use Rattle.ng_ast.specs.declared.SelPart.TheVariants as kind
use Rattle.ng_ast.specs.declared.Selector.{Selector}
use Rattle.ng_selectors.specs.Grammar.{is_lower, is_tag_byte, is_identifier_byte}

-- what stands at the front of a text, and the text after it
abbrev pub Outcome : Type 0 → Type 0
Outcome A = Option (A × Text)

-- what takes something from the front of a text
abbrev pub Parser : Type 0 → Type 0
Parser A = Text → Outcome A

-- a step after another
abbrev pub and_then : {A B : Type 0} → Outcome A → (A → Parser B) → Outcome B
and_then None f = None
and_then (Some p) f = f p.0 p.1

infixl 10 ◌>>=◌
abbrev pub ◌>>=◌ : {A B : Type 0} → Parser A → (A → Parser B) → Parser B
p >>= f = λ t. and_then (p t) f

infixl 10 ◌>>◌
abbrev pub ◌>>◌ : {A B : Type 0} → Parser A → Parser B → Parser B
p >> q = p >>= (λ _. q)

-- nothing is taken
abbrev pub pure : {A : Type 0} → A → Parser A
pure a = λ t. Some (a, t)

-- nothing stands there
abbrev pub refuse : {A : Type 0} → Parser A
refuse = λ t. None

-- ---- signs and words

-- the text after these bytes, where it begins with them
abbrev pub strip : Text → Text → Option Text
strip [] t = Some t
strip (c ∷ w) [] = None
strip (c ∷ w) (b ∷ t) = if b == c then strip w t else None

-- the same, as what a parser gives
abbrev pub without : Option Text → Outcome (Unit {0})
without None = None
without (Some t) = Some (tt, t)

-- a sign, which is taken
abbrev pub expect : Text → Parser (Unit {0})
expect w = λ t. without (strip w t)

-- the parser, where a sign was taken, and otherwise the other outcome
abbrev pub if_after : {A : Type 0} → Option Text → Parser A → Outcome A → Outcome A
if_after None p o = o
if_after (Some t) p o = p t

-- the first parser behind the sign where the text begins with it, and otherwise the second
abbrev pub after : {A : Type 0} → Text → Parser A → Parser A → Parser A
after w p q = λ t. if_after (strip w t) p (q t)

-- the first byte
abbrev pub peek : Text → Option ℕ
peek [] = None
peek (b ∷ t) = Some b

-- the text begins with a byte that passes
abbrev pub sees : (ℕ → Bool) → Text → Bool
sees test [] = false
sees test (b ∷ t) = test b

-- nothing is left
abbrev pub is_empty : Text → Bool
is_empty [] = true
is_empty (b ∷ t) = false

-- the bytes at the front that pass
abbrev pub span : (ℕ → Bool) → Parser Text
span test = λ t. Some (take (prefix_len test t) t, drop (prefix_len test t) t)

-- the same, where the first byte passes a test of its own; refused where it doesn't
abbrev pub run : (ℕ → Bool) → (ℕ → Bool) → Parser Text
run first more = λ t. if sees first t then span more t else None

-- one more byte before
abbrev pub onto : ℕ → Outcome Text → Outcome Text
onto b None = None
onto b (Some p) = Some (b ∷ p.0, p.1)

-- the bytes before the first c, which is left out
abbrev pub until : ℕ → Parser Text
until c [] = None
until c (b ∷ t) = if b == c then Some ([], t) else onto b (until c t)

-- the name of an attribute or a class
abbrev pub identifier : Parser Text
identifier = run is_identifier_byte is_identifier_byte

-- a value without quotes
abbrev pub name : Parser Text
name = run is_letter is_word

-- a value, in quotes or without
abbrev pub value : Parser Text
value = after (codes "'") (until 39) (after (codes "\"") (until 34) name)

-- ---- parts

-- behind [a= : a value and ]
abbrev pub valued : Text → Parser SelPart
valued a = do
  v ← value
  expect (codes "]")
  pure (kind.Is a v)

-- behind [a
abbrev pub named : Text → Parser SelPart
named a = after (codes "]") (pure (kind.Has a)) (expect (codes "=") >> valued a)

-- behind [
abbrev pub attribute : Parser SelPart
attribute = identifier >>= named

-- behind .
abbrev pub class : Parser SelPart
class = do
  c ← identifier
  pure (kind.Class c)

-- [ . or :
abbrev pub begins_part : ℕ → Bool
begins_part b = b == 91 || b == 46 || b == 58

-- a tag, where one stands at the front
abbrev pub tag : Parser (Option Text)
tag = λ t. if sees is_lower t then (do a ← run is_lower is_tag_byte; pure (Some a)) t else Some (None, t)

-- an alternative has a tag, or parts
abbrev pub filled : Option Text → List SelPart → Parser One
filled None [] = refuse
filled None (p ∷ ps) = pure (record { tag = None; parts = p ∷ ps })
filled (Some t) ps = pure (record { tag = Some t; parts = ps })

-- The negation is what `:not` stands for.
module _ (negation : Parser SelPart) where
  -- one part
  unfoldable pub part : Parser SelPart
  part = after (codes "[") attribute (after (codes ".") class negation)

  -- any number of parts, fewer than the number
  abbrev pub parts_within : ℕ → Parser (List SelPart)
  parts_within zero = refuse
  parts_within (suc n) = λ t. if sees begins_part t then (do p ← part; ps ← parts_within n; pure (p ∷ ps)) t else Some ([], t)

  -- any number of parts
  unfoldable pub parts : Parser (List SelPart)
  parts = λ t. parts_within (suc (length t)) t

  -- one alternative
  unfoldable pub one : Parser One
  one = after (codes "*") (pure (record { tag = None; parts = [] })) (do o ← tag; ps ← parts; filled o ps)

-- a `:not`; the number says how many may stand round one another
unfoldable pub negation : ℕ → Parser SelPart
negation zero = refuse
negation (suc d) = do
  expect (codes ":not(")
  a ← one (negation d)
  expect (codes ")")
  pure (kind.Not a)

-- an alternative of a selector
unfoldable pub alternative : Parser One
alternative = one (negation 1)

-- the text after the white space at its front
abbrev pub skip_blanks : Text → Text
skip_blanks t = drop (prefix_len is_blank t) t

-- white space, where some stands
abbrev pub blanks : Parser (Unit {0})
blanks = λ t. Some (tt, skip_blanks t)

-- a comma, and the white space round it
abbrev pub comma : Parser (Unit {0})
comma = do
  blanks
  expect (codes ",")
  blanks

-- one alternative or more up to the end of the text, fewer than the number
abbrev pub alternatives_within : ℕ → Parser (List One)
alternatives_within zero = refuse
alternatives_within (suc n) = do
  a ← alternative
  λ t. if is_empty t then Some (a ∷ [], t) else (do comma; others ← alternatives_within n; pure (a ∷ others)) t

-- one alternative or more up to the end of the text
unfoldable pub alternatives : Parser (List One)
alternatives = λ t. alternatives_within (suc (length t)) t

-- the selector of these alternatives
abbrev pub selector_with : Outcome (List One) → Option Selector
selector_with None = None
selector_with (Some p) = Some (record { list = p.0 })

-- the selector that a text is, if it is one
unfoldable pub selector_of : Text → Option Selector
selector_of t = selector_with (alternatives t)
