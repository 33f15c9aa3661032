-- The text of a template, which stands between backticks.
use Rattle.std.specs.Prelude.{◌≡◌, ◌≢◌, ℕ, ◌+◌, ◌==◌, if◌then◌else◌, [], ◌∷◌, ◌++◌, take, drop, Option, Some, None, Ok, Err}
use Rattle.std.specs.List.{position_from}
use Rattle.ng_ast.specs.declared.Place.{Place}
use Rattle.ng_tokens.specs.Lexis.{Text, step, steps}
use Rattle.ng_phrases.specs.Parser.{Stop, Parser}
use Rattle.ng_declare.specs.declared.entries.Source.{Source}

-- no backtick stands in the text
abbrev pub NoTick : Text → Type 0
NoTick [] = Unit {0}
NoTick (b ∷ x) = (b ≢ 96) × NoTick x

-- a backtick, a text without one, and a backtick: the text, with the place of its first byte
abbrev pub ReadsQuoted : Place → Text → Text → Source → Type 0
ReadsQuoted p x z a = (x ≡ 96 ∷ (a.text ++ 96 ∷ [])) × (a.place ≡ step p 96) × NoTick a.text

-- ---- the same as a function

-- where the first backtick stands
abbrev pub tick_in : Text → Option ℕ
tick_in z = position_from (λ b. b == 96) 0 z

-- the length of the text between the backticks that come
abbrev pub quote_at : Text → Option ℕ
quote_at [] = None
quote_at (b ∷ z) = if b == 96 then tick_in z else None

abbrev pub quoted_by : {Q : Type 0} → Option ℕ → Parser Q Source
quoted_by None = λ p t. Err Stop.Syntax
quoted_by (Some n) = λ p t.
    Ok (record { place = steps p (take 1 t); text = take n (drop 1 t) }, steps (steps p (take 1 t)) (take (n + 1) (drop 1 t)), drop (n + 1) (drop 1 t))

unfoldable pub parse_quoted : {Q : Type 0} → Parser Q Source
parse_quoted = λ p t. quoted_by (quote_at t) p t
