-- Tokens of a file as phrases, each with the white space and the comments after it.
use Rattle.std.specs.Prelude.{◌≡◌, ℕ, zero, suc, ◌-◌, Bool, true, false, if◌then◌else◌, [], ◌∷◌, ◌++◌, take, drop, Option, Some, None, Ok, Err}
use Rattle.std.specs.Option.{option_map}
use Rattle.ng_ast.specs.declared.Place.{Place}
use Rattle.ng_tokens.specs.declared.kinds.Kind.{Kind}
use Rattle.ng_tokens.specs.declared.kinds.Token.{Token}
use Rattle.ng_tokens.specs.Lexis.{Text, is_blank, opens_comment, steps, Lexes}
use Rattle.ng_tokens.specs.Scan.{piece}
use Rattle.ng_phrases.specs.Parser.{Stop, Parser, and_then}

-- white space or a comment begins here
abbrev pub begins_gap : Text → Bool
begins_gap [] = false
begins_gap (b ∷ z) = if is_blank b then true else opens_comment true (b ∷ z)

-- white space and comments, all that stand here
abbrev pub ReadsGap : Place → Text → Text → Unit {0} → Type 0
ReadsGap p x z u = Lexes true p (x ++ z) [] z × (begins_gap z ≡ false)

-- a token at the place, with all the white space and comments after it
abbrev pub ReadsToken : Place → Text → Text → Token → Type 0
ReadsToken p x z t = Lexes true p (x ++ z) (t ∷ []) z × (t.place ≡ p) × (begins_gap z ≡ false)

-- ---- the same as functions

abbrev pub gap_by : (ℕ → Option ℕ) → Option (Option Kind × ℕ) → Option ℕ
gap_by again None = None
gap_by again (Some q) = again (q.1 - 1)

-- The bytes of white space and comments, all that stand here. The first number counts the bytes that are left of a piece.
unfoldable pub gap_from : ℕ → Text → Option ℕ
gap_from left [] = Some 0
gap_from (suc left) (b ∷ z) = option_map suc (gap_from left z)
gap_from zero (b ∷ z) = if begins_gap (b ∷ z) then gap_by (λ n. option_map suc (gap_from n z)) (piece true (b ∷ z)) else Some 0

-- so many bytes, for a value
abbrev pub passed : {Q A : Type 0} → A → Option ℕ → Parser Q A
passed a None = λ p t. Err Stop.Syntax
passed a (Some n) = λ p t. Ok (a, steps p (take n t), drop n t)

unfoldable pub parse_gap : {Q : Type 0} → Parser Q (Unit {0})
parse_gap = λ p t. passed tt (gap_from 0 t) p t

-- a token, before what comes after it
abbrev pub token_by : {Q : Type 0} → Option (Option Kind × ℕ) → Parser Q Token
token_by None = λ p t. Err Stop.Syntax
token_by (Some (None, n)) = λ p t. Err Stop.Syntax
token_by (Some (Some kind, n)) = λ p t. and_then (parse_gap (steps p (take n t)) (drop n t)) (λ u q z. Ok (record { kind = kind; place = p }, q, z))

unfoldable pub parse_token : {Q : Type 0} → Parser Q Token
parse_token = λ p t. token_by (piece true t) p t
