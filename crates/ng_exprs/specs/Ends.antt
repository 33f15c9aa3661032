-- Where an expression ends before a `)` or `;` that is not its own.
use Rattle.std.specs.Prelude.{◌≡◌, ℕ, zero, suc, ◌+◌, ◌-◌, ◌<◌, ◌≤◌, length, drop, ◌⊎◌, Bool, true, false, if◌then◌else◌, [], ◌∷◌, Option, Some, None}
use Rattle.std.specs.Option.{option_map}
use Rattle.ng_tokens.specs.declared.kinds.Shape.{Shape}
use Rattle.ng_tokens.specs.declared.kinds.Sign.TheVariants as s
use Rattle.ng_tokens.specs.declared.kinds.Kind.{Kind}
use Rattle.ng_tokens.specs.declared.kinds.Kind.TheVariants as k
use Rattle.ng_tokens.specs.Lexis.{Text, is_blank, kind_of}
use Rattle.ng_tokens.specs.Scan.{shape}
use Rattle.ng_exprs.specs.Limits.{after}

-- `)` or `;`
abbrev pub IsEnd : ℕ → Type 0
IsEnd c = (c ≡ 41) ⊎ (c ≡ 59)

abbrev pub is_zero : ℕ → Bool
is_zero zero = true
is_zero (suc n) = false

-- a token that ends an expression where so many of its brackets are open
abbrev pub stops : Kind → ℕ → Bool
stops (k.Sign s.CloseRound) n = is_zero n
stops (k.Sign s.Semicolon) n = is_zero n
stops _ n = false

-- what matters of a token's kind
abbrev pub kind_by : Shape → Kind
kind_by form = kind_of form []

abbrev pub end_by : ℕ → (ℕ → ℕ → Option ℕ) → Option (Shape × ℕ) → Option ℕ
end_by d again None = None
end_by d again (Some q) = if stops (kind_by q.0) d then Some 0 else again (after (kind_by q.0) d) (q.1 - 1)

-- The bytes before the token that ends the expression: so many brackets are open, and so many bytes are left of a token.
unfoldable pub end_from : ℕ → ℕ → Text → Option ℕ
end_from d left [] = None
end_from d (suc left) (b ∷ z) = option_map suc (end_from d left z)
end_from d zero (b ∷ z) = if is_blank b then option_map suc (end_from d zero z) else end_by d (λ e n. option_map suc (end_from e n z)) (shape (b ∷ z))

-- ---- what the code gives

-- so many bytes stand before
abbrev pub later : ℕ → Option ℕ → Option ℕ
later n None = None
later n (Some m) = Some (n + m)

-- one step of the scan
abbrev pub Advances : ℕ → Text → Option (Option (ℕ × ℕ)) → Type 0
Advances d z None = end_from d 0 z ≡ None
Advances d z (Some None) = end_from d 0 z ≡ Some 0
Advances d z (Some (Some q)) = (end_from d 0 z ≡ later q.0 (end_from q.1 0 (drop q.0 z))) × (0 < q.0) × (q.0 ≤ length z) × (q.1 ≤ d + 1)
