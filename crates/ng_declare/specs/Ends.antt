-- Where an expression ends before its `;`, and a body before its `}`.
use Rattle.std.specs.Prelude.{◌≡◌, ℕ, zero, suc, ◌+◌, ◌-◌, ◌<◌, ◌≤◌, Bool, true, false, if◌then◌else◌, [], ◌∷◌, ◌++◌, length, drop, Option, Some, None}
use Rattle.std.specs.Option.{option_map}
use Rattle.std.specs.Str.{IsCharBoundary}
use Rattle.ng_tokens.specs.declared.kinds.Sign.{Sign}
use Rattle.ng_tokens.specs.declared.kinds.Kind.{Kind}
use Rattle.ng_tokens.specs.Lexis.{Text, spelling}
use Rattle.ng_tokens.specs.Scan.{piece}
use Rattle.ng_exprs.specs.Ends.{is_zero}
use Rattle.ng_exprs.specs.Limits.{after}
use Rattle.ng_phrases.specs.Words.{is_sign}
use Rattle.ng_declare.specs.declared.ends.Turn.{Turn}
use Rattle.ng_declare.specs.declared.ends.Turn.TheVariants as turn

-- the sign comes
abbrev pub Comes : Sign → Text → Type 0
Comes x z = (w : Text) × (z ≡ spelling x ++ w)

-- the token is the sign, and none of the brackets before it is open
abbrev pub ends_by : Sign → Kind → ℕ → Bool
ends_by x kind d = if is_sign x kind then is_zero d else false

abbrev pub end_by : Sign → ℕ → (ℕ → ℕ → Option ℕ) → Option (Option Kind × ℕ) → Option ℕ
end_by x d again None = None
end_by x d again (Some (None, n)) = again d (n - 1)
end_by x d again (Some (Some kind, n)) = if ends_by x kind d then Some 0 else again (after kind d) (n - 1)

-- The bytes before the sign that stands in no bracket: so many brackets are open, and so many bytes are left of a piece.
unfoldable pub end_from : Sign → ℕ → ℕ → Text → Option ℕ
end_from x d left [] = None
end_from x d (suc left) (b ∷ z) = option_map suc (end_from x d left z)
end_from x d zero (b ∷ z) = end_by x d (λ e n. option_map suc (end_from x e n z)) (piece true (b ∷ z))

-- where the sign stands that ends what stands here
abbrev pub end_of : Sign → Text → Option ℕ
end_of x t = end_from x 0 0 t

-- ---- what the code gives

-- so many bytes stand before
abbrev pub later : ℕ → Option ℕ → Option ℕ
later n None = None
later n (Some m) = Some (n + m)

-- one turn of the scan
abbrev pub Turns : Sign → ℕ → Text → Turn → Type 0
Turns x d z turn.Stuck = end_from x d 0 z ≡ None
Turns x d z turn.Ended = end_from x d 0 z ≡ Some 0
Turns x d z (turn.Past n e) = (end_from x d 0 z ≡ later n (end_from x e 0 (drop n z))) × (0 < n) × (n ≤ length z) × (e ≤ d + 1) × IsCharBoundary z n
