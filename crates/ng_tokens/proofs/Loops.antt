-- Steps of the loops over a text.
use Rattle.std.proofs.Common.{ℕ, ◌+◌, [], ◌++◌}
use Rattle.std.specs.Prelude.{Option, Some, None}
use Rattle.ng_tokens.specs.Lexis.{Text}

-- so many bytes stand before
abbrev pub later : ℕ → Option ℕ → Option ℕ
later n None = None
later n (Some m) = Some (n + m)

-- this was found before
abbrev pub kept : Text → Option (Text × ℕ) → Text
kept found None = []
kept found (Some q) = found ++ q.0
