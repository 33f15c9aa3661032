-- Places of texts that aren't too long.
use Rattle.std.specs.Prelude.{◌+◌, ◌≤◌, length}
use Rattle.ng_ast.specs.declared.Place.{Place}
use Rattle.ng_tokens.specs.Lexis.{Text}

-- the text isn't too long, and no place in it is too far, where its first byte stands at this one
abbrev pub Fits : Place → Text → Type 0
Fits p t = (length t ≤ 1048576) × (p.line + length t ≤ 1073741824) × (p.column + length t ≤ 1073741824) × (p.byte + length t ≤ 1073741824)
