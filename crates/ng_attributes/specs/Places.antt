-- Texts that aren't too long, and places in them.
use Rattle.std.specs.Prelude.{◌+◌, ◌≤◌, length}
use Rattle.ng_ast.specs.declared.Place.{Place}
use Rattle.ng_tokens.specs.Lexis.{Text}

-- The text has at most 2 ^ 20 bytes, and no number of a place in it passes 2 ^ 30, where its first byte stands at the place.
pub record Fits (p : Place) (t : Text) : Type 0 where
  pub size : length t ≤ 1048576
  pub line : p.line + length t ≤ 1073741824
  pub column : p.column + length t ≤ 1073741824
  pub byte : p.byte + length t ≤ 1073741824
