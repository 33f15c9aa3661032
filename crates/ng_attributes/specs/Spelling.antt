-- Letters with the text that they say.
use Rattle.std.specs.Prelude.{◌≡◌, ℕ, ◌≤◌, [], ◌∷◌, ◌++◌, length, string_bytes}
use Rattle.std.specs.Str.{IsUtf8}
use Rattle.ng_exprs.specs.Reading.{IsNear}
use Rattle.ng_lex.specs.Letters.{Letters, bytes}
use Rattle.ng_attributes.specs.declared.spelled.Spelled.{Spelled}
use Rattle.ng_attributes.specs.declared.spelled.Decoded.{Decoded}

-- the place of each letter is near
abbrev pub AreNear : Letters → Type 0
AreNear [] = Unit {0}
AreNear (l ∷ ls) = IsNear l.place × AreNear ls

-- the text is what the letters say, and is short enough to be read
pub record IsSpelled (s : Spelled) : Type 0 where
  pub says : s.text.now ≡ bytes s.letters.now
  pub utf8 : IsUtf8 s.text.now
  pub size : length s.text.now ≤ 1048576
  pub near : AreNear s.letters.now

-- so many bytes stand in the first part
pub record Splits (whole : Spelled) (n : ℕ) (first second : Spelled) : Type 0 where
  pub letters : whole.letters.now ≡ first.letters.now ++ second.letters.now
  pub text : whole.text.now ≡ first.text.now ++ second.text.now
  pub long : length first.text.now ≡ n
  pub first_spelled : IsSpelled first
  pub second_spelled : IsSpelled second

-- the same of a value that owns both
pub record IsDecoded (d : Decoded) : Type 0 where
  pub says : string_bytes d.text ≡ bytes d.letters.items
  pub utf8 : IsUtf8 (string_bytes d.text)
  pub size : length (string_bytes d.text) ≤ 1048576
  pub near : AreNear d.letters.items
