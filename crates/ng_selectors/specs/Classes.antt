-- Which bytes stand in a run of a class.
use Rattle.std.specs.Prelude.{ℕ, Bool}
use Rattle.ng_tokens.specs.Lexis.{is_blank, is_letter, is_word}
use Rattle.ng_selectors.specs.Grammar.{is_lower, is_tag_byte, is_identifier_byte}
use Rattle.ng_selectors.specs.declared.classes.Class.{Class}
use Rattle.ng_selectors.specs.declared.classes.Class.TheVariants.{Blank, Tag, Identifier, Name}

-- the bytes of such a run
abbrev pub within : Class → ℕ → Bool
within Blank = is_blank
within Tag = is_tag_byte
within Identifier = is_identifier_byte
within Name = is_word

-- the bytes that such a run may begin with
abbrev pub first : Class → ℕ → Bool
first Blank = is_blank
first Tag = is_lower
first Identifier = is_identifier_byte
first Name = is_letter
