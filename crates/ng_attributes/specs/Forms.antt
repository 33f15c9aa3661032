-- Names in the names of attributes.
use Rattle.std.specs.Prelude.{Bool, Option, Some, None, if◌then◌else◌}
use Rattle.ng_tokens.specs.Lexis.{Text}
use Rattle.ng_lex.specs.Words.{is_name}

-- the text, where the test holds
abbrev pub kept : Bool → Text → Option Text
kept test t = if test then Some t else None

-- the text, where it is a name
abbrev pub named : Option Text → Option Text
named None = None
named (Some n) = kept (is_name n) n
