-- The rounds of a list: as long as there are more, a token, and a phrase by it.
use Rattle.std.specs.Prelude.{Bool, suc, List, length}
use Rattle.ng_ast.specs.declared.Place.{Place}
use Rattle.ng_tokens.specs.declared.kinds.Token.{Token}
use Rattle.ng_tokens.specs.Lexis.{Text}
use Rattle.ng_phrases.specs.Parser.{Parser, Outcome}
use Rattle.ng_phrases.specs.Phrase.{Phrase, ◌>>=◌}
use Rattle.ng_phrases.specs.Parse.{each, parse}
use Rattle.ng_phrases.specs.Words.{token}
use Rattle.ng_declare.specs.Readers.{Question, readers}

-- a token, and a phrase by it
abbrev pub one : {H A : Type 0} → (Token → Phrase readers H A) → Phrase readers H A
one item = token >>= item

-- what the rounds give that are still to come, after these
unfoldable pub rounds : {H A : Type 0} → Parser Question H → (Text → Bool) → (Token → Phrase readers H A) → (List A → Bool) → List A → Place → Text → Outcome Question (List A)
rounds inner more item good found p t = each more (parse inner (one item)) good (suc (length t)) found p t
