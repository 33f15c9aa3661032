-- How a phrase is read.
use Rattle.std.specs.Prelude.{ℕ, zero, suc, Bool, if◌then◌else◌, List, [], ◌∷◌, ◌++◌, length, Ok, Err}
use Rattle.ng_tokens.specs.Lexis.{Text}
use Rattle.ng_phrases.specs.Parser.{Readers, Stop, Parser, and_then}
use Rattle.ng_phrases.specs.Phrase.{Phrase}

-- one item after another, as long as there are more, in at most so many turns
unfoldable pub each : {Q A : Type 0} → (Text → Bool) → Parser Q A → (List A → Bool) → ℕ → List A → Parser Q (List A)
each more item good zero found = λ p t. Err Stop.Syntax
each more item good (suc n) found = λ p t.
    if more t then and_then (item p t) (λ a q u. if good (found ++ a ∷ []) then each more item good n (found ++ a ∷ []) q u else Err Stop.Limit)
    else Ok (found, p, t)

-- The parser of a phrase, by the parser of what is put for the hole.
unfoldable pub parse : {R : Readers} {H : Type 0} → Parser R.Question H → {A : Type 0} → Phrase R H A → Parser R.Question A
parse inner (Phrase.pure a) = λ p t. Ok (a, p, t)
parse inner (Phrase.bind r f) = λ p t. and_then (parse inner r p t) (λ a. parse inner (f a))
parse inner Phrase.here = λ p t. Ok (p, p, t)
parse inner (Phrase.ahead see) = λ p t. Ok (see t, p, t)
parse inner Phrase.refuse = λ p t. Err Stop.Syntax
parse inner (Phrase.within b) = λ p t. if b then Ok (tt, p, t) else Err Stop.Limit
parse inner (Phrase.leaf l) = l.parse
parse inner (Phrase.many more l some item good start) = λ p t. each more (λ q u. and_then (l.parse q u) (λ k. parse inner (item k))) good (suc (length t)) start p t
parse inner Phrase.hole = inner
