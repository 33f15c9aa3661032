-- Signs, words, names, texts and numbers as phrases, and what is seen of them before they are read.
use Rattle.std.specs.Prelude.{ℕ, ℤ, Bool, true, false, List, [], take, Option, Some, None}
use denote.Enum.Bare.{sameb}
use Rattle.ng_tokens.specs.contracts.kinds.Sign.{the_type}
use Rattle.ng_tokens.specs.declared.kinds.Sign.{Sign}
use Rattle.ng_tokens.specs.declared.kinds.Shape.{Shape}
use Rattle.ng_tokens.specs.declared.kinds.Shape.TheVariants as form
use Rattle.ng_tokens.specs.declared.kinds.Kind.{Kind}
use Rattle.ng_tokens.specs.declared.kinds.Kind.TheVariants as k
use Rattle.ng_tokens.specs.declared.kinds.Token.{Token}
use Rattle.ng_tokens.specs.Lexis.{Text, same_text}
use Rattle.ng_tokens.specs.Scan.{shape}
use Rattle.ng_phrases.specs.Parser.{Readers}
use Rattle.ng_phrases.specs.Phrase.{Leaf, Phrase, ◌>>=◌, given, check}
use Rattle.ng_phrases.specs.Tokens.{ReadsGap, ReadsToken, parse_gap, parse_token}
use Rattle.ng_phrases.specs.TokensLaws.{exact_gap, exact_token, agree_gap, agree_token, token_takes_some}

-- ---- what a token is

unfoldable pub same_sign : Sign → Sign → Bool
same_sign = sameb the_type

abbrev pub is_sign : Sign → Kind → Bool
is_sign x (k.Sign y) = same_sign y x
is_sign x _ = false

abbrev pub name_of : Kind → Option Text
name_of (k.Name n) = Some n
name_of _ = None

abbrev pub text_of : Kind → Option Text
text_of (k.Text t) = Some t
text_of _ = None

abbrev pub number_of : Kind → Option ℤ
number_of (k.Number n) = Some n
number_of _ = None

abbrev pub is_word : Text → Kind → Bool
is_word w (k.Name n) = same_text w n
is_word w _ = false

-- ---- what is seen at the front of a text

abbrev pub sign_by : Sign → Option (Shape × ℕ) → Bool
sign_by x (Some (form.Sign y, n)) = same_sign y x
sign_by x _ = false

-- a sign comes
unfoldable pub sees_sign : Sign → Text → Bool
sees_sign x t = sign_by x (shape t)

abbrev pub name_by : Text → Option (Shape × ℕ) → Option Text
name_by t (Some (form.Name, n)) = Some (take n t)
name_by t _ = None

-- the name that comes
unfoldable pub name_at : Text → Option Text
name_at t = name_by t (shape t)

abbrev pub is_named : Text → Option Text → Bool
is_named w (Some n) = same_text w n
is_named w None = false

-- a word comes
unfoldable pub sees_word : Text → Text → Bool
sees_word w t = is_named w (name_at t)

-- ---- phrases

abbrev pub gap_leaf : (R : Readers) → Leaf R (Unit {0})
gap_leaf R = record { reads = ReadsGap; over = λ p t. ⊥; parse = parse_gap; exact = exact_gap R; one = agree_gap }

abbrev pub token_leaf : (R : Readers) → Leaf R Token
token_leaf R = record { reads = ReadsToken; over = λ p t. ⊥; parse = parse_token; exact = exact_token R; one = agree_token }

module _ {R : Readers} {H : Type 0} where
  -- white space and comments
  unfoldable pub gap : Phrase R H (Unit {0})
  gap = Phrase.leaf (gap_leaf R)

  -- a token; white space and comments may follow it
  unfoldable pub token : Phrase R H Token
  token = Phrase.leaf (token_leaf R)

  unfoldable pub sign : Sign → Phrase R H (Unit {0})
  sign x = do
    t ← token
    check (is_sign x t.kind)

  unfoldable pub word : Text → Phrase R H (Unit {0})
  word w = do
    t ← token
    check (is_word w t.kind)

  unfoldable pub name : Phrase R H Text
  name = do
    t ← token
    given (name_of t.kind)

  unfoldable pub text : Phrase R H Text
  text = do
    t ← token
    given (text_of t.kind)

  unfoldable pub number : Phrase R H ℤ
  number = do
    t ← token
    given (number_of t.kind)

  abbrev pub pick : {A : Type 0} → Phrase R H A → Phrase R H A → Bool → Phrase R H A
  pick r other true = r
  pick r other false = other

  -- a phrase where the text that comes passes the test, and otherwise another
  abbrev pub choose : {A : Type 0} → (Text → Bool) → Phrase R H A → Phrase R H A → Phrase R H A
  choose see r other = Phrase.ahead see >>= pick r other

  -- As long as the text that comes passes the test: a token, and a phrase by it. The list begins with these values; a limit is passed where a list fails the second test.
  abbrev pub repeat_from : {A : Type 0} → List A → (Text → Bool) → (Token → Phrase R H A) → (List A → Bool) → Phrase R H (List A)
  repeat_from start more item good = Phrase.many more (token_leaf R) token_takes_some item good start

  abbrev pub repeat : {A : Type 0} → (Text → Bool) → (Token → Phrase R H A) → (List A → Bool) → Phrase R H (List A)
  repeat more item good = repeat_from [] more item good

  -- the same without a limit
  abbrev pub repeat_any : {A : Type 0} → (Text → Bool) → (Token → Phrase R H A) → Phrase R H (List A)
  repeat_any more item = repeat more item (λ found. true)
