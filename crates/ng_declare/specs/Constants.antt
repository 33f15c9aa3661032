-- Constants: what is written for a value, in itself to any depth, and the limits of weight and depth.
use Rattle.std.specs.Prelude.{ℕ, ℤ, ◌+◌, nat_le, Bool, List, [], ◌∷◌, length, pos, negsuc, ◌-ℤ◌, Option, Some, None, is_ok}
use Rattle.ng_values.specs.declared.value.Value.{Value}
use Rattle.ng_values.specs.declared.value.Value.TheVariants as v
use Rattle.ng_values.specs.View.{plain_items, plain_pairs}
use Rattle.ng_values.specs.Make.{list_of, rec_of, put_all}
use Rattle.ng_tokens.specs.declared.kinds.Kind.{Kind}
use Rattle.ng_tokens.specs.declared.kinds.Token.{Token}
use Rattle.ng_tokens.specs.declared.kinds.Kind.TheVariants as k
use Rattle.ng_tokens.specs.declared.kinds.Sign.TheVariants as s
use Rattle.ng_tokens.specs.Lexis.{Text}
use Rattle.ng_exprs.specs.Grammar.{literal_of, key_of}
use Rattle.ng_phrases.specs.Parser.{Readers}
use Rattle.ng_phrases.specs.Phrase.{Leaf, Phrase, ◌>>=◌, ◌>>◌, given}
use Rattle.ng_phrases.specs.Nested.{Nests, over_below, parse_below}
use Rattle.ng_phrases.specs.Words.{sees_sign, token, sign, number, choose, repeat_from}
use Rattle.ng_phrases.proofs.Nested.{exact_below}
use Rattle.ng_phrases.proofs.Agreement.{agree_any}

-- a list of these is within the limits
abbrev pub fits_list : List Value → Bool
fits_list vs = is_ok (list_of (plain_items vs))

-- a record of these, where a later equal key wins, is within the limits
abbrev pub fits_rec : List (Text × Value) → Bool
fits_rec ps = is_ok (rec_of (plain_pairs ps))

-- a text is within the limit of weight
abbrev pub fits_text : Text → Bool
fits_text t = nat_le (1 + length t) 65536

-- one more than a constant may be deep
abbrev pub levels : ℕ
levels = 33

-- the number after a minus; no token is a number below 0
abbrev pub negated : ℤ → Option ℤ
negated (pos n) = Some (pos 0 -ℤ pos n)
negated (negsuc n) = None

module _ {R : Readers} where
  -- a constant after a comma
  unfoldable pub item : Token → Phrase R Value Value
  item t = Phrase.hole

  -- ("," const)*, after these
  unfoldable pub more_items : List Value → Phrase R Value (List Value)
  more_items start = repeat_from start (sees_sign s.Comma) item fits_list

  -- ("," const)* "]", after these
  unfoldable pub list_on : List Value → Phrase R Value Value
  list_on start = do
    found ← more_items start
    sign s.CloseSquare
    Phrase.pure (v.List (plain_items found))

  -- (const ("," const)*)? "]", after the bracket that opens
  unfoldable pub list : Phrase R Value Value
  list = choose (sees_sign s.CloseSquare) (do
    sign s.CloseSquare
    Phrase.pure (v.List [])) (do
      first ← Phrase.hole
      Phrase.within (fits_list (first ∷ []))
      list_on (first ∷ []))

  -- key ":" const
  unfoldable pub pair : Phrase R Value (Text × Value)
  pair = do
    t ← token
    key ← given (key_of t.kind)
    sign s.Colon
    value ← Phrase.hole
    Phrase.pure (key, value)

  -- a pair after a comma
  abbrev pub next_pair : Token → Phrase R Value (Text × Value)
  next_pair t = pair

  -- ("," key ":" const)*, after these
  unfoldable pub more_pairs : List (Text × Value) → Phrase R Value (List (Text × Value))
  more_pairs start = repeat_from start (sees_sign s.Comma) next_pair fits_rec

  -- ("," key ":" const)* "}", after these
  unfoldable pub rec_on : List (Text × Value) → Phrase R Value Value
  rec_on start = do
    found ← more_pairs start
    sign s.CloseBrace
    Phrase.pure (v.Rec (put_all [] (plain_pairs found)))

  -- (key ":" const ("," key ":" const)*)? "}", after the bracket that opens
  unfoldable pub rec : Phrase R Value Value
  rec = choose (sees_sign s.CloseBrace) (do
    sign s.CloseBrace
    Phrase.pure (v.Rec [])) (do
      first ← pair
      Phrase.within (fits_rec (first ∷ []))
      rec_on (first ∷ []))

  -- a number after its minus
  unfoldable pub negative : {H : Type 0} → Phrase R H Value
  negative = do
    n ← number
    m ← given (negated n)
    Phrase.pure (v.Int m)

  unfoldable pub text_constant : Text → Phrase R Value Value
  text_constant t = do
    Phrase.within (fits_text t)
    Phrase.pure (v.Text t)

  -- a constant by its first token
  abbrev pub constant_by : Kind → Phrase R Value Value
  constant_by (k.Number n) = Phrase.pure (v.Int n)
  constant_by (k.Text t) = text_constant t
  constant_by (k.Name n) = given (literal_of n)
  constant_by (k.Sign s.Minus) = negative
  constant_by (k.Sign s.OpenSquare) = list
  constant_by (k.Sign s.OpenBrace) = rec
  constant_by _ = Phrase.refuse

  unfoldable pub constant_within : Phrase R Value Value
  constant_within = do
    t ← token
    constant_by t.kind

  abbrev pub constant_leaf : Leaf R Value
  constant_leaf = record {
    reads = Nests constant_within;
    over = over_below constant_within levels;
    parse = parse_below constant_within levels;
    exact = exact_below R constant_within levels;
    one = agree_any constant_within;
  }

  unfoldable pub constant : {H : Type 0} → Phrase R H Value
  constant = Phrase.leaf constant_leaf
