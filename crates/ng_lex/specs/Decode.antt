-- The letters of a text, as a function.
use Rattle.std.specs.Prelude.{◌≡◌, ℕ, zero, suc, ◌+◌, ◌-◌, ◌==◌, ◌&&◌, if◌then◌else◌, [], ◌∷◌, ◌++◌, map, take, drop, Option, Some, None, encode_utf8}
use Rattle.std.specs.List.{prefix_len}
use Rattle.ng_ast.specs.declared.Place.{Place}
use Rattle.ng_tokens.specs.Lexis.{Text, begins, step}
use Rattle.ng_lex.specs.Letters.{Letters, itself, decoded, entity_of, begins_entity}
use Rattle.ng_lex.specs.Attributes.{differs}

-- the bytes before the first `;`
abbrev pub name_len : Text → ℕ
name_len t = prefix_len (differs 59) t

-- a character, and how many bytes it takes
abbrev pub with_len : ℕ → Option ℕ → Option (ℕ × ℕ)
with_len n None = None
with_len n (Some c) = Some (c, n)

abbrev pub entity_by : ℕ → Text → Option (ℕ × ℕ)
entity_by n t = if begins (59 ∷ []) (drop n t) then with_len (n + 1) (entity_of (take n t)) else None

-- the character that is written after `&`, and how many bytes there, with the `;`
unfoldable pub entity_at : Text → Option (ℕ × ℕ)
entity_at t = entity_by (name_len t) t

abbrev pub named_by : Place → Option (ℕ × ℕ) → Option (Letters × ℕ)
named_by p None = None
named_by p (Some q) = Some (map (decoded p) (encode_utf8 q.0), suc q.1)

-- the letters that are written at the front, and how many bytes there
unfoldable pub letters_at : Place → Text → Option (Letters × ℕ)
letters_at p [] = None
letters_at p (b ∷ t) = if b == 38 && begins_entity t then named_by p (entity_at t) else Some (itself p b ∷ [], 1)

abbrev pub before : Letters → Option Letters → Option Letters
before ls None = None
before ls (Some ms) = Some (ls ++ ms)

abbrev pub decode_by : (ℕ → Option Letters) → Option (Letters × ℕ) → Option Letters
decode_by again None = None
decode_by again (Some q) = before q.0 (again (q.1 - 1))

-- The number counts the bytes that are left of an entity.
unfoldable pub decode : ℕ → Place → Text → Option Letters
decode left p [] = Some []
decode (suc left) p (b ∷ t) = decode left (step p b) t
decode zero p (b ∷ t) = decode_by (λ n. decode n (step p b) t) (letters_at p (b ∷ t))

-- ---- what the code gives

-- the letters at the front are put at the end
abbrev pub Puts : Option (Letters × ℕ) → Letters → Letters → Option ℕ → Type 0
Puts o old new None = o ≡ None
Puts o old new (Some n) = (ls : Letters) × (o ≡ Some (ls, n)) × (new ≡ old ++ ls)

-- what was found stands before what is to come
abbrev pub joined : Letters → Option Letters → Option Letters
joined found None = None
joined found (Some ls) = Some (found ++ ls)
