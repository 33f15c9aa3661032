-- The readings of a file whose templates are still texts, and what its reader answers.
use Rattle.std.specs.Prelude.{◌≡◌, ◌==◌, ◌&&◌, Bool, false, if◌then◌else◌, List, [], ◌∷◌, drop, IsUtf8, Result, Ok, Err}
use Rattle.ng_ast.specs.declared.Place.{Place}
use Rattle.ng_ast.specs.declared.refusals.Rule.TheVariants as rule
use Rattle.ng_ast.specs.declared.refusals.ReadError.{ReadError}
use Rattle.ng_ast.specs.declared.refusals.ReadError.TheVariants as r
use Rattle.ng_tokens.specs.Lexis.{Text}
use Rattle.ng_phrases.specs.Reading.{reads, over}
use Rattle.ng_declare.specs.declared.entries.Entry.{Entry}
use Rattle.ng_declare.specs.Grammar.{file}

-- the text begins with a byte order mark
abbrev pub is_marked : Text → Bool
is_marked (a ∷ b ∷ c ∷ z) = a == 239 && b == 187 && c == 191
is_marked _ = false

-- what is left of a file without its byte order mark
abbrev pub unmarked : Text → Text
unmarked t = if is_marked t then drop 3 t else t

-- the place of its first byte: a byte order mark has three bytes, and no column
abbrev pub first_place : Text → Place
first_place t = if is_marked t then record { line = 1; column = 1; byte = 3 } else record { line = 1; column = 1; byte = 0 }

-- The grammar of files has no hole.
abbrev pub nowhere : Place → Text → Text → ⊥ → Type 0
nowhere p x z a = ⊥

abbrev pub never : Place → Text → Type 0
never p t = ⊥

-- The bytes are UTF-8 and a file of these declarations, limits left aside.
abbrev pub ReadsFile : Text → List Entry → Type 0
ReadsFile t es = IsUtf8 t × reads nowhere file (first_place t) (unmarked t) [] es

-- A front of the file is one that is begun, and passes a limit.
abbrev pub OverFile : Text → Type 0
OverFile t = over nowhere never file (first_place t) (unmarked t)

-- what a refusal says of the text
abbrev pub Refuses : Type 0 → Type 0 → Type 0 → ReadError → Type 0
Refuses utf8 unread passes r.Utf8 = utf8 → ⊥
Refuses utf8 unread passes (r.Syntax f) = (f.rule ≡ rule.Syntax) × (f.name ≡ []) × utf8 × unread
Refuses utf8 unread passes (r.Limit f) = (f.rule ≡ rule.Limit) × (f.name ≡ []) × utf8 × passes
Refuses utf8 unread passes r.Memory = utf8

-- the text is no file
abbrev pub NoFile : Text → Type 0
NoFile t = (es : List Entry) → ReadsFile t es → ⊥

abbrev pub Answers : Text → Result (List Entry) ReadError → Type 0
Answers t (Ok es) = ReadsFile t es × (OverFile t → ⊥)
Answers t (Err e) = Refuses (IsUtf8 t) (NoFile t) (OverFile t) e
