-- The grammar of declaration files, in which templates are still texts.
use Rattle.std.specs.Prelude.{nat_le, ◌&&◌, Bool, true, false, List, count_by, codes, Option, Some, None}
use Rattle.std.specs.Option.{option_and_then}
use Rattle.ng_ast.specs.declared.Place.{Place}
use Rattle.ng_ast.specs.declared.Selector.{Selector}
use Rattle.ng_ast.specs.declared.Provider.{Provider}
use Rattle.ng_tokens.specs.declared.kinds.Sign.TheVariants as s
use Rattle.ng_tokens.specs.declared.kinds.Token.{Token}
use Rattle.ng_tokens.specs.Lexis.{Text}
use Rattle.ng_phrases.specs.Phrase.{Phrase, ◌>>=◌, ◌>>◌, given}
use Rattle.ng_phrases.specs.Words.{name_of, sees_word, gap, sign, word, name, text, choose, repeat}
use Rattle.ng_declare.specs.declared.entries.Source.{Source}
use Rattle.ng_declare.specs.declared.entries.Entry.{Entry}
use Rattle.ng_declare.specs.declared.entries.Entry.TheVariants as entry
use Rattle.ng_declare.specs.declared.words.Scope.TheVariants as scope
use Rattle.ng_declare.specs.declared.words.DeclWord.{DeclWord}
use Rattle.ng_declare.specs.declared.words.DeclWord.TheVariants as d
use Rattle.ng_declare.specs.Words.{decl_word, sees_one}
use Rattle.ng_declare.specs.Readers.{readers}
use Rattle.ng_declare.specs.Leaves.{expression_here, selector_here, quoted_here}
use Rattle.ng_declare.specs.Members.{are_few, names, provider_line, marked, members}

abbrev pub is_component : Entry → Bool
is_component (entry.Component c) = true
is_component _ = false

abbrev pub is_service : Entry → Bool
is_service (entry.Service c) = true
is_service _ = false

abbrev pub is_pipe : Entry → Bool
is_pipe (entry.Pipe c) = true
is_pipe _ = false

abbrev pub is_environment : Entry → Bool
is_environment (entry.Environment c) = true
is_environment _ = false

-- a file may have 256 components, 256 services, 256 pipes and 256 environments
abbrev pub few_of_each : List Entry → Bool
few_of_each es = nat_le (count_by is_component es) 256 && nat_le (count_by is_service es) 256 && nat_le (count_by is_pipe es) 256 && nat_le (count_by is_environment es) 256

-- "selector" TEXT ";"
unfoldable pub selected : Phrase readers ⊥ Selector
selected = do
  word (codes "selector")
  written ← text
  found ← selector_here written
  sign s.Semicolon
  Phrase.pure found

-- ("onpush" ";")?
unfoldable pub onpush : Phrase readers ⊥ Bool
onpush = choose (sees_word (codes "onpush")) (do
  word (codes "onpush")
  sign s.Semicolon
  Phrase.pure true) (Phrase.pure false)

-- "template" TEMPLATE ";"
unfoldable pub shown : Phrase readers ⊥ Source
shown = do
  word (codes "template")
  found ← quoted_here
  gap
  sign s.Semicolon
  Phrase.pure found

-- NAME "{" selected onpush member* shown "}"
unfoldable pub component : Place → Phrase readers ⊥ Entry
component p = do
  n ← name
  sign s.OpenBrace
  chosen ← selected
  pushed ← onpush
  found ← members scope.Component
  written ← shown
  sign s.CloseBrace
  Phrase.pure (entry.Component (record { place = p; name = n; selector = chosen; onpush = pushed; members = found; template = written }))

-- NAME "root"? "{" smember* "}"
unfoldable pub service : Place → Phrase readers ⊥ Entry
service p = do
  n ← name
  rooted ← marked (codes "root")
  sign s.OpenBrace
  found ← members scope.Service
  sign s.CloseBrace
  Phrase.pure (entry.Service (record { place = p; name = n; root = rooted; members = found }))

-- NAME "(" names ")" "=" expr ";"
unfoldable pub pipe : Place → Phrase readers ⊥ Entry
pipe p = do
  n ← name
  sign s.OpenRound
  params ← names
  sign s.CloseRound
  sign s.Assign
  e ← expression_here
  sign s.Semicolon
  Phrase.pure (entry.Pipe (record { place = p; name = n; params = params; value = e }))

-- (w NAME)?
unfoldable pub after_word : Text → Phrase readers ⊥ (Option Text)
after_word w = choose (sees_word w) (do
  word w
  n ← name
  Phrase.pure (Some n)) (Phrase.pure None)

-- prov ";", after its first word
unfoldable pub environment_provides : Token → Phrase readers ⊥ (Place × Provider)
environment_provides t = do
  found ← provider_line
  Phrase.pure (t.place, found)

-- ("provide" prov ";")*
unfoldable pub environment_lines : Phrase readers ⊥ (List (Place × Provider))
environment_lines = repeat (sees_word (codes "provide")) environment_provides are_few

-- NAME ("under" NAME)? "{" ("provide" prov ";")* "}"
unfoldable pub environment : Place → Phrase readers ⊥ Entry
environment p = do
  n ← name
  under ← after_word (codes "under")
  sign s.OpenBrace
  found ← environment_lines
  sign s.CloseBrace
  Phrase.pure (entry.Environment (record { place = p; name = n; under = under; provides = found }))

-- NAME ";"
unfoldable pub token_declared : Place → Phrase readers ⊥ Entry
token_declared p = do
  n ← name
  sign s.Semicolon
  Phrase.pure (entry.Token p n)

-- NAME ("in" NAME)? ";"
unfoldable pub bootstrap : Place → Phrase readers ⊥ Entry
bootstrap p = do
  n ← name
  inside ← after_word (codes "in")
  sign s.Semicolon
  Phrase.pure (entry.Bootstrap p n inside)

-- a declaration by its first word
abbrev pub entry_by : Place → DeclWord → Phrase readers ⊥ Entry
entry_by p d.Component = component p
entry_by p d.Service = service p
entry_by p d.Pipe = pipe p
entry_by p d.Environment = environment p
entry_by p d.Token = token_declared p
entry_by p d.Bootstrap = bootstrap p

-- a declaration after its first word
unfoldable pub declared : Token → Phrase readers ⊥ Entry
declared t = do
  w ← given (option_and_then decl_word (name_of t.kind))
  entry_by t.place w

-- decl*
unfoldable pub entries : Phrase readers ⊥ (List Entry)
entries = repeat (sees_one decl_word) declared few_of_each

unfoldable pub file : Phrase readers ⊥ (List Entry)
file = gap >> entries
