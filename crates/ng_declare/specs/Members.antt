-- The grammar of members: of a service, and of a component.
use Rattle.std.specs.Prelude.{nat_le, Bool, true, false, List, [], ◌∷◌, length, codes}
use Rattle.std.specs.Option.{option_and_then}
use Rattle.ng_ast.specs.declared.Place.{Place}
use Rattle.ng_ast.specs.declared.Stmt.{Stmt}
use Rattle.ng_ast.specs.declared.Flag.{Flag}
use Rattle.ng_ast.specs.declared.Aim.{Aim}
use Rattle.ng_ast.specs.declared.Aim.TheVariants as aim
use Rattle.ng_ast.specs.declared.Provider.{Provider}
use Rattle.ng_ast.specs.declared.Provider.TheVariants as provider
use Rattle.ng_ast.specs.declared.QueryKind.{QueryKind}
use Rattle.ng_ast.specs.declared.QueryKind.TheVariants as query
use Rattle.ng_ast.specs.declared.Member.{Member}
use Rattle.ng_ast.specs.declared.MemberKind.{MemberKind}
use Rattle.ng_ast.specs.declared.MemberKind.TheVariants as kind
use Rattle.ng_values.specs.declared.value.Value.{Value}
use Rattle.ng_values.specs.declared.value.Value.TheVariants as v
use Rattle.ng_tokens.specs.declared.kinds.Sign.TheVariants as s
use Rattle.ng_tokens.specs.declared.kinds.Token.{Token}
use Rattle.ng_tokens.specs.Lexis.{Text}
use Rattle.ng_phrases.specs.Phrase.{Phrase, ◌>>=◌, ◌>>◌, given}
use Rattle.ng_phrases.specs.Words.{name_of, sees_sign, sees_word, sign, word, name, choose, repeat, repeat_from}
use Rattle.ng_declare.specs.declared.words.MemberWord.{MemberWord}
use Rattle.ng_declare.specs.declared.words.MemberWord.TheVariants as m
use Rattle.ng_declare.specs.declared.words.Scope.{Scope}
use Rattle.ng_declare.specs.Words.{word_of, flag_word, sees_one}
use Rattle.ng_declare.specs.Constants.{constant}
use Rattle.ng_declare.specs.Readers.{readers}
use Rattle.ng_declare.specs.Leaves.{expression_here, body_here}

-- no limit
abbrev pub any_number : {A : Type 0} → List A → Bool
any_number found = true

-- a declaration may have 256 members
abbrev pub are_few : {A : Type 0} → List A → Bool
are_few members = nat_le (length members) 256

-- a name after a token
abbrev pub named : Token → Phrase readers ⊥ Text
named t = name

-- ("," NAME)*, after these names
unfoldable pub more_names : List Text → Phrase readers ⊥ (List Text)
more_names start = repeat_from start (sees_sign s.Comma) named any_number

-- NAME ("," NAME)*
unfoldable pub names : Phrase readers ⊥ (List Text)
names = do
  first ← name
  more_names (first ∷ [])

-- "=" const
unfoldable pub value : Phrase readers ⊥ Value
value = do
  sign s.Assign
  constant

-- NAME "as" NAME | NAME "=" const | NAME "from" NAME | NAME
unfoldable pub provided : Phrase readers ⊥ Provider
provided = do
  n ← name
  choose (sees_word (codes "as")) (do
    word (codes "as")
    other ← name
    Phrase.pure (provider.Other n other)) (
      choose (sees_sign s.Assign) (do
        w ← value
        Phrase.pure (provider.Constant n w)) (
      choose (sees_word (codes "from")) (do
        word (codes "from")
        other ← name
        Phrase.pure (provider.From n other))
      (Phrase.pure (provider.Plain n))))

-- "#" NAME | NAME
unfoldable pub aimed : Phrase readers ⊥ Aim
aimed = choose (sees_sign s.Hash) (do
  sign s.Hash
  n ← name
  Phrase.pure (aim.Reference n)) (do
    n ← name
    Phrase.pure (aim.Component n))

-- names? ")", after the bracket that opens
unfoldable pub parameters : Phrase readers ⊥ (List Text)
parameters = choose (sees_sign s.CloseRound) (do
  sign s.CloseRound
  Phrase.pure []) (do
    ns ← names
    sign s.CloseRound
    Phrase.pure ns)

abbrev pub member : Place → Text → MemberKind → Phrase readers ⊥ Member
member p n what = Phrase.pure (record { place = p; name = n; kind = what })

-- NAME "=" const ";"
unfoldable pub stored : Phrase readers ⊥ (Text × Value)
stored = do
  n ← name
  w ← value
  sign s.Semicolon
  Phrase.pure (n, w)

unfoldable pub field : Place → Phrase readers ⊥ Member
field p = stored >>= λ q. member p q.0 (kind.Field q.1)

unfoldable pub signal : Place → Phrase readers ⊥ Member
signal p = stored >>= λ q. member p q.0 (kind.Signal q.1)

-- the flag that a token is
unfoldable pub flagged : Token → Phrase readers ⊥ Flag
flagged t = given (option_and_then flag_word (name_of t.kind))

-- flag*
unfoldable pub flags : Phrase readers ⊥ (List Flag)
flags = repeat (sees_one flag_word) flagged any_number

-- NAME "=" NAME flag* ";"
unfoldable pub injected : Place → Phrase readers ⊥ Member
injected p = do
  n ← name
  sign s.Assign
  token ← name
  marks ← flags
  sign s.Semicolon
  member p n (kind.Inject token marks)

-- ("=" const)?
unfoldable pub default : Phrase readers ⊥ Value
default = choose (sees_sign s.Assign) value (Phrase.pure v.Null)

-- NAME ("=" const)? ";"
unfoldable pub input : Place → Phrase readers ⊥ Member
input p = do
  n ← name
  w ← default
  sign s.Semicolon
  member p n (kind.Input false w)

-- "input" NAME ";"
unfoldable pub required : Place → Phrase readers ⊥ Member
required p = do
  word (codes "input")
  n ← name
  sign s.Semicolon
  member p n (kind.Input true v.Null)

-- NAME ";"
unfoldable pub output : Place → Phrase readers ⊥ Member
output p = do
  n ← name
  sign s.Semicolon
  member p n kind.Output

-- prov ";"
unfoldable pub provider_line : Phrase readers ⊥ Provider
provider_line = do
  w ← provided
  sign s.Semicolon
  Phrase.pure w

unfoldable pub provide : Place → Phrase readers ⊥ Member
provide p = provider_line >>= λ w. member p [] (kind.Provide w)

unfoldable pub view_provide : Place → Phrase readers ⊥ Member
view_provide p = provider_line >>= λ w. member p [] (kind.ViewProvide w)

-- NAME "=" qtarget ";"
unfoldable pub queried : QueryKind → Place → Phrase readers ⊥ Member
queried what p = do
  n ← name
  sign s.Assign
  at ← aimed
  sign s.Semicolon
  member p n (kind.Query what at false)

-- a word that may stand: whether it does
unfoldable pub marked : Text → Phrase readers ⊥ Bool
marked w = choose (sees_word w) (do
  word w
  Phrase.pure true) (Phrase.pure false)

-- NAME "=" qtarget "descendants"? ";"
unfoldable pub content_children : Place → Phrase readers ⊥ Member
content_children p = do
  n ← name
  sign s.Assign
  at ← aimed
  deep ← marked (codes "descendants")
  sign s.Semicolon
  member p n (kind.Query query.ContentChildren at deep)

-- NAME "=" expr ";"
unfoldable pub getter : Place → Phrase readers ⊥ Member
getter p = do
  n ← name
  sign s.Assign
  e ← expression_here
  sign s.Semicolon
  member p n (kind.Getter e)

-- "{" body "}"
unfoldable pub block : Phrase readers ⊥ (List Stmt)
block = do
  sign s.OpenBrace
  found ← body_here
  sign s.CloseBrace
  Phrase.pure found

-- NAME "(" names? ")" "{" body "}"
unfoldable pub method : Place → Phrase readers ⊥ Member
method p = do
  n ← name
  sign s.OpenRound
  ns ← parameters
  found ← block
  member p n (kind.Method ns found)

-- "{" body "}"
unfoldable pub init : Place → Phrase readers ⊥ Member
init p = do
  found ← block
  member p [] (kind.Init found)

-- a member by its first word
abbrev pub member_by : Place → MemberWord → Phrase readers ⊥ Member
member_by p m.Field = field p
member_by p m.Signal = signal p
member_by p m.Get = getter p
member_by p m.Method = method p
member_by p m.Init = init p
member_by p m.Inject = injected p
member_by p m.Input = input p
member_by p m.Required = required p
member_by p m.Output = output p
member_by p m.Provide = provide p
member_by p m.ViewProvide = view_provide p
member_by p m.ViewChild = queried query.ViewChild p
member_by p m.ViewChildren = queried query.ViewChildren p
member_by p m.ContentChild = queried query.ContentChild p
member_by p m.ContentChildren = content_children p

-- a member after its first word, which is one of the scope's
unfoldable pub worded : Scope → Token → Phrase readers ⊥ Member
worded scope t = do
  w ← given (option_and_then (word_of scope) (name_of t.kind))
  member_by t.place w

-- smember*, or member*
unfoldable pub members : Scope → Phrase readers ⊥ (List Member)
members scope = repeat (sees_one (word_of scope)) (worded scope) are_few
