-- The words that declarations and members begin with, and those of flags.
use Rattle.std.specs.Prelude.{Bool, if◌then◌else◌, codes, Option, Some, None}
use Rattle.std.specs.Option.{is_some, option_and_then}
use Rattle.ng_ast.specs.declared.Flag.{Flag}
use Rattle.ng_ast.specs.declared.Flag.TheVariants as f
use Rattle.ng_tokens.specs.Lexis.{Text, same_text}
use Rattle.ng_phrases.specs.Words.{name_at}
use Rattle.ng_declare.specs.declared.words.DeclWord.{DeclWord}
use Rattle.ng_declare.specs.declared.words.DeclWord.TheVariants as d
use Rattle.ng_declare.specs.declared.words.Scope.{Scope}
use Rattle.ng_declare.specs.declared.words.Scope.TheVariants as scope
use Rattle.ng_declare.specs.declared.words.MemberWord.{MemberWord}
use Rattle.ng_declare.specs.declared.words.MemberWord.TheVariants as m

-- what a declaration begins with
abbrev pub decl_word : Text → Option DeclWord
decl_word n = if same_text (codes "component") n then Some d.Component else (
    if same_text (codes "service") n then Some d.Service else (
    if same_text (codes "pipe") n then Some d.Pipe else (
    if same_text (codes "environment") n then Some d.Environment else (
    if same_text (codes "token") n then Some d.Token else (
    if same_text (codes "bootstrap") n then Some d.Bootstrap else None)))))

-- what a member of a service begins with, and so may one of a component
abbrev pub service_word : Text → Option MemberWord
service_word n = if same_text (codes "field") n then Some m.Field else (
    if same_text (codes "signal") n then Some m.Signal else (
    if same_text (codes "get") n then Some m.Get else (
    if same_text (codes "method") n then Some m.Method else (
    if same_text (codes "init") n then Some m.Init else (
    if same_text (codes "inject") n then Some m.Inject else None)))))

-- what a member of a component alone begins with
abbrev pub own_word : Text → Option MemberWord
own_word n = if same_text (codes "input") n then Some m.Input else (
    if same_text (codes "required") n then Some m.Required else (
    if same_text (codes "output") n then Some m.Output else (
    if same_text (codes "provide") n then Some m.Provide else (
    if same_text (codes "viewprovide") n then Some m.ViewProvide else (
    if same_text (codes "viewchild") n then Some m.ViewChild else (
    if same_text (codes "viewchildren") n then Some m.ViewChildren else (
    if same_text (codes "contentchild") n then Some m.ContentChild else (
    if same_text (codes "contentchildren") n then Some m.ContentChildren else None))))))))

abbrev pub or_else : {A : Type 0} → Option A → Option A → Option A
or_else (Some a) o = Some a
or_else None o = o

-- what a member begins with
abbrev pub word_of : Scope → Text → Option MemberWord
word_of scope.Service n = service_word n
word_of scope.Component n = or_else (service_word n) (own_word n)

-- the flags of an `inject`
abbrev pub flag_word : Text → Option Flag
flag_word n = if same_text (codes "optional") n then Some f.Optional else (
    if same_text (codes "self") n then Some f.Own else (
    if same_text (codes "skipself") n then Some f.Skip else (
    if same_text (codes "host") n then Some f.Host else None)))

-- a name comes that is one of such words
abbrev pub sees_one : {A : Type 0} → (Text → Option A) → Text → Bool
sees_one words t = is_some (option_and_then words (name_at t))
