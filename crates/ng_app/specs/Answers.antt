-- What the code gives for entries, and what it asks of them.
use Rattle.std.specs.Prelude.{◌≡◌, ◌≤◌, List, ◌++◌, length, IsUtf8, Result, Ok, Err}
use Rattle.ng_ast.specs.declared.App.{App}
use Rattle.ng_ast.specs.declared.Component.{Component}
use Rattle.ng_ast.specs.declared.Decl.{Decl}
use Rattle.ng_ast.specs.declared.refusals.ReadError.{ReadError}
use Rattle.ng_tokens.specs.Lexis.{Text}
use Rattle.ng_exprs.specs.Reading.{Refused}
use Rattle.ng_declare.specs.declared.entries.Entry.{Entry}
use Rattle.ng_declare.specs.declared.entries.Entry.TheVariants as entry
use Rattle.ng_declare.specs.declared.entries.Outline.{Outline}
use Rattle.ng_declare.specs.declared.entries.Source.{Source}
use Rattle.ng_declare.specs.Files.{Refuses}
use Rattle.ng_templates.specs.Reading.{IsBase, OverTemplate}
use Rattle.ng_app.specs.Reading.{IsWhole, IsFilled, AreFilled, IsOver, HasOver, ReadsApp, OverApp, NoApp}

-- The reader of templates takes the text at its place.
abbrev pub Fits : Source → Type 0
Fits s = (length s.text ≤ 1048576) × IsBase s.place

-- the same of an entry's template, where it has one
abbrev pub SourceFits : Entry → Type 0
SourceFits (entry.Component o) = Fits o.template
SourceFits _ = Unit {0}

-- the component, or why there is none
abbrev pub AnswersComponent : Outline → Result Component ReadError → Type 0
AnswersComponent o (Ok c) = IsWhole o c × (OverTemplate o.template.place o.template.text → ⊥)
AnswersComponent o (Err e) = Refused ((c : Component) → IsWhole o c → ⊥) (OverTemplate o.template.place o.template.text) e

-- the declaration, or why there is none
abbrev pub AnswersEntry : Entry → Result Decl ReadError → Type 0
AnswersEntry e (Ok d) = IsFilled e d × (IsOver e → ⊥)
AnswersEntry e (Err r) = Refused ((d : Decl) → IsFilled e d → ⊥) (IsOver e) r

-- the declarations, or why there are none
abbrev pub AnswersEntries : List Entry → Result (List Decl) ReadError → Type 0
AnswersEntries es (Ok ds) = AreFilled es ds × (HasOver es → ⊥)
AnswersEntries es (Err r) = Refused ((ds : List Decl) → AreFilled es ds → ⊥) (HasOver es) r

-- The first entries are these declarations, within the limits, and the others are left.
pub record SoFar (all : List Entry) (ds : List Decl) (rest : List Entry) : Type 0 where
  pub front : List Entry
  pub parts : all ≡ front ++ rest
  pub filled : AreFilled front ds
  pub calm : HasOver front → ⊥

-- the application, or why there is none
abbrev pub AnswersApp : Text → Result App ReadError → Type 0
AnswersApp t (Ok app) = ReadsApp t app × (OverApp t → ⊥)
AnswersApp t (Err e) = Refuses (IsUtf8 t) (NoApp t) (OverApp t) e
