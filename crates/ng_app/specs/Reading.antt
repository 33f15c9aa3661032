-- What bytes read as where they are an application, and where they pass a limit.
use Rattle.std.specs.Prelude.{◌≡◌, ◌⊎◌, List, [], ◌∷◌}
use Rattle.std.specs.List.{AllZip}
use Rattle.ng_ast.specs.declared.App.{App}
use Rattle.ng_ast.specs.declared.Component.{Component}
use Rattle.ng_ast.specs.declared.Decl.{Decl}
use Rattle.ng_ast.specs.declared.Decl.TheVariants as decl
use Rattle.ng_ast.specs.declared.Template.{Template}
use Rattle.ng_tokens.specs.Lexis.{Text}
use Rattle.ng_nodes.specs.Limits.{ReadsNodes}
use Rattle.ng_nodes.specs.Reading.{OverParts}
use Rattle.ng_nodes.specs.Texts.{Parts}
use Rattle.ng_declare.specs.declared.entries.Entry.{Entry}
use Rattle.ng_declare.specs.declared.entries.Entry.TheVariants as entry
use Rattle.ng_declare.specs.declared.entries.Outline.{Outline}
use Rattle.ng_declare.specs.Files.{ReadsFile, OverFile}
use Rattle.ng_templates.specs.Reading.{ReadsTemplate, OverTemplate}

-- ---- readings

-- The component is what the file says of it, with its template read.
pub record IsWhole (o : Outline) (c : Component) : Type 0 where
  pub place : c.place ≡ o.place
  pub name : c.name ≡ o.name
  pub selector : c.selector ≡ o.selector
  pub onpush : c.onpush ≡ o.onpush
  pub members : c.members ≡ o.members
  pub template : ReadsTemplate o.template.place o.template.text c.template

-- The declaration is the entry, with its template read where it is a component.
abbrev pub IsFilled : Entry → Decl → Type 0
IsFilled (entry.Component o) (decl.Component c) = IsWhole o c
IsFilled (entry.Service s) (decl.Service d) = d ≡ s
IsFilled (entry.Pipe s) (decl.Pipe d) = d ≡ s
IsFilled (entry.Environment s) (decl.Environment d) = d ≡ s
IsFilled (entry.Token p n) (decl.Token q m) = (q ≡ p) × (m ≡ n)
IsFilled (entry.Bootstrap p n inside) (decl.Bootstrap q m within) = (q ≡ p) × (m ≡ n) × (within ≡ inside)
IsFilled _ _ = ⊥

-- the same of each entry, in order
abbrev pub AreFilled : List Entry → List Decl → Type 0
AreFilled es ds = AllZip IsFilled es ds

-- The bytes are a file, and this is the application that its entries and their templates are, limits left aside.
abbrev pub ReadsApp : Text → App → Type 0
ReadsApp t app = (es : List Entry) × ReadsFile t es × AreFilled es app.decls

-- ---- limits

-- a front of the component's template passes a limit
abbrev pub IsOver : Entry → Type 0
IsOver (entry.Component o) = OverTemplate o.template.place o.template.text
IsOver _ = ⊥

-- the same of one of the entries
abbrev pub HasOver : List Entry → Type 0
HasOver [] = ⊥
HasOver (e ∷ es) = IsOver e ⊎ HasOver es

-- A front of the file passes a limit, or the bytes are a file and the template of one of its components has a front that passes one.
abbrev pub OverApp : Text → Type 0
OverApp t = OverFile t ⊎ ((es : List Entry) × ReadsFile t es × HasOver es)

-- the bytes are no application
abbrev pub NoApp : Text → Type 0
NoApp t = (app : App) → ReadsApp t app → ⊥

-- ---- what is known of the templates of an application

-- The nodes of the template are read from parts of which no front passes a limit.
abbrev pub KeepsLimits : Template → Type 0
KeepsLimits tree = (ts : Parts) × ReadsNodes ts tree.nodes × (OverParts ts → ⊥)

-- the same of a declaration's template, where it has one
abbrev pub TemplateKeepsLimits : Decl → Type 0
TemplateKeepsLimits (decl.Component c) = KeepsLimits c.template
TemplateKeepsLimits _ = Unit {0}
