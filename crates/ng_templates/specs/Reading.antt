-- What a text reads as where it is a template, and where it passes a limit.
use Rattle.std.specs.Prelude.{◌≡◌, ◌≤◌, ◌⊎◌, List, [], ◌∷◌, ◌++◌, Result, Ok, Err}
use Rattle.ng_ast.specs.declared.Place.{Place}
use Rattle.ng_ast.specs.declared.TNode.{TNode}
use Rattle.ng_ast.specs.declared.Template.{Template}
use Rattle.ng_ast.specs.declared.refusals.Rule.TheVariants as rule
use Rattle.ng_ast.specs.declared.refusals.ReadError.{ReadError}
use Rattle.ng_ast.specs.declared.refusals.ReadError.TheVariants as r
use Rattle.ng_tokens.specs.Lexis.{Text, steps}
use Rattle.ng_lex.specs.declared.markup.Markup.TheVariants as m
use Rattle.ng_lex.specs.declared.markup.Shape.{Shape}
use Rattle.ng_lex.specs.Lexis.{part, Lexes}
use Rattle.ng_lex.specs.Heavy.{IsHeavy}
use Rattle.ng_nodes.specs.declared.halt.Halt.{Halt}
use Rattle.ng_nodes.specs.declared.halt.Halt.TheVariants as h
use Rattle.ng_nodes.specs.Texts.{Parts}
use Rattle.ng_nodes.specs.Limits.{ReadsNodes}
use Rattle.ng_nodes.specs.Reading.{OverParts, Halts}

-- The text, whose first byte stands at the place, is this template: it falls into parts, and the parts are its nodes.
abbrev pub ReadsTemplate : Place → Text → Template → Type 0
ReadsTemplate p t tree = (tree.place ≡ p) × ((ts : Parts) × Lexes p t ts [] × ReadsNodes ts tree.nodes)

-- no template is written so
abbrev pub NoTemplate : Place → Text → Type 0
NoTemplate p t = (tree : Template) → ReadsTemplate p t tree → ⊥

-- After these parts, which are written in the first text, a part of some shape is begun in which an expression passes a limit, and where such a part may stand.
abbrev pub OverNext : Place → Parts → Text → Text → Type 0
OverNext p front a rest = (shape : Shape) × IsHeavy (steps p a) rest shape × OverParts (front ++ part (m.Heavy shape) (steps p a) ∷ [])

-- A front of the text is a template that is begun, and passes a limit.
abbrev pub OverTemplate : Place → Text → Type 0
OverTemplate p t = (front : Parts) × (a rest : Text) × (t ≡ a ++ rest) × Lexes p t front rest × (OverParts front ⊎ OverNext p front a rest)

-- the numbers of the place are at most 2 ^ 29
abbrev pub IsBase : Place → Type 0
IsBase p = (p.line ≤ 536870912) × (p.column ≤ 536870912) × (p.byte ≤ 536870912)

-- ---- what the code gives

-- the nodes of a text, or why there are none
abbrev pub AnswersNodes : Place → Text → Result (List TNode) Halt → Type 0
AnswersNodes p t (Ok ns) = ((ts : Parts) × Lexes p t ts [] × ReadsNodes ts ns) × (OverTemplate p t → ⊥)
AnswersNodes p t (Err e) = Halts (NoTemplate p t) (OverTemplate p t) e

-- what a halt is told as
abbrev pub Tells : Halt → ReadError → Type 0
Tells halt r.Memory = Unit {0}
Tells (h.Syntax p) (r.Syntax f) = (f.rule ≡ rule.Syntax) × (f.name ≡ [])
Tells (h.Limit p) (r.Limit f) = (f.rule ≡ rule.Limit) × (f.name ≡ [])
Tells _ _ = ⊥
