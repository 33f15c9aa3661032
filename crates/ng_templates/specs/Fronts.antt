-- What stands at the front of a text, and how far the text is read.
use Rattle.std.specs.Prelude.{Result, Ok, Err}
use Rattle.ng_heads.specs.Fits.{Fits}
use Rattle.ng_nodes.specs.Reading.{Halts}
use Rattle.ng_templates.specs.Reading.{NoTemplate, OverTemplate}
use Rattle.ng_templates.specs.declared.nodes.Reader.{Reader}
use Rattle.std.specs.Prelude.{◌≡◌, ℕ, ◌<◌, ◌≤◌, ◌⊎◌, ◌∷◌, ◌++◌, length, take, drop}
use Rattle.ng_ast.specs.declared.Place.{Place}
use Rattle.ng_tokens.specs.Lexis.{Text, steps}
use Rattle.ng_lex.specs.declared.markup.Markup.TheVariants as m
use Rattle.ng_lex.specs.declared.markup.Part.{Part}
use Rattle.ng_lex.specs.declared.markup.Shape.{Shape}
use Rattle.ng_lex.specs.Lexis.{Lexes}
use Rattle.ng_lex.specs.Heavy.{IsHeavy}
use Rattle.ng_lex.specs.Spans.{IsSpan, kind_of}
use Rattle.ng_markup.specs.Parts.{IsRead, IsCalm}
use Rattle.ng_heads.specs.declared.halt.Halt as part_halt
use Rattle.ng_heads.specs.declared.halt.Halt.TheVariants as no_part
use Rattle.ng_nodes.specs.declared.builder.Builder.{Builder}
use Rattle.ng_nodes.specs.declared.halt.Halt.{Halt}
use Rattle.ng_nodes.specs.declared.halt.Halt.TheVariants as h
use Rattle.ng_nodes.specs.Texts.{Parts}
use Rattle.ng_nodes.specs.Reading.{HasRead}

-- ---- the first part

-- The part, which stands at the place, is the first text, where the second comes after it.
pub record One (p : Place) (a z : Text) (u : Part) : Type 0 where
  pub at : u.place ≡ p
  pub spans : IsSpan (kind_of u.markup) a z
  pub reads : IsRead p a u.markup

-- no part stands at the front of the text
abbrev pub IsNowhere : Place → Text → Type 0
IsNowhere p t = (a z : Text) (u : Part) → t ≡ a ++ z → One p a z u → ⊥

-- the part stands for one of its shape that is begun there, and in which an expression passes a limit
abbrev pub Overflows : Place → Text → Part → Type 0
Overflows p t u = (shape : Shape) × (u.markup ≡ m.Heavy shape) × IsHeavy p t shape

-- The first so many bytes of the text are a token, which says this part.
pub record Stands (p : Place) (t : Text) (u : Part) (len : ℕ) : Type 0 where
  pub at : u.place ≡ p
  pub some : 0 < len
  pub within : len ≤ length t
  pub says : Overflows p t u ⊎ (One p (take len t) (drop len t) u × IsCalm p t)

-- why no part is read, as why there are no nodes
abbrev pub halted : part_halt.Halt → Halt
halted (no_part.Syntax p) = h.Syntax p
halted no_part.Memory = h.Memory

-- ---- the parts that were read

-- These parts are some of those that were read: another one begins where they end, and none that passes a limit.
pub record Within (p : Place) (t : Text) (front ps : Parts) (r : Text) : Type 0 where
  pub a : Text
  pub u : Part
  pub us : Parts
  pub is : t ≡ a ++ r
  pub some : 0 < length r
  pub parts : front ≡ ps ++ u ∷ us
  pub calm : IsCalm (steps p a) r

-- These parts are those that were read, and more.
pub record Beyond (p : Place) (front : Parts) (x z : Text) (ps : Parts) (r : Text) : Type 0 where
  pub more : Parts
  pub parts : ps ≡ front ++ more
  pub reads : Lexes (steps p x) z more r

-- The text begins with these parts, which are the first text, and in none of which an expression passes a limit; the second one is left.
pub record Goes (p : Place) (t : Text) (front : Parts) (x z : Text) : Type 0 where
  pub is : t ≡ x ++ z
  pub ahead : (ps : Parts) (r : Text) → Lexes (steps p x) z ps r → Lexes p t (front ++ ps) r
  pub back : (ps : Parts) (r : Text) → Lexes p t ps r → Within p t front ps r ⊎ Beyond p front x z ps r

-- The builder has read the parts that the text begins with, whose first byte stands at the base; the rest, whose first byte stands at the place, is left.
pub record SoFar (base : Place) (t : Text) (b : Builder) (place : Place) (rest : Text) : Type 0 where
  pub front : Parts
  pub x : Text
  pub goes : Goes base t front x rest
  pub at : place ≡ steps base x
  pub read : HasRead front b

-- A reader that has read so far reads one more part, and has less before it; or the whole text is refused.
abbrev pub Leads : Builder → Place → Text → Result Reader Halt → Type 0
Leads b place rest (Ok next) =
    ((base : Place) (t : Text) → SoFar base t b place rest → SoFar base t next.builder next.place next.rest.now) × Fits next.place next.rest.now × (length next.rest.now < length rest)
Leads b place rest (Err e) = (base : Place) (t : Text) → SoFar base t b place rest → Halts (NoTemplate base t) (OverTemplate base t) e
