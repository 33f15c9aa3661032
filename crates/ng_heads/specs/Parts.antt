-- How the parts of the head of a `@for` are read, one after another.
use Rattle.std.specs.Prelude.{◌≡◌, List, ◌++◌, Option, Some, None}
use Rattle.ng_ast.specs.declared.Place.{Place}
use Rattle.ng_ast.specs.declared.Expr.{Expr}
use Rattle.ng_tokens.specs.Lexis.{Text}
use Rattle.ng_lex.specs.Heads.{ReadsParts, OverParts}

-- the track expression of all parts, from that of those read and that of those to come: one at most
abbrev pub merged : Option Expr → Option Expr → Option (Option Expr)
merged None track = Some track
merged (Some e) None = Some (Some e)
merged (Some e) (Some d) = None

-- This track expression and these names stand before the parts that are left; the first text comes after all parts.
pub record GoesParts (y : Text) (p : Place) (z : Text) (track : Option Expr) (found : List (Text × Text)) (q : Place) (r : Text) : Type 0 where
  pub ahead : (tr whole : Option Expr) (more : List (Text × Text)) → ReadsParts q r tr more → merged track tr ≡ Some whole → ReadsParts p z whole (found ++ more)
  pub back : (whole : Option Expr) (all : List (Text × Text)) → ReadsParts p z whole all → (tr : Option Expr) × (more : List (Text × Text)) × (merged track tr ≡ Some whole) × (all ≡ found ++ more) × ReadsParts q r tr more
  pub heavy : track ≡ None → OverParts q (r ++ y) → OverParts p (z ++ y)
  pub calm : OverParts p (z ++ y) → (track ≡ None) × OverParts q (r ++ y)
