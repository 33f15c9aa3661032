-- One level of a template node that a constructor made.
use Rattle.std.specs.Prelude.{◌≡◌, ℕ, List, Option}
use Rattle.std.proofs.Common.{ap, sym, ◌∙◌}
use Rattle.ng_ast.specs.declared.Place.{Place}
use Rattle.ng_ast.specs.declared.Expr.{Expr}
use Rattle.ng_ast.specs.declared.Piece.{Piece}
use Rattle.ng_ast.specs.declared.TAttr.{TAttr}
use Rattle.ng_ast.specs.declared.ForHead.{ForHead}
use Rattle.ng_ast.specs.declared.Branch.{Branch}
use Rattle.ng_ast.specs.declared.TNode.{TNode, out-TNode}
use Rattle.ng_ast.specs.declared.TNode.TheVariants as variant
use Rattle.ng_ast.specs.declared.TNode.TheViews.{out-roll-TNode}
use Rattle.ng_ast.specs.declared.TNode.TheOpen.{TNode-F}

pub out_Element : (p : Place) (tag : List ℕ) (attrs : List TAttr) (nodes : List TNode) → out-TNode (variant.Element p tag attrs nodes) ≡ TNode-F.Element p tag attrs nodes
out_Element p tag attrs nodes = ap out-TNode (sym (variant.rolls-Element p tag attrs nodes)) ∙ out-roll-TNode (TNode-F.Element p tag attrs nodes)

pub out_Text : (p : Place) (pieces : List Piece) → out-TNode (variant.Text p pieces) ≡ TNode-F.Text p pieces
out_Text p pieces = ap out-TNode (sym (variant.rolls-Text p pieces)) ∙ out-roll-TNode (TNode-F.Text p pieces)

pub out_If : (p : Place) (branches : List Branch) → out-TNode (variant.If p branches) ≡ TNode-F.If p branches
out_If p branches = ap out-TNode (sym (variant.rolls-If p branches)) ∙ out-roll-TNode (TNode-F.If p branches)

pub out_For : (p : Place) (head : ForHead) (nodes : List TNode) (empty : Option Branch) → out-TNode (variant.For p head nodes empty) ≡ TNode-F.For p head nodes empty
out_For p head nodes empty = ap out-TNode (sym (variant.rolls-For p head nodes empty)) ∙ out-roll-TNode (TNode-F.For p head nodes empty)

pub out_Switch : (p : Place) (value : Expr) (branches : List Branch) → out-TNode (variant.Switch p value branches) ≡ TNode-F.Switch p value branches
out_Switch p value branches = ap out-TNode (sym (variant.rolls-Switch p value branches)) ∙ out-roll-TNode (TNode-F.Switch p value branches)

pub out_Let : (p : Place) (name : List ℕ) (value : Expr) → out-TNode (variant.Let p name value) ≡ TNode-F.Let p name value
out_Let p name value = ap out-TNode (sym (variant.rolls-Let p name value)) ∙ out-roll-TNode (TNode-F.Let p name value)
