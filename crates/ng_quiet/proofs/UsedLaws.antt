-- What one node of a template uses.
use Rattle.std.proofs.Common.{◌≡◌, ap, ◌∙◌, ℕ, List, ◌++◌, append-nil, Option}
use Rattle.ng_ast.specs.declared.Place.{Place}
use Rattle.ng_ast.specs.declared.Expr.{Expr}
use Rattle.ng_ast.specs.declared.Piece.{Piece}
use Rattle.ng_ast.specs.declared.TAttr.{TAttr}
use Rattle.ng_ast.specs.declared.ForHead.{ForHead}
use Rattle.ng_ast.specs.declared.Branch.{Branch}
use Rattle.ng_ast.specs.declared.TNode.{TNode}
use Rattle.ng_ast.specs.declared.TNode.TheVariants as node
use Rattle.ng_ast.specs.declared.Component.{Component}
use Rattle.ng_ast.specs.OpenNode as opened
use Rattle.ng_hosts.specs.Hosts.{Name, host_positions}
use Rattle.ng_quiet.specs.Used.{layer_positions, node_positions}

pub positions-Element : (cs : List Component) (p : Place) (tag : Name) (attrs : List TAttr) (ts : List TNode) → node_positions cs (node.Element p tag attrs ts) ≡ host_positions cs tag attrs
unfolding node_positions
positions-Element cs p tag attrs ts = ap (layer_positions cs) (opened.out_Element p tag attrs ts)

pub positions-Text : (row : List ℕ) (cs : List Component) (p : Place) (pieces : List Piece) → row ++ node_positions cs (node.Text p pieces) ≡ row
unfolding node_positions
positions-Text row cs p pieces = ap (λ l. row ++ layer_positions cs l) (opened.out_Text p pieces) ∙ append-nil row

pub positions-If : (row : List ℕ) (cs : List Component) (p : Place) (bs : List Branch) → row ++ node_positions cs (node.If p bs) ≡ row
unfolding node_positions
positions-If row cs p bs = ap (λ l. row ++ layer_positions cs l) (opened.out_If p bs) ∙ append-nil row

pub positions-For : (row : List ℕ) (cs : List Component) (p : Place) (head : ForHead) (ts : List TNode) (empty : Option Branch) → row ++ node_positions cs (node.For p head ts empty) ≡ row
unfolding node_positions
positions-For row cs p head ts empty = ap (λ l. row ++ layer_positions cs l) (opened.out_For p head ts empty) ∙ append-nil row

pub positions-Switch : (row : List ℕ) (cs : List Component) (p : Place) (e : Expr) (bs : List Branch) → row ++ node_positions cs (node.Switch p e bs) ≡ row
unfolding node_positions
positions-Switch row cs p e bs = ap (λ l. row ++ layer_positions cs l) (opened.out_Switch p e bs) ∙ append-nil row

pub positions-Let : (row : List ℕ) (cs : List Component) (p : Place) (n : Name) (e : Expr) → row ++ node_positions cs (node.Let p n e) ≡ row
unfolding node_positions
positions-Let row cs p n e = ap (λ l. row ++ layer_positions cs l) (opened.out_Let p n e) ∙ append-nil row

pub ruleset node_laws = (positions-Element, positions-Text, positions-If, positions-For, positions-Switch, positions-Let)
