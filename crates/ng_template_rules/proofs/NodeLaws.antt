-- The breaks of a node by itself, one equation for each variant.
use Rattle.std.proofs.Common.{◌≡◌, List, [], ◌++◌, ap, ◌∙◌, sym, false, Option}
use Rattle.std.specs.List.{flat_map}
use Rattle.ng_ast.specs.declared.Place.{Place}
use Rattle.ng_ast.specs.declared.Expr.{Expr}
use Rattle.ng_ast.specs.declared.Piece.{Piece}
use Rattle.ng_ast.specs.declared.TAttr.{TAttr}
use Rattle.ng_ast.specs.declared.ForHead.{ForHead}
use Rattle.ng_ast.specs.declared.Component.{Component}
use Rattle.ng_ast.specs.declared.Branch.{Branch}
use Rattle.ng_ast.specs.declared.TNode.{TNode}
use Rattle.ng_ast.specs.declared.TNode.TheVariants as node
use Rattle.ng_ast.specs.declared.refusals.Refusal.{Refusal}
use Rattle.ng_ast.specs.declared.refusals.Rule.TheVariants as rule
use Rattle.ng_ast.specs.OpenNode.{out_Element, out_Text, out_If, out_For, out_Switch, out_Let}
use Rattle.ng_scopes.specs.Templates.{is_content}
use Rattle.ng_parts.specs.Sites.{Name}
use Rattle.ng_breaks.specs.Least.{broken, least_of}
use Rattle.ng_breaks.specs.LeastLaws.{least_of-append}
use Rattle.ng_template_rules.specs.ElementRules.{element_breaks}
use Rattle.ng_hosts.specs.Hosts.{hosts}
use Rattle.ng_template_rules.specs.TemplateRules.{content_layer, content_breaks, node_layer, node_breaks, inner_view_breaks, inner_content_breaks, for_breaks, branch_breaks, default_breaks}

pub content-Element : (p : Place) (tag : Name) (attrs : List TAttr) (ts : List TNode) → content_breaks (node.Element p tag attrs ts) ≡ broken (is_content tag) rule.N18 p tag
unfolding content_breaks
content-Element p tag attrs ts = ap content_layer (out_Element p tag attrs ts)

pub content-Text : (p : Place) (pieces : List Piece) → content_breaks (node.Text p pieces) ≡ []
unfolding content_breaks
content-Text p pieces = ap content_layer (out_Text p pieces)

pub content-If : (p : Place) (bs : List Branch) → content_breaks (node.If p bs) ≡ []
unfolding content_breaks
content-If p bs = ap content_layer (out_If p bs)

pub content-For : (p : Place) (head : ForHead) (ts : List TNode) (empty : Option Branch) → content_breaks (node.For p head ts empty) ≡ []
unfolding content_breaks
content-For p head ts empty = ap content_layer (out_For p head ts empty)

pub content-Switch : (p : Place) (e : Expr) (bs : List Branch) → content_breaks (node.Switch p e bs) ≡ []
unfolding content_breaks
content-Switch p e bs = ap content_layer (out_Switch p e bs)

pub content-Let : (p : Place) (n : Name) (e : Expr) → content_breaks (node.Let p n e) ≡ []
unfolding content_breaks
content-Let p n e = ap content_layer (out_Let p n e)

pub ruleset content_laws = (content-Element, content-Text, content-If, content-For, content-Switch, content-Let)

pub judged-Element : (best : Option Refusal) (cs : List Component) (owner : Name) (p : Place) (tag : Name) (attrs : List TAttr) (ts : List TNode)
    → least_of best (node_breaks cs owner (node.Element p tag attrs ts))
    ≡ least_of (least_of (least_of best (element_breaks (hosts cs tag attrs) p tag attrs)) (inner_view_breaks tag attrs ts)) (inner_content_breaks tag ts)
unfolding node_breaks
judged-Element best cs owner p tag attrs ts =
    ap (λ l. least_of best (node_layer cs owner l)) (out_Element p tag attrs ts)
    ∙ least_of-append best (element_breaks (hosts cs tag attrs) p tag attrs ++ inner_view_breaks tag attrs ts) (inner_content_breaks tag ts)
    ∙ ap (λ b. least_of b (inner_content_breaks tag ts)) (least_of-append best (element_breaks (hosts cs tag attrs) p tag attrs) (inner_view_breaks tag attrs ts))

pub judged-Text : (cs : List Component) (owner : Name) (p : Place) (pieces : List Piece) → node_breaks cs owner (node.Text p pieces) ≡ []
unfolding node_breaks
judged-Text cs owner p pieces = ap (node_layer cs owner) (out_Text p pieces)

pub judged-If : (cs : List Component) (owner : Name) (p : Place) (bs : List Branch) → node_breaks cs owner (node.If p bs) ≡ flat_map branch_breaks bs
unfolding node_breaks
judged-If cs owner p bs = ap (node_layer cs owner) (out_If p bs)

pub judged-For : (cs : List Component) (owner : Name) (p : Place) (head : ForHead) (ts : List TNode) (empty : Option Branch) → node_breaks cs owner (node.For p head ts empty) ≡ for_breaks owner p head ts empty
unfolding node_breaks
judged-For cs owner p head ts empty = ap (node_layer cs owner) (out_For p head ts empty)

pub judged-Switch : (best : Option Refusal) (cs : List Component) (owner : Name) (p : Place) (e : Expr) (bs : List Branch)
    → least_of best (node_breaks cs owner (node.Switch p e bs)) ≡ least_of (least_of best (flat_map branch_breaks bs)) (default_breaks owner false bs)
unfolding node_breaks
judged-Switch best cs owner p e bs = ap (λ l. least_of best (node_layer cs owner l)) (out_Switch p e bs) ∙ least_of-append best (flat_map branch_breaks bs) (default_breaks owner false bs)

pub judged-Let : (cs : List Component) (owner : Name) (p : Place) (n : Name) (e : Expr) → node_breaks cs owner (node.Let p n e) ≡ []
unfolding node_breaks
judged-Let cs owner p n e = ap (node_layer cs owner) (out_Let p n e)

pub ruleset node_laws = (judged-Element, judged-Text, judged-If, judged-For, judged-Switch, judged-Let)

-- the steps at an element
pub told-Element : (cs : List Component) (owner : Name) (t : TNode) (p : Place) (tag : Name) (attrs as1 as2 : List TAttr) (ts us vs : List TNode) (best b1 b2 b3 : Option Refusal)
    → t ≡ node.Element p tag attrs ts → as1 ≡ attrs → as2 ≡ attrs → us ≡ ts → vs ≡ ts → b1 ≡ least_of best (element_breaks (hosts cs tag as1) p tag as1)
    → b2 ≡ least_of b1 (inner_view_breaks tag as2 us) → b3 ≡ least_of b2 (inner_content_breaks tag vs) → b3 ≡ least_of best (node_breaks cs owner t)
told-Element cs owner t p tag attrs as1 as2 ts us vs best b1 b2 b3 is e f g h at_host in_view in_content =
    in_content ∙ ap (λ l. least_of b2 (inner_content_breaks tag l)) h
    ∙ ap (λ b. least_of b (inner_content_breaks tag ts)) (in_view ∙ ap (λ l. least_of b1 (inner_view_breaks tag l us)) f ∙ ap (λ l. least_of b1 (inner_view_breaks tag attrs l)) g
    ∙ ap (λ b. least_of b (inner_view_breaks tag attrs ts)) (at_host ∙ ap (λ l. least_of best (element_breaks (hosts cs tag l) p tag l)) e))
    ∙ sym (judged-Element best cs owner p tag attrs ts) ∙ ap (λ u. least_of best (node_breaks cs owner u)) (sym is)

-- the step at a `@for`
pub told-For : (cs : List Component) (owner : Name) (t : TNode) (p : Place) (head : ForHead) (ts us : List TNode) (empty : Option Branch) (best new : Option Refusal)
    → t ≡ node.For p head ts empty → us ≡ ts → new ≡ least_of best (for_breaks owner p head us empty) → new ≡ least_of best (node_breaks cs owner t)
told-For cs owner t p head ts us empty best new is e told =
    told ∙ ap (λ l. least_of best (for_breaks owner p head l empty)) e ∙ ap (least_of best) (sym (judged-For cs owner p head ts empty)) ∙ ap (λ u. least_of best (node_breaks cs owner u)) (sym is)
