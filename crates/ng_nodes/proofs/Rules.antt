-- The rules of the grammar, with the number of nodes left aside.
use Rattle.std.proofs.Common.{◌≡◌, ℕ, suc, ◌+◌, List, [], ◌∷◌, ◌++◌, length, subst}
use Rattle.std.specs.Prelude.{Bool, true, false, ◌||◌, Option, Some, None}
use Rattle.ng_ast.specs.declared.Place.{Place}
use Rattle.ng_ast.specs.declared.Expr.{Expr}
use Rattle.ng_ast.specs.declared.TAttr.{TAttr}
use Rattle.ng_ast.specs.declared.ForHead.{ForHead}
use Rattle.ng_ast.specs.declared.Branch.{Branch}
use Rattle.ng_ast.specs.declared.TNode.{TNode}
use Rattle.ng_ast.specs.declared.TNode.TheVariants as node
use Rattle.ng_lex.specs.declared.markup.Markup.TheVariants as m
use Rattle.ng_lex.specs.declared.markup.Part.{Part}
use Rattle.ng_nodes.specs.Texts.{Text, Parts, part, IsRun, NotText, texted, IsGap, keeps}
use Rattle.ng_nodes.specs.Grammar.{branch, is_between, Nodes, Branches, Otherwise, Cases}

abbrev pub Reading : Bool → Parts → List TNode → Type 0
Reading keep x ns = (k : ℕ) × Nodes keep x ns k

abbrev pub ReadsBranches : Bool → Parts → List Branch → Type 0
ReadsBranches keep x bs = (k : ℕ) × Branches keep x bs k

abbrev pub ReadsOtherwise : Bool → Parts → Option Branch → Type 0
ReadsOtherwise keep x b = (k : ℕ) × Otherwise keep x b k

abbrev pub ReadsCases : Bool → Parts → List Branch → Type 0
ReadsCases keep x bs = (k : ℕ) × Cases keep x bs k

pub reread : (keep : Bool) (x y : Parts) (ns ms : List TNode) → x ≡ y → ns ≡ ms → Reading keep x ns → Reading keep y ms
reread keep x y ns ms e f h = subst (λ z. Reading keep z ms) e (subst (λ z. Reading keep x z) f h)

pub recase : (keep : Bool) (x y : Parts) (bs cs : List Branch) → x ≡ y → bs ≡ cs → ReadsCases keep x bs → ReadsCases keep y cs
recase keep x y bs cs e f h = subst (λ z. ReadsCases keep z cs) e (subst (λ z. ReadsCases keep x z) f h)

pub nothing : (keep : Bool) → Reading keep [] []
nothing keep = (0, Nodes.nothing)

pub comment : (keep : Bool) (p : Place) (x : Parts) (ns : List TNode) → Reading keep x ns → Reading keep (part m.Comment p ∷ x) ns
comment keep p x ns h = (h.0, Nodes.comment p x h.1)

pub text : (keep : Bool) (t : Part) (x y : Parts) (ns : List TNode) → IsRun keep false (t ∷ x) → NotText y → Reading keep y ns → Reading keep ((t ∷ x) ++ y) (texted keep (t ∷ x) ++ ns)
text keep t x y ns run end h = (length (texted keep (t ∷ x)) + h.0, Nodes.text t x y run end h.1)

pub single : (keep : Bool) (tag : Text) (attrs : List TAttr) (p : Place) (x : Parts) (ns : List TNode) → Reading keep x ns → Reading keep (part (m.Single tag attrs) p ∷ x) (node.Element p tag attrs [] ∷ ns)
single keep tag attrs p x ns h = (suc h.0, Nodes.single tag attrs p x h.1)

pub element : (keep : Bool) (tag : Text) (attrs : List TAttr) (p q : Place) (x y : Parts) (ns ms : List TNode) → Reading (keep || keeps tag) x ns → Reading keep y ms
    → Reading keep (part (m.Start tag attrs) p ∷ (x ++ (part (m.End tag) q ∷ y))) (node.Element p tag attrs ns ∷ ms)
element keep tag attrs p q x y ns ms h i = (suc (h.0 + i.0), Nodes.element tag attrs p q x y h.1 i.1)

pub declare : (keep : Bool) (name : Text) (a : Expr) (p : Place) (x : Parts) (ns : List TNode) → Reading keep x ns → Reading keep (part (m.Let name a) p ∷ x) (node.Let p name a ∷ ns)
declare keep name a p x ns h = (suc h.0, Nodes.declare name a p x h.1)

pub when : (keep : Bool) (a : Expr) (name : Option Text) (p q : Place) (x y z : Parts) (ns : List TNode) (bs : List Branch) (ms : List TNode) → Reading keep x ns → ReadsBranches keep y bs → Reading keep z ms
    → Reading keep (part (m.If a name) p ∷ (x ++ (part m.Close q ∷ (y ++ z)))) (node.If p (branch p (Some a) name ns ∷ bs) ∷ ms)
when keep a name p q x y z ns bs ms h i j = (suc (h.0 + (i.0 + j.0)), Nodes.when a name p q x y z h.1 i.1 j.1)

pub rows : (keep : Bool) (f : ForHead) (p q : Place) (x y z : Parts) (ns : List TNode) (b : Option Branch) (ms : List TNode) → Reading keep x ns → ReadsOtherwise keep y b → Reading keep z ms
    → Reading keep (part (m.For f) p ∷ (x ++ (part m.Close q ∷ (y ++ z)))) (node.For p f ns b ∷ ms)
rows keep f p q x y z ns b ms h i j = (suc (h.0 + (i.0 + j.0)), Nodes.rows f p q x y z h.1 i.1 j.1)

pub switch : (keep : Bool) (a : Expr) (p q : Place) (x y : Parts) (bs : List Branch) (ms : List TNode) → ReadsCases keep x bs → Reading keep y ms
    → Reading keep (part (m.Switch a) p ∷ (x ++ (part m.Close q ∷ y))) (node.Switch p a bs ∷ ms)
switch keep a p q x y bs ms h i = (suc (h.0 + i.0), Nodes.switch a p q x y h.1 i.1)

pub done : (keep : Bool) → ReadsBranches keep [] []
done keep = (0, Branches.done)

pub other : (keep : Bool) (p q : Place) (g x : Parts) (ns : List TNode) → IsGap keep g → Reading keep x ns → ReadsBranches keep (g ++ (part m.Else p ∷ (x ++ (part m.Close q ∷ [])))) (branch p None None ns ∷ [])
other keep p q g x ns gap h = (h.0, Branches.other p q g x gap h.1)

pub further : (keep : Bool) (a : Expr) (name : Option Text) (p q : Place) (g x y : Parts) (ns : List TNode) (bs : List Branch) → IsGap keep g → Reading keep x ns → ReadsBranches keep y bs
    → ReadsBranches keep (g ++ (part (m.ElseIf a name) p ∷ (x ++ (part m.Close q ∷ y)))) (branch p (Some a) name ns ∷ bs)
further keep a name p q g x y ns bs gap h i = (h.0 + i.0, Branches.further a name p q g x y gap h.1 i.1)

pub nobody : (keep : Bool) → ReadsOtherwise keep [] None
nobody keep = (0, Otherwise.nobody)

pub empty : (keep : Bool) (p q : Place) (g x : Parts) (ns : List TNode) → IsGap keep g → Reading keep x ns → ReadsOtherwise keep (g ++ (part m.Empty p ∷ (x ++ (part m.Close q ∷ [])))) (Some (branch p None None ns))
empty keep p q g x ns gap h = (h.0, Otherwise.empty p q g x gap h.1)

pub ended : (keep : Bool) → ReadsCases keep [] []
ended keep = (0, Cases.ended)

pub between : (keep : Bool) (t : Part) (x : Parts) (bs : List Branch) → is_between t.markup ≡ true → ReadsCases keep x bs → ReadsCases keep (t ∷ x) bs
between keep t x bs e h = (h.0, Cases.between t x e h.1)

pub one : (keep : Bool) (a : Expr) (p q : Place) (x y : Parts) (ns : List TNode) (bs : List Branch) → Reading keep x ns → ReadsCases keep y bs
    → ReadsCases keep (part (m.Case a) p ∷ (x ++ (part m.Close q ∷ y))) (branch p (Some a) None ns ∷ bs)
one keep a p q x y ns bs h i = (h.0 + i.0, Cases.one a p q x y h.1 i.1)

pub default : (keep : Bool) (p q : Place) (x y : Parts) (ns : List TNode) (bs : List Branch) → Reading keep x ns → ReadsCases keep y bs
    → ReadsCases keep (part m.Default p ∷ (x ++ (part m.Close q ∷ y))) (branch p None None ns ∷ bs)
default keep p q x y ns bs h i = (h.0 + i.0, Cases.default p q x y h.1 i.1)
