-- The grammar of templates over their parts, by cases on how the parts fall into nodes.
use Rattle.std.specs.Prelude.{◌≡◌, ℕ, suc, ◌+◌, Bool, true, false, ◌||◌, List, [], ◌∷◌, ◌++◌, length, Option, Some, None}
use Rattle.ng_ast.specs.declared.Place.{Place}
use Rattle.ng_ast.specs.declared.Expr.{Expr}
use Rattle.ng_ast.specs.declared.TAttr.{TAttr}
use Rattle.ng_ast.specs.declared.ForHead.{ForHead}
use Rattle.ng_ast.specs.declared.Branch.{Branch}
use Rattle.ng_ast.specs.declared.TNode.{TNode}
use Rattle.ng_ast.specs.declared.TNode.TheVariants as node
use Rattle.ng_lex.specs.declared.markup.Markup.{Markup}
use Rattle.ng_lex.specs.declared.markup.Markup.TheVariants as m
use Rattle.ng_lex.specs.declared.markup.Part.{Part}
use Rattle.ng_nodes.specs.Texts.{Text, Parts, part, IsRun, NotText, is_blank, texted, IsGap, keeps}

abbrev pub branch : Place → Option Expr → Option Text → List TNode → Branch
branch p test name ns = record { place = p; test = test; name = name; nodes = ns }

-- what may stand between the cases of a `@switch`: white space and comments
abbrev pub is_between : Markup → Bool
is_between m.Comment = true
is_between c = is_blank c

mutual
  -- The parts, all of them, are these nodes, and so many nodes with those inside them. The truth value says whether white space is kept.
  pub data Nodes : Bool → Parts → List TNode → ℕ → Type 0 where
    nothing : {keep : Bool} → Nodes keep [] [] 0
    comment : {keep : Bool} {ns : List TNode} {k : ℕ} (p : Place) (x : Parts) → Nodes keep x ns k
        → Nodes keep (part m.Comment p ∷ x) ns k
    -- a text is as long as it can be
    text : {keep : Bool} {ns : List TNode} {k : ℕ} (t : Part) (x y : Parts) → IsRun keep false (t ∷ x) → NotText y → Nodes keep y ns k
        → Nodes keep ((t ∷ x) ++ y) (texted keep (t ∷ x) ++ ns) (length (texted keep (t ∷ x)) + k)
    -- a void or self-closed element
    single : {keep : Bool} {ns : List TNode} {k : ℕ} (tag : Text) (attrs : List TAttr) (p : Place) (x : Parts) → Nodes keep x ns k
        → Nodes keep (part (m.Single tag attrs) p ∷ x) (node.Element p tag attrs [] ∷ ns) (suc k)
    element : {keep : Bool} {ns ms : List TNode} {j k : ℕ} (tag : Text) (attrs : List TAttr) (p q : Place) (x y : Parts)
        → Nodes (keep || keeps tag) x ns j → Nodes keep y ms k
        → Nodes keep (part (m.Start tag attrs) p ∷ (x ++ (part (m.End tag) q ∷ y))) (node.Element p tag attrs ns ∷ ms) (suc (j + k))
    declare : {keep : Bool} {ns : List TNode} {k : ℕ} (name : Text) (a : Expr) (p : Place) (x : Parts) → Nodes keep x ns k
        → Nodes keep (part (m.Let name a) p ∷ x) (node.Let p name a ∷ ns) (suc k)
    -- an `@if` with its further branches
    when : {keep : Bool} {ns : List TNode} {bs : List Branch} {ms : List TNode} {i j k : ℕ} (a : Expr) (name : Option Text) (p q : Place) (x y z : Parts)
        → Nodes keep x ns i → Branches keep y bs j → Nodes keep z ms k
        → Nodes keep (part (m.If a name) p ∷ (x ++ (part m.Close q ∷ (y ++ z)))) (node.If p (branch p (Some a) name ns ∷ bs) ∷ ms) (suc (i + (j + k)))
    -- a `@for` with its `@empty`
    rows : {keep : Bool} {ns : List TNode} {b : Option Branch} {ms : List TNode} {i j k : ℕ} (h : ForHead) (p q : Place) (x y z : Parts)
        → Nodes keep x ns i → Otherwise keep y b j → Nodes keep z ms k
        → Nodes keep (part (m.For h) p ∷ (x ++ (part m.Close q ∷ (y ++ z)))) (node.For p h ns b ∷ ms) (suc (i + (j + k)))
    switch : {keep : Bool} {bs : List Branch} {ms : List TNode} {j k : ℕ} (a : Expr) (p q : Place) (x y : Parts)
        → Cases keep x bs j → Nodes keep y ms k
        → Nodes keep (part (m.Switch a) p ∷ (x ++ (part m.Close q ∷ y))) (node.Switch p a bs ∷ ms) (suc (j + k))

  -- what may follow the `}` of an `@if` or of an `@else if`: further branches with a test, and then an `@else`
  pub data Branches : Bool → Parts → List Branch → ℕ → Type 0 where
    done : {keep : Bool} → Branches keep [] [] 0
    other : {keep : Bool} {ns : List TNode} {k : ℕ} (p q : Place) (g x : Parts) → IsGap keep g → Nodes keep x ns k
        → Branches keep (g ++ (part m.Else p ∷ (x ++ (part m.Close q ∷ [])))) (branch p None None ns ∷ []) k
    further : {keep : Bool} {ns : List TNode} {bs : List Branch} {j k : ℕ} (a : Expr) (name : Option Text) (p q : Place) (g x y : Parts)
        → IsGap keep g → Nodes keep x ns j → Branches keep y bs k
        → Branches keep (g ++ (part (m.ElseIf a name) p ∷ (x ++ (part m.Close q ∷ y)))) (branch p (Some a) name ns ∷ bs) (j + k)

  -- what may follow the `}` of a `@for`: an `@empty`
  pub data Otherwise : Bool → Parts → Option Branch → ℕ → Type 0 where
    nobody : {keep : Bool} → Otherwise keep [] None 0
    empty : {keep : Bool} {ns : List TNode} {k : ℕ} (p q : Place) (g x : Parts) → IsGap keep g → Nodes keep x ns k
        → Otherwise keep (g ++ (part m.Empty p ∷ (x ++ (part m.Close q ∷ [])))) (Some (branch p None None ns)) k

  -- what stands between the braces of a `@switch`
  pub data Cases : Bool → Parts → List Branch → ℕ → Type 0 where
    ended : {keep : Bool} → Cases keep [] [] 0
    between : {keep : Bool} {bs : List Branch} {k : ℕ} (t : Part) (x : Parts) → is_between t.markup ≡ true → Cases keep x bs k
        → Cases keep (t ∷ x) bs k
    one : {keep : Bool} {ns : List TNode} {bs : List Branch} {j k : ℕ} (a : Expr) (p q : Place) (x y : Parts) → Nodes keep x ns j → Cases keep y bs k
        → Cases keep (part (m.Case a) p ∷ (x ++ (part m.Close q ∷ y))) (branch p (Some a) None ns ∷ bs) (j + k)
    default : {keep : Bool} {ns : List TNode} {bs : List Branch} {j k : ℕ} (p q : Place) (x y : Parts) → Nodes keep x ns j → Cases keep y bs k
        → Cases keep (part m.Default p ∷ (x ++ (part m.Close q ∷ y))) (branch p None None ns ∷ bs) (j + k)
