-- The limits on the nesting of elements and blocks and on the number of nodes.
use Rattle.std.specs.Prelude.{◌≡◌, ℕ, suc, ◌<◌, ◌≤◌, Bool, true, false, List, [], ◌∷◌, ◌++◌}
use Rattle.ng_ast.specs.declared.TNode.{TNode}
use Rattle.ng_lex.specs.declared.markup.Shape.{Shape}
use Rattle.ng_lex.specs.declared.markup.Shape.TheVariants as shaped
use Rattle.ng_lex.specs.declared.markup.Markup.{Markup}
use Rattle.ng_lex.specs.declared.markup.Markup.TheVariants as m
use Rattle.ng_lex.specs.declared.markup.Part.{Part}
use Rattle.ng_nodes.specs.Texts.{Parts, part}
use Rattle.ng_nodes.specs.Grammar.{Nodes}

-- What is open after some parts, from the inside out: true for an element or a block, which is a level of its own, and false for a case of a `@switch`, which isn't.
abbrev pub without_first : List Bool → List Bool
without_first [] = []
without_first (b ∷ bs) = bs

abbrev pub open_after : Markup → List Bool → List Bool
open_after (m.Start tag attrs) bs = true ∷ bs
open_after (m.If a name) bs = true ∷ bs
open_after (m.ElseIf a name) bs = true ∷ bs
open_after m.Else bs = true ∷ bs
open_after (m.For h) bs = true ∷ bs
open_after m.Empty bs = true ∷ bs
open_after (m.Switch a) bs = true ∷ bs
open_after (m.Case a) bs = false ∷ bs
open_after m.Default bs = false ∷ bs
open_after (m.End tag) bs = without_first bs
open_after m.Close bs = without_first bs
open_after _ bs = bs

abbrev pub opened_by : List Bool → Parts → List Bool
opened_by bs [] = bs
opened_by bs (t ∷ ts) = opened_by (open_after t.markup bs) ts

abbrev pub levels : List Bool → ℕ
levels [] = 0
levels (true ∷ bs) = suc (levels bs)
levels (false ∷ bs) = levels bs

-- a part that begins an element or a block
abbrev pub begins : Markup → Bool
begins (m.Start tag attrs) = true
begins (m.Single tag attrs) = true
begins (m.If a name) = true
begins (m.For h) = true
begins (m.Switch a) = true
begins _ = false

-- the parts are the nodes
abbrev pub ReadsNodes : Parts → List TNode → Type 0
ReadsNodes ts ns = (k : ℕ) × Nodes false ts ns k

-- some parts make them whole
abbrev pub IsBegun : Parts → Type 0
IsBegun ts = (more : Parts) × (ns : List TNode) × ReadsNodes (ts ++ more) ns

-- a part has this shape
abbrev pub HasShape : Shape → Markup → Type 0
HasShape shaped.Interpolation (m.Interpolation a) = Unit {0}
HasShape shaped.Tag (m.Single tag attrs) = Unit {0}
HasShape shaped.Tag (m.Start tag attrs) = Unit {0}
HasShape shaped.If (m.If a name) = Unit {0}
HasShape shaped.ElseIf (m.ElseIf a name) = Unit {0}
HasShape shaped.For (m.For h) = Unit {0}
HasShape shaped.Switch (m.Switch a) = Unit {0}
HasShape shaped.Case (m.Case a) = Unit {0}
HasShape shaped.Let (m.Let name a) = Unit {0}
HasShape _ _ = ⊥

-- What a part may be that is said to be the first: itself, or any part of its shape where it is heavy.
abbrev pub MayBe : Markup → Markup → Type 0
MayBe (m.Heavy shape) c = HasShape shape c
MayBe d c = c ≡ d

abbrev pub is_heavy : Markup → Bool
is_heavy (m.Heavy shape) = true
is_heavy _ = false

-- the part begins an element or a block inside of d others
abbrev pub IsTooDeep : ℕ → Parts → Part → Type 0
IsTooDeep d front t = IsBegun (front ++ t ∷ []) × (begins t.markup ≡ true) × (d ≤ levels (opened_by [] front))

-- the part is heavy, and any part of its shape may stand there
abbrev pub IsTooHeavy : Parts → Part → Type 0
IsTooHeavy front t = (is_heavy t.markup ≡ true) × ((c : Markup) → MayBe t.markup c → IsBegun (front ++ part c t.place ∷ []))

-- the parts are begun, and whatever makes them whole, there are more than n nodes
abbrev pub HasTooMany : ℕ → Parts → Type 0
HasTooMany n front = IsBegun front × ((more : Parts) (ns : List TNode) (k : ℕ) → Nodes false (front ++ more) ns k → n < k)

-- Some front of the parts is begun and passes a limit: d on nesting, n on the number of nodes, or that of an expression.
pub data Over (d n : ℕ) (ts : Parts) : Type 0 where
  deep : (front : Parts) (t : Part) (more : Parts) → ts ≡ front ++ t ∷ more → IsTooDeep d front t → Over d n ts
  heavy : (front : Parts) (t : Part) (more : Parts) → ts ≡ front ++ t ∷ more → IsTooHeavy front t → Over d n ts
  many : (front more : Parts) → ts ≡ front ++ more → HasTooMany n front → Over d n ts
