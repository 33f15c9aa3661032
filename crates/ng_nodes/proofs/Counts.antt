-- The number of a reading is that of its nodes, with those inside them.
use Rattle.std.proofs.Common.{◌≡◌, ℕ, suc, ◌+◌, List, [], ◌∷◌, ◌++◌, length, refl, ap, arith}
use Rattle.std.specs.Prelude.{Bool, true, false, if◌then◌else◌, Option, Some}
use Rattle.std.specs.List.{flat_map}
use Rattle.ng_ast.specs.declared.Place.{Place}
use Rattle.ng_ast.specs.declared.Expr.{Expr}
use Rattle.ng_ast.specs.declared.TAttr.{TAttr}
use Rattle.ng_ast.specs.declared.Piece.{Piece}
use Rattle.ng_ast.specs.declared.ForHead.{ForHead}
use Rattle.ng_ast.specs.declared.Branch.{Branch}
use Rattle.ng_ast.specs.declared.TNode.{TNode}
use Rattle.ng_ast.specs.declared.TNode.TheVariants as node
use Rattle.ng_ast.specs.Inner.{inner_layer, optional_nodes}
use Rattle.ng_ast.specs.Nodes.{count}
use Rattle.ng_ast.specs.NodesLaws.{node_count_is}
use Rattle.ng_lex.specs.declared.markup.Part.{Part}
use Rattle.ng_nodes.specs.Texts.{Text, Parts, blank, pieces, texted}
use Rattle.ng_nodes.specs.Grammar.{branch, Nodes, Branches, Otherwise, Cases}

abbrev inside_all : List Branch → List TNode
inside_all bs = flat_map (λ b. b.nodes) bs

count_append : (xs ys : List TNode) → count (xs ++ ys) ≡ count xs + count ys
unfolding count
count_append [] ys = omega arith
count_append (t ∷ xs) ys = omega (arith, count_append xs ys)

count_element : (p : Place) (tag : Text) (attrs : List TAttr) (ns ms : List TNode) → count (node.Element p tag attrs ns ∷ ms) ≡ suc (count ns + count ms)
unfolding count
count_element p tag attrs ns ms = omega (arith, node_count_is (node.Element p tag attrs ns), ap (λ l. count (inner_layer l)) (node.outs-Element p tag attrs ns))

count_text : (p : Place) (xs : List Piece) (ms : List TNode) → count (node.Text p xs ∷ ms) ≡ suc (count ms)
unfolding count
count_text p xs ms = omega (arith, node_count_is (node.Text p xs), ap (λ l. count (inner_layer l)) (node.outs-Text p xs))

count_let : (p : Place) (name : Text) (a : Expr) (ms : List TNode) → count (node.Let p name a ∷ ms) ≡ suc (count ms)
unfolding count
count_let p name a ms = omega (arith, node_count_is (node.Let p name a), ap (λ l. count (inner_layer l)) (node.outs-Let p name a))

count_if : (p : Place) (bs : List Branch) (ms : List TNode) → count (node.If p bs ∷ ms) ≡ suc (count (inside_all bs) + count ms)
unfolding count
count_if p bs ms = omega (arith, node_count_is (node.If p bs), ap (λ l. count (inner_layer l)) (node.outs-If p bs))

count_for : (p : Place) (h : ForHead) (ns : List TNode) (b : Option Branch) (ms : List TNode) → count (node.For p h ns b ∷ ms) ≡ suc (count ns + (count (optional_nodes b) + count ms))
unfolding count
count_for p h ns b ms = omega (arith, node_count_is (node.For p h ns b), ap (λ l. count (inner_layer l)) (node.outs-For p h ns b), count_append ns (optional_nodes b))

count_switch : (p : Place) (a : Expr) (bs : List Branch) (ms : List TNode) → count (node.Switch p a bs ∷ ms) ≡ suc (count (inside_all bs) + count ms)
unfolding count
count_switch p a bs ms = omega (arith, node_count_is (node.Switch p a bs), ap (λ l. count (inner_layer l)) (node.outs-Switch p a bs))

count_texted : (keep : Bool) (t : Part) (x : Parts) (ms : List TNode) → count (texted keep (t ∷ x) ++ ms) ≡ length (texted keep (t ∷ x)) + count ms
count_texted keep t x ms = by_bools keep (blank (t ∷ x)) t.place (pieces keep (t ∷ x))
  where
    by_bools : (v w : Bool) (p : Place) (xs : List Piece) → count ((if (if v then false else w) then [] else node.Text p xs ∷ []) ++ ms)
        ≡ length (if (if v then false else w) then [] else node.Text p xs ∷ []) + count ms
    by_bools true w p xs = omega (arith, count_text p xs ms)
    by_bools false true p xs = omega arith
    by_bools false false p xs = omega (arith, count_text p xs ms)

none_counted : 0 ≡ count []
unfolding count
none_counted = refl

mutual
  pub counts : {keep : Bool} {x : Parts} {ns : List TNode} {k : ℕ} → Nodes keep x ns k → k ≡ count ns
  counts Nodes.nothing = none_counted
  counts (Nodes.comment p x h) = counts h
  counts (Nodes.text {keep = keep} {ns = ns} t x y run end h) = omega (arith, counts h, count_texted keep t x ns)
  counts (Nodes.single {ns = ns} tag attrs p x h) = omega (arith, counts h, count_element p tag attrs [] ns, none_counted)
  counts (Nodes.element {ns = ns} {ms = ms} tag attrs p q x y h i) = omega (arith, counts h, counts i, count_element p tag attrs ns ms)
  counts (Nodes.declare {ns = ns} name a p x h) = omega (arith, counts h, count_let p name a ns)
  counts (Nodes.when {ns = ns} {bs = bs} {ms = ms} a name p q x y z h i j) = omega (arith, counts h, counts_branches i, counts j, count_if p (branch p (Some a) name ns ∷ bs) ms, count_append ns (inside_all bs))
  counts (Nodes.rows {ns = ns} {b = b} {ms = ms} f p q x y z h i j) = omega (arith, counts h, counts_otherwise i, counts j, count_for p f ns b ms)
  counts (Nodes.switch {bs = bs} {ms = ms} a p q x y h i) = omega (arith, counts_cases h, counts i, count_switch p a bs ms)

  counts_branches : {keep : Bool} {x : Parts} {bs : List Branch} {k : ℕ} → Branches keep x bs k → k ≡ count (inside_all bs)
  counts_branches Branches.done = none_counted
  counts_branches (Branches.other {ns = ns} p q g x gap h) = omega (arith, counts h, count_append ns [], none_counted)
  counts_branches (Branches.further {ns = ns} {bs = bs} a name p q g x y gap h i) = omega (arith, counts h, counts_branches i, count_append ns (inside_all bs))

  counts_otherwise : {keep : Bool} {x : Parts} {b : Option Branch} {k : ℕ} → Otherwise keep x b k → k ≡ count (optional_nodes b)
  counts_otherwise Otherwise.nobody = none_counted
  counts_otherwise (Otherwise.empty p q g x gap h) = counts h

  counts_cases : {keep : Bool} {x : Parts} {bs : List Branch} {k : ℕ} → Cases keep x bs k → k ≡ count (inside_all bs)
  counts_cases Cases.ended = none_counted
  counts_cases (Cases.between t x e h) = counts_cases h
  counts_cases (Cases.one {ns = ns} {bs = bs} a p q x y h i) = omega (arith, counts h, counts_cases i, count_append ns (inside_all bs))
  counts_cases (Cases.default {ns = ns} {bs = bs} p q x y h i) = omega (arith, counts h, counts_cases i, count_append ns (inside_all bs))
