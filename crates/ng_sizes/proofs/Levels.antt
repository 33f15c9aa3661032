-- Parts that begin no element and no block on too deep a level are nodes that nest in few levels.
use Rattle.std.proofs.Common.{◌≡◌, ℕ, suc, ◌+◌, ◌<◌, ◌≤◌, List, [], ◌∷◌, ◌++◌, refl, sym, ◌∙◌, ap, subst, append_assoc, arith}
use Rattle.std.specs.Prelude.{Bool, true, false, nat_lt, if◌then◌else◌, Option, Some}
use Rattle.std.specs.List.{flat_map}
use Rattle.ng_ast.specs.declared.Place.{Place}
use Rattle.ng_ast.specs.declared.Piece.{Piece}
use Rattle.ng_ast.specs.declared.Branch.{Branch}
use Rattle.ng_ast.specs.declared.TNode.{TNode}
use Rattle.ng_ast.specs.declared.TNode.TheVariants as node
use Rattle.ng_ast.specs.Inner.{optional_nodes}
use Rattle.ng_lex.specs.declared.markup.Markup.{Markup}
use Rattle.ng_lex.specs.declared.markup.Markup.TheVariants as m
use Rattle.ng_lex.specs.declared.markup.Part.{Part}
use Rattle.ng_nodes.specs.Texts.{Parts, part, is_literal, goes_on, IsRun, blank, pieces, texted}
use Rattle.ng_nodes.specs.Grammar.{branch, is_between, Nodes, Branches, Otherwise, Cases}
use Rattle.ng_nodes.specs.Limits.{open_after, opened_by, levels, begins, ReadsNodes, Over}
use Rattle.ng_sizes.specs.Sizes.{IsShallow}
use Rattle.ng_sizes.proofs.Shallow.{no_nodes, side_by_side, text_shallow, let_shallow, level_shallow, inner_element, inner_if, inner_for, inner_switch}

-- ---- what is open after parts

opened_append : (ls : List Bool) (x y : Parts) → opened_by ls (x ++ y) ≡ opened_by (opened_by ls x) y
opened_append ls [] y = refl
opened_append ls (t ∷ x) y = opened_append (open_after t.markup ls) x y

-- after parts that end all that they begin
opened_after : (ls : List Bool) (x y : Parts) → opened_by ls x ≡ ls → opened_by ls (x ++ y) ≡ opened_by ls y
opened_after ls x y e = opened_append ls x y ∙ ap (λ v. opened_by v y) e

text_opens_none : (keep after : Bool) (c : Markup) (ls : List Bool) → goes_on keep after c ≡ true → open_after c ls ≡ ls
text_opens_none keep after (m.Literal cs) ls e = refl
text_opens_none keep after (m.Interpolation a) ls e = refl
text_opens_none keep after _ ls e = absurd cc

run_closed : (keep after : Bool) (x : Parts) → IsRun keep after x → (ls : List Bool) → opened_by ls x ≡ ls
run_closed keep after [] run ls = refl
run_closed keep after (t ∷ x) run ls = ap (λ v. opened_by v x) (text_opens_none keep after t.markup ls run.0) ∙ run_closed keep (is_literal t.markup) x run.1 ls

between_opens_none : (c : Markup) (ls : List Bool) → is_between c ≡ true → open_after c ls ≡ ls
between_opens_none m.Comment ls e = refl
between_opens_none (m.Literal cs) ls e = refl
between_opens_none _ ls e = absurd cc

-- nodes end all that they begin
mutual
  nodes_closed : {keep : Bool} {x : Parts} {ns : List TNode} {k : ℕ} → Nodes keep x ns k → (ls : List Bool) → opened_by ls x ≡ ls
  nodes_closed Nodes.nothing ls = refl
  nodes_closed (Nodes.comment p x h) ls = nodes_closed h ls
  nodes_closed (Nodes.text {keep = keep} t x y run end h) ls = opened_after ls (t ∷ x) y (run_closed keep false (t ∷ x) run ls) ∙ nodes_closed h ls
  nodes_closed (Nodes.single tag attrs p x h) ls = nodes_closed h ls
  nodes_closed (Nodes.element tag attrs p q x y h i) ls = opened_after (true ∷ ls) x (part (m.End tag) q ∷ y) (nodes_closed h (true ∷ ls)) ∙ nodes_closed i ls
  nodes_closed (Nodes.declare name a p x h) ls = nodes_closed h ls
  nodes_closed (Nodes.when a name p q x y z h i j) ls =
      opened_after (true ∷ ls) x (part m.Close q ∷ (y ++ z)) (nodes_closed h (true ∷ ls)) ∙ opened_after ls y z (branches_closed i ls) ∙ nodes_closed j ls
  nodes_closed (Nodes.rows f p q x y z h i j) ls =
      opened_after (true ∷ ls) x (part m.Close q ∷ (y ++ z)) (nodes_closed h (true ∷ ls)) ∙ opened_after ls y z (otherwise_closed i ls) ∙ nodes_closed j ls
  nodes_closed (Nodes.switch a p q x y h i) ls = opened_after (true ∷ ls) x (part m.Close q ∷ y) (cases_closed h (true ∷ ls)) ∙ nodes_closed i ls

  branches_closed : {keep : Bool} {x : Parts} {bs : List Branch} {k : ℕ} → Branches keep x bs k → (ls : List Bool) → opened_by ls x ≡ ls
  branches_closed Branches.done ls = refl
  branches_closed (Branches.other {keep = keep} p q g x gap h) ls =
      opened_after ls g _ (run_closed keep false g gap.0 ls) ∙ opened_after (true ∷ ls) x (part m.Close q ∷ []) (nodes_closed h (true ∷ ls))
  branches_closed (Branches.further {keep = keep} a name p q g x y gap h i) ls =
      opened_after ls g _ (run_closed keep false g gap.0 ls) ∙ opened_after (true ∷ ls) x (part m.Close q ∷ y) (nodes_closed h (true ∷ ls)) ∙ branches_closed i ls

  otherwise_closed : {keep : Bool} {x : Parts} {b : Option Branch} {k : ℕ} → Otherwise keep x b k → (ls : List Bool) → opened_by ls x ≡ ls
  otherwise_closed Otherwise.nobody ls = refl
  otherwise_closed (Otherwise.empty {keep = keep} p q g x gap h) ls =
      opened_after ls g _ (run_closed keep false g gap.0 ls) ∙ opened_after (true ∷ ls) x (part m.Close q ∷ []) (nodes_closed h (true ∷ ls))

  cases_closed : {keep : Bool} {x : Parts} {bs : List Branch} {k : ℕ} → Cases keep x bs k → (ls : List Bool) → opened_by ls x ≡ ls
  cases_closed Cases.ended ls = refl
  cases_closed (Cases.between t x e h) ls = ap (λ v. opened_by v x) (between_opens_none t.markup ls e) ∙ cases_closed h ls
  cases_closed (Cases.one a p q x y h i) ls = opened_after (false ∷ ls) x (part m.Close q ∷ y) (nodes_closed h (false ∷ ls)) ∙ cases_closed i ls
  cases_closed (Cases.default p q x y h i) ls = opened_after (false ∷ ls) x (part m.Close q ∷ y) (nodes_closed h (false ∷ ls)) ∙ cases_closed i ls

-- ---- parts on few levels

-- each part that begins an element or a block does so inside of fewer than d
abbrev Room : ℕ → List Bool → Parts → Type 0
Room d ls [] = Unit {0}
Room d ls (t ∷ ts) = (begins t.markup ≡ true → levels ls < d) × Room d (open_after t.markup ls) ts

room_front : (d : ℕ) (ls : List Bool) (x y : Parts) → Room d ls (x ++ y) → Room d ls x
room_front d ls [] y h = tt
room_front d ls (t ∷ x) y h = (h.0, room_front d (open_after t.markup ls) x y h.1)

room_rest : (d : ℕ) (ls : List Bool) (x y : Parts) → Room d ls (x ++ y) → Room d (opened_by ls x) y
room_rest d ls [] y h = h
room_rest d ls (t ∷ x) y h = room_rest d (open_after t.markup ls) x y h.1

-- after parts that end all that they begin
room_after : (d : ℕ) (ls : List Bool) (x y : Parts) → opened_by ls x ≡ ls → Room d ls (x ++ y) → Room d ls y
room_after d ls x y e h = subst (λ v. Room d v y) e (room_rest d ls x y h)

texted_shallow : (d : ℕ) (keep : Bool) (t : Part) (x : Parts) (ms : List TNode) → IsShallow d ms → IsShallow d (texted keep (t ∷ x) ++ ms)
texted_shallow d keep t x ms h = by_bools keep (blank (t ∷ x)) t.place (pieces keep (t ∷ x))
  where
    by_bools : (v w : Bool) (p : Place) (xs : List Piece) → IsShallow d ((if (if v then false else w) then [] else node.Text p xs ∷ []) ++ ms)
    by_bools true w p xs = text_shallow d p xs ms h
    by_bools false true p xs = h
    by_bools false false p xs = text_shallow d p xs ms h

abbrev inside_all : List Branch → List TNode
inside_all bs = flat_map (λ b. b.nodes) bs

-- Nodes that begin where e levels of d are left nest in e levels.
mutual
  nodes_shallow : {keep : Bool} {x : Parts} {ns : List TNode} {k : ℕ} → Nodes keep x ns k → (d e : ℕ) (ls : List Bool) → levels ls + e ≡ d → Room d ls x → IsShallow e ns
  nodes_shallow Nodes.nothing d e ls sum r = no_nodes e
  nodes_shallow (Nodes.comment p x h) d e ls sum r = nodes_shallow h d e ls sum r.1
  nodes_shallow (Nodes.text {keep = keep} {ns = ns} t x y run end h) d e ls sum r =
      texted_shallow e keep t x ns (nodes_shallow h d e ls sum (room_after d ls (t ∷ x) y (run_closed keep false (t ∷ x) run ls) r))
  nodes_shallow (Nodes.single {ns = ns} tag attrs p x h) d e ls sum r =
      level_shallow d (levels ls) e (node.Element p tag attrs []) [] ns sum (r.0 refl) (inner_element p tag attrs []) (λ f less. no_nodes f) (nodes_shallow h d e ls sum r.1)
  nodes_shallow (Nodes.element {ns = ns} {ms = ms} tag attrs p q x y h i) d e ls sum r =
      level_shallow d (levels ls) e (node.Element p tag attrs ns) ns ms sum (r.0 refl) (inner_element p tag attrs ns)
      (λ f less. nodes_shallow h d f (true ∷ ls) less (room_front d (true ∷ ls) x _ r.1))
      (nodes_shallow i d e ls sum (room_after d (true ∷ ls) x (part (m.End tag) q ∷ y) (nodes_closed h (true ∷ ls)) r.1).1)
  nodes_shallow (Nodes.declare {ns = ns} name a p x h) d e ls sum r = let_shallow e p name a ns (nodes_shallow h d e ls sum r.1)
  nodes_shallow (Nodes.when {ns = ns} {bs = bs} {ms = ms} a name p q x y z h i j) d e ls sum r =
      let rest : Room d ls (y ++ z) = (room_after d (true ∷ ls) x (part m.Close q ∷ (y ++ z)) (nodes_closed h (true ∷ ls)) r.1).1 in
      level_shallow d (levels ls) e (node.If p (branch p (Some a) name ns ∷ bs)) (ns ++ inside_all bs) ms sum (r.0 refl) (inner_if p (branch p (Some a) name ns ∷ bs))
      (λ f less. side_by_side f ns (inside_all bs) (nodes_shallow h d f (true ∷ ls) less (room_front d (true ∷ ls) x _ r.1)) (branches_shallow i d f ls less (room_front d ls y z rest)))
      (nodes_shallow j d e ls sum (room_after d ls y z (branches_closed i ls) rest))
  nodes_shallow (Nodes.rows {ns = ns} {b = b} {ms = ms} g p q x y z h i j) d e ls sum r =
      let rest : Room d ls (y ++ z) = (room_after d (true ∷ ls) x (part m.Close q ∷ (y ++ z)) (nodes_closed h (true ∷ ls)) r.1).1 in
      level_shallow d (levels ls) e (node.For p g ns b) (ns ++ optional_nodes b) ms sum (r.0 refl) (inner_for p g ns b)
      (λ f less. side_by_side f ns (optional_nodes b) (nodes_shallow h d f (true ∷ ls) less (room_front d (true ∷ ls) x _ r.1)) (otherwise_shallow i d f ls less (room_front d ls y z rest)))
      (nodes_shallow j d e ls sum (room_after d ls y z (otherwise_closed i ls) rest))
  nodes_shallow (Nodes.switch {bs = bs} {ms = ms} a p q x y h i) d e ls sum r =
      level_shallow d (levels ls) e (node.Switch p a bs) (inside_all bs) ms sum (r.0 refl) (inner_switch p a bs)
      (λ f less. cases_shallow h d f (true ∷ ls) less (room_front d (true ∷ ls) x _ r.1))
      (nodes_shallow i d e ls sum (room_after d (true ∷ ls) x (part m.Close q ∷ y) (cases_closed h (true ∷ ls)) r.1).1)

  -- the further branches of an `@if`, whose nodes are on the level of those of the first
  branches_shallow : {keep : Bool} {x : Parts} {bs : List Branch} {k : ℕ} → Branches keep x bs k → (d e : ℕ) (ls : List Bool) → suc (levels ls) + e ≡ d → Room d ls x → IsShallow e (inside_all bs)
  branches_shallow Branches.done d e ls sum r = no_nodes e
  branches_shallow (Branches.other {keep = keep} {ns = ns} p q g x gap h) d e ls sum r =
      let own : Room d (true ∷ ls) (x ++ part m.Close q ∷ []) = (room_after d ls g _ (run_closed keep false g gap.0 ls) r).1 in
      side_by_side e ns [] (nodes_shallow h d e (true ∷ ls) sum (room_front d (true ∷ ls) x _ own)) (no_nodes e)
  branches_shallow (Branches.further {keep = keep} {ns = ns} {bs = bs} a name p q g x y gap h i) d e ls sum r =
      let own : Room d (true ∷ ls) (x ++ part m.Close q ∷ y) = (room_after d ls g _ (run_closed keep false g gap.0 ls) r).1 in
      side_by_side e ns (inside_all bs) (nodes_shallow h d e (true ∷ ls) sum (room_front d (true ∷ ls) x _ own))
      (branches_shallow i d e ls sum (room_after d (true ∷ ls) x (part m.Close q ∷ y) (nodes_closed h (true ∷ ls)) own).1)

  otherwise_shallow : {keep : Bool} {x : Parts} {b : Option Branch} {k : ℕ} → Otherwise keep x b k → (d e : ℕ) (ls : List Bool) → suc (levels ls) + e ≡ d → Room d ls x → IsShallow e (optional_nodes b)
  otherwise_shallow Otherwise.nobody d e ls sum r = no_nodes e
  otherwise_shallow (Otherwise.empty {keep = keep} p q g x gap h) d e ls sum r =
      let own : Room d (true ∷ ls) (x ++ part m.Close q ∷ []) = (room_after d ls g _ (run_closed keep false g gap.0 ls) r).1 in
      nodes_shallow h d e (true ∷ ls) sum (room_front d (true ∷ ls) x _ own)

  cases_shallow : {keep : Bool} {x : Parts} {bs : List Branch} {k : ℕ} → Cases keep x bs k → (d e : ℕ) (ls : List Bool) → levels ls + e ≡ d → Room d ls x → IsShallow e (inside_all bs)
  cases_shallow Cases.ended d e ls sum r = no_nodes e
  cases_shallow (Cases.between t x b h) d e ls sum r = cases_shallow h d e ls sum (subst (λ v. Room d v x) (between_opens_none t.markup ls b) r.1)
  cases_shallow (Cases.one {ns = ns} {bs = bs} a p q x y h i) d e ls sum r =
      side_by_side e ns (inside_all bs) (nodes_shallow h d e (false ∷ ls) sum (room_front d (false ∷ ls) x _ r.1))
      (cases_shallow i d e ls sum (room_after d (false ∷ ls) x (part m.Close q ∷ y) (nodes_closed h (false ∷ ls)) r.1).1)
  cases_shallow (Cases.default {ns = ns} {bs = bs} p q x y h i) d e ls sum r =
      side_by_side e ns (inside_all bs) (nodes_shallow h d e (false ∷ ls) sum (room_front d (false ∷ ls) x _ r.1))
      (cases_shallow i d e ls sum (room_after d (false ∷ ls) x (part m.Close q ∷ y) (nodes_closed h (false ∷ ls)) r.1).1)

-- ---- parts that pass no limit

-- each front of parts that are nodes is begun
not_deep : (d n : ℕ) (ts : Parts) (ns : List TNode) → ReadsNodes ts ns → (Over d n ts → ⊥) → (front : Parts) (t : Part) (more : Parts) → ts ≡ front ++ t ∷ more → begins t.markup ≡ true → levels (opened_by [] front) < d
not_deep d n ts ns h few front t more all b = by_bool (nat_lt (levels (opened_by [] front)) d) refl
  where
    by_bool : (v : Bool) → nat_lt (levels (opened_by [] front)) d ≡ v → levels (opened_by [] front) < d
    by_bool true e = grind arith
    by_bool false e =
        let full : d ≤ levels (opened_by [] front) = grind arith in
        absurd (few (Over.deep front t more all ((more, ns, subst (λ z. ReadsNodes z ns) (all ∙ sym (append_assoc front (t ∷ []) more)) h), b, full)))

room_from : (d n : ℕ) (ts : Parts) (ns : List TNode) → ReadsNodes ts ns → (Over d n ts → ⊥) → (front rest : Parts) → ts ≡ front ++ rest → Room d (opened_by [] front) rest
room_from d n ts ns h few front [] all = tt
room_from d n ts ns h few front (t ∷ more) all = (
  not_deep d n ts ns h few front t more all,
  subst (λ v. Room d v more) (opened_append [] front (t ∷ [])) (room_from d n ts ns h few (front ++ t ∷ []) more (all ∙ sym (append_assoc front (t ∷ []) more))),
)

-- ---- the law
pub shallow : (d n : ℕ) (ts : Parts) (ns : List TNode) → ReadsNodes ts ns → (Over d n ts → ⊥) → IsShallow d ns
shallow d n ts ns h few = nodes_shallow h.1 d d [] (omega arith) (room_from d n ts ns h few [] ts refl)
