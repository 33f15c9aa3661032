-- The number of nodes only grows.
use Rattle.std.proofs.Common.{◌≡◌, ℕ, ◌+◌, ◌≤◌, List, [], ◌∷◌, ◌++◌, length, refl, ap, arith}
use Rattle.std.specs.Prelude.{Bool, true, false, Option, Some, None, Result, Ok, Err, if◌then◌else◌}
use Rattle.ng_ast.specs.declared.Place.{Place}
use Rattle.ng_ast.specs.declared.Expr.{Expr}
use Rattle.ng_ast.specs.declared.Branch.{Branch}
use Rattle.ng_ast.specs.declared.Piece.{Piece}
use Rattle.ng_ast.specs.declared.Piece.TheVariants as piece
use Rattle.ng_ast.specs.declared.TNode.{TNode}
use Rattle.ng_ast.specs.declared.TNode.TheVariants as node
use Rattle.ng_lex.specs.declared.markup.Shape.{Shape}
use Rattle.ng_lex.specs.declared.markup.Shape.TheVariants as shaped
use Rattle.ng_lex.specs.declared.markup.Markup.{Markup}
use Rattle.ng_lex.specs.declared.markup.Markup.TheVariants as m
use Rattle.ng_lex.specs.declared.markup.Part.{Part}
use Rattle.ng_nodes.specs.declared.state.Opener.{Opener}
use Rattle.ng_nodes.specs.declared.state.Opener.TheVariants as op
use Rattle.ng_nodes.specs.declared.state.Waiting.{Waiting}
use Rattle.ng_nodes.specs.declared.state.Waiting.TheVariants as wt
use Rattle.ng_nodes.specs.declared.state.Run.{Run}
use Rattle.ng_nodes.specs.declared.state.Frame.{Frame}
use Rattle.ng_nodes.specs.declared.state.State.{State}
use Rattle.ng_nodes.specs.Texts.{Text, Parts, text_of, is_piece, all_blank, same}
use Rattle.ng_nodes.specs.Grammar.{branch}
use Rattle.ng_nodes.specs.Machine.{Stop, Syntax, and_then, is_after_literal, is_gap, joined, shown_run, settle, branch_of, empty_of, heavy_else_if, ended_node, ended_to, ended_branch, end_tag, end_block, end_switch, case_of, stands, is_switch, between, arrive}
use Rattle.ng_nodes.proofs.Free.{ended, free}
use Rattle.ng_nodes.proofs.Sound.{Reads, Was, arrived, reads_no_run}

-- Whether a text is begun that is a node whatever follows it. One that is white space alone may stand before a further branch of a block, and then it is none, even where white space is kept.
abbrev pub text_count : Option Run → ℕ
text_count None = 0
text_count (Some r) = if r.blank then 0 else 1

-- the nodes that are begun
abbrev pub count_of : State → ℕ
count_of st = st.made + text_count st.run

abbrev Grows : ℕ → Result State Stop → Type 0
Grows n (Ok st) = n ≤ count_of st
Grows n (Err e) = Unit {0}

grows_if : (n : ℕ) (v : Bool) (x y : Result State Stop) → (v ≡ true → Grows n x) → Grows n y → Grows n (if v then x else y)
grows_if n true x y h i = h refl
grows_if n false x y h i = i

grows_ended_node : (fs : List Frame) (t : TNode) (n : ℕ) → Grows n (ended_node fs t n)
grows_ended_node [] t n = tt
grows_ended_node (f ∷ fs) t n = omega arith

grows_ended_to : (fs : List Frame) (w : Waiting) (n : ℕ) → Grows n (ended_to fs w n)
grows_ended_to [] w n = tt
grows_ended_to (f ∷ fs) w n = omega arith

grows_ended_branch : (test : Option Expr) (fs : List Frame) (p : Place) (bs : List Branch) (n : ℕ) → Grows n (ended_branch test fs p bs n)
grows_ended_branch (Some a) fs p bs n = grows_ended_to fs (wt.If p bs) n
grows_ended_branch None fs p bs n = grows_ended_node fs (node.If p bs) n

grows_end_tag : (tag : Text) (fs : List Frame) (o : Opener) (ns : List TNode) (n : ℕ) → Grows n (end_tag tag fs o ns n)
grows_end_tag tag fs (op.Tag p mark attrs) ns n = grows_if n (same mark tag) _ (Err Syntax) (λ e. grows_ended_node fs (node.Element p mark attrs ns) n) tt
grows_end_tag tag fs _ ns n = tt

grows_end_block : (fs : List Frame) (o : Opener) (keep : Bool) (ns : List TNode) (n : ℕ) → Grows n (end_block fs o keep ns n)
grows_end_block fs (op.If p bs q test name) keep ns n = grows_ended_branch test fs p (bs ++ branch q test name ns ∷ []) n
grows_end_block fs (op.For p h) keep ns n = grows_ended_to fs (wt.For p h ns) n
grows_end_block fs (op.Empty p h rows q) keep ns n = grows_ended_node fs (node.For p h rows (Some (branch q None None ns))) n
grows_end_block fs (op.Case p a bs q test) keep ns n = omega arith
grows_end_block fs _ keep ns n = tt

grows_end_switch : (fs : List Frame) (o : Opener) (n : ℕ) → Grows n (end_switch fs o n)
grows_end_switch fs (op.Switch p a bs) n = grows_ended_node fs (node.Switch p a bs) n
grows_end_switch fs _ n = tt

grows_case : (o : Opener) (test : Option Expr) (q : Place) (st : State) → Grows st.made (case_of o test q st)
grows_case (op.Switch p a bs) test q st = omega arith
grows_case _ test q st = tt

-- a text that goes on is a node where it was one
text_more : (u : Option Run) (p : Place) (x : Piece) (l b : Bool) → text_count u ≤ text_count (Some (joined u p x l b))
text_more None p x l b = omega arith
text_more (Some r) p x l b = by_bool r.blank
  where
    by_bool : (v : Bool) → (if v then 0 else 1) ≤ (if (if v then b else false) then 0 else 1)
    by_bool true = omega arith
    by_bool false = omega arith

-- where it ends it is a node
text_shown : (keep : Bool) (u : Option Run) → text_count u ≤ length (shown_run keep u)
text_shown keep None = omega arith
text_shown keep (Some r) = by_bools keep r.blank (node.Text r.place r.pieces)
  where
    by_bools : (v w : Bool) (n : TNode) → (if w then 0 else 1) ≤ length (if (if v then false else w) then [] else n ∷ [])
    by_bools true true n = omega arith
    by_bools true false n = omega arith
    by_bools false true n = omega arith
    by_bools false false n = omega arith

-- and where white space isn't kept it is one only then
pub text_shown_out : (u : Option Run) → length (shown_run false u) ≤ text_count u
text_shown_out None = omega arith
text_shown_out (Some r) = by_bool r.blank (node.Text r.place r.pieces)
  where
    by_bool : (w : Bool) (n : TNode) → length (if w then [] else n ∷ []) ≤ (if w then 0 else 1)
    by_bool true n = omega arith
    by_bool false n = omega arith

gap_count : (u : Option Run) → is_gap u ≡ true → text_count u ≡ 0
gap_count None e = refl
gap_count (Some r) e = ap (λ v. if v then 0 else 1) e

grows_branch_of : (w : Waiting) (test : Option Expr) (name : Option Text) (q : Place) (st : State) (n : ℕ) → n ≤ st.made → Grows n (branch_of w test name q st)
grows_branch_of wt.Nobody test name q st n e = tt
grows_branch_of (wt.If p bs) test name q st n e = omega arith
grows_branch_of (wt.For p h rows) test name q st n e = tt

grows_empty : (w : Waiting) (q : Place) (st : State) (n : ℕ) → n ≤ st.made → Grows n (empty_of w q st)
grows_empty wt.Nobody q st n e = tt
grows_empty (wt.If p bs) q st n e = tt
grows_empty (wt.For p h rows) q st n e = omega arith

-- from where a text is settled
more_than : (n k : ℕ) (r : Result State Stop) → n ≤ k → Grows k r → Grows n r
more_than n k (Ok st) e h = omega arith
more_than n k (Err s) e h = tt

settled_more : (st : State) → count_of st ≤ (settle st).made
settled_more st = omega (arith, text_shown st.keep st.run)

grows_heavy : (shape : Shape) (q : Place) (st : State) → Grows (count_of st) (stands true (m.Heavy shape) q st)
grows_heavy shaped.ElseIf q st = by_bool (is_gap st.run) st.waiting
  where
    by_bool : (v : Bool) (w : Waiting) → Grows (count_of st) (if v then heavy_else_if w else Err Syntax)
    by_bool false w = tt
    by_bool true wt.Nobody = tt
    by_bool true (wt.If p bs) = tt
    by_bool true (wt.For p h rows) = tt
grows_heavy _ q st = tt

grows_stands : (c : Markup) (q : Place) (st : State) → Grows (count_of st) (stands true c q st)
grows_stands (m.Literal cs) q st = grows_if (count_of st) (if is_after_literal st.run then false else is_piece st.keep cs) _ (Err Syntax) (λ e. omega (arith, text_more st.run q (piece.Text (text_of st.keep cs)) true (all_blank cs))) tt
grows_stands (m.Interpolation a) q st = omega (arith, text_more st.run q (piece.Value q a) false false)
grows_stands m.Else q st = grows_if (count_of st) (is_gap st.run) _ (Err Syntax) (λ e. grows_branch_of st.waiting None None q st _ (omega (arith, gap_count st.run e))) tt
grows_stands (m.ElseIf a name) q st = grows_if (count_of st) (is_gap st.run) _ (Err Syntax) (λ e. grows_branch_of st.waiting (Some a) name q st _ (omega (arith, gap_count st.run e))) tt
grows_stands m.Empty q st = grows_if (count_of st) (is_gap st.run) _ (Err Syntax) (λ e. grows_empty st.waiting q st _ (omega (arith, gap_count st.run e))) tt
grows_stands m.Comment q st = omega (arith, settled_more st)
grows_stands (m.Single tag attrs) q st = omega (arith, settled_more st)
grows_stands (m.Let name a) q st = omega (arith, settled_more st)
grows_stands (m.Start tag attrs) q st = omega (arith, settled_more st)
grows_stands (m.If a name) q st = omega (arith, settled_more st)
grows_stands (m.For h) q st = omega (arith, settled_more st)
grows_stands (m.Switch a) q st = omega (arith, settled_more st)
grows_stands (m.End tag) q st = more_than _ _ _ (settled_more st) (grows_end_tag tag st.outer st.opener _ (settle st).made)
grows_stands m.Close q st = more_than _ _ _ (settled_more st) (grows_end_block st.outer st.opener st.keep _ (settle st).made)
grows_stands (m.Heavy shape) q st = grows_heavy shape q st
grows_stands _ q st = tt

-- between the cases of a `@switch` no text is begun
grows_between : (c : Markup) (q : Place) (st : State) → st.run ≡ None → Grows (count_of st) (between c q st)
grows_between (m.Literal cs) q st e = grows_if (count_of st) (all_blank cs) (Ok st) (Err Syntax) (λ f. omega arith) tt
grows_between m.Comment q st e = omega arith
grows_between (m.Case a) q st e = more_than _ _ _ (omega (arith, ap text_count e)) (grows_case st.opener (Some a) q st)
grows_between m.Default q st e = more_than _ _ _ (omega (arith, ap text_count e)) (grows_case st.opener None q st)
grows_between m.Close q st e = more_than _ _ _ (omega (arith, ap text_count e)) (grows_end_switch st.outer st.opener st.made)
grows_between (m.Heavy shape) q st e = by_shape shape
  where
    by_shape : (shape : Shape) → Grows (count_of st) (between (m.Heavy shape) q st)
    by_shape shaped.Case = tt
    by_shape _ = tt
grows_between _ q st e = tt

grows_arrive : (c : Markup) (q : Place) (st : State) → (is_switch st.opener ≡ true → st.run ≡ None) → Grows (count_of st) (arrive true c q st)
grows_arrive c q st h = by_bool (is_switch st.opener) refl
  where
    by_bool : (v : Bool) → is_switch st.opener ≡ v → Grows (count_of st) (if v then between c q st else stands true c q st)
    by_bool true e = grows_between c q st (h e)
    by_bool false e = grows_stands c q st

grows_end : (fs : List Frame) (st : State) (n : ℕ) (out : List TNode × ℕ) → n ≤ st.made → ended fs st ≡ Ok out → n ≤ out.1
grows_end [] st n out less e = let same : (st.nodes, st.made) ≡ out = cc in omega (arith, ap (λ p. p.1) same)
grows_end (f ∷ fs) st n out less e = absurd cc

grows_then : (front : Parts) (t : Part) (ts : Parts) (n : ℕ) (out : List TNode × ℕ) (r : Result State Stop) → Grows n r → Was front t r
    → ((next : State) → Reads next (front ++ t ∷ []) → free next ts ≡ Ok out → count_of next ≤ out.1) → and_then r (λ next. free next ts) ≡ Ok out → n ≤ out.1
grows_then front t ts n out (Ok next) h w go e = let more : count_of next ≤ out.1 = go next w e in omega arith
grows_then front t ts n out (Err s) h w go e = absurd cc

-- the nodes that are begun are among those of the whole
pub grows : (ts : Parts) (st : State) (front : Parts) (out : List TNode × ℕ) → Reads st front → free st ts ≡ Ok out → count_of st ≤ out.1
unfolding free
grows [] st front out h e = grows_end st.outer (settle st) (count_of st) out (settled_more st) e
grows (t ∷ ts) st front out h e = grows_then front t ts (count_of st) out (arrive true t.markup t.place st) (grows_arrive t.markup t.place st (reads_no_run st front h)) (arrived st front t.markup t.place h)
    (λ next w f. grows ts next (front ++ t ∷ []) out w f) e
