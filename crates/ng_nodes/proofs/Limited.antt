-- What the machine does with limits is what it does without them, but where a limit is passed.
use Rattle.std.proofs.Common.{◌≡◌, ℕ, ◌+◌, List, [], ◌∷◌, ◌++◌, refl, sym, subst, inl, inr}
use Rattle.std.specs.Prelude.{Bool, true, false, ◌⊎◌, Option, Some, None, Result, Ok, Err, if◌then◌else◌}
use Rattle.ng_ast.specs.declared.Place.{Place}
use Rattle.ng_ast.specs.declared.Expr.{Expr}
use Rattle.ng_ast.specs.declared.Branch.{Branch}
use Rattle.ng_ast.specs.declared.TNode.{TNode}
use Rattle.ng_ast.specs.declared.TNode.TheVariants as node
use Rattle.ng_lex.specs.declared.markup.Shape.{Shape}
use Rattle.ng_lex.specs.declared.markup.Shape.TheVariants as shaped
use Rattle.ng_lex.specs.declared.markup.Markup.{Markup}
use Rattle.ng_lex.specs.declared.markup.Markup.TheVariants as m
use Rattle.ng_nodes.specs.declared.state.Opener.{Opener}
use Rattle.ng_nodes.specs.declared.state.Opener.TheVariants as op
use Rattle.ng_nodes.specs.declared.state.Waiting.{Waiting}
use Rattle.ng_nodes.specs.declared.state.Waiting.TheVariants as wt
use Rattle.ng_nodes.specs.declared.state.Frame.{Frame}
use Rattle.ng_nodes.specs.declared.state.State.{State}
use Rattle.ng_nodes.specs.Texts.{Text, part, is_piece, all_blank, same}
use Rattle.ng_nodes.specs.Grammar.{branch}
use Rattle.ng_nodes.specs.Machine.{Stop, Syntax, Limit, is_after_literal, is_gap, branch_of, empty_of, heavy_else_if, ended_node, ended_to, ended_branch, end_tag, end_block, end_switch, case_of, stands, is_switch, between, arrive}
use Rattle.ng_nodes.specs.Limits.{begins, HasShape, MayBe, is_heavy}

-- The second answer is the first one without limits, at a part that the first one's may be. At a limit the machine would go on.
abbrev pub Fits : Bool → Markup → Result State Stop → Result State Stop → Type 0
Fits room d (Ok next) r = r ≡ Ok next
Fits room d (Err Syntax) r = r ≡ Err Syntax
Fits room d (Err Limit) r = ((next : State) × (r ≡ Ok next)) × ((is_heavy d ≡ true) ⊎ ((begins d ≡ true) × (room ≡ false)))

fits_if : (room : Bool) (d : Markup) (v : Bool) (x y : Result State Stop) → Fits room d x x → Fits room d y y → Fits room d (if v then x else y) (if v then x else y)
fits_if room d true x y h i = h
fits_if room d false x y h i = i

fits_room : (room : Bool) (d : Markup) (next : State) → begins d ≡ true → Fits room d (if room then Ok next else Err Limit) (Ok next)
fits_room true d next e = refl
fits_room false d next e = ((next, refl), inr (e, refl))

fits_ended_node : (room : Bool) (d : Markup) (fs : List Frame) (t : TNode) (n : ℕ) → Fits room d (ended_node fs t n) (ended_node fs t n)
fits_ended_node room d [] t n = refl
fits_ended_node room d (f ∷ fs) t n = refl

fits_ended_to : (room : Bool) (d : Markup) (fs : List Frame) (w : Waiting) (n : ℕ) → Fits room d (ended_to fs w n) (ended_to fs w n)
fits_ended_to room d [] w n = refl
fits_ended_to room d (f ∷ fs) w n = refl

fits_ended_branch : (room : Bool) (d : Markup) (test : Option Expr) (fs : List Frame) (p : Place) (bs : List Branch) (n : ℕ) → Fits room d (ended_branch test fs p bs n) (ended_branch test fs p bs n)
fits_ended_branch room d (Some a) fs p bs n = fits_ended_to room d fs (wt.If p bs) n
fits_ended_branch room d None fs p bs n = fits_ended_node room d fs (node.If p bs) n

fits_end_tag : (room : Bool) (d : Markup) (tag : Text) (fs : List Frame) (o : Opener) (ns : List TNode) (n : ℕ) → Fits room d (end_tag tag fs o ns n) (end_tag tag fs o ns n)
fits_end_tag room d tag fs (op.Tag p mark attrs) ns n = fits_if room d (same mark tag) _ (Err Syntax) (fits_ended_node room d fs (node.Element p mark attrs ns) n) refl
fits_end_tag room d tag fs _ ns n = refl

fits_end_block : (room : Bool) (d : Markup) (fs : List Frame) (o : Opener) (keep : Bool) (ns : List TNode) (n : ℕ) → Fits room d (end_block fs o keep ns n) (end_block fs o keep ns n)
fits_end_block room d fs (op.If p bs q test name) keep ns n = fits_ended_branch room d test fs p (bs ++ branch q test name ns ∷ []) n
fits_end_block room d fs (op.For p h) keep ns n = fits_ended_to room d fs (wt.For p h ns) n
fits_end_block room d fs (op.Empty p h rows q) keep ns n = fits_ended_node room d fs (node.For p h rows (Some (branch q None None ns))) n
fits_end_block room d fs (op.Case p a bs q test) keep ns n = refl
fits_end_block room d fs _ keep ns n = refl

fits_end_switch : (room : Bool) (d : Markup) (fs : List Frame) (o : Opener) (n : ℕ) → Fits room d (end_switch fs o n) (end_switch fs o n)
fits_end_switch room d fs (op.Switch p a bs) n = fits_ended_node room d fs (node.Switch p a bs) n
fits_end_switch room d fs _ n = refl

fits_case : (room : Bool) (d : Markup) (o : Opener) (test : Option Expr) (q : Place) (st : State) → Fits room d (case_of o test q st) (case_of o test q st)
fits_case room d (op.Switch p a bs) test q st = refl
fits_case room d _ test q st = refl

fits_branch : (room : Bool) (d : Markup) (w : Waiting) (test : Option Expr) (name : Option Text) (q : Place) (st : State) → Fits room d (branch_of w test name q st) (branch_of w test name q st)
fits_branch room d wt.Nobody test name q st = refl
fits_branch room d (wt.If p bs) test name q st = refl
fits_branch room d (wt.For p h rows) test name q st = refl

fits_empty : (room : Bool) (d : Markup) (w : Waiting) (q : Place) (st : State) → Fits room d (empty_of w q st) (empty_of w q st)
fits_empty room d wt.Nobody q st = refl
fits_empty room d (wt.If p bs) q st = refl
fits_empty room d (wt.For p h rows) q st = refl

-- a part that isn't heavy, where a node may stand
stands_fits : (room : Bool) (d : Markup) (q : Place) (st : State) → is_heavy d ≡ false → Fits room d (stands room d q st) (stands true d q st)
stands_fits room (m.Literal cs) q st e = fits_if room (m.Literal cs) (if is_after_literal st.run then false else is_piece st.keep cs) _ (Err Syntax) refl refl
stands_fits room (m.Interpolation a) q st e = refl
stands_fits room m.Comment q st e = refl
stands_fits room (m.Single tag attrs) q st e = fits_room room (m.Single tag attrs) _ refl
stands_fits room (m.Start tag attrs) q st e = fits_room room (m.Start tag attrs) _ refl
stands_fits room (m.End tag) q st e = fits_end_tag room (m.End tag) tag st.outer st.opener _ _
stands_fits room (m.If a name) q st e = fits_room room (m.If a name) _ refl
stands_fits room (m.ElseIf a name) q st e = fits_if room (m.ElseIf a name) (is_gap st.run) _ (Err Syntax) (fits_branch room (m.ElseIf a name) st.waiting (Some a) name q st) refl
stands_fits room m.Else q st e = fits_if room m.Else (is_gap st.run) _ (Err Syntax) (fits_branch room m.Else st.waiting None None q st) refl
stands_fits room (m.For h) q st e = fits_room room (m.For h) _ refl
stands_fits room m.Empty q st e = fits_if room m.Empty (is_gap st.run) _ (Err Syntax) (fits_empty room m.Empty st.waiting q st) refl
stands_fits room (m.Switch a) q st e = fits_room room (m.Switch a) _ refl
stands_fits room (m.Case a) q st e = refl
stands_fits room m.Default q st e = refl
stands_fits room (m.Let name a) q st e = refl
stands_fits room m.Close q st e = fits_end_block room m.Close st.outer st.opener st.keep _ _
stands_fits room (m.Heavy shape) q st e = absurd cc

-- what a heavy part stands for goes on where it passes a limit
abbrev Would : Result State Stop → Type 0
Would r = ((next : State) × (r ≡ Ok next))

fits_heavy : (room : Bool) (shape : Shape) (r : Result State Stop) → Would r → Fits room (m.Heavy shape) (Err Limit) r
fits_heavy room shape r h = (h, inl refl)

heavy_else_if_fits : (room v : Bool) (w : Waiting) (a : Expr) (name : Option Text) (q : Place) (st : State)
    → Fits room (m.Heavy shaped.ElseIf) (if v then heavy_else_if w else Err Syntax) (if v then branch_of w (Some a) name q st else Err Syntax)
heavy_else_if_fits room false w a name q st = refl
heavy_else_if_fits room true wt.Nobody a name q st = refl
heavy_else_if_fits room true (wt.If p bs) a name q st = fits_heavy room shaped.ElseIf _ (_, refl)
heavy_else_if_fits room true (wt.For p h rows) a name q st = refl

-- a heavy part, where a node may stand
stands_heavy : (room : Bool) (shape : Shape) (c : Markup) (q : Place) (st : State) → HasShape shape c → Fits room (m.Heavy shape) (stands room (m.Heavy shape) q st) (stands true c q st)
stands_heavy room shaped.Interpolation (m.Interpolation a) q st h = fits_heavy room shaped.Interpolation _ (_, refl)
stands_heavy room shaped.Interpolation _ q st h = absurd h
stands_heavy room shaped.Tag (m.Single tag attrs) q st h = fits_heavy room shaped.Tag _ (_, refl)
stands_heavy room shaped.Tag (m.Start tag attrs) q st h = fits_heavy room shaped.Tag _ (_, refl)
stands_heavy room shaped.Tag _ q st h = absurd h
stands_heavy room shaped.If (m.If a name) q st h = fits_heavy room shaped.If _ (_, refl)
stands_heavy room shaped.If _ q st h = absurd h
stands_heavy room shaped.ElseIf (m.ElseIf a name) q st h = heavy_else_if_fits room (is_gap st.run) st.waiting a name q st
stands_heavy room shaped.ElseIf _ q st h = absurd h
stands_heavy room shaped.For (m.For f) q st h = fits_heavy room shaped.For _ (_, refl)
stands_heavy room shaped.For _ q st h = absurd h
stands_heavy room shaped.Switch (m.Switch a) q st h = fits_heavy room shaped.Switch _ (_, refl)
stands_heavy room shaped.Switch _ q st h = absurd h
stands_heavy room shaped.Case (m.Case a) q st h = refl
stands_heavy room shaped.Case _ q st h = absurd h
stands_heavy room shaped.Let (m.Let name a) q st h = fits_heavy room shaped.Let _ (_, refl)
stands_heavy room shaped.Let _ q st h = absurd h

-- a part that isn't heavy, between the cases of a `@switch`
between_fits : (room : Bool) (d : Markup) (q : Place) (st : State) → is_heavy d ≡ false → Fits room d (between d q st) (between d q st)
between_fits room (m.Literal cs) q st e = fits_if room (m.Literal cs) (all_blank cs) (Ok st) (Err Syntax) refl refl
between_fits room m.Comment q st e = refl
between_fits room (m.Case a) q st e = fits_case room (m.Case a) st.opener (Some a) q st
between_fits room m.Default q st e = fits_case room m.Default st.opener None q st
between_fits room m.Close q st e = fits_end_switch room m.Close st.outer st.opener st.made
between_fits room (m.Heavy shape) q st e = absurd cc
between_fits room _ q st e = refl

would_case : (o : Opener) (test : Option Expr) (q : Place) (st : State) → is_switch o ≡ true → Would (case_of o test q st)
would_case (op.Switch p a bs) test q st e = (_, refl)
would_case _ test q st e = absurd cc

-- a heavy part there
between_heavy : (room : Bool) (shape : Shape) (c : Markup) (q : Place) (st : State) → is_switch st.opener ≡ true → HasShape shape c → Fits room (m.Heavy shape) (between (m.Heavy shape) q st) (between c q st)
between_heavy room shaped.Interpolation (m.Interpolation b) q st e h = refl
between_heavy room shaped.Interpolation _ q st e h = absurd h
between_heavy room shaped.Tag (m.Single tag attrs) q st e h = refl
between_heavy room shaped.Tag (m.Start tag attrs) q st e h = refl
between_heavy room shaped.Tag _ q st e h = absurd h
between_heavy room shaped.If (m.If b name) q st e h = refl
between_heavy room shaped.If _ q st e h = absurd h
between_heavy room shaped.ElseIf (m.ElseIf b name) q st e h = refl
between_heavy room shaped.ElseIf _ q st e h = absurd h
between_heavy room shaped.For (m.For f) q st e h = refl
between_heavy room shaped.For _ q st e h = absurd h
between_heavy room shaped.Switch (m.Switch b) q st e h = refl
between_heavy room shaped.Switch _ q st e h = absurd h
between_heavy room shaped.Case (m.Case b) q st e h = fits_heavy room shaped.Case _ (would_case st.opener (Some b) q st e)
between_heavy room shaped.Case _ q st e h = absurd h
between_heavy room shaped.Let (m.Let name b) q st e h = refl
between_heavy room shaped.Let _ q st e h = absurd h

same_part : (d c : Markup) → is_heavy d ≡ false → MayBe d c → c ≡ d
same_part (m.Heavy shape) c e h = absurd cc
same_part _ c e h = h

-- a part and one that it may be
pub fits : (room : Bool) (d c : Markup) (q : Place) (st : State) → MayBe d c → Fits room d (arrive room d q st) (arrive true c q st)
fits room (m.Heavy shape) c q st h = by_bool (is_switch st.opener) refl
  where
    by_bool : (v : Bool) → is_switch st.opener ≡ v → Fits room (m.Heavy shape) (if v then between (m.Heavy shape) q st else stands room (m.Heavy shape) q st) (if v then between c q st else stands true c q st)
    by_bool true e = between_heavy room shape c q st e h
    by_bool false e = stands_heavy room shape c q st h
fits room d c q st h = subst (λ z. Fits room d (arrive room d q st) (arrive true z q st)) (sym (same_part d c refl h)) (by_bool (is_switch st.opener))
  where
    by_bool : (v : Bool) → Fits room d (if v then between d q st else stands room d q st) (if v then between d q st else stands true d q st)
    by_bool true = between_fits room d q st refl
    by_bool false = stands_fits room d q st refl

-- a heavy part is never read
heavy_stops : (room : Bool) (shape : Shape) (q : Place) (st next : State) → (v : Bool) → (if v then between (m.Heavy shape) q st else stands room (m.Heavy shape) q st) ≡ Ok next → is_heavy (m.Heavy shape) ≡ false
heavy_stops room shaped.Case q st next true e = absurd cc
heavy_stops room _ q st next true e = absurd cc
heavy_stops room shaped.ElseIf q st next false e = by_bool (is_gap st.run) st.waiting e
  where
    by_bool : (v : Bool) (w : Waiting) → (if v then heavy_else_if w else Err Syntax) ≡ Ok next → is_heavy (m.Heavy shaped.ElseIf) ≡ false
    by_bool false w e = absurd cc
    by_bool true wt.Nobody e = absurd cc
    by_bool true (wt.If p bs) e = absurd cc
    by_bool true (wt.For p h rows) e = absurd cc
heavy_stops room _ q st next false e = absurd cc

pub read_light : (room : Bool) (c : Markup) (q : Place) (st next : State) → arrive room c q st ≡ Ok next → is_heavy c ≡ false
read_light room (m.Heavy shape) q st next e = heavy_stops room shape q st next (is_switch st.opener) e
read_light room _ q st next e = refl

-- a part that isn't heavy may be itself
pub may_be_itself : (c : Markup) → is_heavy c ≡ false → MayBe c c
may_be_itself (m.Heavy shape) e = absurd cc
may_be_itself _ e = refl

pub may_be_same : (d c : Markup) → is_heavy d ≡ false → MayBe d c → c ≡ d
may_be_same d c e h = same_part d c e h

between_begins : (c : Markup) (q : Place) (st next : State) → begins c ≡ true → between c q st ≡ Ok next → ⊥
between_begins (m.Start tag attrs) q st next e f = cc
between_begins (m.Single tag attrs) q st next e f = cc
between_begins (m.If b name) q st next e f = cc
between_begins (m.For h) q st next e f = cc
between_begins (m.Switch b) q st next e f = cc
between_begins _ q st next e f = cc

stands_begins : (c : Markup) (q : Place) (st next : State) → begins c ≡ true → stands false c q st ≡ Ok next → ⊥
stands_begins (m.Start tag attrs) q st next e f = cc
stands_begins (m.Single tag attrs) q st next e f = cc
stands_begins (m.If b name) q st next e f = cc
stands_begins (m.For h) q st next e f = cc
stands_begins (m.Switch b) q st next e f = cc
stands_begins _ q st next e f = cc

-- without room no element and no block begins
pub no_room : (c : Markup) (q : Place) (st next : State) → begins c ≡ true → arrive false c q st ≡ Ok next → ⊥
no_room c q st next e f = by_bool (is_switch st.opener) f
  where
    by_bool : (v : Bool) → (if v then between c q st else stands false c q st) ≡ Ok next → ⊥
    by_bool true f = between_begins c q st next e f
    by_bool false f = stands_begins c q st next e f
