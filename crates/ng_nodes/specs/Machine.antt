-- The grammar as a machine that takes one part after another. Its frames are the elements and blocks that are begun and not ended.
use Rattle.std.specs.Prelude.{ℕ, suc, ◌+◌, nat_lt, Bool, true, false, ◌||◌, if◌then◌else◌, List, [], ◌∷◌, ◌++◌, length, Option, Some, None, Result, Ok, Err}
use Rattle.ng_ast.specs.declared.Place.{Place}
use Rattle.ng_ast.specs.declared.Expr.{Expr}
use Rattle.ng_ast.specs.declared.Piece.{Piece}
use Rattle.ng_ast.specs.declared.Piece.TheVariants as piece
use Rattle.ng_ast.specs.declared.Branch.{Branch}
use Rattle.ng_ast.specs.declared.TNode.{TNode}
use Rattle.ng_ast.specs.declared.TNode.TheVariants as node
use Rattle.ng_lex.specs.declared.markup.Letter.{Letter}
use Rattle.ng_lex.specs.declared.markup.Shape.TheVariants as shaped
use Rattle.ng_lex.specs.declared.markup.Markup.{Markup}
use Rattle.ng_lex.specs.declared.markup.Markup.TheVariants as m
use Rattle.ng_lex.specs.declared.markup.Part.{Part}
use Rattle.ng_nodes.specs.declared.state.Opener.{Opener}
use Rattle.ng_nodes.specs.declared.state.Opener.TheVariants as op
use Rattle.ng_nodes.specs.declared.state.Waiting.{Waiting}
use Rattle.ng_nodes.specs.declared.state.Waiting.TheVariants as wt
use Rattle.ng_nodes.specs.declared.state.Run.{Run}
use Rattle.ng_nodes.specs.declared.state.Frame.{Frame}
use Rattle.ng_nodes.specs.declared.state.State.{State}
use Rattle.ng_nodes.specs.Texts.{Text, Parts, text_of, is_piece, all_blank, same, keeps}
use Rattle.ng_nodes.specs.Grammar.{branch}

-- why the machine stops
pub data Stop : Type 0 where
  Syntax : Stop
  Limit : Stop

abbrev pub and_then : {A B : Type 0} → Result A Stop → (A → Result B Stop) → Result B Stop
and_then (Ok a) f = f a
and_then (Err e) f = Err e

abbrev pub at : List Frame → Opener → Bool → List TNode → Waiting → Option Run → ℕ → State
at fs o keep ns w r n = record { outer = fs; opener = o; keep = keep; nodes = ns; waiting = w; run = r; made = n }

abbrev pub frame : Opener → Bool → List TNode → Frame
frame o keep ns = record { opener = o; keep = keep; nodes = ns }

-- ---- texts

abbrev pub is_after_literal : Option Run → Bool
is_after_literal None = false
is_after_literal (Some r) = r.literal

-- no text is begun, or one that is white space alone
abbrev pub is_gap : Option Run → Bool
is_gap None = true
is_gap (Some r) = r.blank

-- The text with one more piece. The truth values say whether the piece is literal text, and whether that is white space alone.
abbrev pub joined : Option Run → Place → Piece → Bool → Bool → Run
joined None p x literal blank = record { place = p; pieces = x ∷ []; literal = literal; blank = blank }
joined (Some r) p x literal blank = record { place = r.place; pieces = r.pieces ++ x ∷ []; literal = literal; blank = (if r.blank then blank else false) }

-- the node of the text
abbrev pub shown_run : Bool → Option Run → List TNode
shown_run keep None = []
shown_run keep (Some r) = if (if keep then false else r.blank) then [] else node.Text r.place r.pieces ∷ []

-- the node of a block that doesn't go on
abbrev pub shown : Waiting → List TNode
shown wt.Nobody = []
shown (wt.If p bs) = node.If p bs ∷ []
shown (wt.For p h ns) = node.For p h ns None ∷ []

-- the nodes, with the block that may go on and the text that is begun
abbrev pub settled : Bool → List TNode → Waiting → Option Run → List TNode
settled keep ns w r = ns ++ (shown w ++ shown_run keep r)

abbrev pub settle : State → State
settle st = at st.outer st.opener st.keep (settled st.keep st.nodes st.waiting st.run) wt.Nobody None (st.made + length (shown_run st.keep st.run))

-- ---- beginnings

-- what stands in a new element, block or branch, of which so many nodes are begun
abbrev pub inside : Opener → Bool → ℕ → State → State
inside o keep n st = at (frame st.opener st.keep st.nodes ∷ st.outer) o keep [] wt.Nobody None n

-- an element or a block begins; the truth value says whether there is room for one more in those that are open
abbrev pub begun : Bool → Opener → Bool → State → Result State Stop
begun room o keep st = if room then Ok (inside o keep (suc st.made) st) else Err Limit

-- one more node
abbrev pub added : TNode → State → State
added n st = at st.outer st.opener st.keep (st.nodes ++ n ∷ []) wt.Nobody None (suc st.made)

-- a further branch of an `@if`
abbrev pub branch_of : Waiting → Option Expr → Option Text → Place → State → Result State Stop
branch_of (wt.If p bs) test name q st = Ok (inside (op.If p bs q test name) st.keep st.made st)
branch_of _ test name q st = Err Syntax

-- the `@empty` of a `@for`
abbrev pub empty_of : Waiting → Place → State → Result State Stop
empty_of (wt.For p h ns) q st = Ok (inside (op.Empty p h ns q) st.keep st.made st)
empty_of _ q st = Err Syntax

-- an `@else if` that passes a limit
abbrev pub heavy_else_if : Waiting → Result State Stop
heavy_else_if (wt.If p bs) = Err Limit
heavy_else_if _ = Err Syntax

-- ---- ends

-- the frame goes on, with one more node
abbrev pub back : Frame → List Frame → TNode → ℕ → State
back f fs n made = at fs f.opener f.keep (f.nodes ++ n ∷ []) wt.Nobody None made

-- the frame goes on with a block that may have further branches
abbrev pub back_to : Frame → List Frame → Waiting → ℕ → State
back_to f fs w made = at fs f.opener f.keep f.nodes w None made

-- an element or a block ends, as a node of the frame around it
abbrev pub ended_node : List Frame → TNode → ℕ → Result State Stop
ended_node (f ∷ fs) n made = Ok (back f fs n made)
ended_node [] n made = Err Syntax

-- a branch ends, after which its block may go on
abbrev pub ended_to : List Frame → Waiting → ℕ → Result State Stop
ended_to (f ∷ fs) w made = Ok (back_to f fs w made)
ended_to [] w made = Err Syntax

-- a branch of an `@if` ends, which is the last one where it has no test
abbrev pub ended_branch : Option Expr → List Frame → Place → List Branch → ℕ → Result State Stop
ended_branch (Some a) fs p bs made = ended_to fs (wt.If p bs) made
ended_branch None fs p bs made = ended_node fs (node.If p bs) made

abbrev pub end_tag : Text → List Frame → Opener → List TNode → ℕ → Result State Stop
end_tag tag fs (op.Tag p mark attrs) ns made = if same mark tag then ended_node fs (node.Element p mark attrs ns) made else Err Syntax
end_tag tag fs _ ns made = Err Syntax

abbrev pub end_block : List Frame → Opener → Bool → List TNode → ℕ → Result State Stop
end_block fs (op.If p bs q test name) keep ns made = ended_branch test fs p (bs ++ branch q test name ns ∷ []) made
end_block fs (op.For p h) keep ns made = ended_to fs (wt.For p h ns) made
end_block fs (op.Empty p h rows q) keep ns made = ended_node fs (node.For p h rows (Some (branch q None None ns))) made
end_block fs (op.Case p a bs q test) keep ns made = Ok (at fs (op.Switch p a (bs ++ branch q test None ns ∷ [])) keep [] wt.Nobody None made)
end_block fs _ keep ns made = Err Syntax

abbrev pub end_switch : List Frame → Opener → ℕ → Result State Stop
end_switch fs (op.Switch p a bs) made = ended_node fs (node.Switch p a bs) made
end_switch fs _ made = Err Syntax

-- a case of a `@switch` begins
abbrev pub case_of : Opener → Option Expr → Place → State → Result State Stop
case_of (op.Switch p a bs) test q st = Ok (at st.outer (op.Case p a bs q test) st.keep [] wt.Nobody None st.made)
case_of _ test q st = Err Syntax

-- ---- one part

-- a part that ends a text
abbrev pub act : Bool → Markup → Place → State → Result State Stop
act room m.Comment q st = Ok st
act room (m.Single tag attrs) q st = if room then Ok (added (node.Element q tag attrs []) st) else Err Limit
act room (m.Start tag attrs) q st = begun room (op.Tag q tag attrs) (st.keep || keeps tag) st
act room (m.If a name) q st = begun room (op.If q [] q (Some a) name) st.keep st
act room (m.For h) q st = begun room (op.For q h) st.keep st
act room (m.Switch a) q st = begun room (op.Switch q a []) st.keep st
act room (m.Let name a) q st = Ok (added (node.Let q name a) st)
act room (m.End tag) q st = end_tag tag st.outer st.opener st.nodes st.made
act room m.Close q st = end_block st.outer st.opener st.keep st.nodes st.made
act room (m.Heavy shaped.Case) q st = Err Syntax
act room (m.Heavy _) q st = Err Limit
act room _ q st = Err Syntax

-- literal text
abbrev pub literal : List Letter → Place → State → Result State Stop
literal cs q st = if (if is_after_literal st.run then false else is_piece st.keep cs)
    then Ok (record st { run = Some (joined st.run q (piece.Text (text_of st.keep cs)) true (all_blank cs)) }) else Err Syntax

-- a part where a node may stand
abbrev pub stands : Bool → Markup → Place → State → Result State Stop
stands room (m.Literal cs) q st = literal cs q st
stands room (m.Interpolation a) q st = Ok (record st { run = Some (joined st.run q (piece.Value q a) false false) })
stands room m.Else q st = if is_gap st.run then branch_of st.waiting None None q st else Err Syntax
stands room (m.ElseIf a name) q st = if is_gap st.run then branch_of st.waiting (Some a) name q st else Err Syntax
stands room m.Empty q st = if is_gap st.run then empty_of st.waiting q st else Err Syntax
stands room (m.Heavy shaped.ElseIf) q st = if is_gap st.run then heavy_else_if st.waiting else Err Syntax
stands room c q st = act room c q (settle st)

abbrev pub is_switch : Opener → Bool
is_switch (op.Switch p a bs) = true
is_switch _ = false

-- a part in a `@switch`, outside of its cases
abbrev pub between : Markup → Place → State → Result State Stop
between (m.Literal cs) q st = if all_blank cs then Ok st else Err Syntax
between m.Comment q st = Ok st
between (m.Case a) q st = case_of st.opener (Some a) q st
between m.Default q st = case_of st.opener None q st
between m.Close q st = end_switch st.outer st.opener st.made
between (m.Heavy shaped.Case) q st = Err Limit
between _ q st = Err Syntax

abbrev pub arrive : Bool → Markup → Place → State → Result State Stop
arrive room c q st = if is_switch st.opener then between c q st else stands room c q st

-- at most n nodes
abbrev pub checked : ℕ → State → Result State Stop
checked n st = if nat_lt n st.made then Err Limit else Ok st

-- with at most d elements and blocks in one another, and n nodes
unfoldable pub step : ℕ → ℕ → State → Part → Result State Stop
step d n st t = and_then (arrive (nat_lt (length st.outer) d) t.markup t.place st) (checked n)

-- where the parts end
abbrev pub closed : ℕ → List Frame → State → Result (List TNode) Stop
closed n [] st = if nat_lt n st.made then Err Limit else Ok st.nodes
closed n (f ∷ fs) st = Err Syntax

unfoldable pub finish : ℕ → State → Result (List TNode) Stop
finish n st = closed n st.outer (settle st)

abbrev pub begin : State
begin = at [] op.Root false [] wt.Nobody None 0

-- the state after some more parts
unfoldable pub after : ℕ → ℕ → State → Parts → Result State Stop
after d n st [] = Ok st
after d n st (t ∷ ts) = and_then (step d n st t) (λ next. after d n next ts)

-- all parts
abbrev pub read : ℕ → ℕ → State → Parts → Result (List TNode) Stop
read d n st ts = and_then (after d n st ts) (finish n)
