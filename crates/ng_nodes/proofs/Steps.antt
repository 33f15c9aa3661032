-- Steps of the functions on states.
use Rattle.std.proofs.Common.{◌≡◌, ◌≢◌, ℕ, ◌+◌, ◌<◌, ◌≤◌, List, [], ◌∷◌, ◌++◌, length, refl, ◌∙◌, ap, subst, append_assoc, arith}
use Rattle.std.proofs.lemmas.List.{append-nil}
use Rattle.std.specs.Prelude.{Bool, true, false, OnOk, nat_lt, if◌then◌else◌, Option, Some, None, is_some, Result, Ok, Err}
use Rattle.ng_ast.specs.declared.Place.{Place}
use Rattle.ng_ast.specs.declared.Expr.{Expr}
use Rattle.ng_ast.specs.declared.Branch.{Branch}
use Rattle.ng_ast.specs.declared.TAttr.{TAttr}
use Rattle.ng_ast.specs.declared.TNode.{TNode}
use Rattle.ng_ast.specs.declared.TNode.TheVariants as node
use Rattle.ng_lex.specs.declared.markup.Letter.{Letter}
use Rattle.ng_lex.specs.declared.markup.Shape.{Shape}
use Rattle.ng_lex.specs.declared.markup.Shape.TheVariants as shaped
use Rattle.ng_lex.specs.declared.markup.Markup.{Markup}
use Rattle.ng_lex.specs.declared.markup.Markup.TheVariants as m
use Rattle.ng_lex.specs.declared.markup.Part.{Part}
use Rattle.ng_nodes.specs.declared.state.Opener.{Opener}
use Rattle.ng_nodes.specs.declared.state.Opener.TheVariants as op
use Rattle.ng_nodes.specs.declared.state.Waiting.{Waiting}
use Rattle.ng_nodes.specs.declared.state.Waiting.TheVariants as wt
use Rattle.ng_nodes.specs.declared.state.Run.{Run}
use Rattle.ng_nodes.specs.declared.state.Frame.{Frame}
use Rattle.ng_nodes.specs.declared.state.State.{State}
use Rattle.ng_nodes.specs.Texts.{Text, Parts}
use Rattle.ng_nodes.specs.Machine.{Stop, Syntax, Limit, and_then, back, back_to, ended_node, ended_to, ended_branch, end_tag, end_block, settle, shown, shown_run, inside, begun, added, branch_of, stands, between, checked, step, closed, finish, after, read}
use Rattle.ng_nodes.specs.Waits.{if_of, is_tag}
use Rattle.ng_nodes.specs.Gives.{Fails, Gives}
use Rattle.ng_nodes.specs.declared.halt.Halt.{Halt}
use Rattle.ng_nodes.specs.declared.halt.Halt.TheVariants as h

pub none_shown : (ns : List TNode) → ns ++ [] ≡ ns
none_shown ns = append-nil ns

pub settled_is : (keep : Bool) (ns : List TNode) (w : Waiting) (r : Option Run) → (ns ++ shown w) ++ shown_run keep r ≡ ns ++ (shown w ++ shown_run keep r)
settled_is keep ns w r = append_assoc ns (shown w) (shown_run keep r)

-- where the parts end
pub closed_open : (n : ℕ) (fs : List Frame) (st : State) → 0 < length fs → closed n fs st ≡ Err Syntax
closed_open n [] st h = absurd (omega arith)
closed_open n (f ∷ fs) st h = refl

pub closed_full : (n : ℕ) (fs : List Frame) (st : State) → length fs ≡ 0 → n < st.made → closed n fs st ≡ Err Limit
closed_full n [] st e h = by_bool (nat_lt n st.made) refl
  where
    by_bool : (v : Bool) → nat_lt n st.made ≡ v → (if v then Err Limit else Ok st.nodes) ≡ Err Limit
    by_bool true f = refl
    by_bool false f = let few : st.made ≤ n = grind arith in absurd (omega arith)
closed_full n (f ∷ fs) st e h = absurd (omega arith)

pub closed_whole : (n : ℕ) (fs : List Frame) (st : State) → length fs ≡ 0 → st.made ≤ n → closed n fs st ≡ Ok st.nodes
closed_whole n [] st e h = by_bool (nat_lt n st.made) refl
  where
    by_bool : (v : Bool) → nat_lt n st.made ≡ v → (if v then Err Limit else Ok st.nodes) ≡ Ok st.nodes
    by_bool true f = let many : n < st.made = grind arith in absurd (omega arith)
    by_bool false f = refl
closed_whole n (f ∷ fs) st e h = absurd (omega arith)

-- a branch of an `@if`
same_if : (x y : Place × List Branch) → Some x ≡ Some y → x ≡ y
same_if x y e = cc

pub branch_taken : (gap : Bool) (w : Waiting) (p : Place) (bs : List Branch) (test : Option Expr) (name : Option Text) (q : Place) (st : State) → Some (p, bs) ≡ if_of gap w
    → (if gap then branch_of w test name q st else Err Syntax) ≡ Ok (inside (op.If p bs q test name) st.keep st.made st)
branch_taken true wt.Nobody p bs test name q st e = absurd cc
branch_taken true (wt.If r cs) p bs test name q st e =
    let pair : ◌≡◌ {A = Place × List Branch} (p, bs) (r, cs) = same_if (p, bs) (r, cs) e in
    let place : p ≡ r = ap (λ (x : Place × List Branch). x.0) pair in
    let branches : bs ≡ cs = ap (λ (x : Place × List Branch). x.1) pair in
    cc
branch_taken true (wt.For r h ns) p bs test name q st e = absurd cc
branch_taken false w p bs test name q st e = absurd cc

pub branch_refused : (gap : Bool) (w : Waiting) (test : Option Expr) (name : Option Text) (q : Place) (st : State) → None ≡ if_of gap w
    → (if gap then branch_of w test name q st else Err Syntax) ≡ Err Syntax
branch_refused true wt.Nobody test name q st e = refl
branch_refused true (wt.If r cs) test name q st e = absurd cc
branch_refused true (wt.For r h ns) test name q st e = refl
branch_refused false w test name q st e = refl

-- the frame around what ends
pub to_ended : (fs rest : List Frame) (f : Frame) (w : Waiting) (made : ℕ) → fs ≡ f ∷ rest → ended_to fs w made ≡ Ok (back_to f rest w made)
to_ended fs rest f w made e = ap (λ k. ended_to k w made) e

pub to_unended : (fs : List Frame) (w : Waiting) (made : ℕ) → fs ≡ [] → ended_to fs w made ≡ Err Syntax
to_unended fs w made e = ap (λ k. ended_to k w made) e

ok_same : (s next : State) → ◌≡◌ {A = Result State Stop} (Ok s) (Ok next) → s ≡ next
ok_same s next e = cc

ok_fails : {A B : Type 0} (a : A) (o : Result B Stop) (e : Halt) → Fails (Ok a) e → Fails o e
ok_fails a o (h.Syntax p) g = absurd cc
ok_fails a o (h.Limit p) g = absurd cc
ok_fails a o h.Memory g = tt

pub node_after : {A : Type 0} (fs : List Frame) (n : TNode) (made : ℕ) (r : Result A Halt) (st : State) → Gives (ended_to fs wt.Nobody made) r st
    → Gives (ended_node fs n made) r (record st { nodes = st.nodes ++ n ∷ [] })
node_after [] n made (Ok u) st g = absurd cc
node_after [] n made (Err e) st g = g
node_after (f ∷ fs) n made (Ok u) st g =
    let same : back_to f fs wt.Nobody made ≡ st = ok_same (back_to f fs wt.Nobody made) st g in
    ap (λ (s : State). Ok (record s { nodes = s.nodes ++ n ∷ [] })) same
node_after (f ∷ fs) n made (Err e) st g = ok_fails (back_to f fs wt.Nobody made) (Ok (back f fs n made)) e g

-- the last branch of an `@if`, and another
pub branch_last : (test : Option Expr) (fs : List Frame) (p : Place) (bs : List Branch) (made : ℕ) → is_some test ≡ false → ended_branch test fs p bs made ≡ ended_node fs (node.If p bs) made
branch_last None fs p bs made e = refl
branch_last (Some a) fs p bs made e = absurd cc

pub branch_not_last : (test : Option Expr) (fs : List Frame) (p : Place) (bs : List Branch) (made : ℕ) → is_some test ≡ true → ended_branch test fs p bs made ≡ ended_to fs (wt.If p bs) made
branch_not_last None fs p bs made e = absurd cc
branch_not_last (Some a) fs p bs made e = refl

-- an end tag
pub tag_open : (tag : Text) (fs : List Frame) (o : Opener) (p : Place) (mark : Text) (attrs : List TAttr) (ns : List TNode) (made : ℕ) → is_tag tag o ≡ true → o ≡ op.Tag p mark attrs
    → end_tag tag fs o ns made ≡ ended_node fs (node.Element p mark attrs ns) made
tag_open tag fs o p mark attrs ns made e f =
    ap (λ k. end_tag tag fs k ns made) f ∙ ap (λ b. if b then ended_node fs (node.Element p mark attrs ns) made else Err Syntax) (subst (λ k. is_tag tag k ≡ true) f e)

pub tag_other : (tag : Text) (fs : List Frame) (o : Opener) (ns : List TNode) (made : ℕ) → is_tag tag o ≡ false → end_tag tag fs o ns made ≡ Err Syntax
tag_other tag fs op.Root ns made e = refl
tag_other tag fs (op.Tag p mark attrs) ns made e = ap (λ b. if b then ended_node fs (node.Element p mark attrs ns) made else Err Syntax) e
tag_other tag fs (op.If p bs q test name) ns made e = refl
tag_other tag fs (op.For p h) ns made e = refl
tag_other tag fs (op.Empty p h rows q) ns made e = refl
tag_other tag fs (op.Switch p a bs) ns made e = refl
tag_other tag fs (op.Case p a bs q test) ns made e = refl

-- beginnings and ends after what is settled
pub begun_settled : {A : Type 0} (o : Opener) (keep : Bool) (before st next : State) (r : Result A Halt) → st ≡ settle before → Gives (begun (nat_lt (length st.outer) 32) o keep st) r next
    → Gives (begun (nat_lt (length before.outer) 32) o keep (settle before)) r next
begun_settled o keep before st next r e g = subst (λ (s : State). Gives (begun (nat_lt (length s.outer) 32) o keep s) r next) e g

pub added_settled : {A E : Type 0} (n : TNode) (before st next : State) (r : Result A E) → st ≡ settle before → OnOk r (next ≡ added n st) → OnOk r (next ≡ added n (settle before))
added_settled n before st next r e g = subst (λ (s : State). OnOk r (next ≡ added n s)) e g

pub tag_settled : {A : Type 0} (tag : Text) (before st next : State) (r : Result A Halt) → st ≡ settle before → Gives (end_tag tag st.outer st.opener st.nodes st.made) r next
    → Gives (end_tag tag (settle before).outer (settle before).opener (settle before).nodes (settle before).made) r next
tag_settled tag before st next r e g = subst (λ (s : State). Gives (end_tag tag s.outer s.opener s.nodes s.made) r next) e g

pub block_settled : {A : Type 0} (before st next : State) (r : Result A Halt) → st ≡ settle before → Gives (end_block st.outer st.opener st.keep st.nodes st.made) r next
    → Gives (end_block (settle before).outer (settle before).opener (settle before).keep (settle before).nodes (settle before).made) r next
block_settled before st next r e g = subst (λ (s : State). Gives (end_block s.outer s.opener s.keep s.nodes s.made) r next) e g

-- parts that pass a limit
pub heavy_limit : (room : Bool) (s : Shape) (q : Place) (st : State) → s ≢ shaped.ElseIf → s ≢ shaped.Case → stands room (m.Heavy s) q st ≡ Err Limit
heavy_limit room shaped.Interpolation q st a b = refl
heavy_limit room shaped.Tag q st a b = refl
heavy_limit room shaped.If q st a b = refl
heavy_limit room shaped.ElseIf q st a b = absurd (a refl)
heavy_limit room shaped.For q st a b = refl
heavy_limit room shaped.Switch q st a b = refl
heavy_limit room shaped.Case q st a b = absurd (b refl)
heavy_limit room shaped.Let q st a b = refl

pub heavy_between : (s : Shape) (q : Place) (st : State) → s ≢ shaped.Case → between (m.Heavy s) q st ≡ Err Syntax
heavy_between shaped.Interpolation q st a = refl
heavy_between shaped.Tag q st a = refl
heavy_between shaped.If q st a = refl
heavy_between shaped.ElseIf q st a = refl
heavy_between shaped.For q st a = refl
heavy_between shaped.Switch q st a = refl
heavy_between shaped.Case q st a = absurd (a refl)
heavy_between shaped.Let q st a = refl

-- parts that stand in no `@switch` outside of its cases
pub not_between : (c : Markup) (q : Place) (st : State) → ((cs : List Letter) → c ≢ m.Literal cs) → c ≢ m.Comment → ((a : Expr) → c ≢ m.Case a) → c ≢ m.Default → c ≢ m.Close
    → ((s : Shape) → c ≢ m.Heavy s) → between c q st ≡ Err Syntax
not_between (m.Literal cs) q st a b d e f g = absurd (a cs refl)
not_between (m.Interpolation x) q st a b d e f g = refl
not_between m.Comment q st a b d e f g = absurd (b refl)
not_between (m.Single tag attrs) q st a b d e f g = refl
not_between (m.Start tag attrs) q st a b d e f g = refl
not_between (m.End tag) q st a b d e f g = refl
not_between (m.If x name) q st a b d e f g = refl
not_between (m.ElseIf x name) q st a b d e f g = refl
not_between m.Else q st a b d e f g = refl
not_between (m.For h) q st a b d e f g = refl
not_between m.Empty q st a b d e f g = refl
not_between (m.Switch x) q st a b d e f g = refl
not_between (m.Case x) q st a b d e f g = absurd (d x refl)
not_between m.Default q st a b d e f g = absurd (e refl)
not_between (m.Let name x) q st a b d e f g = refl
not_between m.Close q st a b d e f g = absurd (f refl)
not_between (m.Heavy s) q st a b d e f g = absurd (g s refl)

-- one step
pub fails_then : {A B : Type 0} (o : Result A Stop) (f : A → Result B Stop) (e : Halt) → Fails o e → Fails (and_then o f) e
fails_then o f (h.Syntax p) g = ap (λ r. and_then r f) g
fails_then o f (h.Limit p) g = ap (λ r. and_then r f) g
fails_then o f h.Memory g = tt

pub checked_full : (n : ℕ) (o : Result State Stop) (st : State) → o ≡ Ok st → n < st.made → and_then o (checked n) ≡ Err Limit
checked_full n o st e h = ap (λ r. and_then r (checked n)) e ∙ by_bool (nat_lt n st.made) refl
  where
    by_bool : (v : Bool) → nat_lt n st.made ≡ v → (if v then Err Limit else Ok st) ≡ Err Limit
    by_bool true f = refl
    by_bool false f = let few : st.made ≤ n = grind arith in absurd (omega arith)

pub checked_few : (n : ℕ) (o : Result State Stop) (st : State) → o ≡ Ok st → st.made ≤ n → and_then o (checked n) ≡ Ok st
checked_few n o st e h = ap (λ r. and_then r (checked n)) e ∙ by_bool (nat_lt n st.made) refl
  where
    by_bool : (v : Bool) → nat_lt n st.made ≡ v → (if v then Err Limit else Ok st) ≡ Ok st
    by_bool true f = let many : n < st.made = grind arith in absurd (omega arith)
    by_bool false f = refl

-- one part after another
pub read_more : (st next : State) (t : Part) (ts : Parts) → step 32 4096 st t ≡ Ok next → read 32 4096 st (t ∷ ts) ≡ read 32 4096 next ts
unfolding after
read_more st next t ts e = ap (λ r. and_then (and_then r (λ s. after 32 4096 s ts)) (finish 4096)) e

pub read_stop : (st : State) (t : Part) (ts : Parts) (e : Halt) → Fails (step 32 4096 st t) e → Fails (read 32 4096 st (t ∷ ts)) e
unfolding after
read_stop st t ts e g = fails_then (and_then (step 32 4096 st t) (λ s. after 32 4096 s ts)) (finish 4096) e (fails_then (step 32 4096 st t) (λ s. after 32 4096 s ts) e g)

pub read_end : (st : State) → read 32 4096 st [] ≡ finish 4096 st
unfolding after
read_end st = refl
