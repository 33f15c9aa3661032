-- What is begun and not ended: the grammar with productions that lack their end, each said by what its end makes of it.
use Rattle.std.proofs.Common.{◌≡◌, ◌+◌, List, [], ◌∷◌, ◌++◌, refl, sym, ◌∙◌, ap, subst, append_assoc}
use Rattle.std.proofs.lemmas.List.{append-nil}
use Rattle.std.specs.Prelude.{Bool, true, false, ◌||◌, Option, Some, None}
use Rattle.ng_ast.specs.declared.Place.{Place}
use Rattle.ng_ast.specs.declared.Expr.{Expr}
use Rattle.ng_ast.specs.declared.TAttr.{TAttr}
use Rattle.ng_ast.specs.declared.ForHead.{ForHead}
use Rattle.ng_ast.specs.declared.Branch.{Branch}
use Rattle.ng_ast.specs.declared.TNode.{TNode}
use Rattle.ng_ast.specs.declared.TNode.TheVariants as node
use Rattle.ng_lex.specs.declared.markup.Markup.TheVariants as m
use Rattle.ng_lex.specs.declared.markup.Part.{Part}
use Rattle.ng_nodes.specs.declared.state.Opener.{Opener}
use Rattle.ng_nodes.specs.declared.state.Opener.TheVariants as op
use Rattle.ng_nodes.specs.declared.state.Frame.{Frame}
use Rattle.ng_nodes.specs.Texts.{Text, Parts, part, NotText, IsGap, keeps}
use Rattle.ng_nodes.specs.Grammar.{branch, is_between}
use Rattle.ng_nodes.specs.Machine.{frame, is_switch}
use Rattle.ng_nodes.specs.Limits.{IsBegun}
use Rattle.ng_nodes.proofs.Rules as rule
use Rattle.ng_nodes.proofs.Rules.{Reading, ReadsBranches, ReadsOtherwise, ReadsCases, reread, recase}

-- with whatever nodes come after them
unfoldable pub Front : Bool → Parts → List TNode → Type 0
Front keep x ns = (y : Parts) (ms : List TNode) → Reading keep y ms → Reading keep (x ++ y) (ns ++ ms)

-- with whatever nodes come after them that begin with no text
unfoldable pub Edge : Bool → Parts → List TNode → Type 0
Edge keep x ns = (y : Parts) (ms : List TNode) → NotText y → Reading keep y ms → Reading keep (x ++ y) (ns ++ ms)

abbrev pub Starts : Parts → Type 0
Starts x = (y : Parts) → NotText (x ++ y)

-- an `@if` with these branches, which may go on
pub record IfSoFar (keep : Bool) (p : Place) (bs : List Branch) (x : Parts) : Type 0 where
  pub starts : Starts x
  pub reads : (y : Parts) (cs : List Branch) (z : Parts) (ms : List TNode) → ReadsBranches keep y cs → Reading keep z ms → Reading keep (x ++ (y ++ z)) (node.If p (bs ++ cs) ∷ ms)

-- a branch of an `@if` that is begun, by what it is with its nodes and its end
abbrev pub BranchEnds : Bool → Place → List Branch → Place → Option Expr → Option Text → Parts → Type 0
BranchEnds keep p bs q (Some a) name y = (x : Parts) (ns : List TNode) (z : Place) → Reading keep x ns → IfSoFar keep p (bs ++ branch q (Some a) name ns ∷ []) (y ++ (x ++ (part m.Close z ∷ [])))
BranchEnds keep p bs q None name y = (x : Parts) (ns : List TNode) (z : Place) → Reading keep x ns → (w : Parts) (ms : List TNode) → Reading keep w ms
    → Reading keep (y ++ (x ++ (part m.Close z ∷ w))) (node.If p (bs ++ branch q None name ns ∷ []) ∷ ms)

pub record BranchBegun (keep : Bool) (p : Place) (bs : List Branch) (q : Place) (test : Option Expr) (name : Option Text) (y : Parts) : Type 0 where
  pub starts : Starts y
  pub ends : BranchEnds keep p bs q test name y

-- a `@for` that may go on
pub record ForSoFar (keep : Bool) (p : Place) (h : ForHead) (ns : List TNode) (x : Parts) : Type 0 where
  pub starts : Starts x
  pub reads : (y : Parts) (b : Option Branch) (z : Parts) (ms : List TNode) → ReadsOtherwise keep y b → Reading keep z ms → Reading keep (x ++ (y ++ z)) (node.For p h ns b ∷ ms)

-- the `@empty` of a `@for` that is begun
pub record EmptyBegun (keep : Bool) (p : Place) (h : ForHead) (rows : List TNode) (q : Place) (y : Parts) : Type 0 where
  pub starts : Starts y
  pub ends : (x : Parts) (ns : List TNode) (z : Place) → Reading keep x ns → (w : Parts) (ms : List TNode) → Reading keep w ms
      → Reading keep (y ++ (x ++ (part m.Close z ∷ w))) (node.For p h rows (Some (branch q None None ns)) ∷ ms)

-- cases that may go on
unfoldable pub CasesSoFar : Bool → List Branch → Parts → Type 0
CasesSoFar keep bs x = (y : Parts) (cs : List Branch) → ReadsCases keep y cs → ReadsCases keep (x ++ y) (bs ++ cs)

-- a case that is begun
unfoldable pub CaseBegun : Bool → List Branch → Place → Option Expr → Parts → Type 0
CaseBegun keep bs q test y = (x : Parts) (ns : List TNode) (z : Place) → Reading keep x ns → CasesSoFar keep (bs ++ branch q test None ns ∷ []) (y ++ (x ++ (part m.Close z ∷ [])))

-- what is begun, from the inside out, up to the nodes that come now
pub data Within : List Frame → Opener → Bool → Parts → Type 0 where
  at_root : Within [] op.Root false []
  in_tag : {fs : List Frame} {o : Opener} {b : Bool} {ns : List TNode} (z x : Parts) (p : Place) (mark : Text) (attrs : List TAttr) → is_switch o ≡ false → Within fs o b z → Edge b x ns
      → Within (frame o b ns ∷ fs) (op.Tag p mark attrs) (b || keeps mark) (z ++ (x ++ (part (m.Start mark attrs) p ∷ [])))
  in_if : {fs : List Frame} {o : Opener} {b : Bool} {ns : List TNode} (z x y : Parts) (p : Place) (bs : List Branch) (q : Place) (test : Option Expr) (name : Option Text)
      → is_switch o ≡ false → Within fs o b z → Edge b x ns → BranchBegun b p bs q test name y
      → Within (frame o b ns ∷ fs) (op.If p bs q test name) b (z ++ (x ++ y))
  in_for : {fs : List Frame} {o : Opener} {b : Bool} {ns : List TNode} (z x : Parts) (p : Place) (h : ForHead) → is_switch o ≡ false → Within fs o b z → Edge b x ns
      → Within (frame o b ns ∷ fs) (op.For p h) b (z ++ (x ++ (part (m.For h) p ∷ [])))
  in_empty : {fs : List Frame} {o : Opener} {b : Bool} {ns : List TNode} (z x y : Parts) (p : Place) (h : ForHead) (rows : List TNode) (q : Place)
      → is_switch o ≡ false → Within fs o b z → Edge b x ns → EmptyBegun b p h rows q y
      → Within (frame o b ns ∷ fs) (op.Empty p h rows q) b (z ++ (x ++ y))
  in_switch : {fs : List Frame} {o : Opener} {b : Bool} {ns : List TNode} (z x y : Parts) (p : Place) (a : Expr) (bs : List Branch)
      → is_switch o ≡ false → Within fs o b z → Edge b x ns → CasesSoFar b bs y
      → Within (frame o b ns ∷ fs) (op.Switch p a bs) b (z ++ (x ++ (part (m.Switch a) p ∷ y)))
  in_case : {fs : List Frame} {o : Opener} {b : Bool} {ns : List TNode} (z x y : Parts) (p : Place) (a : Expr) (bs : List Branch) (q : Place) (test : Option Expr)
      → is_switch o ≡ false → Within fs o b z → Edge b x ns → CaseBegun b bs q test y
      → Within (frame o b ns ∷ fs) (op.Case p a bs q test) b (z ++ (x ++ (part (m.Switch a) p ∷ y)))

pub edge_nodes : (keep : Bool) (x : Parts) (ns : List TNode) → Edge keep x ns → Reading keep x ns
unfolding Edge
edge_nodes keep x ns e = reread keep _ _ _ _ (append-nil x) (append-nil ns) (e [] [] tt (rule.nothing keep))

pub front_nodes : (keep : Bool) (x : Parts) (ns : List TNode) → Front keep x ns → Reading keep x ns
unfolding Front
front_nodes keep x ns e = reread keep _ _ _ _ (append-nil x) (append-nil ns) (e [] [] (rule.nothing keep))

pub none_yet : (keep : Bool) → Front keep [] []
unfolding Front
none_yet keep = λ y ms i. i

-- ---- one production after nodes

pub comment_front : (keep : Bool) (x : Parts) (ns : List TNode) (p : Place) → Edge keep x ns → Front keep (x ++ part m.Comment p ∷ []) ns
unfolding Front Edge
comment_front keep x ns p e = λ z os i. reread keep _ _ _ _ (simp append_assoc refl) refl (e (part m.Comment p ∷ z) os refl (rule.comment keep p z os i))

pub single_front : (keep : Bool) (x : Parts) (ns : List TNode) (p : Place) (mark : Text) (attrs : List TAttr) → Edge keep x ns → Front keep (x ++ part (m.Single mark attrs) p ∷ []) (ns ++ node.Element p mark attrs [] ∷ [])
unfolding Front Edge
single_front keep x ns p mark attrs e = λ z os i. reread keep _ _ _ _ (simp append_assoc refl) (simp append_assoc refl)
    (e (part (m.Single mark attrs) p ∷ z) (node.Element p mark attrs [] ∷ os) refl (rule.single keep mark attrs p z os i))

pub declare_front : (keep : Bool) (x : Parts) (ns : List TNode) (p : Place) (name : Text) (a : Expr) → Edge keep x ns → Front keep (x ++ part (m.Let name a) p ∷ []) (ns ++ node.Let p name a ∷ [])
unfolding Front Edge
declare_front keep x ns p name a e = λ z os i. reread keep _ _ _ _ (simp append_assoc refl) (simp append_assoc refl)
    (e (part (m.Let name a) p ∷ z) (node.Let p name a ∷ os) refl (rule.declare keep name a p z os i))

pub tag_front : (keep : Bool) (x : Parts) (ns : List TNode) (p q : Place) (mark : Text) (attrs : List TAttr) (y : Parts) (ms : List TNode) → Edge keep x ns → Reading (keep || keeps mark) y ms
    → Front keep (x ++ (part (m.Start mark attrs) p ∷ (y ++ (part (m.End mark) q ∷ [])))) (ns ++ node.Element p mark attrs ms ∷ [])
unfolding Front Edge
tag_front keep x ns p q mark attrs y ms e h = λ z os i. reread keep _ _ _ _ (simp append_assoc refl) (simp append_assoc refl)
    (e (part (m.Start mark attrs) p ∷ (y ++ (part (m.End mark) q ∷ z))) (node.Element p mark attrs ms ∷ os) refl (rule.element keep mark attrs p q y z ms os h i))

pub switch_front : (keep : Bool) (x : Parts) (ns : List TNode) (p q : Place) (a : Expr) (y : Parts) (bs : List Branch) → Edge keep x ns → CasesSoFar keep bs y
    → Front keep (x ++ (part (m.Switch a) p ∷ (y ++ (part m.Close q ∷ [])))) (ns ++ node.Switch p a bs ∷ [])
unfolding Front Edge CasesSoFar
switch_front keep x ns p q a y bs e h = λ z os i. reread keep _ _ _ _ (simp append_assoc refl) (simp append_assoc refl)
    (e (part (m.Switch a) p ∷ (y ++ (part m.Close q ∷ z))) (node.Switch p a bs ∷ os) refl
    (rule.switch keep a p q y z bs os (recase keep _ _ _ _ (append-nil y) (append-nil bs) (h [] [] (rule.ended keep))) i))

-- a block, said by what it is with what comes after it
pub block_front : (keep : Bool) (x : Parts) (ns : List TNode) (y : Parts) (n : TNode) → Edge keep x ns → Starts y → ((z : Parts) (ms : List TNode) → Reading keep z ms → Reading keep (y ++ z) (n ∷ ms))
    → Front keep (x ++ y) (ns ++ n ∷ [])
unfolding Front Edge
block_front keep x ns y n e starts go = λ z os i. reread keep _ _ _ _ (simp append_assoc refl) (simp append_assoc refl) (e (y ++ z) (n ∷ os) (starts z) (go z os i))

pub if_front : (keep : Bool) (x : Parts) (ns : List TNode) (p : Place) (bs : List Branch) (y : Parts) → Edge keep x ns → IfSoFar keep p bs y → Front keep (x ++ y) (ns ++ node.If p bs ∷ [])
if_front keep x ns p bs y e h = block_front keep x ns y (node.If p bs) e h.starts (λ z ms i.
    reread keep _ _ _ _ refl (ap (λ cs. node.If p cs ∷ ms) (append-nil bs)) (h.reads [] [] z ms (rule.done keep) i))

pub for_front : (keep : Bool) (x : Parts) (ns : List TNode) (p : Place) (f : ForHead) (rows : List TNode) (y : Parts) → Edge keep x ns → ForSoFar keep p f rows y → Front keep (x ++ y) (ns ++ node.For p f rows None ∷ [])
for_front keep x ns p f rows y e h = block_front keep x ns y (node.For p f rows None) e h.starts (λ z ms i. h.reads [] None z ms (rule.nobody keep) i)

-- ---- branches and cases begin

pub starts_more : (x y : Parts) → Starts x → Starts (x ++ y)
starts_more x y h = λ z. subst NotText (sym (append_assoc x y z)) (h (y ++ z))

pub if_begins : (keep : Bool) (p : Place) (a : Expr) (name : Option Text) → BranchBegun keep p [] p (Some a) name (part (m.If a name) p ∷ [])
if_begins keep p a name = record {
  starts = λ y. refl;
  ends = λ x ns z h. record {
    starts = λ y. refl;
    reads = λ y cs w ms i j. reread keep _ _ _ _ (simp append_assoc refl) refl (rule.when keep a name p z x y w ns cs ms h i j);
  };
}

pub else_if_begins : (keep : Bool) (p : Place) (bs : List Branch) (y g : Parts) (a : Expr) (name : Option Text) (q : Place) → IfSoFar keep p bs y → IsGap keep g
    → BranchBegun keep p bs q (Some a) name (y ++ (g ++ (part (m.ElseIf a name) q ∷ [])))
else_if_begins keep p bs y g a name q s gap = record {
  starts = starts_more y _ s.starts;
  ends = λ x ns z h. record {
    starts = starts_more _ _ (starts_more y _ s.starts);
    reads = λ v cs w ms i j. reread keep _ _ _ _ (simp append_assoc refl) (ap (λ ds. node.If p ds ∷ ms) (simp append_assoc refl))
        (s.reads (g ++ (part (m.ElseIf a name) q ∷ (x ++ (part m.Close z ∷ v)))) (branch q (Some a) name ns ∷ cs) w ms (rule.further keep a name q z g x v ns cs gap h i) j);
  };
}

pub else_begins : (keep : Bool) (p : Place) (bs : List Branch) (y g : Parts) (q : Place) → IfSoFar keep p bs y → IsGap keep g → BranchBegun keep p bs q None None (y ++ (g ++ (part m.Else q ∷ [])))
else_begins keep p bs y g q s gap = record {
  starts = starts_more y _ s.starts;
  ends = λ x ns z h w ms j. reread keep _ _ _ _ (simp append_assoc refl) refl
      (s.reads (g ++ (part m.Else q ∷ (x ++ (part m.Close z ∷ [])))) (branch q None None ns ∷ []) w ms (rule.other keep q z g x ns gap h) j);
}

pub rows_so_far : (keep : Bool) (p z : Place) (f : ForHead) (x : Parts) (ns : List TNode) → Reading keep x ns → ForSoFar keep p f ns (part (m.For f) p ∷ (x ++ (part m.Close z ∷ [])))
rows_so_far keep p z f x ns h = record {
  starts = λ y. refl;
  reads = λ y b w ms i j. reread keep _ _ _ _ (simp append_assoc refl) refl (rule.rows keep f p z x y w ns b ms h i j);
}

pub empty_begins : (keep : Bool) (p : Place) (f : ForHead) (rows : List TNode) (y g : Parts) (q : Place) → ForSoFar keep p f rows y → IsGap keep g → EmptyBegun keep p f rows q (y ++ (g ++ (part m.Empty q ∷ [])))
empty_begins keep p f rows y g q s gap = record {
  starts = starts_more y _ s.starts;
  ends = λ x ns z h w ms j. reread keep _ _ _ _ (simp append_assoc refl) refl
      (s.reads (g ++ (part m.Empty q ∷ (x ++ (part m.Close z ∷ [])))) (Some (branch q None None ns)) w ms (rule.empty keep q z g x ns gap h) j);
}

pub no_cases_yet : (keep : Bool) → CasesSoFar keep [] []
unfolding CasesSoFar
no_cases_yet keep = λ y cs i. i

pub between_cases : (keep : Bool) (bs : List Branch) (x : Parts) (t : Part) → is_between t.markup ≡ true → CasesSoFar keep bs x → CasesSoFar keep bs (x ++ t ∷ [])
unfolding CasesSoFar
between_cases keep bs x t e h = λ y cs i. recase keep _ _ _ _ (sym (append_assoc x (t ∷ []) y)) refl (h (t ∷ y) cs (rule.between keep t y cs e i))

pub case_begins : (keep : Bool) (bs : List Branch) (y : Parts) (a : Expr) (q : Place) → CasesSoFar keep bs y → CaseBegun keep bs q (Some a) (y ++ (part (m.Case a) q ∷ []))
unfolding CaseBegun CasesSoFar
case_begins keep bs y a q s = λ x ns z h v cs i. recase keep _ _ _ _ (simp append_assoc refl) (simp append_assoc refl)
    (s (part (m.Case a) q ∷ (x ++ (part m.Close z ∷ v))) (branch q (Some a) None ns ∷ cs) (rule.one keep a q z x v ns cs h i))

pub default_begins : (keep : Bool) (bs : List Branch) (y : Parts) (q : Place) → CasesSoFar keep bs y → CaseBegun keep bs q None (y ++ (part m.Default q ∷ []))
unfolding CaseBegun CasesSoFar
default_begins keep bs y q s = λ x ns z h v cs i. recase keep _ _ _ _ (simp append_assoc refl) (simp append_assoc refl)
    (s (part m.Default q ∷ (x ++ (part m.Close z ∷ v))) (branch q None None ns ∷ cs) (rule.default keep q z x v ns cs h i))

-- ---- what is begun can be ended

-- what may stand within: nodes, or nothing between the cases of a `@switch`
abbrev pub Inside : Opener → Bool → Parts → List TNode → Type 0
Inside (op.Switch p a bs) b x ns = x ≡ []
Inside _ b x ns = Reading b x ns

pub inside_of : (o : Opener) (b : Bool) (x : Parts) (ns : List TNode) → (is_switch o ≡ true → x ≡ []) → Reading b x ns → Inside o b x ns
inside_of (op.Switch p a bs) b x ns f h = f refl
inside_of _ b x ns f h = h

no_switch : {A : Type 0} (o : Opener) → is_switch o ≡ false → is_switch o ≡ true → A
no_switch o e f = differ (sym f ∙ e)
  where
    differ : {A : Type 0} → true ≡ false → A
    differ g = cc

branch_whole : (keep : Bool) (p : Place) (bs : List Branch) (q z : Place) (test : Option Expr) (name : Option Text) (y x : Parts) (ns : List TNode) → BranchEnds keep p bs q test name y → Reading keep x ns
    → (w : Parts) (ms : List TNode) → Reading keep w ms → Reading keep (y ++ (x ++ (part m.Close z ∷ w))) (node.If p (bs ++ branch q test name ns ∷ []) ∷ ms)
branch_whole keep p bs q z (Some a) name y x ns e h w ms i = reread keep _ _ _ _ (simp append_assoc refl) (ap (λ cs. node.If p cs ∷ ms) (append-nil _)) ((e x ns z h).reads [] [] w ms (rule.done keep) i)
branch_whole keep p bs q z None name y x ns e h w ms i = e x ns z h w ms i

pub close_all : {fs : List Frame} {o : Opener} {b : Bool} {z : Parts} → Within fs o b z → (x : Parts) (ns : List TNode) → Inside o b x ns → IsBegun (z ++ x)
unfolding Front Edge CaseBegun
close_all Within.at_root x ns h = ([], ns, reread false _ _ _ _ (sym (append-nil x)) refl h)
close_all (Within.in_tag {o = o} {b = b} {ns = ms} z x' p mark attrs s w e) x ns h =
    let i : Inside o b (x' ++ (part (m.Start mark attrs) p ∷ (x ++ (part (m.End mark) p ∷ [])))) (ms ++ node.Element p mark attrs ns ∷ []) =
    inside_of o b _ _ (λ f. no_switch o s f) (front_nodes b _ _ (tag_front b x' ms p p mark attrs x ns e h)) in
    let g : IsBegun (z ++ (x' ++ (part (m.Start mark attrs) p ∷ (x ++ (part (m.End mark) p ∷ []))))) = close_all w _ _ i in
    (part (m.End mark) p ∷ g.0, g.1, reread false _ _ _ _ (simp append_assoc refl) refl g.2)
close_all (Within.in_if {o = o} {b = b} {ns = ms} z x' y p bs q test name s w e k) x ns h =
    let i : Inside o b (x' ++ (y ++ (x ++ (part m.Close p ∷ [])))) (ms ++ node.If p (bs ++ branch q test name ns ∷ []) ∷ []) =
    inside_of o b _ _ (λ f. no_switch o s f) (e _ _ (k.starts _) (branch_whole b p bs q p test name y x ns k.ends h [] [] (rule.nothing b))) in
    let g : IsBegun (z ++ (x' ++ (y ++ (x ++ (part m.Close p ∷ []))))) = close_all w _ _ i in
    (part m.Close p ∷ g.0, g.1, reread false _ _ _ _ (simp append_assoc refl) refl g.2)
close_all (Within.in_for {o = o} {b = b} {ns = ms} z x' p f s w e) x ns h =
    let i : Inside o b (x' ++ (part (m.For f) p ∷ (x ++ (part m.Close p ∷ [])))) (ms ++ node.For p f ns None ∷ []) =
    inside_of o b _ _ (λ f. no_switch o s f) (front_nodes b _ _ (for_front b x' ms p f ns _ e (rows_so_far b p p f x ns h))) in
    let g : IsBegun (z ++ (x' ++ (part (m.For f) p ∷ (x ++ (part m.Close p ∷ []))))) = close_all w _ _ i in
    (part m.Close p ∷ g.0, g.1, reread false _ _ _ _ (simp append_assoc refl) refl g.2)
close_all (Within.in_empty {o = o} {b = b} {ns = ms} z x' y p f rows q s w e k) x ns h =
    let i : Inside o b (x' ++ (y ++ (x ++ (part m.Close p ∷ [])))) (ms ++ node.For p f rows (Some (branch q None None ns)) ∷ []) =
    inside_of o b _ _ (λ f. no_switch o s f) (e _ _ (k.starts _) (k.ends x ns p h [] [] (rule.nothing b))) in
    let g : IsBegun (z ++ (x' ++ (y ++ (x ++ (part m.Close p ∷ []))))) = close_all w _ _ i in
    (part m.Close p ∷ g.0, g.1, reread false _ _ _ _ (simp append_assoc refl) refl g.2)
close_all (Within.in_switch {o = o} {b = b} {ns = ms} z x' y p a bs s w e k) x ns h =
    let i : Inside o b (x' ++ (part (m.Switch a) p ∷ (y ++ (part m.Close p ∷ [])))) (ms ++ node.Switch p a bs ∷ []) =
    inside_of o b _ _ (λ f. no_switch o s f) (front_nodes b _ _ (switch_front b x' ms p p a y bs e k)) in
    let g : IsBegun (z ++ (x' ++ (part (m.Switch a) p ∷ (y ++ (part m.Close p ∷ []))))) = close_all w _ _ i in
    (part m.Close p ∷ g.0, g.1, reread false _ _ _ _ (simp append_assoc refl ∙ ap (λ v. (z ++ (x' ++ (part (m.Switch a) p ∷ y))) ++ (v ++ (part m.Close p ∷ g.0))) (sym h) ∙ simp append_assoc refl) refl g.2)
close_all (Within.in_case {o = o} {b = b} {ns = ms} z x' y p a bs q test s w e k) x ns h =
    let i : Inside o b (x' ++ (part (m.Switch a) p ∷ ((y ++ (x ++ (part m.Close p ∷ []))) ++ (part m.Close p ∷ [])))) (ms ++ node.Switch p a (bs ++ branch q test None ns ∷ []) ∷ []) =
    inside_of o b _ _ (λ f. no_switch o s f) (front_nodes b _ _ (switch_front b x' ms p p a (y ++ (x ++ (part m.Close p ∷ []))) (bs ++ branch q test None ns ∷ []) e (k x ns p h))) in
    let g : IsBegun (z ++ (x' ++ (part (m.Switch a) p ∷ ((y ++ (x ++ (part m.Close p ∷ []))) ++ (part m.Close p ∷ []))))) = close_all w _ _ i in
    (part m.Close p ∷ (part m.Close p ∷ g.0), g.1, reread false _ _ _ _ (simp append_assoc refl) refl g.2)
