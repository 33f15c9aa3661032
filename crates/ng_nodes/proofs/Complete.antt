-- What the grammar reads, the machine reads.
use Rattle.std.proofs.Common.{◌≡◌, ℕ, suc, ◌+◌, List, [], ◌∷◌, ◌++◌, length, refl, sym, ◌∙◌, ap, append_assoc, arith}
use Rattle.std.proofs.lemmas.List.{append-nil}
use Rattle.std.specs.Prelude.{Bool, true, false, ◌||◌, Option, Some, None, Result, Ok, Err, if◌then◌else◌}
use Rattle.std.proofs.lemmas.Slice.Eq.{bytes_eq-Decides}
use Rattle.ng_ast.specs.declared.Place.{Place}
use Rattle.ng_ast.specs.declared.Expr.{Expr}
use Rattle.ng_ast.specs.declared.TAttr.{TAttr}
use Rattle.ng_ast.specs.declared.ForHead.{ForHead}
use Rattle.ng_ast.specs.declared.Branch.{Branch}
use Rattle.ng_ast.specs.declared.TNode.{TNode}
use Rattle.ng_ast.specs.declared.TNode.TheVariants as node
use Rattle.ng_lex.specs.declared.markup.Markup.{Markup}
use Rattle.ng_lex.specs.declared.markup.Markup.TheVariants as m
use Rattle.ng_lex.specs.declared.markup.Part.{Part}
use Rattle.ng_nodes.specs.declared.state.Opener.{Opener}
use Rattle.ng_nodes.specs.declared.state.Opener.TheVariants as op
use Rattle.ng_nodes.specs.declared.state.Waiting.{Waiting}
use Rattle.ng_nodes.specs.declared.state.Waiting.TheVariants as wt
use Rattle.ng_nodes.specs.declared.state.Run.{Run}
use Rattle.ng_nodes.specs.declared.state.Frame.{Frame}
use Rattle.ng_nodes.specs.declared.state.State.{State}
use Rattle.ng_nodes.specs.Texts.{Text, Parts, part, is_text, goes_on, IsRun, NotText, texted, IsGap, same, keeps}
use Rattle.ng_nodes.specs.Grammar.{branch, is_between, Nodes, Branches, Otherwise, Cases}
use Rattle.ng_nodes.specs.Machine.{Stop, Syntax, and_then, at, frame, is_gap, shown_run, settled, settle, stands, is_switch, between, begin}
use Rattle.ng_nodes.proofs.Free.{ended, free, settles, Settles, settled_again, take, take_act, take_on, free_settle}
use Rattle.ng_nodes.proofs.Runs.{gathered, gathered_gap, shown_texted, free_run}

-- what ends the nodes of an element, of a block or of the template
abbrev closes : Markup → Bool
closes (m.End tag) = true
closes m.Close = true
closes _ = false

abbrev Closer : Parts → Type 0
Closer [] = Unit {0}
Closer (t ∷ ts) = closes t.markup ≡ true

closer_settles : (r : Parts) → Closer r → Settles r
closer_settles [] h = tt
closer_settles (t ∷ ts) h = by_markup t.markup h
  where
    by_markup : (c : Markup) → closes c ≡ true → settles c ≡ true
    by_markup (m.End tag) h = refl
    by_markup m.Close h = refl
    by_markup _ h = absurd cc

text_first : (keep after : Bool) (c : Markup) → goes_on keep after c ≡ true → is_text c ≡ true
text_first keep after (m.Literal cs) e = refl
text_first keep after (m.Interpolation a) e = refl
text_first keep after _ e = absurd cc

differ : {A : Type 0} → true ≡ false → A
differ e = absurd cc

-- nodes that begin with no text settle what stands before them
nodes_settle : {keep : Bool} {x : Parts} {ns : List TNode} {k : ℕ} → Nodes keep x ns k → NotText x → (r : Parts) → Closer r → Settles (x ++ r)
nodes_settle Nodes.nothing none r h = closer_settles r h
nodes_settle (Nodes.comment p x i) none r h = refl
nodes_settle (Nodes.text {keep = keep} t x y run end i) none r h = differ (sym (text_first keep false t.markup run.0) ∙ none)
nodes_settle (Nodes.single tag attrs p x i) none r h = refl
nodes_settle (Nodes.element tag attrs p q x y i j) none r h = refl
nodes_settle (Nodes.declare name a p x i) none r h = refl
nodes_settle (Nodes.when a name p q x y z i j l) none r h = refl
nodes_settle (Nodes.rows h' p q x y z i j l) none r h = refl
nodes_settle (Nodes.switch a p q x y i j) none r h = refl

-- ---- the ends of elements and blocks

same_self : (v : Text) → same v v ≡ true
same_self v = (bytes_eq-Decides v v).1 refl

free_at : (fs : List Frame) (o : Opener) (keep : Bool) (ns ms : List TNode) (j k : ℕ) (r : Parts) → ns ≡ ms → j ≡ k
    → free (at fs o keep ns wt.Nobody None j) r ≡ free (at fs o keep ms wt.Nobody None k) r
free_at fs o keep ns ms j k r e f = ap (λ z. free (at fs o keep z wt.Nobody None j) r) e ∙ ap (λ n. free (at fs o keep ms wt.Nobody None n) r) f

end_element : (fs : List Frame) (o : Opener) (keep b : Bool) (a : List TNode) (p q : Place) (tag : Text) (attrs : List TAttr) (ns : List TNode) (n : ℕ) (r : Parts)
    → free (at (frame o keep a ∷ fs) (op.Tag p tag attrs) b ns wt.Nobody None n) (part (m.End tag) q ∷ r) ≡ free (at fs o keep (a ++ node.Element p tag attrs ns ∷ []) wt.Nobody None n) r
end_element fs o keep b a p q tag attrs ns n r = take_on (frame o keep a ∷ fs) (op.Tag p tag attrs) refl b ns n (m.End tag) q r refl
    ∙ ap (λ z. and_then (if z then Ok (at fs o keep (a ++ node.Element p tag attrs ns ∷ []) wt.Nobody None n) else Err Syntax) (λ next. free next r)) (same_self tag)

end_tested : (fs : List Frame) (o : Opener) (keep b : Bool) (a : List TNode) (p q z : Place) (bs : List Branch) (e : Expr) (name : Option Text) (ns : List TNode) (n : ℕ) (r : Parts)
    → free (at (frame o keep a ∷ fs) (op.If p bs q (Some e) name) b ns wt.Nobody None n) (part m.Close z ∷ r)
    ≡ free (at fs o keep a (wt.If p (bs ++ branch q (Some e) name ns ∷ [])) None n) r
end_tested fs o keep b a p q z bs e name ns n r = take_on (frame o keep a ∷ fs) (op.If p bs q (Some e) name) refl b ns n m.Close z r refl

end_other : (fs : List Frame) (o : Opener) (keep b : Bool) (a : List TNode) (p q z : Place) (bs : List Branch) (ns : List TNode) (n : ℕ) (r : Parts)
    → free (at (frame o keep a ∷ fs) (op.If p bs q None None) b ns wt.Nobody None n) (part m.Close z ∷ r)
    ≡ free (at fs o keep (a ++ node.If p (bs ++ branch q None None ns ∷ []) ∷ []) wt.Nobody None n) r
end_other fs o keep b a p q z bs ns n r = take_on (frame o keep a ∷ fs) (op.If p bs q None None) refl b ns n m.Close z r refl

end_rows : (fs : List Frame) (o : Opener) (keep b : Bool) (a : List TNode) (p z : Place) (h : ForHead) (ns : List TNode) (n : ℕ) (r : Parts)
    → free (at (frame o keep a ∷ fs) (op.For p h) b ns wt.Nobody None n) (part m.Close z ∷ r) ≡ free (at fs o keep a (wt.For p h ns) None n) r
end_rows fs o keep b a p z h ns n r = take_on (frame o keep a ∷ fs) (op.For p h) refl b ns n m.Close z r refl

end_empty : (fs : List Frame) (o : Opener) (keep b : Bool) (a : List TNode) (p q z : Place) (h : ForHead) (ms ns : List TNode) (n : ℕ) (r : Parts)
    → free (at (frame o keep a ∷ fs) (op.Empty p h ms q) b ns wt.Nobody None n) (part m.Close z ∷ r)
    ≡ free (at fs o keep (a ++ node.For p h ms (Some (branch q None None ns)) ∷ []) wt.Nobody None n) r
end_empty fs o keep b a p q z h ms ns n r = take_on (frame o keep a ∷ fs) (op.Empty p h ms q) refl b ns n m.Close z r refl

end_case : (f : Frame) (fs : List Frame) (keep : Bool) (p q z : Place) (a : Expr) (bs : List Branch) (test : Option Expr) (ns : List TNode) (n : ℕ) (r : Parts)
    → free (at (f ∷ fs) (op.Case p a bs q test) keep ns wt.Nobody None n) (part m.Close z ∷ r)
    ≡ free (at (f ∷ fs) (op.Switch p a (bs ++ branch q test None ns ∷ [])) keep [] wt.Nobody None n) r
end_case f fs keep p q z a bs test ns n r = take_on (f ∷ fs) (op.Case p a bs q test) refl keep ns n m.Close z r refl

-- ---- one lemma for each rule

-- What some parts are to the machine, where what ends them comes after them: it goes on with these nodes.
Goes : Bool → Parts → List TNode → ℕ → Type 0
Goes keep x ns k = (fs : List Frame) (o : Opener) → is_switch o ≡ false → (acc : List TNode) (w : Waiting) (n : ℕ) (r : Parts) → Closer r
    → free (at fs o keep acc w None n) (x ++ r) ≡ free (at fs o keep (settled keep acc w None ++ ns) wt.Nobody None (n + k)) r

onward : (keep : Bool) (x : Parts) (ns : List TNode) (k : ℕ) → Goes keep x ns k → (fs : List Frame) (o : Opener) → is_switch o ≡ false → (acc : List TNode) (n : ℕ) (r : Parts) → Closer r
    → free (at fs o keep acc wt.Nobody None n) (x ++ r) ≡ free (at fs o keep (acc ++ ns) wt.Nobody None (n + k)) r
unfolding Goes
onward keep x ns k h fs o s acc n r c = h fs o s acc wt.Nobody n r c ∙ ap (λ z. free (at fs o keep (z ++ ns) wt.Nobody None (n + k)) r) (settled_again keep acc)

-- what stands within an element or a block, and the part that ends it
within : (keep : Bool) (x : Parts) (ns : List TNode) (k : ℕ) → Goes keep x ns k → (fs : List Frame) (o : Opener) → is_switch o ≡ false → (n : ℕ) (t : Part) (r : Parts) → closes t.markup ≡ true
    → free (at fs o keep [] wt.Nobody None n) (x ++ (t ∷ r)) ≡ free (at fs o keep ns wt.Nobody None (n + k)) (t ∷ r)
within keep x ns k h fs o s n t r c = onward keep x ns k h fs o s [] n (t ∷ r) c

nothing_goes : (keep : Bool) → Goes keep [] [] 0
unfolding Goes
nothing_goes keep = λ fs o s acc w n r c. free_settle (at fs o keep acc w None n) s r (closer_settles r c)
    ∙ free_at fs o keep (settled keep acc w None) (settled keep acc w None ++ []) (n + 0) (n + 0) r (sym (append-nil (settled keep acc w None))) refl

-- from a state whose block and text are settled
from_settled : (keep : Bool) (x : Parts) (ns : List TNode) (k : ℕ) → Goes keep x ns k → (fs : List Frame) (o : Opener) → is_switch o ≡ false → (acc : List TNode) (e : List TNode) (j n i : ℕ) (r : Parts) → Closer r → j + k ≡ n + i
    → free (at fs o keep (acc ++ e) wt.Nobody None j) (x ++ r) ≡ free (at fs o keep (acc ++ (e ++ ns)) wt.Nobody None (n + i)) r
from_settled keep x ns k h fs o s acc e j n i r c f = onward keep x ns k h fs o s (acc ++ e) j r c ∙ free_at fs o keep ((acc ++ e) ++ ns) (acc ++ (e ++ ns)) (j + k) (n + i) r (append_assoc acc e ns) f

comment_goes : (keep : Bool) (p : Place) (x : Parts) (ns : List TNode) (k : ℕ) → Goes keep x ns k → Goes keep (part m.Comment p ∷ x) ns k
unfolding Goes
comment_goes keep p x ns k h = λ fs o s acc w n r c. take_act (at fs o keep acc w None n) s m.Comment p (x ++ r) refl
    ∙ onward keep x ns k h fs o s (settled keep acc w None) (n + 0) r c ∙ free_at fs o keep _ _ ((n + 0) + k) (n + k) r refl (omega arith)

text_goes : (keep : Bool) (t : Part) (x y : Parts) (ns : List TNode) (k : ℕ) → IsRun keep false (t ∷ x) → ((r : Parts) → Closer r → Settles (y ++ r)) → Goes keep y ns k
    → Goes keep ((t ∷ x) ++ y) (texted keep (t ∷ x) ++ ns) (length (texted keep (t ∷ x)) + k)
unfolding Goes
text_goes keep t x y ns k run st h = λ fs o s acc w n r c.
    let u : Option Run = gathered keep None (t ∷ x) in
    let e : shown_run keep u ≡ texted keep (t ∷ x) = shown_texted keep (t ∷ x) run in
    let b : List TNode = settled keep acc w None in
    let lists : settled keep acc w u ≡ b ++ shown_run keep u = simp (append_assoc, append-nil) refl in
    ap (λ z. free (at fs o keep acc w None n) z) (append_assoc (t ∷ x) y r)
    ∙ free_run (at fs o keep acc w None n) s false refl (t ∷ x) (y ++ r) run
    ∙ free_settle (at fs o keep acc w u n) s (y ++ r) (st r c)
    ∙ ap (λ z. free (at fs o keep z wt.Nobody None (n + length (shown_run keep u))) (y ++ r)) lists
    ∙ ap (λ z. free (at fs o keep (b ++ z) wt.Nobody None (n + length z)) (y ++ r)) e
    ∙ from_settled keep y ns k h fs o s b (texted keep (t ∷ x)) (n + length (texted keep (t ∷ x))) n (length (texted keep (t ∷ x)) + k) r c (omega arith)

single_goes : (keep : Bool) (tag : Text) (attrs : List TAttr) (p : Place) (x : Parts) (ns : List TNode) (k : ℕ) → Goes keep x ns k
    → Goes keep (part (m.Single tag attrs) p ∷ x) (node.Element p tag attrs [] ∷ ns) (suc k)
unfolding Goes
single_goes keep tag attrs p x ns k h = λ fs o s acc w n r c. take_act (at fs o keep acc w None n) s (m.Single tag attrs) p (x ++ r) refl
    ∙ from_settled keep x ns k h fs o s (settled keep acc w None) (node.Element p tag attrs [] ∷ []) (suc (n + 0)) n (suc k) r c (omega arith)

declare_goes : (keep : Bool) (name : Text) (a : Expr) (p : Place) (x : Parts) (ns : List TNode) (k : ℕ) → Goes keep x ns k
    → Goes keep (part (m.Let name a) p ∷ x) (node.Let p name a ∷ ns) (suc k)
unfolding Goes
declare_goes keep name a p x ns k h = λ fs o s acc w n r c. take_act (at fs o keep acc w None n) s (m.Let name a) p (x ++ r) refl
    ∙ from_settled keep x ns k h fs o s (settled keep acc w None) (node.Let p name a ∷ []) (suc (n + 0)) n (suc k) r c (omega arith)

element_goes : (keep : Bool) (tag : Text) (attrs : List TAttr) (p q : Place) (x y : Parts) (ns ms : List TNode) (j k : ℕ) → Goes (keep || keeps tag) x ns j → Goes keep y ms k
    → Goes keep (part (m.Start tag attrs) p ∷ (x ++ (part (m.End tag) q ∷ y))) (node.Element p tag attrs ns ∷ ms) (suc (j + k))
unfolding Goes
element_goes keep tag attrs p q x y ns ms j k h i = λ fs o s acc w n r c.
    let b : List TNode = settled keep acc w None in
    let t : Part = part (m.End tag) q in
    ap (λ z. free (at fs o keep acc w None n) (part (m.Start tag attrs) p ∷ z)) (append_assoc x (t ∷ y) r)
    ∙ take_act (at fs o keep acc w None n) s (m.Start tag attrs) p (x ++ (t ∷ (y ++ r))) refl
    ∙ within (keep || keeps tag) x ns j h (frame o keep b ∷ fs) (op.Tag p tag attrs) refl (suc (n + 0)) t (y ++ r) refl
    ∙ end_element fs o keep (keep || keeps tag) b p q tag attrs ns (suc (n + 0) + j) (y ++ r)
    ∙ from_settled keep y ms k i fs o s b (node.Element p tag attrs ns ∷ []) (suc (n + 0) + j) n (suc (j + k)) r c (omega arith)

-- ---- further branches

-- an `@if` that may go on does so with these branches
GoesBranches : Bool → Parts → List Branch → ℕ → Type 0
GoesBranches keep y bs k = (fs : List Frame) (o : Opener) → is_switch o ≡ false → (acc : List TNode) (p : Place) (cs : List Branch) (n : ℕ) (r : Parts) (out : Result (List TNode × ℕ) Stop)
    → ((acc' : List TNode) (w' : Waiting) → settled keep acc' w' None ≡ acc ++ node.If p (cs ++ bs) ∷ [] → free (at fs o keep acc' w' None (n + k)) r ≡ out)
    → free (at fs o keep acc (wt.If p cs) None n) (y ++ r) ≡ out

done_goes : (keep : Bool) → GoesBranches keep [] [] 0
unfolding GoesBranches
done_goes keep = λ fs o s acc p cs n r out go.
    let few : n ≡ n + 0 = omega arith in
    ap (λ k. free (at fs o keep acc (wt.If p cs) None k) r) few ∙ go acc (wt.If p cs) (ap (λ bs. acc ++ node.If p bs ∷ []) (sym (append-nil cs)))

-- the gap before a branch
gap_goes : (fs : List Frame) (o : Opener) → is_switch o ≡ false → (keep : Bool) (acc : List TNode) (w : Waiting) (n : ℕ) (g : Parts) (c : Markup) (q : Place) (r : Parts) (next : State) → IsGap keep g
    → ((u : Option Run) → is_gap u ≡ true → stands true c q (at fs o keep acc w u n) ≡ Ok next) → free (at fs o keep acc w None n) (g ++ (part c q ∷ r)) ≡ free next r
gap_goes fs o s keep acc w n g c q r next gap go =
    let u : Option Run = gathered keep None g in
    free_run (at fs o keep acc w None n) s false refl g (part c q ∷ r) gap.0
    ∙ take (at fs o keep acc w u n) s c q r
    ∙ ap (λ z. and_then z (λ st. free st r)) (go u (gathered_gap keep false None g gap.0 ∙ gap.1))

if_gap : {A : Type 0} (u : Option Run) (x y : A) → is_gap u ≡ true → (if is_gap u then x else y) ≡ x
if_gap u x y e = ap (λ b. if b then x else y) e

other_goes : (keep : Bool) (q z : Place) (g x : Parts) (ns : List TNode) (k : ℕ) → IsGap keep g → Goes keep x ns k
    → GoesBranches keep (g ++ (part m.Else q ∷ (x ++ (part m.Close z ∷ [])))) (branch q None None ns ∷ []) k
unfolding GoesBranches
other_goes keep q z g x ns k gap h = λ fs o s acc p cs n r out go.
    let t : Part = part m.Close z in
    let lists : (g ++ (part m.Else q ∷ (x ++ (t ∷ [])))) ++ r ≡ g ++ (part m.Else q ∷ (x ++ (t ∷ r))) = simp append_assoc refl in
    ap (λ y. free (at fs o keep acc (wt.If p cs) None n) y) lists
    ∙ gap_goes fs o s keep acc (wt.If p cs) n g m.Else q (x ++ (t ∷ r)) (at (frame o keep acc ∷ fs) (op.If p cs q None None) keep [] wt.Nobody None n) gap (λ u e. if_gap u _ _ e)
    ∙ within keep x ns k h (frame o keep acc ∷ fs) (op.If p cs q None None) refl n t r refl
    ∙ end_other fs o keep keep acc p q z cs ns (n + k) r
    ∙ go (acc ++ node.If p (cs ++ branch q None None ns ∷ []) ∷ []) wt.Nobody (settled_again keep (acc ++ node.If p (cs ++ branch q None None ns ∷ []) ∷ []))

further_goes : (keep : Bool) (a : Expr) (name : Option Text) (q z : Place) (g x y : Parts) (ns : List TNode) (bs : List Branch) (j k : ℕ) → IsGap keep g → Goes keep x ns j → GoesBranches keep y bs k
    → GoesBranches keep (g ++ (part (m.ElseIf a name) q ∷ (x ++ (part m.Close z ∷ y)))) (branch q (Some a) name ns ∷ bs) (j + k)
unfolding GoesBranches
further_goes keep a name q z g x y ns bs j k gap h i = λ fs o s acc p cs n r out go.
    let t : Part = part m.Close z in
    let b : Branch = branch q (Some a) name ns in
    let lists : (g ++ (part (m.ElseIf a name) q ∷ (x ++ (t ∷ y)))) ++ r ≡ g ++ (part (m.ElseIf a name) q ∷ (x ++ (t ∷ (y ++ r)))) = simp append_assoc refl in
    let sums : (n + j) + k ≡ n + (j + k) = omega arith in
    ap (λ v. free (at fs o keep acc (wt.If p cs) None n) v) lists
    ∙ gap_goes fs o s keep acc (wt.If p cs) n g (m.ElseIf a name) q (x ++ (t ∷ (y ++ r))) (at (frame o keep acc ∷ fs) (op.If p cs q (Some a) name) keep [] wt.Nobody None n) gap (λ u e. if_gap u _ _ e)
    ∙ within keep x ns j h (frame o keep acc ∷ fs) (op.If p cs q (Some a) name) refl n t (y ++ r) refl
    ∙ end_tested fs o keep keep acc p q z cs a name ns (n + j) (y ++ r)
    ∙ i fs o s acc p (cs ++ b ∷ []) (n + j) r out (λ acc' w' e.
    ap (λ v. free (at fs o keep acc' w' None v) r) sums ∙ go acc' w' (e ∙ ap (λ v. acc ++ node.If p v ∷ []) (append_assoc cs (b ∷ []) bs)))

when_goes : (keep : Bool) (a : Expr) (name : Option Text) (p q : Place) (x y z : Parts) (ns : List TNode) (bs : List Branch) (ms : List TNode) (i j k : ℕ) → Goes keep x ns i → GoesBranches keep y bs j → Goes keep z ms k
    → Goes keep (part (m.If a name) p ∷ (x ++ (part m.Close q ∷ (y ++ z)))) (node.If p (branch p (Some a) name ns ∷ bs) ∷ ms) (suc (i + (j + k)))
unfolding Goes GoesBranches
when_goes keep a name p q x y z ns bs ms i j k h l v = λ fs o s acc w n r c.
    let b : List TNode = settled keep acc w None in
    let t : Part = part m.Close q in
    let lists : (x ++ (t ∷ (y ++ z))) ++ r ≡ x ++ (t ∷ (y ++ (z ++ r))) = simp append_assoc refl in
    ap (λ u. free (at fs o keep acc w None n) (part (m.If a name) p ∷ u)) lists
    ∙ take_act (at fs o keep acc w None n) s (m.If a name) p (x ++ (t ∷ (y ++ (z ++ r)))) refl
    ∙ within keep x ns i h (frame o keep b ∷ fs) (op.If p [] p (Some a) name) refl (suc (n + 0)) t (y ++ (z ++ r)) refl
    ∙ end_tested fs o keep keep b p p q [] a name ns (suc (n + 0) + i) (y ++ (z ++ r))
    ∙ l fs o s b p (branch p (Some a) name ns ∷ []) (suc (n + 0) + i) (z ++ r) _ (λ acc' w' e.
    v fs o s acc' w' ((suc (n + 0) + i) + j) r c
    ∙ free_at fs o keep (settled keep acc' w' None ++ ms) (b ++ (node.If p (branch p (Some a) name ns ∷ bs) ∷ ms)) (((suc (n + 0) + i) + j) + k) (n + suc (i + (j + k))) r
    (ap (λ u. u ++ ms) e ∙ append_assoc b (node.If p (branch p (Some a) name ns ∷ bs) ∷ []) ms) (omega arith))

-- a `@for` that may go on does so with this `@empty`
GoesOtherwise : Bool → Parts → Option Branch → ℕ → Type 0
GoesOtherwise keep y b k = (fs : List Frame) (o : Opener) → is_switch o ≡ false → (acc : List TNode) (p : Place) (h : ForHead) (ms : List TNode) (n : ℕ) (r : Parts) (out : Result (List TNode × ℕ) Stop)
    → ((acc' : List TNode) (w' : Waiting) → settled keep acc' w' None ≡ acc ++ node.For p h ms b ∷ [] → free (at fs o keep acc' w' None (n + k)) r ≡ out)
    → free (at fs o keep acc (wt.For p h ms) None n) (y ++ r) ≡ out

nobody_goes : (keep : Bool) → GoesOtherwise keep [] None 0
unfolding GoesOtherwise
nobody_goes keep = λ fs o s acc p h ms n r out go.
    let few : n ≡ n + 0 = omega arith in
    ap (λ k. free (at fs o keep acc (wt.For p h ms) None k) r) few ∙ go acc (wt.For p h ms) refl

empty_goes : (keep : Bool) (q z : Place) (g x : Parts) (ns : List TNode) (k : ℕ) → IsGap keep g → Goes keep x ns k
    → GoesOtherwise keep (g ++ (part m.Empty q ∷ (x ++ (part m.Close z ∷ [])))) (Some (branch q None None ns)) k
unfolding GoesOtherwise
empty_goes keep q z g x ns k gap i = λ fs o s acc p h ms n r out go.
    let t : Part = part m.Close z in
    let lists : (g ++ (part m.Empty q ∷ (x ++ (t ∷ [])))) ++ r ≡ g ++ (part m.Empty q ∷ (x ++ (t ∷ r))) = simp append_assoc refl in
    ap (λ y. free (at fs o keep acc (wt.For p h ms) None n) y) lists
    ∙ gap_goes fs o s keep acc (wt.For p h ms) n g m.Empty q (x ++ (t ∷ r)) (at (frame o keep acc ∷ fs) (op.Empty p h ms q) keep [] wt.Nobody None n) gap (λ u e. if_gap u _ _ e)
    ∙ within keep x ns k i (frame o keep acc ∷ fs) (op.Empty p h ms q) refl n t r refl
    ∙ end_empty fs o keep keep acc p q z h ms ns (n + k) r
    ∙ go (acc ++ node.For p h ms (Some (branch q None None ns)) ∷ []) wt.Nobody (settled_again keep (acc ++ node.For p h ms (Some (branch q None None ns)) ∷ []))

rows_goes : (keep : Bool) (f : ForHead) (p q : Place) (x y z : Parts) (ns : List TNode) (b : Option Branch) (ms : List TNode) (i j k : ℕ) → Goes keep x ns i → GoesOtherwise keep y b j → Goes keep z ms k
    → Goes keep (part (m.For f) p ∷ (x ++ (part m.Close q ∷ (y ++ z)))) (node.For p f ns b ∷ ms) (suc (i + (j + k)))
unfolding Goes GoesOtherwise
rows_goes keep f p q x y z ns b ms i j k h l v = λ fs o s acc w n r c.
    let a : List TNode = settled keep acc w None in
    let t : Part = part m.Close q in
    let lists : (x ++ (t ∷ (y ++ z))) ++ r ≡ x ++ (t ∷ (y ++ (z ++ r))) = simp append_assoc refl in
    ap (λ u. free (at fs o keep acc w None n) (part (m.For f) p ∷ u)) lists
    ∙ take_act (at fs o keep acc w None n) s (m.For f) p (x ++ (t ∷ (y ++ (z ++ r)))) refl
    ∙ within keep x ns i h (frame o keep a ∷ fs) (op.For p f) refl (suc (n + 0)) t (y ++ (z ++ r)) refl
    ∙ end_rows fs o keep keep a p q f ns (suc (n + 0) + i) (y ++ (z ++ r))
    ∙ l fs o s a p f ns (suc (n + 0) + i) (z ++ r) _ (λ acc' w' e.
    v fs o s acc' w' ((suc (n + 0) + i) + j) r c
    ∙ free_at fs o keep (settled keep acc' w' None ++ ms) (a ++ (node.For p f ns b ∷ ms)) (((suc (n + 0) + i) + j) + k) (n + suc (i + (j + k))) r
    (ap (λ u. u ++ ms) e ∙ append_assoc a (node.For p f ns b ∷ []) ms) (omega arith))

-- ---- cases

-- a `@switch` goes on with these cases
GoesCases : Bool → Parts → List Branch → ℕ → Type 0
GoesCases keep x bs k = (f : Frame) (fs : List Frame) (p : Place) (a : Expr) (cs : List Branch) (n : ℕ) (r : Parts)
    → free (at (f ∷ fs) (op.Switch p a cs) keep [] wt.Nobody None n) (x ++ r) ≡ free (at (f ∷ fs) (op.Switch p a (cs ++ bs)) keep [] wt.Nobody None (n + k)) r

free_switch : (f : Frame) (fs : List Frame) (p : Place) (a : Expr) (cs ds : List Branch) (keep : Bool) (j k : ℕ) (r : Parts) → cs ≡ ds → j ≡ k
    → free (at (f ∷ fs) (op.Switch p a cs) keep [] wt.Nobody None j) r ≡ free (at (f ∷ fs) (op.Switch p a ds) keep [] wt.Nobody None k) r
free_switch f fs p a cs ds keep j k r e g = ap (λ z. free (at (f ∷ fs) (op.Switch p a z) keep [] wt.Nobody None j) r) e ∙ ap (λ n. free (at (f ∷ fs) (op.Switch p a ds) keep [] wt.Nobody None n) r) g

ended_goes : (keep : Bool) → GoesCases keep [] [] 0
unfolding GoesCases
ended_goes keep = λ f fs p a cs n r. free_switch f fs p a cs (cs ++ []) keep n (n + 0) r (sym (append-nil cs)) (omega arith)

take_between : (f : Frame) (fs : List Frame) (p : Place) (a : Expr) (cs : List Branch) (keep : Bool) (n : ℕ) (c : Markup) (q : Place) (r : Parts) → is_between c ≡ true
    → free (at (f ∷ fs) (op.Switch p a cs) keep [] wt.Nobody None n) (part c q ∷ r) ≡ free (at (f ∷ fs) (op.Switch p a cs) keep [] wt.Nobody None n) r
unfolding free
take_between f fs p a cs keep n (m.Literal ds) q r e = ap (λ b. and_then (if b then Ok (at (f ∷ fs) (op.Switch p a cs) keep [] wt.Nobody None n) else Err Syntax) (λ next. free next r)) e
take_between f fs p a cs keep n m.Comment q r e = refl
take_between f fs p a cs keep n _ q r e = absurd cc

between_goes : (keep : Bool) (t : Part) (x : Parts) (bs : List Branch) (k : ℕ) → is_between t.markup ≡ true → GoesCases keep x bs k → GoesCases keep (t ∷ x) bs k
unfolding GoesCases
between_goes keep t x bs k e h = λ f fs p a cs n r. take_between f fs p a cs keep n t.markup t.place (x ++ r) e ∙ h f fs p a cs n r

begin_case : (f : Frame) (fs : List Frame) (p : Place) (a : Expr) (cs : List Branch) (keep : Bool) (n : ℕ) (b : Expr) (q : Place) (r : Parts)
    → free (at (f ∷ fs) (op.Switch p a cs) keep [] wt.Nobody None n) (part (m.Case b) q ∷ r) ≡ free (at (f ∷ fs) (op.Case p a cs q (Some b)) keep [] wt.Nobody None n) r
unfolding free
begin_case f fs p a cs keep n b q r = refl

begin_default : (f : Frame) (fs : List Frame) (p : Place) (a : Expr) (cs : List Branch) (keep : Bool) (n : ℕ) (q : Place) (r : Parts)
    → free (at (f ∷ fs) (op.Switch p a cs) keep [] wt.Nobody None n) (part m.Default q ∷ r) ≡ free (at (f ∷ fs) (op.Case p a cs q None) keep [] wt.Nobody None n) r
unfolding free
begin_default f fs p a cs keep n q r = refl

-- a case, from what stands in it
case_goes : (keep : Bool) (test : Option Expr) (q z : Place) (x y : Parts) (ns : List TNode) (bs : List Branch) (j k : ℕ) → Goes keep x ns j → GoesCases keep y bs k
    → (f : Frame) (fs : List Frame) (p : Place) (a : Expr) (cs : List Branch) (n : ℕ) (r : Parts)
    → free (at (f ∷ fs) (op.Case p a cs q test) keep [] wt.Nobody None n) ((x ++ (part m.Close z ∷ y)) ++ r)
    ≡ free (at (f ∷ fs) (op.Switch p a (cs ++ (branch q test None ns ∷ bs))) keep [] wt.Nobody None (n + (j + k))) r
unfolding GoesCases
case_goes keep test q z x y ns bs j k h i f fs p a cs n r =
    let t : Part = part m.Close z in
    let b : Branch = branch q test None ns in
    ap (λ v. free (at (f ∷ fs) (op.Case p a cs q test) keep [] wt.Nobody None n) v) (append_assoc x (t ∷ y) r)
    ∙ within keep x ns j h (f ∷ fs) (op.Case p a cs q test) refl n t (y ++ r) refl
    ∙ end_case f fs keep p q z a cs test ns (n + j) (y ++ r)
    ∙ i f fs p a (cs ++ b ∷ []) (n + j) r
    ∙ free_switch f fs p a ((cs ++ b ∷ []) ++ bs) (cs ++ (b ∷ bs)) keep ((n + j) + k) (n + (j + k)) r (append_assoc cs (b ∷ []) bs) (omega arith)

one_goes : (keep : Bool) (b : Expr) (q z : Place) (x y : Parts) (ns : List TNode) (bs : List Branch) (j k : ℕ) → Goes keep x ns j → GoesCases keep y bs k
    → GoesCases keep (part (m.Case b) q ∷ (x ++ (part m.Close z ∷ y))) (branch q (Some b) None ns ∷ bs) (j + k)
unfolding GoesCases
one_goes keep b q z x y ns bs j k h i = λ f fs p a cs n r. begin_case f fs p a cs keep n b q ((x ++ (part m.Close z ∷ y)) ++ r) ∙ case_goes keep (Some b) q z x y ns bs j k h i f fs p a cs n r

default_goes : (keep : Bool) (q z : Place) (x y : Parts) (ns : List TNode) (bs : List Branch) (j k : ℕ) → Goes keep x ns j → GoesCases keep y bs k
    → GoesCases keep (part m.Default q ∷ (x ++ (part m.Close z ∷ y))) (branch q None None ns ∷ bs) (j + k)
unfolding GoesCases
default_goes keep q z x y ns bs j k h i = λ f fs p a cs n r. begin_default f fs p a cs keep n q ((x ++ (part m.Close z ∷ y)) ++ r) ∙ case_goes keep None q z x y ns bs j k h i f fs p a cs n r

end_switch_goes : (fs : List Frame) (o : Opener) (keep b : Bool) (ns : List TNode) (p z : Place) (a : Expr) (bs : List Branch) (n : ℕ) (r : Parts)
    → free (at (frame o keep ns ∷ fs) (op.Switch p a bs) b [] wt.Nobody None n) (part m.Close z ∷ r) ≡ free (at fs o keep (ns ++ node.Switch p a bs ∷ []) wt.Nobody None n) r
unfolding free
end_switch_goes fs o keep b ns p z a bs n r = refl

switch_goes : (keep : Bool) (a : Expr) (p q : Place) (x y : Parts) (bs : List Branch) (ms : List TNode) (j k : ℕ) → GoesCases keep x bs j → Goes keep y ms k
    → Goes keep (part (m.Switch a) p ∷ (x ++ (part m.Close q ∷ y))) (node.Switch p a bs ∷ ms) (suc (j + k))
unfolding Goes GoesCases
switch_goes keep a p q x y bs ms j k h i = λ fs o s acc w n r c.
    let b : List TNode = settled keep acc w None in
    let t : Part = part m.Close q in
    ap (λ z. free (at fs o keep acc w None n) (part (m.Switch a) p ∷ z)) (append_assoc x (t ∷ y) r)
    ∙ take_act (at fs o keep acc w None n) s (m.Switch a) p (x ++ (t ∷ (y ++ r))) refl
    ∙ h (frame o keep b) fs p a [] (suc (n + 0)) (t ∷ (y ++ r))
    ∙ end_switch_goes fs o keep keep b p q a bs (suc (n + 0) + j) (y ++ r)
    ∙ from_settled keep y ms k i fs o s b (node.Switch p a bs ∷ []) (suc (n + 0) + j) n (suc (j + k)) r c (omega arith)

mutual
  goes : {keep : Bool} {x : Parts} {ns : List TNode} {k : ℕ} → Nodes keep x ns k → Goes keep x ns k
  goes {keep = keep} Nodes.nothing = nothing_goes keep
  goes {keep = keep} (Nodes.comment p x h) = comment_goes keep p x _ _ (goes h)
  goes {keep = keep} (Nodes.text t x y run end h) = text_goes keep t x y _ _ run (nodes_settle h end) (goes h)
  goes {keep = keep} (Nodes.single tag attrs p x h) = single_goes keep tag attrs p x _ _ (goes h)
  goes {keep = keep} (Nodes.element tag attrs p q x y h i) = element_goes keep tag attrs p q x y _ _ _ _ (goes h) (goes i)
  goes {keep = keep} (Nodes.declare name a p x h) = declare_goes keep name a p x _ _ (goes h)
  goes {keep = keep} (Nodes.when a name p q x y z h i j) = when_goes keep a name p q x y z _ _ _ _ _ _ (goes h) (branches_go i) (goes j)
  goes {keep = keep} (Nodes.rows f p q x y z h i j) = rows_goes keep f p q x y z _ _ _ _ _ _ (goes h) (otherwise_goes i) (goes j)
  goes {keep = keep} (Nodes.switch a p q x y h i) = switch_goes keep a p q x y _ _ _ _ (cases_go h) (goes i)

  branches_go : {keep : Bool} {x : Parts} {bs : List Branch} {k : ℕ} → Branches keep x bs k → GoesBranches keep x bs k
  branches_go {keep = keep} Branches.done = done_goes keep
  branches_go {keep = keep} (Branches.other p q g x gap h) = other_goes keep p q g x _ _ gap (goes h)
  branches_go {keep = keep} (Branches.further a name p q g x y gap h i) = further_goes keep a name p q g x y _ _ _ _ gap (goes h) (branches_go i)

  otherwise_goes : {keep : Bool} {x : Parts} {b : Option Branch} {k : ℕ} → Otherwise keep x b k → GoesOtherwise keep x b k
  otherwise_goes {keep = keep} Otherwise.nobody = nobody_goes keep
  otherwise_goes {keep = keep} (Otherwise.empty p q g x gap h) = empty_goes keep p q g x _ _ gap (goes h)

  cases_go : {keep : Bool} {x : Parts} {bs : List Branch} {k : ℕ} → Cases keep x bs k → GoesCases keep x bs k
  cases_go {keep = keep} Cases.ended = ended_goes keep
  cases_go {keep = keep} (Cases.between t x e h) = between_goes keep t x _ _ e (cases_go h)
  cases_go {keep = keep} (Cases.one a p q x y h i) = one_goes keep a p q x y _ _ _ _ (goes h) (cases_go i)
  cases_go {keep = keep} (Cases.default p q x y h i) = default_goes keep p q x y _ _ _ _ (goes h) (cases_go i)

-- ---- the law: what the grammar reads, the machine reads
pub complete : {ts : Parts} {ns : List TNode} {k : ℕ} → Nodes false ts ns k → free begin ts ≡ Ok (ns, k)
unfolding Goes free
complete {ts = ts} {ns = ns} {k = k} h =
    let few : (0 + k) + 0 ≡ k = omega arith in
    ap (λ z. free begin z) (sym (append-nil ts)) ∙ goes h [] op.Root refl [] wt.Nobody 0 [] tt
    ∙ ap (λ z. Ok (z, (0 + k) + 0)) (append-nil ns) ∙ ap (λ z. Ok (ns, z)) few
