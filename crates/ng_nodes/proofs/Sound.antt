-- What the machine reads is in the grammar, and what it has read so far is begun.
use Rattle.std.proofs.Common.{◌≡◌, ℕ, suc, ◌+◌, List, [], ◌∷◌, ◌++◌, length, refl, sym, ◌∙◌, ap, subst, append_assoc}
use Rattle.std.proofs.lemmas.List.{append-nil}
use Rattle.std.specs.Prelude.{Bool, true, false, ◌||◌, Option, Some, None, Result, Ok, Err, if◌then◌else◌}
use Rattle.std.proofs.lemmas.Slice.Eq.{bytes_eq-Decides}
use Rattle.ng_ast.specs.declared.Place.{Place}
use Rattle.ng_ast.specs.declared.Expr.{Expr}
use Rattle.ng_ast.specs.declared.TAttr.{TAttr}
use Rattle.ng_ast.specs.declared.ForHead.{ForHead}
use Rattle.ng_ast.specs.declared.Branch.{Branch}
use Rattle.ng_ast.specs.declared.Piece.TheVariants as piece
use Rattle.ng_ast.specs.declared.TNode.{TNode}
use Rattle.ng_ast.specs.declared.TNode.TheVariants as node
use Rattle.ng_lex.specs.declared.markup.Letter.{Letter}
use Rattle.ng_lex.specs.declared.markup.Shape.{Shape}
use Rattle.ng_lex.specs.declared.markup.Shape.TheVariants as shaped
use Rattle.ng_lex.specs.declared.markup.Markup.{Markup}
use Rattle.ng_lex.specs.declared.markup.Markup.TheVariants as m
use Rattle.ng_lex.specs.declared.markup.Part.{Part}
use Rattle.ng_nodes.specs.declared.state.Opener.{Opener}
use Rattle.ng_nodes.specs.declared.state.Opener.TheVariants as op
use Rattle.ng_nodes.specs.declared.state.Waiting.{Waiting}
use Rattle.ng_nodes.specs.declared.state.Waiting.TheVariants as wt
use Rattle.ng_nodes.specs.declared.state.Run.{Run}
use Rattle.ng_nodes.specs.declared.state.Frame.{Frame}
use Rattle.ng_nodes.specs.declared.state.State.{State}
use Rattle.ng_nodes.specs.Texts.{Text, Parts, part, text_of, goes_on, IsRun, all_blank, texted, IsGap, same, keeps}
use Rattle.ng_nodes.specs.Grammar.{branch, is_between}
use Rattle.ng_nodes.specs.Machine.{Stop, Syntax, at, frame, is_after_literal, is_gap, joined, shown_run, shown, settled, settle, branch_of, empty_of, heavy_else_if, ended_branch, end_tag, end_block, stands, is_switch, between, arrive}
use Rattle.ng_nodes.specs.Limits.{open_after, opened_by, levels, IsBegun}
use Rattle.ng_nodes.proofs.Rules as rule
use Rattle.ng_nodes.proofs.Rules.{Reading, reread}
use Rattle.ng_nodes.proofs.Runs.{more_of, gathered, gathered_append, gathered_literal, gathered_gap, shown_texted}
use Rattle.ng_nodes.proofs.Begun.{Front, Edge, Starts, starts_more, IfSoFar, BranchEnds, ForSoFar, CaseBegun, Within, edge_nodes, none_yet, comment_front, single_front, declare_front, tag_front, switch_front, block_front, if_front, for_front, if_begins, else_if_begins, else_begins, rows_so_far, empty_begins, no_cases_yet, between_cases, case_begins, default_begins, inside_of, close_all}

-- an `@if` after its nodes, which may go on
record IfEnded (keep : Bool) (ns : List TNode) (p : Place) (bs : List Branch) (x : Parts) : Type 0 where
  before : Parts
  rest : Parts
  all : x ≡ before ++ rest
  edge : Edge keep before ns
  so_far : IfSoFar keep p bs rest

-- a `@for` after its nodes, which may go on
record ForEnded (keep : Bool) (ns : List TNode) (p : Place) (f : ForHead) (rows : List TNode) (x : Parts) : Type 0 where
  before : Parts
  rest : Parts
  all : x ≡ before ++ rest
  edge : Edge keep before ns
  so_far : ForSoFar keep p f rows rest

abbrev Level : Bool → List TNode → Waiting → Parts → Type 0
Level keep ns wt.Nobody x = Front keep x ns
Level keep ns (wt.If p bs) x = IfEnded keep ns p bs x
Level keep ns (wt.For p f rows) x = ForEnded keep ns p f rows x

-- the levels of what is open
abbrev own : Opener → List Bool → List Bool
own (op.Case p a bs q test) ls = false ∷ ls
own _ ls = ls

abbrev marks : Opener → List Frame → List Bool
marks o [] = []
marks o (f ∷ fs) = own o (true ∷ marks f.opener fs)

own_levels : (o : Opener) (ls : List Bool) → levels (own o ls) ≡ levels ls
own_levels (op.Case p a bs q test) ls = refl
own_levels _ ls = refl

pub marks_levels : (o : Opener) (fs : List Frame) → levels (marks o fs) ≡ length fs
marks_levels o [] = refl
marks_levels o (f ∷ fs) = own_levels o (true ∷ marks f.opener fs) ∙ ap suc (marks_levels f.opener fs)

-- what the parts are to the state that the machine has after them
pub record Reads (st : State) (front : Parts) : Type 0 where
  outer : Parts
  here : Parts
  us : Parts
  all : front ≡ outer ++ (here ++ us)
  pub within : Within st.outer st.opener st.keep outer
  level : Level st.keep st.nodes st.waiting here
  texts : IsRun st.keep false us
  run : st.run ≡ gathered st.keep None us
  -- nothing stands between the cases of a `@switch`
  flat : is_switch st.opener ≡ true → here ++ us ≡ []
  pub depth : opened_by [] front ≡ marks st.opener st.outer

-- the nodes up to where a text may go on
front_of : (keep : Bool) (ns : List TNode) (w : Waiting) (x : Parts) → Level keep ns w x → Front keep x (ns ++ shown w)
front_of keep ns wt.Nobody x h = subst (λ z. Front keep x z) (sym (append-nil ns)) h
front_of keep ns (wt.If p bs) x h = subst (λ z. Front keep z (ns ++ node.If p bs ∷ [])) (sym h.all) (if_front keep h.before ns p bs h.rest h.edge h.so_far)
front_of keep ns (wt.For p f rows) x h = subst (λ z. Front keep z (ns ++ node.For p f rows None ∷ [])) (sym h.all) (for_front keep h.before ns p f rows h.rest h.edge h.so_far)

edge_texted : (keep : Bool) (ns : List TNode) (w : Waiting) (x us : Parts) → Level keep ns w x → IsRun keep false us → Edge keep (x ++ us) (ns ++ (shown w ++ texted keep us))
unfolding Front Edge
edge_texted keep ns w x [] h run = λ y ms none i. reread keep _ _ _ _ (simp append-nil refl) (simp append-nil refl) (front_of keep ns w x h y ms i)
edge_texted keep ns w x (t ∷ us) h run = λ y ms none i. reread keep _ _ _ _ (sym (append_assoc x (t ∷ us) y)) (simp append_assoc refl)
    (front_of keep ns w x h ((t ∷ us) ++ y) (texted keep (t ∷ us) ++ ms) (rule.text keep t us y ms run none i))

edge_reads : (st : State) (front : Parts) (h : Reads st front) → Edge st.keep (h.here ++ h.us) (settled st.keep st.nodes st.waiting st.run)
edge_reads st front h = subst (λ z. Edge st.keep (h.here ++ h.us) (st.nodes ++ (shown st.waiting ++ z))) e (edge_texted st.keep st.nodes st.waiting h.here h.us h.level h.texts)
  where
    e : texted st.keep h.us ≡ shown_run st.keep st.run
    e = sym (ap (λ u. shown_run st.keep u) h.run ∙ shown_texted st.keep h.us h.texts)

nodes_reads : (st : State) (front : Parts) (h : Reads st front) → Reading st.keep (h.here ++ h.us) (settled st.keep st.nodes st.waiting st.run)
nodes_reads st front h = edge_nodes st.keep _ _ (edge_reads st front h)

pub begun_of : (st : State) (front : Parts) → Reads st front → IsBegun front
begun_of st front h = subst (λ z. IsBegun z) (sym h.all) (close_all h.within _ _ (inside_of st.opener st.keep _ _ h.flat (nodes_reads st front h)))

-- ---- states after a part

opened_append : (ls : List Bool) (x : Parts) (t : Part) → opened_by ls (x ++ t ∷ []) ≡ open_after t.markup (opened_by ls x)
opened_append ls [] t = refl
opened_append ls (u ∷ x) t = opened_append (open_after u.markup ls) x t

-- the levels after one more part
deeper : (front : Parts) (c : Markup) (q : Place) (ls ms : List Bool) → opened_by [] front ≡ ls → open_after c ls ≡ ms → opened_by [] (front ++ part c q ∷ []) ≡ ms
deeper front c q ls ms e f = opened_append [] front (part c q) ∙ ap (λ l. open_after c l) e ∙ f

-- nothing stands inside yet
fresh : {fs : List Frame} {o : Opener} {b : Bool} {z : Parts} → Within fs o b z → (n : ℕ) (front : Parts) → front ≡ z → opened_by [] front ≡ marks o fs → Reads (at fs o b [] wt.Nobody None n) front
fresh {o = o} {b = b} {z = z} w n front e d = record {
  outer = z;
  here = [];
  us = [];
  all = e ∙ sym (append-nil z);
  within = w;
  level = none_yet b;
  texts = tt;
  run = refl;
  flat = λ s. refl;
  depth = d;
}

differ : {A : Type 0} → true ≡ false → A
differ e = cc

-- some nodes stand inside, and no text is begun
grown : {fs : List Frame} {o : Opener} {b : Bool} {z : Parts} → Within fs o b z → is_switch o ≡ false → (ns : List TNode) (w : Waiting) (x : Parts) → Level b ns w x → (n : ℕ) (front : Parts) → front ≡ z ++ x → opened_by [] front ≡ marks o fs
    → Reads (at fs o b ns w None n) front
grown {o = o} {b = b} {z = z} h s ns w x l n front e d = record {
  outer = z;
  here = x;
  us = [];
  all = e ∙ ap (λ y. z ++ y) (sym (append-nil x));
  within = h;
  level = l;
  texts = tt;
  run = refl;
  flat = λ f. differ (sym f ∙ s);
  depth = d;
}

abbrev pub Was : Parts → Part → Result State Stop → Type 0
Was front t (Ok st) = Reads st (front ++ t ∷ [])
Was front t (Err e) = Unit {0}

-- ---- ends

closed_tag_if : {fs : List Frame} {o : Opener} {b : Bool} {z : Parts} (ms : List TNode) (x' : Parts) (p : Place) (mark : Text) (attrs : List TAttr) → is_switch o ≡ false → Within fs o b z → Edge b x' ms
    → (x : Parts) (ns : List TNode) → Reading (b || keeps mark) x ns → (front : Parts) (tag : Text) (q : Place) (n : ℕ) → front ≡ (z ++ (x' ++ (part (m.Start mark attrs) p ∷ []))) ++ x
    → opened_by [] front ≡ true ∷ marks o fs → (v : Bool) → same mark tag ≡ v → Was front (part (m.End tag) q) (if v then Ok (at fs o b (ms ++ node.Element p mark attrs ns ∷ []) wt.Nobody None n) else Err Syntax)
closed_tag_if ms x' p mark attrs s w e x ns h front tag q n all d false f = tt
closed_tag_if {fs = fs} {o = o} {b = b} {z = z} ms x' p mark attrs s w e x ns h front tag q n all d true f =
    let g : mark ≡ tag = (bytes_eq-Decides mark tag).0 f in
    grown w s (ms ++ node.Element p mark attrs ns ∷ []) wt.Nobody (x' ++ (part (m.Start mark attrs) p ∷ (x ++ (part (m.End mark) q ∷ [])))) (tag_front b x' ms p q mark attrs x ns e h) n (front ++ part (m.End tag) q ∷ [])
    (ap (λ k. front ++ part (m.End k) q ∷ []) (sym g) ∙ ap (λ k. k ++ part (m.End mark) q ∷ []) all ∙ simp append_assoc refl)
    (deeper front (m.End tag) q (true ∷ marks o fs) (marks o fs) d refl)

closed_tag : {fs : List Frame} {o : Opener} {b : Bool} {z : Parts} → Within fs o b z → (x : Parts) (ns : List TNode) → Reading b x ns → (front : Parts) (tag : Text) (q : Place) (n : ℕ)
    → front ≡ z ++ x → opened_by [] front ≡ marks o fs → Was front (part (m.End tag) q) (end_tag tag fs o ns n)
closed_tag Within.at_root x ns h front tag q n all d = tt
closed_tag (Within.in_tag z x' p mark attrs s w e) x ns h front tag q n all d = closed_tag_if _ x' p mark attrs s w e x ns h front tag q n all d (same mark tag) refl
closed_tag (Within.in_if z x' y p bs r test name s w e k) x ns h front tag q n all d = tt
closed_tag (Within.in_for z x' p f s w e) x ns h front tag q n all d = tt
closed_tag (Within.in_empty z x' y p f rows r s w e k) x ns h front tag q n all d = tt
closed_tag (Within.in_switch z x' y p a bs s w e k) x ns h front tag q n all d = tt
closed_tag (Within.in_case z x' y p a bs r test s w e k) x ns h front tag q n all d = tt

closed_branch : {fs : List Frame} {o : Opener} {b : Bool} {z : Parts} (ms : List TNode) (x' y : Parts) (p : Place) (bs : List Branch) (r : Place) (test : Option Expr) (name : Option Text)
    → is_switch o ≡ false → Within fs o b z → Edge b x' ms → Starts y → BranchEnds b p bs r test name y
    → (x : Parts) (ns : List TNode) → Reading b x ns → (front : Parts) (q : Place) (n : ℕ) → front ≡ (z ++ (x' ++ y)) ++ x → opened_by [] front ≡ true ∷ marks o fs
    → Was front (part m.Close q) (ended_branch test (frame o b ms ∷ fs) p (bs ++ branch r test name ns ∷ []) n)
closed_branch {fs = fs} {o = o} {b = b} {z = z} ms x' y p bs r (Some a) name s w e start k x ns h front q n all d =
    grown w s ms (wt.If p (bs ++ branch r (Some a) name ns ∷ [])) (x' ++ (y ++ (x ++ (part m.Close q ∷ []))))
    (record { before = x'; rest = y ++ (x ++ (part m.Close q ∷ [])); all = refl; edge = e; so_far = k x ns q h }) n (front ++ part m.Close q ∷ [])
    (ap (λ v. v ++ part m.Close q ∷ []) all ∙ simp append_assoc refl) (deeper front m.Close q (true ∷ marks o fs) (marks o fs) d refl)
closed_branch {fs = fs} {o = o} {b = b} {z = z} ms x' y p bs r None name s w e start k x ns h front q n all d =
    grown w s (ms ++ node.If p (bs ++ branch r None name ns ∷ []) ∷ []) wt.Nobody (x' ++ (y ++ (x ++ (part m.Close q ∷ []))))
    (block_front b x' ms (y ++ (x ++ (part m.Close q ∷ []))) (node.If p (bs ++ branch r None name ns ∷ [])) e (starts_more y _ start)
    (λ v os i. reread b _ _ _ _ (simp append_assoc refl) refl (k x ns q h v os i))) n (front ++ part m.Close q ∷ [])
    (ap (λ v. v ++ part m.Close q ∷ []) all ∙ simp append_assoc refl) (deeper front m.Close q (true ∷ marks o fs) (marks o fs) d refl)

closed_block : {fs : List Frame} {o : Opener} {b : Bool} {z : Parts} → Within fs o b z → (x : Parts) (ns : List TNode) → Reading b x ns → (front : Parts) (q : Place) (n : ℕ)
    → front ≡ z ++ x → opened_by [] front ≡ marks o fs → Was front (part m.Close q) (end_block fs o b ns n)
unfolding CaseBegun
closed_block Within.at_root x ns h front q n all d = tt
closed_block (Within.in_tag z x' p mark attrs s w e) x ns h front q n all d = tt
closed_block (Within.in_if z x' y p bs r test name s w e k) x ns h front q n all d = closed_branch _ x' y p bs r test name s w e k.starts k.ends x ns h front q n all d
closed_block (Within.in_for {fs = fs} {o = o} {b = b} {ns = ms} z x' p f s w e) x ns h front q n all d =
    grown w s ms (wt.For p f ns) (x' ++ (part (m.For f) p ∷ (x ++ (part m.Close q ∷ []))))
    (record { before = x'; rest = part (m.For f) p ∷ (x ++ (part m.Close q ∷ [])); all = refl; edge = e; so_far = rows_so_far b p q f x ns h }) n (front ++ part m.Close q ∷ [])
    (ap (λ v. v ++ part m.Close q ∷ []) all ∙ simp append_assoc refl) (deeper front m.Close q (true ∷ marks o fs) (marks o fs) d refl)
closed_block (Within.in_empty {fs = fs} {o = o} {b = b} {ns = ms} z x' y p f rows r s w e k) x ns h front q n all d =
    grown w s (ms ++ node.For p f rows (Some (branch r None None ns)) ∷ []) wt.Nobody (x' ++ (y ++ (x ++ (part m.Close q ∷ []))))
    (block_front b x' ms (y ++ (x ++ (part m.Close q ∷ []))) (node.For p f rows (Some (branch r None None ns))) e (starts_more y _ k.starts)
    (λ v os i. reread b _ _ _ _ (simp append_assoc refl) refl (k.ends x ns q h v os i))) n (front ++ part m.Close q ∷ [])
    (ap (λ v. v ++ part m.Close q ∷ []) all ∙ simp append_assoc refl) (deeper front m.Close q (true ∷ marks o fs) (marks o fs) d refl)
closed_block (Within.in_switch z x' y p a bs s w e k) x ns h front q n all d = tt
closed_block (Within.in_case {fs = fs} {o = o} {b = b} {ns = ms} z x' y p a bs r test s w e k) x ns h front q n all d =
    fresh (Within.in_switch z x' (y ++ (x ++ (part m.Close q ∷ []))) p a (bs ++ branch r test None ns ∷ []) s w e (k x ns q h)) n (front ++ part m.Close q ∷ [])
    (ap (λ v. v ++ part m.Close q ∷ []) all ∙ simp append_assoc refl) (deeper front m.Close q (false ∷ (true ∷ marks o fs)) (true ∷ marks o fs) d refl)

-- ---- texts

-- a text goes on
goes_on_text : (st : State) (front : Parts) (c : Markup) (q : Place) → is_switch st.opener ≡ false → goes_on st.keep (is_after_literal st.run) c ≡ true → ((ls : List Bool) → open_after c ls ≡ ls) → Reads st front
    → Reads (record st { run = more_of st.keep st.run c q }) (front ++ part c q ∷ [])
goes_on_text st front c q s e flat h = record {
  outer = h.outer;
  here = h.here;
  us = h.us ++ part c q ∷ [];
  all = ap (λ k. k ++ part c q ∷ []) h.all ∙ simp append_assoc refl;
  within = h.within;
  level = h.level;
  texts = gathered_literal st.keep false None h.us c h.texts refl (subst (λ u. goes_on st.keep (is_after_literal u) c ≡ true) h.run e) q;
  run = ap (λ u. more_of st.keep u c q) h.run ∙ sym (gathered_append st.keep None h.us (part c q));
  flat = λ f. differ (sym f ∙ s);
  depth = deeper front c q _ _ h.depth (flat _);
}

literal_if : (st : State) (front : Parts) (cs : List Letter) (q : Place) → is_switch st.opener ≡ false → Reads st front → (v : Bool) → goes_on st.keep (is_after_literal st.run) (m.Literal cs) ≡ v
    → Was front (part (m.Literal cs) q) (if v then Ok (record st { run = Some (joined st.run q (piece.Text (text_of st.keep cs)) true (all_blank cs)) }) else Err Syntax)
literal_if st front cs q s h true e = goes_on_text st front (m.Literal cs) q s e (λ ls. refl) h
literal_if st front cs q s h false e = tt

-- ---- branches that go on a block

gap_of : (st : State) (front : Parts) (h : Reads st front) → is_gap st.run ≡ true → IsGap st.keep h.us
gap_of st front h e = (h.texts, sym (gathered_gap st.keep false None h.us h.texts) ∙ ap is_gap (sym h.run) ∙ e)

-- a branch that goes on a block
opened_branch : (st : State) (front : Parts) (h : Reads st front) (before rest y : Parts) (c : Markup) (q : Place) (o : Opener) → h.here ≡ before ++ rest → y ≡ rest ++ (h.us ++ (part c q ∷ []))
    → Within (frame st.opener st.keep st.nodes ∷ st.outer) o st.keep (h.outer ++ (before ++ y)) → open_after c (marks st.opener st.outer) ≡ marks o (frame st.opener st.keep st.nodes ∷ st.outer)
    → Was front (part c q) (Ok (at (frame st.opener st.keep st.nodes ∷ st.outer) o st.keep [] wt.Nobody None st.made))
opened_branch st front h before rest y c q o e f w d = fresh w st.made (front ++ part c q ∷ [])
    (ap (λ k. k ++ part c q ∷ []) (h.all ∙ ap (λ k. h.outer ++ (k ++ h.us)) e) ∙ simp append_assoc refl ∙ ap (λ k. h.outer ++ (before ++ k)) (sym f)) (deeper front c q _ _ h.depth d)

else_sound : (st : State) (front : Parts) (q : Place) → is_switch st.opener ≡ false → is_gap st.run ≡ true → (h : Reads st front) → (w : Waiting) → Level st.keep st.nodes w h.here → Was front (part m.Else q) (branch_of w None None q st)
else_sound st front q s e h wt.Nobody l = tt
else_sound st front q s e h (wt.If p bs) l = opened_branch st front h l.before l.rest _ m.Else q (op.If p bs q None None) l.all refl
    (Within.in_if h.outer l.before (l.rest ++ (h.us ++ (part m.Else q ∷ []))) p bs q None None s h.within l.edge (else_begins st.keep p bs l.rest h.us q l.so_far (gap_of st front h e))) refl
else_sound st front q s e h (wt.For p f rows) l = tt

else_if_sound : (st : State) (front : Parts) (a : Expr) (name : Option Text) (q : Place) → is_switch st.opener ≡ false → is_gap st.run ≡ true → (h : Reads st front) → (w : Waiting) → Level st.keep st.nodes w h.here
    → Was front (part (m.ElseIf a name) q) (branch_of w (Some a) name q st)
else_if_sound st front a name q s e h wt.Nobody l = tt
else_if_sound st front a name q s e h (wt.If p bs) l = opened_branch st front h l.before l.rest _ (m.ElseIf a name) q (op.If p bs q (Some a) name) l.all refl
    (Within.in_if h.outer l.before (l.rest ++ (h.us ++ (part (m.ElseIf a name) q ∷ []))) p bs q (Some a) name s h.within l.edge (else_if_begins st.keep p bs l.rest h.us a name q l.so_far (gap_of st front h e))) refl
else_if_sound st front a name q s e h (wt.For p f rows) l = tt

empty_sound : (st : State) (front : Parts) (q : Place) → is_switch st.opener ≡ false → is_gap st.run ≡ true → (h : Reads st front) → (w : Waiting) → Level st.keep st.nodes w h.here → Was front (part m.Empty q) (empty_of w q st)
empty_sound st front q s e h wt.Nobody l = tt
empty_sound st front q s e h (wt.If p bs) l = tt
empty_sound st front q s e h (wt.For p f rows) l = opened_branch st front h l.before l.rest _ m.Empty q (op.Empty p f rows q) l.all refl
    (Within.in_empty h.outer l.before (l.rest ++ (h.us ++ (part m.Empty q ∷ []))) p f rows q s h.within l.edge (empty_begins st.keep p f rows l.rest h.us q l.so_far (gap_of st front h e))) refl

gap_if : (front : Parts) (t : Part) (r : Result State Stop) (v : Bool) → (v ≡ true → Was front t r) → Was front t (if v then r else Err Syntax)
gap_if front t r true h = h refl
gap_if front t r false h = tt

-- ---- parts that end a text

-- the parts after one more
one_more : (outer here us front : Parts) (t : Part) → front ≡ outer ++ (here ++ us) → front ++ t ∷ [] ≡ outer ++ ((here ++ us) ++ t ∷ [])
one_more outer here us front t e = ap (λ k. k ++ t ∷ []) e ∙ append_assoc outer (here ++ us) (t ∷ [])

-- one more node
one_node : (st : State) (front : Parts) (h : Reads st front) → is_switch st.opener ≡ false → (t : Part) (ns : List TNode) (n : ℕ) → Front st.keep ((h.here ++ h.us) ++ t ∷ []) ns → ((ls : List Bool) → open_after t.markup ls ≡ ls)
    → Reads (at st.outer st.opener st.keep ns wt.Nobody None n) (front ++ t ∷ [])
one_node st front h s t ns n f flat = grown h.within s ns wt.Nobody ((h.here ++ h.us) ++ t ∷ []) f n (front ++ t ∷ []) (one_more h.outer h.here h.us front t h.all) (deeper front t.markup t.place _ _ h.depth (flat _))

heavy_stood : (st : State) (front : Parts) (shape : Shape) (q : Place) → Was front (part (m.Heavy shape) q) (stands true (m.Heavy shape) q st)
heavy_stood st front shaped.ElseIf q = gap_if front (part (m.Heavy shaped.ElseIf) q) _ (is_gap st.run) (λ e. by_waiting st.waiting)
  where
    by_waiting : (w : Waiting) → Was front (part (m.Heavy shaped.ElseIf) q) (heavy_else_if w)
    by_waiting wt.Nobody = tt
    by_waiting (wt.If p bs) = tt
    by_waiting (wt.For p f rows) = tt
heavy_stood st front _ q = tt

stood : (st : State) (front : Parts) (c : Markup) (q : Place) → is_switch st.opener ≡ false → Reads st front → Was front (part c q) (stands true c q st)
stood st front (m.Literal cs) q s h = literal_if st front cs q s h _ refl
stood st front (m.Interpolation a) q s h = goes_on_text st front (m.Interpolation a) q s refl (λ ls. refl) h
stood st front m.Else q s h = gap_if front (part m.Else q) _ (is_gap st.run) (λ e. else_sound st front q s e h st.waiting h.level)
stood st front (m.ElseIf a name) q s h = gap_if front (part (m.ElseIf a name) q) _ (is_gap st.run) (λ e. else_if_sound st front a name q s e h st.waiting h.level)
stood st front m.Empty q s h = gap_if front (part m.Empty q) _ (is_gap st.run) (λ e. empty_sound st front q s e h st.waiting h.level)
stood st front m.Comment q s h = one_node st front h s (part m.Comment q) _ _ (comment_front st.keep _ _ q (edge_reads st front h)) (λ ls. refl)
stood st front (m.Single tag attrs) q s h = one_node st front h s (part (m.Single tag attrs) q) _ _ (single_front st.keep _ _ q tag attrs (edge_reads st front h)) (λ ls. refl)
stood st front (m.Let name a) q s h = one_node st front h s (part (m.Let name a) q) _ _ (declare_front st.keep _ _ q name a (edge_reads st front h)) (λ ls. refl)
stood st front (m.Start tag attrs) q s h = fresh (Within.in_tag h.outer (h.here ++ h.us) q tag attrs s h.within (edge_reads st front h)) _ _
    (one_more h.outer h.here h.us front _ h.all) (deeper front (m.Start tag attrs) q _ _ h.depth refl)
stood st front (m.If a name) q s h = fresh (Within.in_if h.outer (h.here ++ h.us) (part (m.If a name) q ∷ []) q [] q (Some a) name s h.within (edge_reads st front h) (if_begins st.keep q a name)) _ _
    (one_more h.outer h.here h.us front _ h.all) (deeper front (m.If a name) q _ _ h.depth refl)
stood st front (m.For f) q s h = fresh (Within.in_for h.outer (h.here ++ h.us) q f s h.within (edge_reads st front h)) _ _
    (one_more h.outer h.here h.us front _ h.all) (deeper front (m.For f) q _ _ h.depth refl)
stood st front (m.Switch a) q s h = fresh (Within.in_switch h.outer (h.here ++ h.us) [] q a [] s h.within (edge_reads st front h) (no_cases_yet st.keep)) _ _
    (one_more h.outer h.here h.us front _ h.all) (deeper front (m.Switch a) q _ _ h.depth refl)
stood st front (m.End tag) q s h = closed_tag h.within _ _ (nodes_reads st front h) front tag q _ h.all h.depth
stood st front m.Close q s h = closed_block h.within _ _ (nodes_reads st front h) front q _ h.all h.depth
stood st front (m.Heavy shape) q s h = heavy_stood st front shape q
stood st front _ q s h = tt

-- ---- between the cases of a `@switch`

-- a state is one of whatever stands within the same
abbrev Stays : List Frame → Opener → Bool → List TNode → Waiting → Option Run → ℕ → Type 0
Stays fs o b ns w u n = (z : Parts) (front : Parts) → Within fs o b z → front ≡ z → opened_by [] front ≡ marks o fs → Reads (at fs o b ns w u n) front

blank_if : (front : Parts) (cs : List Letter) (q : Place) (st : State) (v : Bool) → (v ≡ true → Reads st (front ++ part (m.Literal cs) q ∷ [])) → Was front (part (m.Literal cs) q) (if v then Ok st else Err Syntax)
blank_if front cs q st true h = h refl
blank_if front cs q st false h = tt

between_at : {fs : List Frame} {o : Opener} {b : Bool} {z : Parts} → Within fs o b z → is_switch o ≡ true → (ns : List TNode) (w : Waiting) (u : Option Run) (n : ℕ) → Stays fs o b ns w u n → (front : Parts) → front ≡ z → opened_by [] front ≡ marks o fs
    → (c : Markup) (q : Place) → Was front (part c q) (between c q (at fs o b ns w u n))
between_at (Within.in_switch {fs = fs} {o = o} {b = b} {ns = ms} z x y p a bs s v e k) sw ns w u n stays front all d c q = by_markup c
  where
    wider : (t : Part) → front ++ t ∷ [] ≡ z ++ (x ++ (part (m.Switch a) p ∷ (y ++ t ∷ [])))
    wider t = ap (λ f. f ++ t ∷ []) all ∙ simp append_assoc refl

    stay : (t : Part) → is_between t.markup ≡ true → ((ls : List Bool) → open_after t.markup ls ≡ ls) → Reads (at (frame o b ms ∷ fs) (op.Switch p a bs) b ns w u n) (front ++ t ∷ [])
    stay t g flat = stays _ (front ++ t ∷ []) (Within.in_switch z x (y ++ t ∷ []) p a bs s v e (between_cases b bs y t g k)) (wider t) (deeper front t.markup t.place _ _ d (flat _))

    heavy : (shape : Shape) → Was front (part (m.Heavy shape) q) (between (m.Heavy shape) q (at (frame o b ms ∷ fs) (op.Switch p a bs) b ns w u n))
    heavy shaped.Case = tt
    heavy _ = tt

    by_markup : (c : Markup) → Was front (part c q) (between c q (at (frame o b ms ∷ fs) (op.Switch p a bs) b ns w u n))
    by_markup (m.Literal cs) = blank_if front cs q _ (all_blank cs) (λ g. stay (part (m.Literal cs) q) g (λ ls. refl))
    by_markup m.Comment = stay (part m.Comment q) refl (λ ls. refl)
    by_markup (m.Case f) = fresh (Within.in_case z x (y ++ (part (m.Case f) q ∷ [])) p a bs q (Some f) s v e (case_begins b bs y f q k)) n (front ++ part (m.Case f) q ∷ []) (wider (part (m.Case f) q))
        (deeper front (m.Case f) q _ _ d refl)
    by_markup m.Default = fresh (Within.in_case z x (y ++ (part m.Default q ∷ [])) p a bs q None s v e (default_begins b bs y q k)) n (front ++ part m.Default q ∷ []) (wider (part m.Default q))
        (deeper front m.Default q _ _ d refl)
    by_markup m.Close = grown v s (ms ++ node.Switch p a bs ∷ []) wt.Nobody (x ++ (part (m.Switch a) p ∷ (y ++ (part m.Close q ∷ [])))) (switch_front b x ms p q a y bs e k) n (front ++ part m.Close q ∷ []) (wider (part m.Close q))
        (deeper front m.Close q _ _ d refl)
    by_markup (m.Heavy shape) = heavy shape
    by_markup _ = tt
between_at Within.at_root sw ns w u n stays front all d c q = absurd cc
between_at (Within.in_tag z x p mark attrs s v e) sw ns w u n stays front all d c q = absurd cc
between_at (Within.in_if z x y p bs r test name s v e k) sw ns w u n stays front all d c q = absurd cc
between_at (Within.in_for z x p f s v e) sw ns w u n stays front all d c q = absurd cc
between_at (Within.in_empty z x y p f rows r s v e k) sw ns w u n stays front all d c q = absurd cc
between_at (Within.in_case z x y p a bs r test s v e k) sw ns w u n stays front all d c q = absurd cc

stays_of : (st : State) (front : Parts) → Reads st front → is_switch st.opener ≡ true → Stays st.outer st.opener st.keep st.nodes st.waiting st.run st.made
stays_of st front h s z more w e d = record {
  outer = z;
  here = h.here;
  us = h.us;
  all = e ∙ sym (append-nil z) ∙ ap (λ x. z ++ x) (sym (h.flat s));
  within = w;
  level = h.level;
  texts = h.texts;
  run = h.run;
  flat = h.flat;
  depth = d;
}

-- ---- one part

pub arrived : (st : State) (front : Parts) (c : Markup) (q : Place) → Reads st front → Was front (part c q) (arrive true c q st)
arrived st front c q h = by_bool (is_switch st.opener) refl
  where
    by_bool : (v : Bool) → is_switch st.opener ≡ v → Was front (part c q) (if v then between c q st else stands true c q st)
    by_bool true s = between_at h.within s st.nodes st.waiting st.run st.made (stays_of st front h s) front (h.all ∙ ap (λ x. h.outer ++ x) (h.flat s) ∙ append-nil h.outer) h.depth c q
    by_bool false s = stood st front c q s h

-- ---- the end

pub begin_reads : Reads (at [] op.Root false [] wt.Nobody None 0) []
begin_reads = fresh Within.at_root 0 [] refl refl

root_of : {fs : List Frame} {o : Opener} {b : Bool} {z : Parts} → Within fs o b z → fs ≡ [] → (x : Parts) (ns : List TNode) → Reading b x ns → Reading false (z ++ x) ns
root_of Within.at_root e x ns h = h
root_of (Within.in_tag z x' p mark attrs s v k) e x ns h = absurd cc
root_of (Within.in_if z x' y p bs r test name s v k i) e x ns h = absurd cc
root_of (Within.in_for z x' p f s v k) e x ns h = absurd cc
root_of (Within.in_empty z x' y p f rows r s v k i) e x ns h = absurd cc
root_of (Within.in_switch z x' y p a bs s v k i) e x ns h = absurd cc
root_of (Within.in_case z x' y p a bs r test s v k i) e x ns h = absurd cc

-- what is read where nothing is open
pub reads_whole : (st : State) (front : Parts) → Reads st front → st.outer ≡ [] → Reading false front (settle st).nodes
reads_whole st front h e = reread false _ _ _ _ (sym h.all) refl (root_of h.within e _ _ (nodes_reads st front h))

-- where white space is kept something is open
keep_of : {fs : List Frame} {o : Opener} {b : Bool} {z : Parts} → Within fs o b z → fs ≡ [] → b ≡ false
keep_of Within.at_root e = refl
keep_of (Within.in_tag z x' p mark attrs s v k) e = absurd cc
keep_of (Within.in_if z x' y p bs r test name s v k i) e = absurd cc
keep_of (Within.in_for z x' p f s v k) e = absurd cc
keep_of (Within.in_empty z x' y p f rows r s v k i) e = absurd cc
keep_of (Within.in_switch z x' y p a bs s v k i) e = absurd cc
keep_of (Within.in_case z x' y p a bs r test s v k i) e = absurd cc

pub reads_keep : (st : State) (front : Parts) → Reads st front → st.outer ≡ [] → st.keep ≡ false
reads_keep st front h e = keep_of h.within e

back_empty : (x y : Parts) → x ++ y ≡ [] → y ≡ []
back_empty [] y e = e
back_empty (t ∷ x) y e = absurd cc

-- no text is begun between the cases of a `@switch`
pub reads_no_run : (st : State) (front : Parts) → Reads st front → is_switch st.opener ≡ true → st.run ≡ None
reads_no_run st front h s = h.run ∙ ap (λ x. gathered st.keep None x) (back_empty h.here h.us (h.flat s))
