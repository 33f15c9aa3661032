-- The equations of the names in a template, one for each variant.
use Rattle.std.proofs.Common.{◌≡◌, refl, ℕ, ◌+◌, List, [], ◌∷◌, ◌++◌, ◌<◌, length, get_or, drop, map, ap, ◌∙◌, sym, append_assoc, append-nil, Option, Some, None, if◌then◌else◌}
use Rattle.std.proofs.lemmas.List.{drop_more}
use Rattle.std.specs.List.{flat_map}
use Rattle.ng_ast.specs.declared.Place.{Place}
use Rattle.ng_ast.specs.declared.Expr.{Expr}
use Rattle.ng_ast.specs.declared.Piece.{Piece}
use Rattle.ng_ast.specs.declared.TAttr.{TAttr}
use Rattle.ng_ast.specs.declared.ForHead.{ForHead}
use Rattle.ng_ast.specs.declared.TNode.{TNode, fold-roll-TNode}
use Rattle.ng_ast.specs.declared.TNode.TheOpen.{TNode-F}
use Rattle.ng_ast.specs.declared.TNode.TheVariants as node
use Rattle.ng_ast.specs.declared.Branch.{Branch, fold_out-Branch}
use Rattle.ng_scopes.specs.declared.names.Known.{Known}
use Rattle.ng_scopes.specs.declared.names.Meaning.TheVariants as means
use Rattle.ng_scopes.specs.declared.usage.Usage.{Usage}
use Rattle.ng_scopes.specs.Names.{Name, Scope, inside, variable}
use Rattle.ng_scopes.specs.Usages.{usages}
use Rattle.ng_scopes.specs.Templates.{Walked, walked, walked_step, walked_branch, walked_lets, walked_reads, walked_view, adds, lets, reads, branch_reads, lets_in, reads_in, view_names, view_reads, optional_reads, children_adds, children_lets, children_reads, attr_known, attr_usages, reference_meaning, opens_view, element_names, for_usages, for_names, piece_usages, test_usages, binding, known}
use Rattle.ng_scopes.proofs.ExprLaws.{flat_map-map, append3}

lets_are : (ts : List TNode) → walked_lets (map walked ts) ≡ lets_in ts
unfolding lets
lets_are [] = refl
lets_are (t ∷ ts) = ap (λ n. lets t + n) (lets_are ts)

reads_are : (scope : ℕ → Scope) (passed : ℕ) (ts : List TNode) → walked_reads scope passed (map walked ts) ≡ reads_in scope passed ts
unfolding reads lets
reads_are scope passed [] = refl
reads_are scope passed (t ∷ ts) = ap (λ r. reads scope passed t ++ r) (reads_are scope (passed + lets t) ts)

adds_are : (ts : List TNode) → flat_map (λ (w : Walked). w.adds) (map walked ts) ≡ flat_map adds ts
unfolding adds
adds_are ts = flat_map-map (λ (w : Walked). w.adds) walked ts

view_is : (head : List Known) (outer : Scope) (ts : List TNode) → walked_view head outer (map walked ts) ≡ view_reads head outer ts
view_is head outer ts = ap (λ ks. walked_reads (λ passed. inside (head ++ ks) passed outer) 0 (map walked ts)) (adds_are ts) ∙ reads_are (λ passed. inside (view_names head ts) passed outer) 0 ts

walked-Element : (p : Place) (tag : Name) (attrs : List TAttr) (ts : List TNode) → walked (node.Element p tag attrs ts) ≡ walked_step (TNode-F.Element p tag attrs (map walked ts))
walked-Element p tag attrs ts = ap walked (sym (node.rolls-Element p tag attrs ts)) ∙ fold-roll-TNode Walked (Scope → List Usage) walked_step walked_branch (TNode-F.Element p tag attrs ts)

walked-Text : (p : Place) (pieces : List Piece) → walked (node.Text p pieces) ≡ walked_step (TNode-F.Text p pieces)
walked-Text p pieces = ap walked (sym (node.rolls-Text p pieces)) ∙ fold-roll-TNode Walked (Scope → List Usage) walked_step walked_branch (TNode-F.Text p pieces)

walked-If : (p : Place) (bs : List Branch) → walked (node.If p bs) ≡ walked_step (TNode-F.If p (map (λ b s. branch_reads s b) bs))
unfolding branch_reads
walked-If p bs = ap walked (sym (node.rolls-If p bs)) ∙ fold-roll-TNode Walked (Scope → List Usage) walked_step walked_branch (TNode-F.If p bs)

walked-Switch : (p : Place) (e : Expr) (bs : List Branch) → walked (node.Switch p e bs) ≡ walked_step (TNode-F.Switch p e (map (λ b s. branch_reads s b) bs))
unfolding branch_reads
walked-Switch p e bs = ap walked (sym (node.rolls-Switch p e bs)) ∙ fold-roll-TNode Walked (Scope → List Usage) walked_step walked_branch (TNode-F.Switch p e bs)

walked-Let : (p : Place) (n : Name) (e : Expr) → walked (node.Let p n e) ≡ walked_step (TNode-F.Let p n e)
walked-Let p n e = ap walked (sym (node.rolls-Let p n e)) ∙ fold-roll-TNode Walked (Scope → List Usage) walked_step walked_branch (TNode-F.Let p n e)

walked-For-None : (p : Place) (head : ForHead) (ts : List TNode) → walked (node.For p head ts None) ≡ walked_step (TNode-F.For p head (map walked ts) None)
unfolding branch_reads
walked-For-None p head ts = ap walked (sym (node.rolls-For p head ts None)) ∙ fold-roll-TNode Walked (Scope → List Usage) walked_step walked_branch (TNode-F.For p head ts None)

walked-For-Some : (p : Place) (head : ForHead) (ts : List TNode) (b : Branch) → walked (node.For p head ts (Some b)) ≡ walked_step (TNode-F.For p head (map walked ts) (Some (λ s. branch_reads s b)))
unfolding branch_reads
walked-For-Some p head ts b = ap walked (sym (node.rolls-For p head ts (Some b))) ∙ fold-roll-TNode Walked (Scope → List Usage) walked_step walked_branch (TNode-F.For p head ts (Some b))

pub adds-Element : (l : List Known) (p : Place) (tag : Name) (attrs : List TAttr) (ts : List TNode)
    → l ++ adds (node.Element p tag attrs ts) ≡ (l ++ flat_map (attr_known (reference_meaning tag)) attrs) ++ children_adds tag ts
unfolding adds
adds-Element l p tag attrs ts = ap (λ (w : Walked). l ++ w.adds) (walked-Element p tag attrs ts) ∙ ap (λ r. l ++ (flat_map (attr_known (reference_meaning tag)) attrs ++ (if opens_view tag then [] else r))) (adds_are ts)
    ∙ sym (append_assoc l (flat_map (attr_known (reference_meaning tag)) attrs) (children_adds tag ts))

pub adds-Text : (l : List Known) (p : Place) (pieces : List Piece) → l ++ adds (node.Text p pieces) ≡ l
unfolding adds
adds-Text l p pieces = ap (λ (w : Walked). l ++ w.adds) (walked-Text p pieces) ∙ append-nil l

pub adds-If : (l : List Known) (p : Place) (bs : List Branch) → l ++ adds (node.If p bs) ≡ l
unfolding adds
adds-If l p bs = ap (λ (w : Walked). l ++ w.adds) (walked-If p bs) ∙ append-nil l

pub adds-Switch : (l : List Known) (p : Place) (e : Expr) (bs : List Branch) → l ++ adds (node.Switch p e bs) ≡ l
unfolding adds
adds-Switch l p e bs = ap (λ (w : Walked). l ++ w.adds) (walked-Switch p e bs) ∙ append-nil l

pub adds-For : (l : List Known) (p : Place) (head : ForHead) (ts : List TNode) (empty : Option Branch) → l ++ adds (node.For p head ts empty) ≡ l
unfolding adds
adds-For l p head ts None = ap (λ (w : Walked). l ++ w.adds) (walked-For-None p head ts) ∙ append-nil l
adds-For l p head ts (Some b) = ap (λ (w : Walked). l ++ w.adds) (walked-For-Some p head ts b) ∙ append-nil l

pub adds-Let : (p : Place) (n : Name) (e : Expr) → adds (node.Let p n e) ≡ known p n means.Let ∷ []
unfolding adds
adds-Let p n e = ap (λ (w : Walked). w.adds) (walked-Let p n e)

pub ruleset adds_laws = (adds-Element, adds-Text, adds-If, adds-For, adds-Switch, adds-Let)

pub lets-Element : (p : Place) (tag : Name) (attrs : List TAttr) (ts : List TNode) → lets (node.Element p tag attrs ts) ≡ children_lets tag ts
unfolding lets
lets-Element p tag attrs ts = ap (λ (w : Walked). w.lets) (walked-Element p tag attrs ts) ∙ ap (λ n. if opens_view tag then 0 else n) (lets_are ts)

pub lets-Text : (p : Place) (pieces : List Piece) → lets (node.Text p pieces) ≡ 0
unfolding lets
lets-Text p pieces = ap (λ (w : Walked). w.lets) (walked-Text p pieces)

pub lets-If : (p : Place) (bs : List Branch) → lets (node.If p bs) ≡ 0
unfolding lets
lets-If p bs = ap (λ (w : Walked). w.lets) (walked-If p bs)

pub lets-Switch : (p : Place) (e : Expr) (bs : List Branch) → lets (node.Switch p e bs) ≡ 0
unfolding lets
lets-Switch p e bs = ap (λ (w : Walked). w.lets) (walked-Switch p e bs)

pub lets-Let : (p : Place) (n : Name) (e : Expr) → lets (node.Let p n e) ≡ 1
unfolding lets
lets-Let p n e = ap (λ (w : Walked). w.lets) (walked-Let p n e)

pub lets-For : (p : Place) (head : ForHead) (ts : List TNode) (empty : Option Branch) → lets (node.For p head ts empty) ≡ 0
unfolding lets
lets-For p head ts None = ap (λ (w : Walked). w.lets) (walked-For-None p head ts)
lets-For p head ts (Some b) = ap (λ (w : Walked). w.lets) (walked-For-Some p head ts b)

pub reads-Element : (l : List Usage) (scope : ℕ → Scope) (passed : ℕ) (p : Place) (tag : Name) (attrs : List TAttr) (ts : List TNode)
    → l ++ reads scope passed (node.Element p tag attrs ts) ≡ (l ++ flat_map (attr_usages (scope passed)) attrs) ++ children_reads tag attrs scope passed ts
unfolding reads
reads-Element l scope passed p tag attrs ts = ap (λ (w : Walked). l ++ w.reads scope passed) (walked-Element p tag attrs ts)
    ∙ ap (λ r. l ++ (flat_map (attr_usages (scope passed)) attrs ++ (if opens_view tag then r else walked_reads scope passed (map walked ts)))) (view_is (element_names tag attrs) (scope passed) ts)
    ∙ ap (λ r. l ++ (flat_map (attr_usages (scope passed)) attrs ++ (if opens_view tag then view_reads (element_names tag attrs) (scope passed) ts else r))) (reads_are scope passed ts)
    ∙ sym (append_assoc l (flat_map (attr_usages (scope passed)) attrs) (children_reads tag attrs scope passed ts))

pub reads-Text : (scope : ℕ → Scope) (passed : ℕ) (p : Place) (pieces : List Piece) → reads scope passed (node.Text p pieces) ≡ flat_map (piece_usages (scope passed)) pieces
unfolding reads
reads-Text scope passed p pieces = ap (λ (w : Walked). w.reads scope passed) (walked-Text p pieces)

pub reads-If : (scope : ℕ → Scope) (passed : ℕ) (p : Place) (bs : List Branch) → reads scope passed (node.If p bs) ≡ flat_map (branch_reads (scope passed)) bs
unfolding reads branch_reads
reads-If scope passed p bs = ap (λ (w : Walked). w.reads scope passed) (walked-If p bs) ∙ flat_map-map (λ (f : Scope → List Usage). f (scope passed)) (λ b s. branch_reads s b) bs

pub reads-Switch : (l : List Usage) (scope : ℕ → Scope) (passed : ℕ) (p : Place) (e : Expr) (bs : List Branch)
    → l ++ reads scope passed (node.Switch p e bs) ≡ (l ++ usages (binding p) (scope passed) e) ++ flat_map (branch_reads (scope passed)) bs
unfolding reads branch_reads
reads-Switch l scope passed p e bs = ap (λ (w : Walked). l ++ w.reads scope passed) (walked-Switch p e bs)
    ∙ ap (λ r. l ++ (usages (binding p) (scope passed) e ++ r)) (flat_map-map (λ (f : Scope → List Usage). f (scope passed)) (λ b s. branch_reads s b) bs)
    ∙ sym (append_assoc l (usages (binding p) (scope passed) e) (flat_map (branch_reads (scope passed)) bs))

pub reads-For : (l : List Usage) (scope : ℕ → Scope) (passed : ℕ) (p : Place) (head : ForHead) (ts : List TNode) (empty : Option Branch)
    → l ++ reads scope passed (node.For p head ts empty) ≡ ((l ++ for_usages p (scope passed) head) ++ view_reads (for_names p head) (scope passed) ts) ++ optional_reads (scope passed) empty
unfolding reads branch_reads
reads-For l scope passed p head ts None = ap (λ (w : Walked). l ++ w.reads scope passed) (walked-For-None p head ts)
    ∙ ap (λ r. l ++ (for_usages p (scope passed) head ++ (r ++ []))) (view_is (for_names p head) (scope passed) ts)
    ∙ sym (append3 l (for_usages p (scope passed) head) (view_reads (for_names p head) (scope passed) ts) [])
reads-For l scope passed p head ts (Some b) = ap (λ (w : Walked). l ++ w.reads scope passed) (walked-For-Some p head ts b)
    ∙ ap (λ r. l ++ (for_usages p (scope passed) head ++ (r ++ branch_reads (scope passed) b))) (view_is (for_names p head) (scope passed) ts)
    ∙ sym (append3 l (for_usages p (scope passed) head) (view_reads (for_names p head) (scope passed) ts) (branch_reads (scope passed) b))

pub reads-Let : (scope : ℕ → Scope) (passed : ℕ) (p : Place) (n : Name) (e : Expr) → reads scope passed (node.Let p n e) ≡ usages (binding p) (scope passed) e
unfolding reads
reads-Let scope passed p n e = ap (λ (w : Walked). w.reads scope passed) (walked-Let p n e)

pub branch_reads-is : (l : List Usage) (scope : Scope) (b : Branch)
    → l ++ branch_reads scope b ≡ (l ++ test_usages b.place scope b.test) ++ view_reads (variable b.place b.name) scope b.nodes
unfolding branch_reads
branch_reads-is l scope b = ap (λ (f : Scope → List Usage). l ++ f scope) (fold_out-Branch Walked (Scope → List Usage) walked_step walked_branch b)
    ∙ ap (λ r. l ++ (test_usages b.place scope b.test ++ r)) (view_is (variable b.place b.name) scope b.nodes)
    ∙ sym (append_assoc l (test_usages b.place scope b.test) (view_reads (variable b.place b.name) scope b.nodes))

pub reads_in-more : (l : List Usage) (scope : ℕ → Scope) (passed : ℕ) (t : TNode) (ts : List TNode)
    → l ++ reads_in scope passed (t ∷ ts) ≡ (l ++ reads scope passed t) ++ reads_in scope (passed + lets t) ts
reads_in-more l scope passed t ts = sym (append_assoc l (reads scope passed t) (reads_in scope (passed + lets t) ts))

cut : (ts : List TNode) (i : ℕ) (t : TNode) → i < length ts → t ≡ get_or ts i t → drop i ts ≡ t ∷ drop (i + 1) ts
cut ts i t small is = drop_more ts i t small ∙ ap (λ u. u ∷ drop (i + 1) ts) (sym is)

pub lets_in-drop : (ts : List TNode) (i : ℕ) (t : TNode) → i < length ts → t ≡ get_or ts i t → lets_in (drop i ts) ≡ lets t + lets_in (drop (i + 1) ts)
lets_in-drop ts i t small is = ap lets_in (cut ts i t small is)

pub reads_in-drop : (l : List Usage) (scope : ℕ → Scope) (passed : ℕ) (ts : List TNode) (i : ℕ) (t : TNode) → i < length ts → t ≡ get_or ts i t
    → (l ++ reads scope passed t) ++ reads_in scope (passed + lets t) (drop (i + 1) ts) ≡ l ++ reads_in scope passed (drop i ts)
reads_in-drop l scope passed ts i t small is = sym (ap (λ us. l ++ reads_in scope passed us) (cut ts i t small is) ∙ reads_in-more l scope passed t (drop (i + 1) ts))

-- the three parts of a `@for`
pub for_told : (l m n k : List Usage) (scope : ℕ → Scope) (here : Scope) (passed : ℕ) (t : TNode) (p : Place) (head : ForHead) (ts : List TNode) (empty : Option Branch)
    → here ≡ scope passed → t ≡ node.For p head ts empty → m ≡ l ++ for_usages p here head → n ≡ m ++ view_reads (for_names p head) here ts → k ≡ n ++ optional_reads here empty
    → k ≡ l ++ reads scope passed t
for_told l m n k scope here passed t p head ts empty at is first second third =
    third ∙ ap (λ z. z ++ optional_reads here empty) (second ∙ ap (λ z. z ++ view_reads (for_names p head) here ts) first)
    ∙ ap (λ s. ((l ++ for_usages p s head) ++ view_reads (for_names p head) s ts) ++ optional_reads s empty) at
    ∙ sym (ap (λ u. l ++ reads scope passed u) is ∙ reads-For l scope passed p head ts empty)

pub ruleset branch_laws = (branch_reads-is, branch_reads-is)

pub ruleset reads_laws = (lets-Element, lets-Text, lets-If, lets-For, lets-Switch, lets-Let, reads-Element, reads-Text, reads-If, reads-For, reads-Switch, reads-Let)
