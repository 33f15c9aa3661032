-- The slots of a template and those that stand twice, one equation for each variant.
use Rattle.std.proofs.Common.{◌≡◌, refl, ℕ, ◌+◌, ◌<◌, List, [], ◌∷◌, ◌++◌, length, get_or, take, drop, map, ap, ◌∙◌, sym, append_assoc, append-nil, Option, Some, None}
use Rattle.std.proofs.lemmas.List.{drop_more}
use Rattle.std.proofs.lemmas.Grind.{flat_map-append}
use Rattle.std.specs.List.{flat_map}
use Rattle.ng_ast.specs.declared.Place.{Place}
use Rattle.ng_ast.specs.declared.Expr.{Expr}
use Rattle.ng_ast.specs.declared.Piece.{Piece}
use Rattle.ng_ast.specs.declared.TAttr.{TAttr}
use Rattle.ng_ast.specs.declared.ForHead.{ForHead}
use Rattle.ng_ast.specs.declared.Branch.{Branch, fold_out-Branch}
use Rattle.ng_ast.specs.declared.TNode.{TNode, fold-roll-TNode}
use Rattle.ng_ast.specs.declared.TNode.TheOpen.{TNode-F}
use Rattle.ng_ast.specs.declared.TNode.TheVariants as node
use Rattle.ng_ast.specs.declared.refusals.Refusal.{Refusal}
use Rattle.ng_ast.specs.Inner.{optional_nodes}
use Rattle.ng_parts.specs.Sites.{Name}
use Rattle.ng_breaks.specs.Least.{least_of}
use Rattle.ng_breaks.specs.LeastLaws.{least_of-append, flat_map_next}
use Rattle.ng_template_rules.proofs.LeastNext.{flat_map-map}
use Rattle.ng_template_rules.specs.TemplateRules.{Slotted, slotted, branch_slotted, slotted_step, slotted_branch, all_slots, all_twice, together, apart, slots, twice, twice_in, own_slots, slot_breaks}

flat_map-same : {X A : Type 0} (f g : X → List A) (xs : List X) → ((x : X) → f x ≡ g x) → flat_map f xs ≡ flat_map g xs
flat_map-same f g [] h = refl
flat_map-same f g (x ∷ xs) h = ap (λ r. r ++ flat_map f xs) (h x) ∙ ap (λ r. g x ++ r) (flat_map-same f g xs h)

slots_are : (ts : List TNode) → all_slots (map slotted ts) ≡ flat_map slots ts
unfolding slots
slots_are ts = flat_map-map (λ (s : Slotted). s.slots) slotted ts

twice_are : (seen : List Name) (ts : List TNode) → all_twice seen (map slotted ts) ≡ twice_in seen ts
unfolding slots twice
twice_are seen [] = refl
twice_are seen (t ∷ ts) = ap (λ r. twice seen t ++ r) (twice_are (seen ++ slots t) ts)

all_twice-append : (seen : List Name) (xs ys : List Slotted) → all_twice seen (xs ++ ys) ≡ all_twice seen xs ++ all_twice (seen ++ all_slots xs) ys
all_twice-append seen [] ys = ap (λ l. all_twice l ys) (sym (append-nil seen))
all_twice-append seen (x ∷ xs) ys =
    ap (λ r. x.twice seen ++ r) (all_twice-append (seen ++ x.slots) xs ys ∙ ap (λ l. all_twice (seen ++ x.slots) xs ++ all_twice l ys) (append_assoc seen x.slots (all_slots xs)))
    ∙ sym (append_assoc (x.twice seen) (all_twice (seen ++ x.slots) xs) (all_twice (seen ++ (x.slots ++ all_slots xs)) ys))

branch_is : (b : Branch) → branch_slotted b ≡ together (map slotted b.nodes)
branch_is b = fold_out-Branch Slotted Slotted slotted_step slotted_branch b

branch_slots : (b : Branch) → (branch_slotted b).slots ≡ flat_map slots b.nodes
branch_slots b = ap (λ (s : Slotted). s.slots) (branch_is b) ∙ slots_are b.nodes

branch_twice : (seen : List Name) (b : Branch) → (branch_slotted b).twice seen ≡ twice_in seen b.nodes
branch_twice seen b = ap (λ (s : Slotted). s.twice seen) (branch_is b) ∙ twice_are seen b.nodes

slotted-Element : (p : Place) (tag : Name) (attrs : List TAttr) (ts : List TNode) → slotted (node.Element p tag attrs ts) ≡ slotted_step (TNode-F.Element p tag attrs (map slotted ts))
slotted-Element p tag attrs ts = ap slotted (sym (node.rolls-Element p tag attrs ts)) ∙ fold-roll-TNode Slotted Slotted slotted_step slotted_branch (TNode-F.Element p tag attrs ts)

slotted-Text : (p : Place) (pieces : List Piece) → slotted (node.Text p pieces) ≡ together []
slotted-Text p pieces = ap slotted (sym (node.rolls-Text p pieces)) ∙ fold-roll-TNode Slotted Slotted slotted_step slotted_branch (TNode-F.Text p pieces)

slotted-Let : (p : Place) (n : Name) (e : Expr) → slotted (node.Let p n e) ≡ together []
slotted-Let p n e = ap slotted (sym (node.rolls-Let p n e)) ∙ fold-roll-TNode Slotted Slotted slotted_step slotted_branch (TNode-F.Let p n e)

slotted-If : (p : Place) (bs : List Branch) → slotted (node.If p bs) ≡ apart (map branch_slotted bs)
slotted-If p bs = ap slotted (sym (node.rolls-If p bs)) ∙ fold-roll-TNode Slotted Slotted slotted_step slotted_branch (TNode-F.If p bs)

slotted-Switch : (p : Place) (e : Expr) (bs : List Branch) → slotted (node.Switch p e bs) ≡ apart (map branch_slotted bs)
slotted-Switch p e bs = ap slotted (sym (node.rolls-Switch p e bs)) ∙ fold-roll-TNode Slotted Slotted slotted_step slotted_branch (TNode-F.Switch p e bs)

slotted-For-None : (p : Place) (head : ForHead) (ts : List TNode) → slotted (node.For p head ts None) ≡ together (map slotted ts ++ [])
slotted-For-None p head ts = ap slotted (sym (node.rolls-For p head ts None)) ∙ fold-roll-TNode Slotted Slotted slotted_step slotted_branch (TNode-F.For p head ts None)

slotted-For-Some : (p : Place) (head : ForHead) (ts : List TNode) (b : Branch) → slotted (node.For p head ts (Some b)) ≡ together (map slotted ts ++ branch_slotted b ∷ [])
slotted-For-Some p head ts b = ap slotted (sym (node.rolls-For p head ts (Some b))) ∙ fold-roll-TNode Slotted Slotted slotted_step slotted_branch (TNode-F.For p head ts (Some b))

-- The slots.

pub slots-Element : (l : List Name) (p : Place) (tag : Name) (attrs : List TAttr) (ts : List TNode)
    → l ++ slots (node.Element p tag attrs ts) ≡ (l ++ own_slots tag attrs) ++ flat_map slots ts
unfolding slots
slots-Element l p tag attrs ts = ap (λ (s : Slotted). l ++ s.slots) (slotted-Element p tag attrs ts) ∙ ap (λ r. l ++ (own_slots tag attrs ++ r)) (slots_are ts)
    ∙ sym (append_assoc l (own_slots tag attrs) (flat_map slots ts))

pub slots-Text : (l : List Name) (p : Place) (pieces : List Piece) → l ++ slots (node.Text p pieces) ≡ l
unfolding slots
slots-Text l p pieces = ap (λ (s : Slotted). l ++ s.slots) (slotted-Text p pieces) ∙ append-nil l

pub slots-Let : (l : List Name) (p : Place) (n : Name) (e : Expr) → l ++ slots (node.Let p n e) ≡ l
unfolding slots
slots-Let l p n e = ap (λ (s : Slotted). l ++ s.slots) (slotted-Let p n e) ∙ append-nil l

apart_slots : (bs : List Branch) → all_slots (map branch_slotted bs) ≡ flat_map (λ b. flat_map slots b.nodes) bs
apart_slots bs = flat_map-map (λ (s : Slotted). s.slots) branch_slotted bs ∙ flat_map-same (λ b. (branch_slotted b).slots) (λ b. flat_map slots b.nodes) bs branch_slots

pub slots-If : (p : Place) (bs : List Branch) → slots (node.If p bs) ≡ flat_map (λ b. flat_map slots b.nodes) bs
unfolding slots
slots-If p bs = ap (λ (s : Slotted). s.slots) (slotted-If p bs) ∙ apart_slots bs

pub slots-Switch : (p : Place) (e : Expr) (bs : List Branch) → slots (node.Switch p e bs) ≡ flat_map (λ b. flat_map slots b.nodes) bs
unfolding slots
slots-Switch p e bs = ap (λ (s : Slotted). s.slots) (slotted-Switch p e bs) ∙ apart_slots bs

pub slots-For : (l : List Name) (p : Place) (head : ForHead) (ts : List TNode) (empty : Option Branch)
    → l ++ slots (node.For p head ts empty) ≡ (l ++ flat_map slots ts) ++ flat_map slots (optional_nodes empty)
unfolding slots
slots-For l p head ts None = ap (λ (s : Slotted). l ++ s.slots) (slotted-For-None p head ts) ∙ ap (λ ss. l ++ all_slots ss) (append-nil (map slotted ts)) ∙ ap (λ r. l ++ r) (slots_are ts) ∙ sym (append-nil (l ++ flat_map slots ts))
slots-For l p head ts (Some b) = ap (λ (s : Slotted). l ++ s.slots) (slotted-For-Some p head ts b)
    ∙ ap (λ r. l ++ r) (flat_map-append (λ (s : Slotted). s.slots) (map slotted ts) (branch_slotted b ∷ []))
    ∙ ap (λ r. l ++ (all_slots (map slotted ts) ++ r)) (append-nil (branch_slotted b).slots ∙ branch_slots b)
    ∙ ap (λ r. l ++ (r ++ flat_map slots b.nodes)) (slots_are ts)
    ∙ sym (append_assoc l (flat_map slots ts) (flat_map slots b.nodes))

-- Those that stand twice.

pub twice-Element : (best : Option Refusal) (seen : List Name) (p : Place) (tag : Name) (attrs : List TAttr) (ts : List TNode)
    → least_of best (twice seen (node.Element p tag attrs ts)) ≡ least_of (least_of best (slot_breaks p seen (own_slots tag attrs))) (twice_in (seen ++ own_slots tag attrs) ts)
unfolding twice
twice-Element best seen p tag attrs ts = ap (λ (s : Slotted). least_of best (s.twice seen)) (slotted-Element p tag attrs ts)
    ∙ least_of-append best (slot_breaks p seen (own_slots tag attrs)) (all_twice (seen ++ own_slots tag attrs) (map slotted ts))
    ∙ ap (λ r. least_of (least_of best (slot_breaks p seen (own_slots tag attrs))) r) (twice_are (seen ++ own_slots tag attrs) ts)

pub twice-Text : (seen : List Name) (p : Place) (pieces : List Piece) → twice seen (node.Text p pieces) ≡ []
unfolding twice
twice-Text seen p pieces = ap (λ (s : Slotted). s.twice seen) (slotted-Text p pieces)

pub twice-Let : (seen : List Name) (p : Place) (n : Name) (e : Expr) → twice seen (node.Let p n e) ≡ []
unfolding twice
twice-Let seen p n e = ap (λ (s : Slotted). s.twice seen) (slotted-Let p n e)

apart_twice : (seen : List Name) (bs : List Branch) → flat_map (λ (s : Slotted). s.twice seen) (map branch_slotted bs) ≡ flat_map (λ b. twice_in seen b.nodes) bs
apart_twice seen bs = flat_map-map (λ (s : Slotted). s.twice seen) branch_slotted bs ∙ flat_map-same (λ b. (branch_slotted b).twice seen) (λ b. twice_in seen b.nodes) bs (branch_twice seen)

pub twice-If : (seen : List Name) (p : Place) (bs : List Branch) → twice seen (node.If p bs) ≡ flat_map (λ b. twice_in seen b.nodes) bs
unfolding twice
twice-If seen p bs = ap (λ (s : Slotted). s.twice seen) (slotted-If p bs) ∙ apart_twice seen bs

pub twice-Switch : (seen : List Name) (p : Place) (e : Expr) (bs : List Branch) → twice seen (node.Switch p e bs) ≡ flat_map (λ b. twice_in seen b.nodes) bs
unfolding twice
twice-Switch seen p e bs = ap (λ (s : Slotted). s.twice seen) (slotted-Switch p e bs) ∙ apart_twice seen bs

pub twice-For : (best : Option Refusal) (seen : List Name) (p : Place) (head : ForHead) (ts : List TNode) (empty : Option Branch)
    → least_of best (twice seen (node.For p head ts empty)) ≡ least_of (least_of best (twice_in seen ts)) (twice_in (seen ++ flat_map slots ts) (optional_nodes empty))
unfolding twice
twice-For best seen p head ts None = ap (λ (s : Slotted). least_of best (s.twice seen)) (slotted-For-None p head ts)
    ∙ ap (λ ss. least_of best (all_twice seen ss)) (append-nil (map slotted ts)) ∙ ap (least_of best) (twice_are seen ts)
twice-For best seen p head ts (Some b) = ap (λ (s : Slotted). least_of best (s.twice seen)) (slotted-For-Some p head ts b)
    ∙ ap (least_of best) (all_twice-append seen (map slotted ts) (branch_slotted b ∷ []))
    ∙ least_of-append best (all_twice seen (map slotted ts)) ((branch_slotted b).twice (seen ++ all_slots (map slotted ts)) ++ [])
    ∙ ap (λ r. least_of (least_of best r) ((branch_slotted b).twice (seen ++ all_slots (map slotted ts)) ++ [])) (twice_are seen ts)
    ∙ ap (λ r. least_of (least_of best (twice_in seen ts)) r) (append-nil ((branch_slotted b).twice (seen ++ all_slots (map slotted ts))) ∙ branch_twice (seen ++ all_slots (map slotted ts)) b)
    ∙ ap (λ r. least_of (least_of best (twice_in seen ts)) (twice_in (seen ++ r) b.nodes)) (slots_are ts)

cut : (ts : List TNode) (i : ℕ) (t : TNode) → i < length ts → t ≡ get_or ts i t → drop i ts ≡ t ∷ drop (i + 1) ts
cut ts i t small is = drop_more ts i t small ∙ ap (λ u. u ∷ drop (i + 1) ts) (sym is)

-- one more of nodes side by side
pub twice_in-drop : (best : Option Refusal) (seen : List Name) (ts : List TNode) (i : ℕ) (t : TNode) → i < length ts → t ≡ get_or ts i t
    → least_of (least_of best (twice seen t)) (twice_in (seen ++ slots t) (drop (i + 1) ts)) ≡ least_of best (twice_in seen (drop i ts))
twice_in-drop best seen ts i t small is = sym (ap (λ us. least_of best (twice_in seen us)) (cut ts i t small is) ∙ least_of-append best (twice seen t) (twice_in (seen ++ slots t) (drop (i + 1) ts)))

-- the slots of one node more
pub nodes_seen : (first old new : List Name) (ts : List TNode) (i : ℕ) (t : TNode) → i < length ts → t ≡ get_or ts i t → old ≡ first ++ flat_map slots (take i ts) → new ≡ old ++ slots t
    → new ≡ first ++ flat_map slots (take (i + 1) ts)
nodes_seen first old new ts i t small is e f =
    f ∙ ap (λ l. l ++ slots t) e ∙ append_assoc first (flat_map slots (take i ts)) (slots t) ∙ ap (λ l. first ++ l) (flat_map_next slots ts i t small is)

-- the breaks of one node more
pub nodes_best : (first best new : Option Refusal) (start seen later : List Name) (ts : List TNode) (i : ℕ) (t : TNode) → i < length ts → t ≡ get_or ts i t
    → least_of best (twice_in seen (drop i ts)) ≡ least_of first (twice_in start ts) → new ≡ least_of best (twice seen t) → later ≡ seen ++ slots t
    → least_of new (twice_in later (drop (i + 1) ts)) ≡ least_of first (twice_in start ts)
nodes_best first best new start seen later ts i t small is so_far e f =
    ap (λ b. least_of b (twice_in later (drop (i + 1) ts))) e ∙ ap (λ s. least_of (least_of best (twice seen t)) (twice_in s (drop (i + 1) ts))) f
    ∙ twice_in-drop best seen ts i t small is ∙ so_far

pub ruleset slot_laws = (slots-Element, slots-Text, slots-If, slots-For, slots-Switch, slots-Let, twice-Element, twice-Text, twice-If, twice-For, twice-Switch, twice-Let)
