-- One level of a page: how it is printed, which elements it has, and which nodes.
use Rattle.std.specs.Prelude.{◌≡◌, ℕ, ◌<◌, ◌++◌, List, [], ◌∷◌, map, refl}
use Rattle.std.specs.List.{flat_map}
use Rattle.std.proofs.Common.{ap, arith, ◌∙◌}
use denote.Param.Weighed.{most}
use Rattle.ng_tree.specs.declared.NodeId.{NodeId}
use Rattle.ng_tree.specs.declared.PNode.{PNode, out-PNode, roll-PNode, size-PNode}
use Rattle.ng_tree.specs.declared.PNode.TheOpen.{PNode-F}
use Rattle.ng_tree.specs.declared.PNode.TheVariants as page
use Rattle.ng_tree.specs.declared.PNode.TheViews.{roll-out-PNode, sized-Element, sized-Host}
use Rattle.ng_meaning.specs.Levels.{whole, whole_is}
use Rattle.ng_meaning.specs.Lists.{Text}
use Rattle.ng_meaning.specs.Printing.{element_text, html_layer, html}
use Rattle.ng_meaning.specs.Targets.{further, ways_layer, ways}

-- nodes that are smaller than a number give the same
flat_map_alike : {A : Type 0} (f g : PNode → List A) (n : ℕ) (kids : List PNode) → ((u : PNode) → size-PNode u < n → f u ≡ g u) → most size-PNode kids < n → flat_map f kids ≡ flat_map g kids
flat_map_alike f g n [] h less = refl
flat_map_alike f g n (k ∷ kids) h less = λ i. h k (omega arith) i ++ flat_map_alike f g n kids h (omega arith) i

html_alike : (f g : PNode → Text) (l : PNode-F PNode) → ((u : PNode) → size-PNode u < size-PNode (roll-PNode l) → f u ≡ g u) → html_layer f l ≡ html_layer g l
html_alike f g (PNode-F.Element i tag attrs kids) h =
    ap (element_text tag attrs) (flat_map_alike f g _ kids h (omega (arith, ap size-PNode (page.rolls-Element i tag attrs kids), sized-Element i tag attrs kids)))
html_alike f g (PNode-F.Host i tag attrs kids) h =
    ap (element_text tag attrs) (flat_map_alike f g _ kids h (omega (arith, ap size-PNode (page.rolls-Host i tag attrs kids), sized-Host i tag attrs kids)))
html_alike f g (PNode-F.Text i t) h = refl

-- A node is printed one level over how its children are.
pub html_is : (p : PNode) → html p ≡ html_layer html (out-PNode p)
unfolding html
html_is = whole_is out-PNode size-PNode [] html_layer (λ f g t h. html_alike f g (out-PNode t) (λ u small. h u (omega (arith, ap size-PNode (roll-out-PNode t)))))

ways_alike : (f g : PNode → List (Text × List NodeId)) (l : PNode-F PNode) → ((u : PNode) → size-PNode u < size-PNode (roll-PNode l) → f u ≡ g u) → ways_layer f l ≡ ways_layer g l
ways_alike f g (PNode-F.Element i tag attrs kids) h =
    ap (λ (r : List (Text × List NodeId)). (tag, i ∷ []) ∷ map (further i) r) (flat_map_alike f g _ kids h (omega (arith, ap size-PNode (page.rolls-Element i tag attrs kids), sized-Element i tag attrs kids)))
ways_alike f g (PNode-F.Host i tag attrs kids) h =
    ap (λ (r : List (Text × List NodeId)). (tag, i ∷ []) ∷ map (further i) r) (flat_map_alike f g _ kids h (omega (arith, ap size-PNode (page.rolls-Host i tag attrs kids), sized-Host i tag attrs kids)))
ways_alike f g (PNode-F.Text i t) h = refl

-- A node has its elements with their ways one level over those of its children.
pub ways_is : (p : PNode) → ways p ≡ ways_layer ways (out-PNode p)
ways_is = whole_is out-PNode size-PNode [] ways_layer (λ f g t h. ways_alike f g (out-PNode t) (λ u small. h u (omega (arith, ap size-PNode (roll-out-PNode t)))))

-- ---- the nodes of a page

-- one level of a page, given the nodes inside a node
abbrev pub node_ids_layer : (PNode → List NodeId) → PNode-F PNode → List NodeId
node_ids_layer inner (PNode-F.Element i tag attrs kids) = i ∷ flat_map inner kids
node_ids_layer inner (PNode-F.Host i tag attrs kids) = i ∷ flat_map inner kids
node_ids_layer inner (PNode-F.Text i t) = i ∷ []

-- the identities of the nodes of a page, in document order
abbrev pub node_ids : PNode → List NodeId
node_ids = whole out-PNode size-PNode [] node_ids_layer

node_ids_alike : (f g : PNode → List NodeId) (l : PNode-F PNode) → ((u : PNode) → size-PNode u < size-PNode (roll-PNode l) → f u ≡ g u) → node_ids_layer f l ≡ node_ids_layer g l
node_ids_alike f g (PNode-F.Element i tag attrs kids) h =
    ap (λ (r : List NodeId). i ∷ r) (flat_map_alike f g _ kids h (omega (arith, ap size-PNode (page.rolls-Element i tag attrs kids), sized-Element i tag attrs kids)))
node_ids_alike f g (PNode-F.Host i tag attrs kids) h =
    ap (λ (r : List NodeId). i ∷ r) (flat_map_alike f g _ kids h (omega (arith, ap size-PNode (page.rolls-Host i tag attrs kids), sized-Host i tag attrs kids)))
node_ids_alike f g (PNode-F.Text i t) h = refl

-- A node has its nodes one level over those of its children.
pub node_ids_is : (p : PNode) → node_ids p ≡ node_ids_layer node_ids (out-PNode p)
node_ids_is = whole_is out-PNode size-PNode [] node_ids_layer (λ f g t h. node_ids_alike f g (out-PNode t) (λ u small. h u (omega (arith, ap size-PNode (roll-out-PNode t)))))

-- the nodes of pages side by side
abbrev pub all_ids : List PNode → List NodeId
all_ids = flat_map node_ids

pub node_ids-Element : (i : NodeId) (tag : Text) (attrs : List (Text × Text)) (kids : List PNode) → node_ids (page.Element i tag attrs kids) ≡ i ∷ all_ids kids
node_ids-Element i tag attrs kids = node_ids_is (page.Element i tag attrs kids) ∙ ap (node_ids_layer node_ids) (page.outs-Element i tag attrs kids)

pub node_ids-Host : (i : NodeId) (tag : Text) (attrs : List (Text × Text)) (kids : List PNode) → node_ids (page.Host i tag attrs kids) ≡ i ∷ all_ids kids
node_ids-Host i tag attrs kids = node_ids_is (page.Host i tag attrs kids) ∙ ap (node_ids_layer node_ids) (page.outs-Host i tag attrs kids)

pub node_ids-Text : (i : NodeId) (t : Text) → node_ids (page.Text i t) ≡ i ∷ []
node_ids-Text i t = node_ids_is (page.Text i t) ∙ ap (node_ids_layer node_ids) (page.outs-Text i t)
