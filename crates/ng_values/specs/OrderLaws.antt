-- One level of `order`.
use Rattle.std.proofs.Common.{◌≡◌, ℕ, List, [], ◌∷◌, map, refl, ap, ◌∙◌}
use Rattle.std.specs.Cmp.Lexicographic.{slice_cmp}
use Rattle.std.specs.Ordering.{nat_cmp, ordering_then}
use Rattle.std.specs.declared.cmp.Ordering.{Ordering}
use Rattle.std.specs.declared.cmp.Ordering.TheVariants.{Equal}
use Rattle.ng_values.specs.declared.plain.Plain.{Plain}
use Rattle.ng_values.specs.declared.plain.Plain.TheOpen.{Plain-F}
use Rattle.ng_values.specs.declared.plain.Plain.TheFolds.{map-Plain}
use Rattle.ng_values.specs.declared.plain.Plain.TheViews.{out-roll-Plain}
use Rattle.ng_values.specs.declared.value.Value.{Value}
use Rattle.ng_values.specs.declared.value.Value.TheVariants as v
use Rattle.ng_values.specs.Folded.{folded-roll}
use Rattle.ng_values.specs.Order.{order, order_pair, order_step, order_layer, content, rank, rank_of, content_of}
use Rattle.ng_values.specs.View.{layer, plain}

items_order : (ds es : List Plain) → slice_cmp (λ (f : Plain → Ordering) d. f d) (map order ds) es ≡ slice_cmp order ds es
items_order [] [] = refl
items_order [] (e ∷ es) = refl
items_order (d ∷ ds) [] = refl
items_order (d ∷ ds) (e ∷ es) = ap (ordering_then (order d e)) (items_order ds es)

pairs_order : (ps qs : List (List ℕ × Plain)) → slice_cmp (λ (f : List ℕ × (Plain → Ordering)) p. ordering_then (slice_cmp nat_cmp f.0 p.0) (f.1 p.1)) (map (λ q. (q.0, order q.1)) ps) qs ≡ slice_cmp order_pair ps qs
pairs_order [] [] = refl
pairs_order [] (q ∷ qs) = refl
pairs_order (p ∷ ps) [] = refl
pairs_order (p ∷ ps) (q ∷ qs) = ap (ordering_then (order_pair p q)) (pairs_order ps qs)

rank-map : (l : Plain-F Plain) → rank (map-Plain Plain (Plain → Ordering) order l) ≡ rank l
rank-map Plain-F.Null = refl
rank-map (Plain-F.Bool a) = refl
rank-map (Plain-F.Int x) = refl
rank-map (Plain-F.Text s) = refl
rank-map (Plain-F.List ds) = refl
rank-map (Plain-F.Rec ps) = refl

content_is : (x y : Value) → content (map-Plain Plain (Plain → Ordering) order (layer x)) (layer y) ≡ content_of x y
content_is v.Null v.Null = refl
content_is v.Null (v.Bool b) = refl
content_is v.Null (v.Int y) = refl
content_is v.Null (v.Text t) = refl
content_is v.Null (v.List es) = refl
content_is v.Null (v.Rec qs) = refl
content_is (v.Bool a) v.Null = refl
content_is (v.Bool a) (v.Bool b) = refl
content_is (v.Bool a) (v.Int y) = refl
content_is (v.Bool a) (v.Text t) = refl
content_is (v.Bool a) (v.List es) = refl
content_is (v.Bool a) (v.Rec qs) = refl
content_is (v.Int x) v.Null = refl
content_is (v.Int x) (v.Bool b) = refl
content_is (v.Int x) (v.Int y) = refl
content_is (v.Int x) (v.Text t) = refl
content_is (v.Int x) (v.List es) = refl
content_is (v.Int x) (v.Rec qs) = refl
content_is (v.Text s) v.Null = refl
content_is (v.Text s) (v.Bool b) = refl
content_is (v.Text s) (v.Int y) = refl
content_is (v.Text s) (v.Text t) = refl
content_is (v.Text s) (v.List es) = refl
content_is (v.Text s) (v.Rec qs) = refl
content_is (v.List ds) v.Null = refl
content_is (v.List ds) (v.Bool b) = refl
content_is (v.List ds) (v.Int y) = refl
content_is (v.List ds) (v.Text t) = refl
content_is (v.List ds) (v.List es) = items_order ds es
content_is (v.List ds) (v.Rec qs) = refl
content_is (v.Rec ps) v.Null = refl
content_is (v.Rec ps) (v.Bool b) = refl
content_is (v.Rec ps) (v.Int y) = refl
content_is (v.Rec ps) (v.Text t) = refl
content_is (v.Rec ps) (v.List es) = refl
content_is (v.Rec ps) (v.Rec qs) = pairs_order ps qs

-- the order is that of the kinds and then that of the contents
pub order_is : (x y : Value) → order (plain x) (plain y) ≡ ordering_then (nat_cmp (rank_of x) (rank_of y)) (content_of x y)
order_is x y =
    (λ i. folded-roll (λ d. Equal) order_step (layer x) i (plain y))
    ∙ ap (order_layer (map-Plain Plain (Plain → Ordering) order (layer x))) (out-roll-Plain (layer y))
    ∙ (λ i. ordering_then (nat_cmp (rank-map (layer x) i) (rank (layer y))) (content_is x y i))
