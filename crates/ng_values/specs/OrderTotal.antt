-- The order of values is total, and only a value itself is equal to it there.
use Rattle.std.specs.Prelude.{◌≡◌, ℕ, zero, suc, ◌+◌, ◌<◌, max, ℤ, pos, Bool, true, false, List, [], ◌∷◌, map, refl}
use Rattle.std.proofs.Common.{ap, sym, ◌∙◌, subst, arith}
use denote.Param.Weighed.{most}
use Rattle.std.specs.Bool.{one_answer}
use Rattle.std.specs.Cmp.{IsTotalOrder, Equal-is, on_total, then_total, nat_cmp_total, int_cmp_total, bool_cmp_total, tied_itself}
use Rattle.std.specs.Cmp.Lexicographic.{slice_cmp, lists_total, nat_list_cmp_total}
use Rattle.std.specs.Ordering.{bool_cmp, int_cmp, nat_cmp, ordering_reverse, ordering_then, on, then_cmp, eq_by_cmp}
use Rattle.std.specs.declared.cmp.Ordering.{Ordering}
use Rattle.std.specs.declared.cmp.Ordering.TheVariants.{Less, Equal, Greater}
use Rattle.std.proofs.lemmas.Map.Lookups.{exact_bytes, exact_signed}
use Rattle.ng_values.specs.declared.plain.Plain.{Plain, roll-Plain, out-Plain, size-Plain}
use Rattle.ng_values.specs.declared.plain.Plain.TheOpen.{Plain-F}
use Rattle.ng_values.specs.declared.plain.Plain.TheFolds.{map-Plain}
use Rattle.ng_values.specs.declared.plain.Plain.TheVariants as p
use Rattle.ng_values.specs.declared.plain.Plain.TheViews.{sized-List, sized-Rec, roll-out-Plain}
use Rattle.ng_values.specs.declared.value.Value.{Value}
use Rattle.ng_values.specs.Folded.{levels, levels_fold}
use Rattle.ng_values.specs.Laws.{plain_inj}
use Rattle.ng_values.specs.Order.{order, order_step, order_layer, rank}
use Rattle.ng_values.specs.Same.{is_same, is_same_decides}
use Rattle.ng_values.specs.View.{plain}

-- the part that the order of each kind reads, and one and the same for every other kind
abbrev truth_part : Plain-F Plain → Bool
truth_part (Plain-F.Bool b) = b
truth_part _ = false

-- the number of a number, and 0 of all else
abbrev number_part : Plain-F Plain → ℤ
number_part (Plain-F.Int z) = z
number_part _ = pos 0

-- the bytes of a text, and none of all else
abbrev text_part : Plain-F Plain → List ℕ
text_part (Plain-F.Text t) = t
text_part _ = []

-- the items of a list, and none of all else
abbrev items_part : Plain-F Plain → List Plain
items_part (Plain-F.List ds) = ds
items_part _ = []

-- the pairs of a record, and none of all else
abbrev pairs_part : Plain-F Plain → List (List ℕ × Plain)
pairs_part (Plain-F.Rec ps) = ps
pairs_part _ = []

then_Equal : (o : Ordering) → ordering_then o Equal ≡ o
then_Equal Less = refl
then_Equal Equal = refl
then_Equal Greater = refl

module _ (R : Plain → Plain → Ordering) where
  -- pairs by their keys and then by their values
  abbrev pair_cmp : List ℕ × Plain → List ℕ × Plain → Ordering
  pair_cmp = then_cmp (on (λ q. q.0) (slice_cmp nat_cmp)) (on (λ q. q.1) R)

  -- one level as a chain of the orders of its parts
  abbrev parts_cmp : Plain-F Plain → Plain-F Plain → Ordering
  parts_cmp =
      then_cmp (on rank nat_cmp) (then_cmp (on truth_part bool_cmp) (then_cmp (on number_part int_cmp) (then_cmp (on text_part (slice_cmp nat_cmp))
      (then_cmp (on items_part (slice_cmp R)) (on pairs_part (slice_cmp pair_cmp))))))

  parts_total : IsTotalOrder R → IsTotalOrder parts_cmp
  parts_total o =
      then_total (on_total rank nat_cmp_total) (then_total (on_total truth_part bool_cmp_total) (then_total (on_total number_part int_cmp_total) (then_total (on_total text_part nat_list_cmp_total)
      (then_total (on_total items_part (lists_total o)) (on_total pairs_part (lists_total (then_total (on_total (λ (q : List ℕ × Plain). q.0) nat_list_cmp_total) (on_total (λ (q : List ℕ × Plain). q.1) o))))))))

  items_alike : (ds es : List Plain) → slice_cmp (λ (f : Plain → Ordering) d. f d) (map R ds) es ≡ slice_cmp R ds es
  items_alike [] [] = refl
  items_alike [] (e ∷ es) = refl
  items_alike (d ∷ ds) [] = refl
  items_alike (d ∷ ds) (e ∷ es) = ap (ordering_then (R d e)) (items_alike ds es)

  pairs_alike : (ps qs : List (List ℕ × Plain)) → slice_cmp (λ (f : List ℕ × (Plain → Ordering)) q. ordering_then (slice_cmp nat_cmp f.0 q.0) (f.1 q.1)) (map (λ q. (q.0, R q.1)) ps) qs ≡ slice_cmp pair_cmp ps qs
  pairs_alike [] [] = refl
  pairs_alike [] (q ∷ qs) = refl
  pairs_alike (x ∷ ps) [] = refl
  pairs_alike (x ∷ ps) (q ∷ qs) = ap (ordering_then (pair_cmp x q)) (pairs_alike ps qs)

  layer_is : (l m : Plain-F Plain) → order_layer (map-Plain Plain (Plain → Ordering) R l) m ≡ parts_cmp l m
  layer_is Plain-F.Null Plain-F.Null = refl
  layer_is Plain-F.Null (Plain-F.Bool b) = refl
  layer_is Plain-F.Null (Plain-F.Int y) = refl
  layer_is Plain-F.Null (Plain-F.Text t) = refl
  layer_is Plain-F.Null (Plain-F.List es) = refl
  layer_is Plain-F.Null (Plain-F.Rec qs) = refl
  layer_is (Plain-F.Bool a) Plain-F.Null = refl
  layer_is (Plain-F.Bool a) (Plain-F.Bool b) = sym (then_Equal (bool_cmp a b))
  layer_is (Plain-F.Bool a) (Plain-F.Int y) = refl
  layer_is (Plain-F.Bool a) (Plain-F.Text t) = refl
  layer_is (Plain-F.Bool a) (Plain-F.List es) = refl
  layer_is (Plain-F.Bool a) (Plain-F.Rec qs) = refl
  layer_is (Plain-F.Int x) Plain-F.Null = refl
  layer_is (Plain-F.Int x) (Plain-F.Bool b) = refl
  layer_is (Plain-F.Int x) (Plain-F.Int y) = sym (then_Equal (int_cmp x y))
  layer_is (Plain-F.Int x) (Plain-F.Text t) = refl
  layer_is (Plain-F.Int x) (Plain-F.List es) = refl
  layer_is (Plain-F.Int x) (Plain-F.Rec qs) = refl
  layer_is (Plain-F.Text s) Plain-F.Null = refl
  layer_is (Plain-F.Text s) (Plain-F.Bool b) = refl
  layer_is (Plain-F.Text s) (Plain-F.Int y) = refl
  layer_is (Plain-F.Text s) (Plain-F.Text t) = sym (then_Equal (slice_cmp nat_cmp s t))
  layer_is (Plain-F.Text s) (Plain-F.List es) = refl
  layer_is (Plain-F.Text s) (Plain-F.Rec qs) = refl
  layer_is (Plain-F.List ds) Plain-F.Null = refl
  layer_is (Plain-F.List ds) (Plain-F.Bool b) = refl
  layer_is (Plain-F.List ds) (Plain-F.Int y) = refl
  layer_is (Plain-F.List ds) (Plain-F.Text t) = refl
  layer_is (Plain-F.List ds) (Plain-F.List es) = items_alike ds es ∙ sym (then_Equal (slice_cmp R ds es))
  layer_is (Plain-F.List ds) (Plain-F.Rec qs) = refl
  layer_is (Plain-F.Rec ps) Plain-F.Null = refl
  layer_is (Plain-F.Rec ps) (Plain-F.Bool b) = refl
  layer_is (Plain-F.Rec ps) (Plain-F.Int y) = refl
  layer_is (Plain-F.Rec ps) (Plain-F.Text t) = refl
  layer_is (Plain-F.Rec ps) (Plain-F.List es) = refl
  layer_is (Plain-F.Rec ps) (Plain-F.Rec qs) = pairs_alike ps qs

-- the order of the first n levels
abbrev nth_order : ℕ → Plain → Plain → Ordering
nth_order = levels (λ d. Equal) order_step

nth_total : (n : ℕ) → IsTotalOrder (nth_order n)
nth_total zero = record { antisymm = λ x y. refl; trans = λ x y z less less'. less; congr = λ x y z e. refl }
nth_total (suc n) =
    subst IsTotalOrder (λ i d e. sym (layer_is (nth_order n) (out-Plain d) (out-Plain e)) i) (on_total out-Plain (parts_total (nth_order n) (nth_total n)))

order_at : (n : ℕ) (d : Plain) → size-Plain d < n → order d ≡ nth_order n d
order_at n d less = levels_fold (λ d. Equal) order_step (suc (size-Plain d)) d (omega arith) ∙ sym (levels_fold (λ d. Equal) order_step n d less)

-- the order of values is total
pub order_total : IsTotalOrder order
order_total = record {
  antisymm = λ x y.
      let n : ℕ = suc (size-Plain x + size-Plain y) in
      let at_x : order x ≡ nth_order n x = order_at n x (omega arith) in
      let at_y : order y ≡ nth_order n y = order_at n y (omega arith) in
      ap (λ f. f y) at_x ∙ (nth_total n).antisymm x y ∙ ap (λ f. ordering_reverse (f x)) (sym at_y);
  trans = λ x y z less less'.
      let n : ℕ = suc (size-Plain x + size-Plain y) in
      let at_x : order x ≡ nth_order n x = order_at n x (omega arith) in
      let at_y : order y ≡ nth_order n y = order_at n y (omega arith) in
      ap (λ f. f z) at_x ∙ (nth_total n).trans x y z (sym (ap (λ f. f y) at_x) ∙ less) (sym (ap (λ f. f z) at_y) ∙ less');
  congr = λ x y z e.
      let n : ℕ = suc (size-Plain x + size-Plain y) in
      let at_x : order x ≡ nth_order n x = order_at n x (omega arith) in
      let at_y : order y ≡ nth_order n y = order_at n y (omega arith) in
      ap (λ f. f z) at_x ∙ (nth_total n).congr x y z (sym (ap (λ f. f y) at_x) ∙ e) ∙ sym (ap (λ f. f z) at_y);
}

both_equal : (a b : Ordering) → ordering_then a b ≡ Equal → (a ≡ Equal) × (b ≡ Equal)
both_equal Less b e = absurd (apart e)
  where
    apart : Less ≡ Equal → ⊥
    apart e = cc
both_equal Equal b e = (refl, e)
both_equal Greater b e = absurd (apart e)
  where
    apart : Greater ≡ Equal → ⊥
    apart e = cc

exact_truth : (a b : Bool) → bool_cmp a b ≡ Equal → a ≡ b
exact_truth false false e = refl
exact_truth true true e = refl
exact_truth false true e = cc
exact_truth true false e = cc

exact_items : (n : ℕ) (ds es : List Plain) → ((d e : Plain) → size-Plain d < n → nth_order n d e ≡ Equal → d ≡ e) → most size-Plain ds < n
    → slice_cmp (λ (f : Plain → Ordering) d. f d) (map (nth_order n) ds) es ≡ Equal → ds ≡ es
exact_items n [] [] h less e = refl
exact_items n [] (x ∷ es) h less e = cc
exact_items n (d ∷ ds) [] h less e = cc
exact_items n (d ∷ ds) (x ∷ es) h less e =
    let both = both_equal (nth_order n d x) _ e in
    λ i. h d x (omega arith) both.0 i ∷ exact_items n ds es h (omega arith) both.1 i

exact_pairs : (n : ℕ) (ps qs : List (List ℕ × Plain)) → ((d e : Plain) → size-Plain d < n → nth_order n d e ≡ Equal → d ≡ e) → most (λ q. max 0 (max (size-Plain q.1) 0)) ps < n
    → slice_cmp (λ (f : List ℕ × (Plain → Ordering)) q. ordering_then (slice_cmp nat_cmp f.0 q.0) (f.1 q.1)) (map (λ q. (q.0, nth_order n q.1)) ps) qs ≡ Equal → ps ≡ qs
exact_pairs n [] [] h less e = refl
exact_pairs n [] (q ∷ qs) h less e = cc
exact_pairs n (x ∷ ps) [] h less e = cc
exact_pairs n (x ∷ ps) (q ∷ qs) h less e =
    let both = both_equal (ordering_then (slice_cmp nat_cmp x.0 q.0) (nth_order n x.1 q.1)) _ e in
    let pair = both_equal (slice_cmp nat_cmp x.0 q.0) (nth_order n x.1 q.1) both.0 in
    λ i. (exact_bytes x.0 q.0 pair.0 i, h x.1 q.1 (omega arith) pair.1 i) ∷ exact_pairs n ps qs h (omega arith) both.1 i

exact_layer : (n : ℕ) (l m : Plain-F Plain) → ((d e : Plain) → size-Plain d < n → nth_order n d e ≡ Equal → d ≡ e) → size-Plain (roll-Plain l) < suc n
    → order_layer (map-Plain Plain (Plain → Ordering) (nth_order n) l) m ≡ Equal → l ≡ m
exact_layer n Plain-F.Null Plain-F.Null h less e = refl
exact_layer n Plain-F.Null (Plain-F.Bool b) h less e = cc
exact_layer n Plain-F.Null (Plain-F.Int y) h less e = cc
exact_layer n Plain-F.Null (Plain-F.Text t) h less e = cc
exact_layer n Plain-F.Null (Plain-F.List es) h less e = cc
exact_layer n Plain-F.Null (Plain-F.Rec qs) h less e = cc
exact_layer n (Plain-F.Bool a) Plain-F.Null h less e = cc
exact_layer n (Plain-F.Bool a) (Plain-F.Bool b) h less e = ap Plain-F.Bool (exact_truth a b e)
exact_layer n (Plain-F.Bool a) (Plain-F.Int y) h less e = cc
exact_layer n (Plain-F.Bool a) (Plain-F.Text t) h less e = cc
exact_layer n (Plain-F.Bool a) (Plain-F.List es) h less e = cc
exact_layer n (Plain-F.Bool a) (Plain-F.Rec qs) h less e = cc
exact_layer n (Plain-F.Int x) Plain-F.Null h less e = cc
exact_layer n (Plain-F.Int x) (Plain-F.Bool b) h less e = cc
exact_layer n (Plain-F.Int x) (Plain-F.Int y) h less e = ap Plain-F.Int (exact_signed x y e)
exact_layer n (Plain-F.Int x) (Plain-F.Text t) h less e = cc
exact_layer n (Plain-F.Int x) (Plain-F.List es) h less e = cc
exact_layer n (Plain-F.Int x) (Plain-F.Rec qs) h less e = cc
exact_layer n (Plain-F.Text s) Plain-F.Null h less e = cc
exact_layer n (Plain-F.Text s) (Plain-F.Bool b) h less e = cc
exact_layer n (Plain-F.Text s) (Plain-F.Int y) h less e = cc
exact_layer n (Plain-F.Text s) (Plain-F.Text t) h less e = ap Plain-F.Text (exact_bytes s t e)
exact_layer n (Plain-F.Text s) (Plain-F.List es) h less e = cc
exact_layer n (Plain-F.Text s) (Plain-F.Rec qs) h less e = cc
exact_layer n (Plain-F.List ds) Plain-F.Null h less e = cc
exact_layer n (Plain-F.List ds) (Plain-F.Bool b) h less e = cc
exact_layer n (Plain-F.List ds) (Plain-F.Int y) h less e = cc
exact_layer n (Plain-F.List ds) (Plain-F.Text t) h less e = cc
exact_layer n (Plain-F.List ds) (Plain-F.List es) h less e = ap Plain-F.List (exact_items n ds es h (omega (arith, ap size-Plain (p.rolls-List ds), sized-List ds)) e)
exact_layer n (Plain-F.List ds) (Plain-F.Rec qs) h less e = cc
exact_layer n (Plain-F.Rec ps) Plain-F.Null h less e = cc
exact_layer n (Plain-F.Rec ps) (Plain-F.Bool b) h less e = cc
exact_layer n (Plain-F.Rec ps) (Plain-F.Int y) h less e = cc
exact_layer n (Plain-F.Rec ps) (Plain-F.Text t) h less e = cc
exact_layer n (Plain-F.Rec ps) (Plain-F.List es) h less e = cc
exact_layer n (Plain-F.Rec ps) (Plain-F.Rec qs) h less e = ap Plain-F.Rec (exact_pairs n ps qs h (omega (arith, ap size-Plain (p.rolls-Rec ps), sized-Rec ps)) e)

exact_nth : (n : ℕ) (d e : Plain) → size-Plain d < n → nth_order n d e ≡ Equal → d ≡ e
exact_nth zero d e less same = absurd (omega arith)
exact_nth (suc n) d e less same =
    let layers = exact_layer n (out-Plain d) (out-Plain e) (exact_nth n) (omega (arith, ap size-Plain (roll-out-Plain d))) same in
    sym (roll-out-Plain d) ∙ ap roll-Plain layers ∙ roll-out-Plain e

-- what is equal in the order is one value
pub order_exact : (d e : Plain) → order d e ≡ Equal → d ≡ e
order_exact d e same = exact_nth (suc (size-Plain d)) d e (omega arith) same

-- a value is equal to itself
pub order_itself : (d : Plain) → order d d ≡ Equal
order_itself = tied_itself order_total

-- the order of the values of a program
abbrev pub value_cmp : Value → Value → Ordering
value_cmp x y = order (plain x) (plain y)

pub value_total : IsTotalOrder value_cmp
value_total = on_total plain order_total

-- values that are equal in the order are one value
pub value_exact : (x y : Value) → value_cmp x y ≡ Equal → x ≡ y
value_exact x y e = plain_inj x y (order_exact (plain x) (plain y) e)

pub value_ties : (x y : Value) → is_same x y ≡ eq_by_cmp value_cmp x y
value_ties x y =
    let same = is_same_decides x y in
    one_answer (is_same x y) (eq_by_cmp value_cmp x y)
    (λ e. ap (value_cmp x) (sym (same.0 e)) ∙ order_itself (plain x), λ e. same.1 (value_exact x y e)) (Equal-is (value_cmp x y))
