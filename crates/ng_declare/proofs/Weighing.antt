-- How one more item or pair changes the weight and the depth of a constant.
use Rattle.std.proofs.Common.{◌≡◌, ℕ, ◌+◌, ◌<◌, ◌≤◌, max, Bool, true, false, List, [], ◌∷◌, ◌++◌, map, refl, sym, ◌∙◌, ap, arith, inl, inr, Ordering, Less, Equal, Greater, nat_cmp}
use Rattle.std.specs.Prelude.{◌⊎◌, nat_lt, is_ok, Option, Some, None, Ok, unwrap_or, sum_by}
use Rattle.std.specs.Option.{option_map}
use Rattle.std.specs.Map.{values_of, keys_of, lookup}
use Rattle.std.specs.BTreeMap.{insert_entry, is_at}
use Rattle.std.specs.Ordering.{match_ordering}
use Rattle.std.specs.Cmp.Lexicographic.{slice_cmp}
use Rattle.std.specs.List.Sorted.{IsStrictlySortedBy}
use Rattle.std.proofs.lemmas.List.{map-append}
use Rattle.std.proofs.lemmas.List.Sums.{sum_by-cons}
use Rattle.std.proofs.lemmas.Cmp.{nat_list_cmp_total}
use Rattle.std.proofs.lemmas.Map.Lookups.{exact_bytes}
use Rattle.std.proofs.lemmas.Map.Entries.{sum_by-insert_entry}
use Rattle.ng_values.specs.declared.plain.Plain.{Plain}
use Rattle.ng_values.specs.declared.value.Value.{Value}
use Rattle.ng_values.specs.declared.value.Value.TheVariants as v
use Rattle.ng_values.specs.Make.{within, list_of, put, put_all, rec_of}
use Rattle.ng_values.specs.Measure.{total, largest, weight, depth, pair_weight, pair_depth, list_weight, list_depth, rec_weight, rec_depth}
use Rattle.ng_values.specs.View.{plain, plain_pair, plain_items, plain_pairs}
use Rattle.ng_values.proofs.Sums.{total-push, largest-push}
use Rattle.ng_values.proofs.Puts.{put_all-push}
use Rattle.ng_tokens.specs.Lexis.{Text}
use Rattle.ng_declare.specs.Constants.{fits_list, fits_rec}
use Rattle.ng_declare.specs.Weights.{measure, measures, ItemsWeigh, PairsWeigh}

-- ---- the limits

lt_true : (m n : ℕ) → nat_lt m n ≡ true → m < n
lt_true m n e = grind arith

lt_false : (m n : ℕ) → nat_lt m n ≡ false → n ≤ m
lt_false m n e = grind arith

-- a value within the limits
within_all : (w d : ℕ) (a : Value) → w ≤ 65536 → d ≤ 32 → within w d a ≡ Ok a
within_all w d a h i = by (nat_lt 65536 w) (nat_lt 32 d) refl refl
  where
    by : (b c : Bool) → nat_lt 65536 w ≡ b → nat_lt 32 d ≡ c → within w d a ≡ Ok a
    by true c e f = absurd (omega (arith, lt_true 65536 w e))
    by false true e f = absurd (omega (arith, lt_true 32 d f))
    by false false e f = rw (e, f) refl

-- what is within the limits
within_less : (w d : ℕ) (a : Value) → is_ok (within w d a) ≡ true → (w ≤ 65536) × (d ≤ 32)
within_less w d a h = by (nat_lt 65536 w) (nat_lt 32 d) refl refl
  where
    by : (b c : Bool) → nat_lt 65536 w ≡ b → nat_lt 32 d ≡ c → (w ≤ 65536) × (d ≤ 32)
    by true c e f = let g : is_ok (within w d a) ≡ false = rw e refl in absurd (cc)
    by false true e f = let g : is_ok (within w d a) ≡ false = rw (e, f) refl in absurd (cc)
    by false false e f = (lt_false 65536 w e, lt_false 32 d f)

decides : (b : Bool) → (b ≡ true → ⊥) → b ≡ false
decides true h = absurd (h refl)
decides false h = refl

-- ---- lists

list_less : (vs : List Value) → fits_list vs ≡ true → (list_weight (plain_items vs) ≤ 65536) × (list_depth (plain_items vs) ≤ 32)
list_less vs e = within_less (list_weight (plain_items vs)) (list_depth (plain_items vs)) (v.List (plain_items vs)) e

list_all : (vs : List Value) → list_weight (plain_items vs) ≤ 65536 → list_depth (plain_items vs) ≤ 32 → list_of (plain_items vs) ≡ Ok (v.List (plain_items vs))
list_all vs h i = within_all (list_weight (plain_items vs)) (list_depth (plain_items vs)) (v.List (plain_items vs)) h i

pub list_weight-push : (found : List Value) (a : Value) → list_weight (plain_items (found ++ a ∷ [])) ≡ weight (plain a) + list_weight (plain_items found)
list_weight-push found a =
    let e : total (map weight (plain_items (found ++ a ∷ []))) ≡ total (map weight (plain_items found)) + weight (plain a) =
    ap (λ ps. total (map weight ps)) (map-append plain found (a ∷ [])) ∙ total-push weight (plain_items found) (plain a) in
    omega (arith, e)

pub list_depth-push : (found : List Value) (a : Value) → list_depth (plain_items (found ++ a ∷ [])) ≡ 1 + max (largest (map depth (plain_items found))) (depth (plain a))
list_depth-push found a = ap (λ n. 1 + n) (ap (λ ps. largest (map depth ps)) (map-append plain found (a ∷ [])) ∙ largest-push depth (plain_items found) (plain a))

pub items_none : ItemsWeigh [] 1
items_none = record { fits = refl; weighs = refl }

-- an item that is too heavy or too deep
pub items_full : (found : List Value) (w : ℕ) (a : Value) → ItemsWeigh found w → ((65536 < weight (plain a) + w) ⊎ (31 < depth (plain a))) → fits_list (found ++ a ∷ []) ≡ false
items_full found w a h (inl i) = decides (fits_list (found ++ a ∷ [])) (λ e. absurd (omega (arith, (list_less (found ++ a ∷ []) e).0, list_weight-push found a, h.weighs, i)))
items_full found w a h (inr i) = decides (fits_list (found ++ a ∷ [])) (λ e. absurd (omega (arith, (list_less (found ++ a ∷ []) e).1, list_depth-push found a, i)))

pub items_more : (found : List Value) (w : ℕ) (a : Value) → ItemsWeigh found w → weight (plain a) + w ≤ 65536 → depth (plain a) ≤ 31 → ItemsWeigh (found ++ a ∷ []) (weight (plain a) + w)
items_more found w a h i j =
    let k = list_less found h.fits in
    record {
      fits = ap is_ok (list_all (found ++ a ∷ []) (omega (arith, list_weight-push found a, h.weighs, i)) (omega (arith, list_depth-push found a, k.1, j)));
      weighs = omega (arith, list_weight-push found a, h.weighs);
    }

pub items_value : (found : List Value) (w : ℕ) → ItemsWeigh found w → list_of (plain_items found) ≡ Ok (v.List (plain_items found))
items_value found w h = let k = list_less found h.fits in list_all found k.0 k.1

-- ---- records

rec_less : (ps : List (Text × Value)) → fits_rec ps ≡ true → (rec_weight (put_all [] (plain_pairs ps)) ≤ 65536) × (rec_depth (put_all [] (plain_pairs ps)) ≤ 32)
rec_less ps e = within_less (rec_weight (put_all [] (plain_pairs ps))) (rec_depth (put_all [] (plain_pairs ps))) (v.Rec (put_all [] (plain_pairs ps))) e

rec_all : (ps : List (Text × Value)) → rec_weight (put_all [] (plain_pairs ps)) ≤ 65536 → rec_depth (put_all [] (plain_pairs ps)) ≤ 32 → rec_of (plain_pairs ps) ≡ Ok (v.Rec (put_all [] (plain_pairs ps)))
rec_all ps h i = within_all (rec_weight (put_all [] (plain_pairs ps))) (rec_depth (put_all [] (plain_pairs ps))) (v.Rec (put_all [] (plain_pairs ps))) h i

put_measure : (k : Text) (d : Plain) (kept : List (List ℕ × Plain)) → insert_entry (slice_cmp nat_cmp) (map measure kept) k (pair_weight (k, d)) ≡ map measure (put k d kept)
put_measure k d [] = refl
put_measure k d (q ∷ qs) = by (slice_cmp nat_cmp k q.0) refl (put_measure k d qs)
  where
    by : (o : Ordering) → slice_cmp nat_cmp k q.0 ≡ o → insert_entry (slice_cmp nat_cmp) (map measure qs) k (pair_weight (k, d)) ≡ map measure (put k d qs)
        → match_ordering o ((k, pair_weight (k, d)) ∷ measure q ∷ map measure qs) ((q.0, pair_weight (k, d)) ∷ map measure qs) (measure q ∷ insert_entry (slice_cmp nat_cmp) (map measure qs) k (pair_weight (k, d)))
        ≡ map measure (match_ordering o ((k, d) ∷ q ∷ qs) ((k, d) ∷ qs) (q ∷ put k d qs))
    by Less is rest = refl
    by Equal is rest = λ i. (sym (exact_bytes k q.0 is) i, pair_weight (k, d)) ∷ map measure qs
    by Greater is rest = ap (λ r. measure q ∷ r) rest

put_heavy : (k : Text) (d : Plain) (kept : List (List ℕ × Plain)) → pair_weight (k, d) ≤ total (map pair_weight (put k d kept))
put_heavy k d [] = omega arith
put_heavy k d (q ∷ qs) = by (slice_cmp nat_cmp k q.0) (put_heavy k d qs)
  where
    by : (o : Ordering) → pair_weight (k, d) ≤ total (map pair_weight (put k d qs)) → pair_weight (k, d) ≤ total (map pair_weight (match_ordering o ((k, d) ∷ q ∷ qs) ((k, d) ∷ qs) (q ∷ put k d qs)))
    by Less rest = omega arith
    by Equal rest = omega arith
    by Greater rest = omega (arith, rest)

put_deep : (k : Text) (d : Plain) (kept : List (List ℕ × Plain)) → depth d ≤ largest (map pair_depth (put k d kept))
put_deep k d [] = omega arith
put_deep k d (q ∷ qs) = by (slice_cmp nat_cmp k q.0) (put_deep k d qs)
  where
    by : (o : Ordering) → depth d ≤ largest (map pair_depth (put k d qs)) → depth d ≤ largest (map pair_depth (match_ordering o ((k, d) ∷ q ∷ qs) ((k, d) ∷ qs) (q ∷ put k d qs)))
    by Less rest = omega arith
    by Equal rest = omega arith
    by Greater rest = omega (arith, rest)

put_flat : (k : Text) (d : Plain) (kept : List (List ℕ × Plain)) → largest (map pair_depth (put k d kept)) ≤ max (depth d) (largest (map pair_depth kept))
put_flat k d [] = omega arith
put_flat k d (q ∷ qs) = by (slice_cmp nat_cmp k q.0) (put_flat k d qs)
  where
    by : (o : Ordering) → largest (map pair_depth (put k d qs)) ≤ max (depth d) (largest (map pair_depth qs))
        → largest (map pair_depth (match_ordering o ((k, d) ∷ q ∷ qs) ((k, d) ∷ qs) (q ∷ put k d qs))) ≤ max (depth d) (largest (map pair_depth (q ∷ qs)))
    by Less rest = omega arith
    by Equal rest = omega arith
    by Greater rest = omega (arith, rest)

-- the pairs with one more
pub pairs-push : (pairs : List (Text × Value)) (k : Text) (a : Value) → put_all [] (plain_pairs (pairs ++ (k, a) ∷ [])) ≡ put k (plain a) (put_all [] (plain_pairs pairs))
pairs-push pairs k a = ap (put_all []) (map-append plain_pair pairs ((k, a) ∷ [])) ∙ put_all-push [] (plain_pairs pairs) (k, plain a)

pub measures-push : (pairs : List (Text × Value)) (k : Text) (a : Value) → insert_entry (slice_cmp nat_cmp) (measures pairs) k (pair_weight (k, plain a)) ≡ measures (pairs ++ (k, a) ∷ [])
measures-push pairs k a = put_measure k (plain a) (put_all [] (plain_pairs pairs)) ∙ ap (map measure) (sym (pairs-push pairs k a))

sum_measures : (kept : List (List ℕ × Plain)) → sum_by (λ n. n) (values_of (map measure kept)) ≡ total (map pair_weight kept)
sum_measures [] = refl
sum_measures (q ∷ qs) = sum_by-cons (λ n. n) (pair_weight q) (values_of (map measure qs)) ∙ ap (λ n. pair_weight q + n) (sum_measures qs)

same_option : (o : Option ℕ) → option_map (λ (n : ℕ). n) o ≡ o
same_option None = refl
same_option (Some n) = refl

pub pairs_none : PairsWeigh [] [] 1
pairs_none = record { fits = refl; kept = refl; weighs = refl }

-- the weight with one more pair, whose key had so much before
pub pairs_weight : (pairs : List (Text × Value)) (weights : List (List ℕ × ℕ)) (w : ℕ) (k : Text) (a : Value) → PairsWeigh pairs weights w → IsStrictlySortedBy (slice_cmp nat_cmp) (keys_of weights)
    → rec_weight (put_all [] (plain_pairs (pairs ++ (k, a) ∷ []))) + unwrap_or (lookup (is_at (slice_cmp nat_cmp k)) weights) 0 ≡ w + pair_weight (k, plain a)
pairs_weight pairs weights w k a h sorted =
    let s = sum_by-insert_entry (λ (n : ℕ). n) nat_list_cmp_total weights k (pair_weight (k, plain a)) sorted in
    let new : sum_by (λ n. n) (values_of (insert_entry (slice_cmp nat_cmp) weights k (pair_weight (k, plain a)))) ≡ total (map pair_weight (put_all [] (plain_pairs (pairs ++ (k, a) ∷ [])))) =
    ap (λ ws. sum_by (λ n. n) (values_of (insert_entry (slice_cmp nat_cmp) ws k (pair_weight (k, plain a))))) h.kept
    ∙ ap (λ ws. sum_by (λ n. n) (values_of ws)) (measures-push pairs k a) ∙ sum_measures (put_all [] (plain_pairs (pairs ++ (k, a) ∷ []))) in
    let old : sum_by (λ n. n) (values_of weights) ≡ total (map pair_weight (put_all [] (plain_pairs pairs))) = ap (λ ws. sum_by (λ n. n) (values_of ws)) h.kept ∙ sum_measures (put_all [] (plain_pairs pairs)) in
    let had : unwrap_or (option_map (λ (n : ℕ). n) (lookup (is_at (slice_cmp nat_cmp k)) weights)) 0 ≡ unwrap_or (lookup (is_at (slice_cmp nat_cmp k)) weights) 0 = ap (λ o. unwrap_or o 0) (same_option (lookup (is_at (slice_cmp nat_cmp k)) weights)) in
    omega (arith, s, new, old, had, h.weighs)

-- a pair that is too heavy or too deep by itself
pub pairs_full : (pairs : List (Text × Value)) (k : Text) (a : Value) → ((65536 < pair_weight (k, plain a)) ⊎ (31 < depth (plain a))) → fits_rec (pairs ++ (k, a) ∷ []) ≡ false
pairs_full pairs k a (inl i) = decides (fits_rec (pairs ++ (k, a) ∷ [])) (λ e. absurd (omega (arith, (rec_less (pairs ++ (k, a) ∷ []) e).0, ap (λ ps. total (map pair_weight ps)) (pairs-push pairs k a), put_heavy k (plain a) (put_all [] (plain_pairs pairs)), i)))
pairs_full pairs k a (inr i) = decides (fits_rec (pairs ++ (k, a) ∷ [])) (λ e. absurd (omega (arith, (rec_less (pairs ++ (k, a) ∷ []) e).1, ap (λ ps. largest (map pair_depth ps)) (pairs-push pairs k a), put_deep k (plain a) (put_all [] (plain_pairs pairs)), i)))

-- the pairs are too heavy together
pub pairs_heavy : (pairs : List (Text × Value)) → 65536 < rec_weight (put_all [] (plain_pairs pairs)) → fits_rec pairs ≡ false
pairs_heavy pairs i = decides (fits_rec pairs) (λ e. absurd (omega (arith, (rec_less pairs e).0, i)))

pub pairs_more : (pairs : List (Text × Value)) (weights : List (List ℕ × ℕ)) (w now : ℕ) (k : Text) (a : Value) → PairsWeigh pairs weights w → now ≡ rec_weight (put_all [] (plain_pairs (pairs ++ (k, a) ∷ []))) → now ≤ 65536 → depth (plain a) ≤ 31
    → PairsWeigh (pairs ++ (k, a) ∷ []) (insert_entry (slice_cmp nat_cmp) weights k (pair_weight (k, plain a))) now
pairs_more pairs weights w now k a h is few flat =
    let i = rec_less pairs h.fits in
    record {
      fits = ap is_ok (rec_all (pairs ++ (k, a) ∷ []) (omega (arith, is, few)) (omega (arith, i.1, flat, ap (λ ps. largest (map pair_depth ps)) (pairs-push pairs k a), put_flat k (plain a) (put_all [] (plain_pairs pairs)))));
      kept = ap (λ ws. insert_entry (slice_cmp nat_cmp) ws k (pair_weight (k, plain a))) h.kept ∙ measures-push pairs k a;
      weighs = is;
    }

pub pairs_value : (pairs : List (Text × Value)) (weights : List (List ℕ × ℕ)) (w : ℕ) → PairsWeigh pairs weights w → rec_of (plain_pairs pairs) ≡ Ok (v.Rec (put_all [] (plain_pairs pairs)))
pairs_value pairs weights w h = let i = rec_less pairs h.fits in rec_all pairs i.0 i.1
