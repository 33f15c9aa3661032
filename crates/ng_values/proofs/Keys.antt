-- A binary search for a key among pairs in the order of their keys.
use Rattle.std.proofs.Common.{◌≡◌, ℕ, zero, suc, ◌+◌, ◌<◌, Bool, true, false, cond, List, [], ◌∷◌, length, get_or, option_map, Some, None, Result, Ok, Err, refl, sym, ap, ◌∙◌, arith, Ordering, Less, Equal, Greater, nat_cmp}
use Rattle.std.specs.Cmp.Lexicographic.{slice_cmp, texts_ties, nat_list_eq_equiv, nat_list_cmp_total}
use Rattle.std.specs.List.{AllWithin}
use Rattle.std.specs.List.Sorted.{IsSearchInRange, IsBinarySearchResult, IsNonDecreasingBy}
use Rattle.std.specs.Ordering.{is_eq, is_lt, ordering_index, ordering_reverse}
use Rattle.std.proofs.lemmas.List.{get_or-map, length-map}
use Rattle.std.proofs.lemmas.List.Sorted.{searchable_from_sorted}
use Rattle.std.proofs.lemmas.Map.Keys.{Less-from_sorted, sorted_tail}
use Rattle.std.proofs.lemmas.Map.Lookups.{exact_bytes}
use Rattle.ng_values.specs.declared.value.Value.{Value}
use Rattle.ng_values.specs.declared.value.Value.TheVariants as v
use Rattle.ng_values.specs.Inside.{KeysRise, keys_of}
use Rattle.ng_values.specs.Keys.{FindsKey}
use Rattle.ng_values.specs.Parts.{found_at, is_text}
use Rattle.ng_values.specs.View.{plain, plain_pairs}

-- a test of two texts by their order
tested : (k j : List ℕ) (o : Ordering) → slice_cmp nat_cmp j k ≡ o → is_text k j ≡ is_eq o
tested k j o e = nat_list_eq_equiv.symm k j ∙ texts_ties j k ∙ ap is_eq e

absent : (k : List ℕ) (ps : List (List ℕ × Value)) (at : ℕ) → AllWithin (λ q. slice_cmp nat_cmp q.0 k ≡ Less) ps 0 at → AllWithin (λ q. slice_cmp nat_cmp q.0 k ≡ Greater) ps at (length ps)
    → found_at ps k ≡ None
absent k [] at low high = refl
absent k (q ∷ ps) zero low high =
    rw (tested k q.0 Greater (high 0 q (omega arith) (omega arith))) (absent k ps zero (λ j d a b. absurd (omega arith)) (λ j d a b. high (suc j) d (omega arith) (omega arith)))
absent k (q ∷ ps) (suc at) low high =
    rw (tested k q.0 Less (low 0 q (omega arith) (omega arith))) (absent k ps at (λ j d a b. low (suc j) d (omega arith) (omega arith)) (λ j d a b. high (suc j) d (omega arith) (omega arith)))

key_of : (ps : List (List ℕ × Value)) (i : ℕ) (d : List ℕ × Value) → i < length ps → get_or (keys_of ps) i d.0 ≡ (get_or ps i d).0
key_of ps i d within = get_or-map (λ (q : List ℕ × Value). q.0) ps i d d.0 within

in_order : (ps : List (List ℕ × Value)) (i j : ℕ) (d : List ℕ × Value) → KeysRise ps → i < j → j < length ps → slice_cmp nat_cmp (get_or ps i d).0 (get_or ps j d).0 ≡ Less
in_order ps i j d rises less within =
    let e : slice_cmp nat_cmp (get_or (keys_of ps) i d.0) (get_or (keys_of ps) j d.0) ≡ Less = Less-from_sorted (slice_cmp nat_cmp) (keys_of ps) i j d.0 rises less (omega (arith, length-map ps (λ (q : List ℕ × Value). q.0))) in
    sym (λ n. slice_cmp nat_cmp (key_of ps i d (omega arith) n) (key_of ps j d within n)) ∙ e

present : (k : List ℕ) (ps : List (List ℕ × Value)) (i : ℕ) (d : List ℕ × Value) → KeysRise ps → i < length ps → slice_cmp nat_cmp (get_or ps i d).0 k ≡ Equal → found_at ps k ≡ Some (get_or ps i d).1
present k [] i d rises within here = absurd (omega arith)
present k (q ∷ ps) zero d rises within here = rw (tested k q.0 Equal here) refl
present k (q ∷ ps) (suc i) d rises within here =
    let before : slice_cmp nat_cmp q.0 k ≡ Less = ap (slice_cmp nat_cmp q.0) (sym (exact_bytes (get_or ps i d).0 k here)) ∙ in_order (q ∷ ps) 0 (suc i) d rises (omega arith) within in
    rw (tested k q.0 Less before) (present k ps i d (sorted_tail (slice_cmp nat_cmp) q.0 (keys_of ps) rises) (omega arith) here)

comparisons_rise : (k : List ℕ) (ps : List (List ℕ × Value)) → KeysRise ps → IsNonDecreasingBy (λ q. ordering_index (slice_cmp nat_cmp q.0 k)) ps
comparisons_rise k ps rises =
    searchable_from_sorted nat_list_cmp_total (λ (q : List ℕ × Value). q.0) ps k
    (λ i d low within. ap is_lt (nat_list_cmp_total.antisymm (get_or ps (i + 1) d).0 (get_or ps i d).0 ∙ ap ordering_reverse (in_order ps i (i + 1) d rises (omega arith) within)))

pub finds_key : (k : List ℕ) (ps : List (List ℕ × Value)) (r : Result ℕ ℕ) → KeysRise ps → IsSearchInRange r (length ps) → IsBinarySearchResult (λ q. slice_cmp nat_cmp q.0 k) ps r → FindsKey k ps r
finds_key k ps (Ok at) rises within equal = (within, present k ps at ([], v.Null) rises within (equal ([], v.Null)))
finds_key k ps (Err at) rises within parted = let p = parted (comparisons_rise k ps rises) in absent k ps at p.0 p.1

pub found_at-plain : (k : List ℕ) (ps : List (List ℕ × Value)) → found_at (plain_pairs ps) k ≡ option_map plain (found_at ps k)
found_at-plain k [] = refl
found_at-plain k (q ∷ ps) = by (is_text k q.0) (found_at-plain k ps)
  where
    by : (b : Bool) → found_at (plain_pairs ps) k ≡ option_map plain (found_at ps k) → cond b (Some (plain q.1)) (found_at (plain_pairs ps) k) ≡ option_map plain (cond b (Some q.1) (found_at ps k))
    by true e = refl
    by false e = e
