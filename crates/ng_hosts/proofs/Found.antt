-- The positions that a search finds, in their order.
use Rattle.std.proofs.Common.{◌≡◌, refl, sym, ◌∙◌, ap, ℕ, zero, suc, ◌+◌, ◌<◌, Bool, true, false, cond, ◌||◌, List, [], ◌∷◌, ◌++◌, Less, Equal, Greater, arith}
use Rattle.std.proofs.lemmas.Cmp.{nat_cmp_total}
use Rattle.std.proofs.lemmas.Map.Lookups.{btree_set_from_contains, exact_unsigned}
use Rattle.std.specs.Prelude.{slice_get}
use Rattle.std.specs.BTreeSet.{BTreeSet, contains, IsOrdered}
use Rattle.std.specs.Cmp.{nat_cmp_is}
use Rattle.std.specs.List.{AllByRecursion, list_any}
use Rattle.std.specs.List.Sorted.{IsStrictlySortedBy}
use Rattle.std.specs.Option.{option_map_or}
use Rattle.std.specs.Ordering.{nat_cmp, is_eq}
use Rattle.ng_ast.specs.declared.Component.{Component}
use Rattle.ng_selectors.specs.declared.Attr.{Attr}
use Rattle.ng_selectors.specs.Fits.{fits}
use Rattle.ng_ast.specs.declared.TAttr.{TAttr}
use Rattle.ng_hosts.specs.Hosts.{Name, seen_attrs, is_reserved, when_at, positions, host_positions}
use Rattle.ng_hosts.specs.Index.{fits_at}

module _ (w : Component → Bool) where
  below_all : (n m : ℕ) (cs : List Component) → n < m → AllByRecursion (λ y. nat_cmp n y ≡ Less) (positions w m cs)
  below_all n m [] small = tt
  below_all n m (c ∷ cs) small =
      let more = below_all n (m + 1) cs (omega arith) in
      elim (w c) as (λ t. AllByRecursion (λ y. nat_cmp n y ≡ Less) (when_at t m ++ positions w (m + 1) cs)) [
        | true ↦ (sym (nat_cmp_is n m Less small), more)
        | false ↦ more
      ]

  rising : (n : ℕ) (cs : List Component) → IsStrictlySortedBy nat_cmp (positions w n cs)
  unfolding IsStrictlySortedBy
  rising n [] = tt
  rising n (c ∷ cs) =
      let more = rising (n + 1) cs in
      elim (w c) as (λ t. IsStrictlySortedBy nat_cmp (when_at t n ++ positions w (n + 1) cs)) [
        | true ↦ (below_all n (n + 1) cs (omega arith), more)
        | false ↦ more
      ]

  apart : (k m : ℕ) → k < m → is_eq (nat_cmp k m) ≡ false
  apart k m small = ap is_eq (sym (nat_cmp_is k m Less small))

  beyond : (k m : ℕ) → m < k → is_eq (nat_cmp k m) ≡ false
  beyond k m small = ap is_eq (sym (nat_cmp_is k m Greater small))

  itself : (k m : ℕ) → k ≡ m → is_eq (nat_cmp k m) ≡ true
  itself k m same = ap is_eq (sym (nat_cmp_is k m Equal same))

  not_below : (k m : ℕ) (cs : List Component) → k < m → list_any (λ y. is_eq (nat_cmp k y)) (positions w m cs) ≡ false
  not_below k m [] small = refl
  not_below k m (c ∷ cs) small =
      let more = not_below k (m + 1) cs (omega arith) in
      elim (w c) as (λ t. list_any (λ y. is_eq (nat_cmp k y)) (when_at t m ++ positions w (m + 1) cs) ≡ false) [
        | true ↦ ap (λ b. b || list_any (λ y. is_eq (nat_cmp k y)) (positions w (m + 1) cs)) (apart k m small) ∙ more
        | false ↦ more
      ]

  -- a position is among those where the component there is wanted
  among : (n k i : ℕ) (cs : List Component) → k ≡ n + i → list_any (λ y. is_eq (nat_cmp k y)) (positions w n cs) ≡ option_map_or w (slice_get cs i) false
  among n k i [] is = refl
  among n k zero (c ∷ cs) is =
      elim (w c) as (λ t. list_any (λ y. is_eq (nat_cmp k y)) (when_at t n ++ positions w (n + 1) cs) ≡ t) [
        | true ↦ ap (λ b. b || list_any (λ y. is_eq (nat_cmp k y)) (positions w (n + 1) cs)) (itself k n (omega arith))
        | false ↦ not_below k (n + 1) cs (omega arith)
      ]
  among n k (suc i) (c ∷ cs) is =
      let more = among (n + 1) k i cs (omega arith) in
      elim (w c) as (λ t. list_any (λ y. is_eq (nat_cmp k y)) (when_at t n ++ positions w (n + 1) cs) ≡ option_map_or w (slice_get cs i) false) [
        | true ↦ ap (λ b. b || list_any (λ y. is_eq (nat_cmp k y)) (positions w (n + 1) cs)) (beyond k n (omega arith)) ∙ more
        | false ↦ more
      ]

-- the keys of a set of the positions of the components that an element matches
keys_are : (cs : List Component) (tag : Name) (seen : List Attr) (s : BTreeSet ℕ) → IsOrdered nat_cmp s → ((at : ℕ) → contains nat_cmp s at ≡ fits_at cs tag seen at) → s.keys ≡ positions (λ c. fits c.selector tag seen) 0 cs
keys_are cs tag seen s ordered is =
    btree_set_from_contains nat_cmp_total s (record { keys = positions (λ c. fits c.selector tag seen) 0 cs }) ordered (rising (λ c. fits c.selector tag seen) 0 cs)
    (λ at. is at ∙ sym (among (λ c. fits c.selector tag seen) 0 at at cs (omega arith))) exact_unsigned

-- the same at an element whose tag is not reserved
pub positions_are : (cs : List Component) (tag : Name) (attrs : List TAttr) (seen : List Attr) (s : BTreeSet ℕ) → is_reserved tag ≡ false → seen ≡ seen_attrs attrs → IsOrdered nat_cmp s
    → ((at : ℕ) → contains nat_cmp s at ≡ fits_at cs tag seen at) → s.keys ≡ host_positions cs tag attrs
positions_are cs tag attrs seen s other are ordered is =
    keys_are cs tag seen s ordered is ∙ ap (λ l. positions (λ c. fits c.selector tag l) 0 cs) are
    ∙ ap (λ t. cond t [] (positions (λ c. fits c.selector tag (seen_attrs attrs)) 0 cs)) (sym other)
