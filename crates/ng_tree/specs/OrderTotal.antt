-- The order of paths is total, and a path ties with itself alone.
use Rattle.std.specs.Prelude.{◌≡◌, ◌↔◌, ◌⊎◌, ℕ, false, List, refl}
use Rattle.std.proofs.Common.{ap, sym, ◌∙◌, subst, inl, inr}
use Rattle.std.proofs.lemmas.Map.Lookups.{exact_unsigned}
use Rattle.std.specs.Bool.{one_answer}
use Rattle.std.specs.Cmp.{IsTotalOrder, Equal-is, on_total, then_total, nat_cmp_total, tied_itself, upto}
use Rattle.std.specs.Cmp.Lexicographic.{lists_total, lists_ties}
use Rattle.std.specs.Ordering.{nat_cmp, ordering_then, ordering_reverse, on, then_cmp, eq_by_cmp, is_gt}
use Rattle.std.specs.declared.cmp.Ordering.{Ordering}
use Rattle.std.specs.declared.cmp.Ordering.TheVariants.{Less, Equal, Greater}
use Rattle.ng_values.specs.declared.value.Value.{Value}
use Rattle.ng_values.specs.declared.value.Value.TheVariants as v
use Rattle.ng_values.specs.OrderTotal.{value_cmp, value_total, value_exact}
use Rattle.ng_tree.specs.declared.Step.{Step}
use Rattle.ng_tree.specs.declared.Step.TheVariants as step
use Rattle.ng_tree.specs.Order.{number, rank, step_cmp, path_cmp}
use Rattle.ng_tree.specs.Same.{is_same_step, is_same_step_decides, is_same_path, is_same_path_decides}

-- the key of a row, and null of every other step
abbrev key : Step → Value
key (step.Child n) = v.Null
key (step.Branch n b) = v.Null
key (step.Row n w k) = w
key (step.Outlet n t) = v.Null

-- the last number of a step that has two, and 0 of a step into a component
abbrev last : Step → ℕ
last (step.Child n) = 0
last (step.Branch n b) = b
last (step.Row n w k) = k
last (step.Outlet n t) = t

-- the order of steps as a chain of the orders of their parts
abbrev parts_cmp : Step → Step → Ordering
parts_cmp = then_cmp (on number nat_cmp) (then_cmp (on rank nat_cmp) (then_cmp (on key value_cmp) (on last nat_cmp)))

parts_total : IsTotalOrder parts_cmp
parts_total = then_total (on_total number nat_cmp_total) (then_total (on_total rank nat_cmp_total) (then_total (on_total key value_total) (on_total last nat_cmp_total)))

-- without a key the last numbers decide
keyless : (o : Ordering) → o ≡ ordering_then (value_cmp v.Null v.Null) o
keyless o = ap (λ e. ordering_then e o) (sym (tied_itself value_total v.Null))

step_parts : (a b : Step) → step_cmp a b ≡ parts_cmp a b
step_parts (step.Child m) (step.Child n) = ap (ordering_then (nat_cmp m n)) (keyless Equal)
step_parts (step.Child m) (step.Branch n b) = refl
step_parts (step.Child m) (step.Row n w k) = refl
step_parts (step.Child m) (step.Outlet n t) = refl
step_parts (step.Branch m a) (step.Child n) = refl
step_parts (step.Branch m a) (step.Branch n b) = ap (ordering_then (nat_cmp m n)) (keyless (nat_cmp a b))
step_parts (step.Branch m a) (step.Row n w k) = refl
step_parts (step.Branch m a) (step.Outlet n t) = refl
step_parts (step.Row m u j) (step.Child n) = refl
step_parts (step.Row m u j) (step.Branch n b) = refl
step_parts (step.Row m u j) (step.Row n w k) = refl
step_parts (step.Row m u j) (step.Outlet n t) = refl
step_parts (step.Outlet m s) (step.Child n) = refl
step_parts (step.Outlet m s) (step.Branch n b) = refl
step_parts (step.Outlet m s) (step.Row n w k) = refl
step_parts (step.Outlet m s) (step.Outlet n t) = ap (ordering_then (nat_cmp m n)) (keyless (nat_cmp s t))

-- the order of steps is total
pub step_total : IsTotalOrder step_cmp
step_total = subst IsTotalOrder (λ i a b. sym (step_parts a b) i) parts_total

both_equal : (a b : Ordering) → ordering_then a b ≡ Equal → (a ≡ Equal) × (b ≡ Equal)
both_equal Less b e = absurd (apart e)
  where
    apart : Less ≡ Equal → ⊥
    apart e = cc
both_equal Equal b e = (refl, e)
both_equal Greater b e = absurd (apart e)
  where
    apart : Greater ≡ Equal → ⊥
    apart e = cc

before : (o : Ordering) → ordering_then o Less ≡ Equal → ⊥
before o e = apart (both_equal o Less e).1
  where
    apart : Less ≡ Equal → ⊥
    apart e = cc

after : (o : Ordering) → ordering_then o Greater ≡ Equal → ⊥
after o e = apart (both_equal o Greater e).1
  where
    apart : Greater ≡ Equal → ⊥
    apart e = cc

-- steps that tie are one step
step_exact : (a b : Step) → step_cmp a b ≡ Equal → a ≡ b
step_exact (step.Child m) (step.Child n) e = ap step.Child (exact_unsigned m n (both_equal (nat_cmp m n) Equal e).0)
step_exact (step.Child m) (step.Branch n b) e = absurd (before (nat_cmp m n) e)
step_exact (step.Child m) (step.Row n w k) e = absurd (before (nat_cmp m n) e)
step_exact (step.Child m) (step.Outlet n t) e = absurd (before (nat_cmp m n) e)
step_exact (step.Branch m a) (step.Child n) e = absurd (after (nat_cmp m n) e)
step_exact (step.Branch m a) (step.Branch n b) e =
    let both = both_equal (nat_cmp m n) (nat_cmp a b) e in
    λ i. step.Branch (exact_unsigned m n both.0 i) (exact_unsigned a b both.1 i)
step_exact (step.Branch m a) (step.Row n w k) e = absurd (before (nat_cmp m n) e)
step_exact (step.Branch m a) (step.Outlet n t) e = absurd (before (nat_cmp m n) e)
step_exact (step.Row m u j) (step.Child n) e = absurd (after (nat_cmp m n) e)
step_exact (step.Row m u j) (step.Branch n b) e = absurd (after (nat_cmp m n) e)
step_exact (step.Row m u j) (step.Row n w k) e =
    let both = both_equal (nat_cmp m n) (ordering_then (value_cmp u w) (nat_cmp j k)) e in
    let rest = both_equal (value_cmp u w) (nat_cmp j k) both.1 in
    λ i. step.Row (exact_unsigned m n both.0 i) (value_exact u w rest.0 i) (exact_unsigned j k rest.1 i)
step_exact (step.Row m u j) (step.Outlet n t) e = absurd (before (nat_cmp m n) e)
step_exact (step.Outlet m s) (step.Child n) e = absurd (after (nat_cmp m n) e)
step_exact (step.Outlet m s) (step.Branch n b) e = absurd (after (nat_cmp m n) e)
step_exact (step.Outlet m s) (step.Row n w k) e = absurd (after (nat_cmp m n) e)
step_exact (step.Outlet m s) (step.Outlet n t) e =
    let both = both_equal (nat_cmp m n) (nat_cmp s t) e in
    λ i. step.Outlet (exact_unsigned m n both.0 i) (exact_unsigned s t both.1 i)

-- the test of equality holds of two steps exactly where they tie
pub step_ties : (a b : Step) → is_same_step a b ≡ eq_by_cmp step_cmp a b
step_ties a b =
    let same = is_same_step_decides a b in
    one_answer (is_same_step a b) (eq_by_cmp step_cmp a b)
    (λ e. ap (step_cmp a) (sym (same.0 e)) ∙ tied_itself step_total a, λ e. same.1 (step_exact a b e)) (Equal-is (step_cmp a b))

-- the order of paths is total
pub path_total : IsTotalOrder path_cmp
path_total = lists_total step_total

-- the test of equality holds of two paths exactly where they tie
pub path_ties : (p q : List Step) → is_same_path p q ≡ eq_by_cmp path_cmp p q
path_ties = lists_ties step_cmp step_ties

-- two paths tie exactly where they are one path
pub path_equal : (p q : List Step) → (path_cmp p q ≡ Equal) ↔ (p ≡ q)
path_equal p q = (
  (λ e. (is_same_path_decides p q).0 (path_ties p q ∙ (Equal-is (path_cmp p q)).1 e)),
  λ e. ap (path_cmp p) (sym e) ∙ tied_itself path_total p,
)

-- a path isn't after another
abbrev pub IsUpTo : List Step → List Step → Type 0
IsUpTo p q = is_gt (path_cmp p q) ≡ false

-- each path is up to itself
pub up_to_itself : (p : List Step) → IsUpTo p p
up_to_itself p = ap is_gt (tied_itself path_total p)

meet : (r s : Ordering) → r ≡ ordering_reverse s → is_gt r ≡ false → is_gt s ≡ false → r ≡ Equal
meet Less Less e h k = cc
meet Less Equal e h k = cc
meet Less Greater e h k = cc
meet Equal s e h k = refl
meet Greater s e h k = cc

-- two paths that are up to each other are one path
pub up_to_both : (p q : List Step) → IsUpTo p q → IsUpTo q p → p ≡ q
up_to_both p q h k = (path_equal p q).0 (meet (path_cmp p q) (path_cmp q p) (path_total.antisymm p q) h k)

-- what is up to a path is up to all that this path is up to
pub up_to_chain : (p q r : List Step) → IsUpTo p q → IsUpTo q r → IsUpTo p r
up_to_chain = upto path_total

turned : (r s : Ordering) → r ≡ ordering_reverse s → (is_gt r ≡ false) ⊎ (is_gt s ≡ false)
turned Less s e = inl refl
turned Equal s e = inl refl
turned Greater Less e = inr refl
turned Greater Equal e = cc
turned Greater Greater e = cc

-- of two paths one is up to the other
pub up_to_either : (p q : List Step) → IsUpTo p q ⊎ IsUpTo q p
up_to_either p q = turned (path_cmp p q) (path_cmp q p) (path_total.antisymm p q)
