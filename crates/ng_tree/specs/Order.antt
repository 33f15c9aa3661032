-- The order of paths.
use Rattle.std.specs.Prelude.{ℕ, List}
use Rattle.std.specs.Cmp.Lexicographic.{slice_cmp}
use Rattle.std.specs.Ordering.{nat_cmp, ordering_then}
use Rattle.std.specs.declared.cmp.Ordering.{Ordering}
use Rattle.std.specs.declared.cmp.Ordering.TheVariants.{Equal}
use Rattle.ng_values.specs.Order.{order}
use Rattle.ng_values.specs.View.{plain}
use Rattle.ng_tree.specs.declared.Step.{Step}
use Rattle.ng_tree.specs.declared.Step.TheVariants as step

-- the node that a step goes into
abbrev pub number : Step → ℕ
number (step.Child n) = n
number (step.Branch n b) = n
number (step.Row n w k) = n
number (step.Outlet n t) = n

-- the place of a step's variant among the four
abbrev pub rank : Step → ℕ
rank (step.Child n) = 0
rank (step.Branch n b) = 1
rank (step.Row n w k) = 2
rank (step.Outlet n t) = 3

-- what follows the number, from left to right, in two steps of one variant
abbrev pub rest_cmp : Step → Step → Ordering
rest_cmp (step.Branch m a) (step.Branch n b) = nat_cmp a b
rest_cmp (step.Row m v j) (step.Row n w k) = ordering_then (order (plain v) (plain w)) (nat_cmp j k)
rest_cmp (step.Outlet m t) (step.Outlet n u) = nat_cmp t u
rest_cmp _ _ = Equal

-- two steps that go into one node
abbrev pub variant_cmp : Step → Step → Ordering
variant_cmp a b = ordering_then (nat_cmp (rank a) (rank b)) (rest_cmp a b)

-- two steps: by node number, then by variant, then by what follows
abbrev pub step_cmp : Step → Step → Ordering
step_cmp a b = ordering_then (nat_cmp (number a) (number b)) (variant_cmp a b)

-- two paths: the first step that differs decides, and what ends first is before what goes on
abbrev pub path_cmp : List Step → List Step → Ordering
path_cmp = slice_cmp step_cmp
