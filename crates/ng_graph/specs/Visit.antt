-- What a visit of nodes changes.
use Rattle.std.specs.Prelude.{◌≡◌, ℕ, suc, ◌+◌, ◌≤◌, ◌<◌, Bool, true, false, List, [], ◌∷◌, ◌++◌, length, slice_index_or, take, ◌⊎◌}
use Rattle.ng_graph.specs.Walk.{In, Graph, HasEdge, Walk}

abbrev pub IsMarked : List Bool → ℕ → Type 0
IsMarked m k = slice_index_or m k false ≡ true

-- how many are not marked
abbrev pub left : List Bool → ℕ
left [] = 0
left (true ∷ m) = left m
left (false ∷ m) = suc (left m)

pub record Visits (row : List ℕ) (m n : List Bool) (p q : List ℕ) : Type 0 where
  pub more : List ℕ
  pub queued : q ≡ p ++ more
  pub wanted : (k : ℕ) → In more k → In row k
  pub inside : (k : ℕ) → In more k → k < length m
  pub marks : (k : ℕ) → IsMarked n k → IsMarked m k ⊎ In more k
  pub keeps : (k : ℕ) → IsMarked m k → IsMarked n k
  pub all : (k : ℕ) → In row k → k < length m → IsMarked n k
  pub same : length n ≡ length m
  pub falls : length more + left n ≡ left m

-- Of the queue, the nodes before `at` were looked at.
pub record Searched (g : Graph) (start : ℕ) (m : List Bool) (q : List ℕ) (at : ℕ) : Type 0 where
  pub long : length m ≡ length g
  pub within : at ≤ length q
  pub first : In q start
  pub below : (k : ℕ) → In q k → k < length g
  pub reached : (k : ℕ) → In q k → (n : ℕ) × Walk g start k n
  pub sound : (k : ℕ) → IsMarked m k → (n : ℕ) × Walk g start k (suc n)
  pub queued : (k : ℕ) → IsMarked m k → In q k
  pub closed : (a b : ℕ) → In (take at q) a → HasEdge g a b → b < length g → IsMarked m b
