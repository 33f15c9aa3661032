-- The nodes of a graph that walks from some nodes lead to.
use Rattle.std.specs.Prelude.{◌≡◌, ℕ, ◌+◌, ◌<◌, ◌≤◌, suc, Bool, true, false, List, [], ◌∷◌, ◌++◌, length, slice_get, slice_index_or, slice_set, Some, ◌⊎◌}
use Rattle.ng_graph.specs.Walk.{In, Graph, HasEdge, Walk}

-- a walk of any length leads there from one of these
abbrev pub IsReached : Graph → List ℕ → ℕ → Type 0
IsReached g starts k = (s n : ℕ) × In starts s × Walk g s k n

abbrev pub IsMarked : List Bool → ℕ → Type 0
IsMarked marks k = slice_index_or marks k false ≡ true

-- a mark for each node, of which those that are reached have it
pub record MarksReached (g : Graph) (starts : List ℕ) (marks : List Bool) : Type 0 where
  pub long : length marks ≡ length g
  pub sound : (k : ℕ) → IsMarked marks k → IsReached g starts k
  pub complete : (k : ℕ) → k < length g → IsReached g starts k → IsMarked marks k

-- The search has marked some nodes, and has others before it.
pub record Searches (g : Graph) (starts : List ℕ) (marks : List Bool) (open_nodes : List ℕ) : Type 0 where
  pub long : length marks ≡ length g
  pub marked : (k : ℕ) → IsMarked marks k → IsReached g starts k
  pub ahead : (k : ℕ) → In open_nodes k → IsReached g starts k
  pub first : (k : ℕ) → In starts k → k < length g → IsMarked marks k ⊎ In open_nodes k
  pub next : (a b : ℕ) → IsMarked marks a → HasEdge g a b → b < length g → IsMarked marks b ⊎ In open_nodes b

-- one for each node without a mark and each edge from it
abbrev pub left : List Bool → Graph → ℕ
left [] g = 0
left (m ∷ ms) [] = 0
left (true ∷ ms) (r ∷ g) = left ms g
left (false ∷ ms) (r ∷ g) = suc (length r) + left ms g

-- What one step of the search does with a node: nothing where it is none or has a mark; else it gets one, and the nodes of its row come
-- before the search.
pub data Takes (g : Graph) (node : ℕ) (m n : List Bool) (p q : List ℕ) : Type 0 where
  no_node : length g ≤ node → n ≡ m → q ≡ p → Takes g node m n p q
  met : IsMarked m node → n ≡ m → q ≡ p → Takes g node m n p q
  fresh : (row : List ℕ) → slice_get g node ≡ Some row → node < length m → slice_index_or m node false ≡ false → n ≡ slice_set m node true → q ≡ p ++ row
      → Takes g node m n p q
