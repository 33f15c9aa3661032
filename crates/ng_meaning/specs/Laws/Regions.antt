-- Where the nodes of a page come from: each has a place in one view, and that place tells it apart from all others.
use Rattle.std.specs.Prelude.{◌≡◌, ◌⊎◌, ℕ, ◌+◌, ◌<◌, ◌≤◌, [], ◌∷◌, ◌++◌, reverse, refl}
use Rattle.std.proofs.Common.{inl, inr, ap, sym, ◌∙◌, subst, arith, append_assoc}
use Rattle.std.proofs.lemmas.List.{reverse-reverse}
use Rattle.ng_tree.specs.declared.NodeId.{NodeId}
use Rattle.ng_tree.specs.declared.Step.{Step}
use Rattle.ng_tree.specs.declared.Step.TheVariants as step
use Rattle.ng_meaning.specs.Places.{Trail, node_id}
use Rattle.ng_meaning.specs.Laws.Growing.{Below, same_step_below, never_itself}

-- the number of the node of a view at which a step leaves it
abbrev pub number_of : Step → ℕ
number_of (step.Child n) = n
number_of (step.Branch n k) = n
number_of (step.Row n w k) = n
number_of (step.Outlet n t) = n

-- a node in the view at a path, or in one inside of it
abbrev pub InView : Trail → NodeId → Type 0
InView p i = (q : Trail) × (m : ℕ) × Below p q × (i ≡ node_id q m)

-- a node in a view to which a step leads from the node with a number
abbrev pub BehindNode : Trail → ℕ → NodeId → Type 0
BehindNode p n i = (s : Step) × (number_of s ≡ n) × InView (s ∷ p) i

-- the node of a view with a number, or one behind it
abbrev pub AtNode : Trail → ℕ → NodeId → Type 0
AtNode p n i = (i ≡ node_id p n) ⊎ BehindNode p n i

-- a node of a view with a number from one up to before another, or one behind it
abbrev pub Between : Trail → ℕ → ℕ → NodeId → Type 0
Between p lo hi i = (n : ℕ) × (lo ≤ n) × (n < hi) × AtNode p n i

-- a node's view and number tell it apart
same_path_same_number : (p q : Trail) (n m : ℕ) → node_id p n ≡ node_id q m → (p ≡ q) × (n ≡ m)
same_path_same_number p q n m e = let paths : reverse p ≡ reverse q = cc in let numbers : n ≡ m = cc in (sym (reverse-reverse p) ∙ ap reverse paths ∙ reverse-reverse q, numbers)

-- what is inside of a view inside is inside
pub InView-step : (p : Trail) (s : Step) (i : NodeId) → InView (s ∷ p) i → InView p i
InView-step p s i v = (v.0, v.1, (v.2.0 ++ s ∷ [], v.2.1 ∙ sym (append_assoc v.2.0 (s ∷ []) p)), v.3)

-- a node is in one view behind a view alone
pub InView-once : (p : Trail) (s r : Step) (i : NodeId) → InView (s ∷ p) i → InView (r ∷ p) i → s ≡ r
InView-once p s r i v w = let same = same_path_same_number v.0 w.0 v.1 w.1 (sym v.3 ∙ w.3) in same_step_below p w.0 s r (subst (Below (s ∷ p)) same.0 v.2) w.2

-- a node of a view is in no view behind it
pub own_not_behind : (p : Trail) (n : ℕ) (s : Step) (i : NodeId) → i ≡ node_id p n → InView (s ∷ p) i → ⊥
own_not_behind p n s i e v = let same = same_path_same_number p v.0 n v.1 (sym e ∙ v.3) in never_itself p s (subst (Below (s ∷ p)) (sym same.0) v.2)

pub AtNode-InView : (p : Trail) (n : ℕ) (i : NodeId) → AtNode p n i → InView p i
AtNode-InView p n i (inl e) = (p, n, ([], refl), e)
AtNode-InView p n i (inr b) = InView-step p b.0 i b.2

pub AtNode-once : (p : Trail) (n m : ℕ) (i : NodeId) → AtNode p n i → AtNode p m i → n ≡ m
AtNode-once p n m i (inl e) (inl d) = (same_path_same_number p p n m (sym e ∙ d)).1
AtNode-once p n m i (inl e) (inr b) = absurd (own_not_behind p n b.0 i e b.2)
AtNode-once p n m i (inr b) (inl e) = absurd (own_not_behind p m b.0 i e b.2)
AtNode-once p n m i (inr b) (inr c) = sym b.1 ∙ ap number_of (InView-once p b.0 c.0 i b.2 c.2) ∙ c.1

pub Between-InView : (p : Trail) (lo hi : ℕ) (i : NodeId) → Between p lo hi i → InView p i
Between-InView p lo hi i b = AtNode-InView p b.0 i b.3

pub Between-wider : (p : Trail) (low lo hi high : ℕ) → low ≤ lo → hi ≤ high → (i : NodeId) → Between p lo hi i → Between p low high i
Between-wider p low lo hi high l h i b = let from : lo ≤ b.0 = b.1 in let to : b.0 < hi = b.2 in (b.0, omega arith, omega arith, b.3)

pub Between-apart : (p : Trail) (lo mid hi : ℕ) (i : NodeId) → Between p lo mid i → Between p mid hi i → ⊥
Between-apart p lo mid hi i b c = let same : b.0 ≡ c.0 = AtNode-once p b.0 c.0 i b.3 c.3 in let less : b.0 < mid = b.2 in let more : mid ≤ c.0 = c.1 in omega arith

pub AtNode-Between : (p : Trail) (n lo hi : ℕ) → lo ≤ n → n < hi → (i : NodeId) → AtNode p n i → Between p lo hi i
AtNode-Between p n lo hi l h i a = (n, l, h, a)

pub AtNode-not_Between : (p : Trail) (n hi : ℕ) (i : NodeId) → AtNode p n i → Between p (n + 1) hi i → ⊥
AtNode-not_Between p n hi i a b = let same : n ≡ b.0 = AtNode-once p n b.0 i a b.3 in let more : n + 1 ≤ b.0 = b.1 in omega arith
