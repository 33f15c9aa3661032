-- Where the n-th item of a list in parts stands.
use Rattle.std.proofs.Common.{◌≡◌, ℕ, zero, suc, ◌+◌, ◌-◌, ◌<◌, ◌≤◌, List, [], ◌∷◌, ◌++◌, length, take, get_or, Option, Some, None, Result, Ok, Err, Bor, refl, ap, sym, ◌∙◌, arith, length-append}
use Rattle.std.proofs.lemmas.Option.{slice_get_within, slice_get_past}
use Rattle.std.specs.List.{flat_map, slice_get}
use Rattle.ng_ast.specs.declared.Place.{Place}
use Rattle.ng_ast.specs.declared.ForHead.{ForHead}
use Rattle.ng_ast.specs.declared.Branch.{Branch}
use Rattle.ng_ast.specs.declared.TNode.{TNode}
use Rattle.ng_ast.specs.declared.TNode.TheVariants as node
use Rattle.ng_ast.specs.Inner.{optional_nodes}
use Rattle.ng_ast.specs.Nodes.{node_and_inner, all_nodes, count, Finds}
use Rattle.ng_ast.specs.NodesLaws.{node_and_inner_is, nodes-For, count_is}

pub starts : (t : TNode) (n : ℕ) → n ≡ 0 → slice_get (node_and_inner t) n ≡ Some t
starts t n e = (λ i. slice_get (node_and_inner_is t i) (e i))

pub found_first : {A : Type 0} (xs ys : List A) (k : ℕ) (a : A) → slice_get xs k ≡ Some a → slice_get (xs ++ ys) k ≡ Some a
found_first [] ys k a e = cc
found_first (x ∷ xs) ys zero a e = e
found_first (x ∷ xs) ys (suc k) a e = found_first xs ys k a e

pub found_after : {A : Type 0} (xs ys : List A) (k : ℕ) → slice_get (xs ++ ys) (length xs + k) ≡ slice_get ys k
found_after [] ys k = ap (slice_get ys) (omega arith)
found_after (x ∷ xs) ys k = let e : suc (length xs) + k ≡ suc (length xs + k) = omega arith in ap (slice_get (x ∷ (xs ++ ys))) e ∙ found_after xs ys k

-- In the parts of several lists, put one after another.
pub found_at : {X A : Type 0} (f : X → List A) (xs : List X) (i k n : ℕ) (x : X) (a : A)
    → i < length xs → x ≡ get_or xs i x → n ≡ length (flat_map f (take i xs)) + k → slice_get (f x) k ≡ Some a → slice_get (flat_map f xs) n ≡ Some a
found_at f [] i k n x a less is far e = absurd (omega arith)
found_at f (y ∷ ys) zero k n x a less is far e =
    let same : n ≡ k = omega arith in ap (slice_get (f y ++ flat_map f ys)) same ∙ found_first (f y) (flat_map f ys) k a (ap (λ z. slice_get (f z) k) (sym is) ∙ e)
found_at f (y ∷ ys) (suc i) k n x a less is far e =
    let beyond : n ≡ length (f y) + (length (flat_map f (take i ys)) + k) = omega (arith, far, length-append (f y) (flat_map f (take i ys))) in
    ap (slice_get (f y ++ flat_map f ys)) beyond ∙ found_after (f y) (flat_map f ys) (length (flat_map f (take i ys)) + k)
    ∙ found_at f ys i k (length (flat_map f (take i ys)) + k) x a (omega arith) is refl e

-- In the body of a `@for`, and in its `@empty`.
module _ (t : TNode) (p : Place) (head : ForHead) (ts : List TNode) (empty : Option Branch) (is : t ≡ node.For p head ts empty) where
  shown : node_and_inner t ≡ node.For p head ts empty ∷ (all_nodes ts ++ all_nodes (optional_nodes empty))
  shown = ap node_and_inner is ∙ nodes-For p head ts empty

  pub for_first : (n : ℕ) (a : TNode) → 0 < n → slice_get (all_nodes ts) (n - 1) ≡ Some a → slice_get (node_and_inner t) n ≡ Some a
  for_first zero a some e = absurd (omega arith)
  for_first (suc k) a some e =
      let same : k ≡ suc k - 1 = omega arith in
      ap (λ ns. slice_get ns (suc k)) shown ∙ found_first (all_nodes ts) (all_nodes (optional_nodes empty)) k a (ap (slice_get (all_nodes ts)) same ∙ e)

  pub for_after : (n past : ℕ) (r : Result (Bor TNode) ℕ) → 0 < n → n - 1 ≡ length (all_nodes ts) + past → Finds (all_nodes (optional_nodes empty)) past r → Finds (node_and_inner t) n r
  for_after n past (Ok a) some far e =
      let same : n ≡ suc (length (all_nodes ts) + past) = omega arith in
      ap (slice_get (node_and_inner t)) same ∙ ap (λ ns. slice_get ns (suc (length (all_nodes ts) + past))) shown ∙ found_after (all_nodes ts) (all_nodes (optional_nodes empty)) past ∙ e
  for_after n past (Err left) some far e = omega (arith, ap length shown, far, e, length-append (all_nodes ts) (all_nodes (optional_nodes empty)))

pub is_counted : (ts : List TNode) (n : ℕ) (a : TNode) → slice_get (all_nodes ts) n ≡ Some a → n < count ts
is_counted ts n a e = omega (arith, slice_get_within (all_nodes ts) n a e, count_is ts)

pub not_counted : (ts : List TNode) (n past : ℕ) → n ≡ length (all_nodes ts) + past → count ts ≤ n
not_counted ts n past e = omega (arith, count_is ts)

pub not_there : (ts : List TNode) (n past : ℕ) → n ≡ length (all_nodes ts) + past → None ≡ slice_get (all_nodes ts) n
not_there ts n past e = sym (slice_get_past (all_nodes ts) n (omega arith))
