-- One level of what an expression means.
use Rattle.std.specs.Prelude.{◌≡◌, ℕ, ◌<◌, max, if◌then◌else◌, List, [], ◌∷◌, map, None, refl}
use Rattle.std.specs.List.{zip}
use Rattle.std.proofs.Common.{ap, arith}
use denote.Param.Weighed.{most}
use Rattle.ng_values.specs.Kinds.{truth}
use Rattle.ng_values.specs.Make.{list_of, rec_of}
use Rattle.ng_values.specs.View.{plain}
use Rattle.ng_ast.specs.declared.Expr.{Expr, out-Expr, roll-Expr, size-Expr}
use Rattle.ng_ast.specs.declared.Expr.TheOpen.{Expr-F}
use Rattle.ng_ast.specs.declared.Expr.TheVariants as expr
use Rattle.ng_ast.specs.declared.Expr.TheViews.{roll-out-Expr, sized-Group, sized-List, sized-Rec, sized-Unary, sized-Binary, sized-Choose, sized-Member, sized-Safe, sized-Index, sized-Call, sized-Pipe}
use Rattle.ng_meaning.specs.Steps.{◌>>=◌, pure, all}
use Rattle.ng_meaning.specs.Levels.{LooksInside, whole_is}
use Rattle.ng_meaning.specs.Declared.{pipe}
use Rattle.ng_meaning.specs.Expressions.{Bodies, Scope, Chain, need, answer, whole_item, go_on, go_on_safely, item_member, item_index, item_call, prefixed, combined, mean_part, mean_values, mean_call, pipe_call, mean_level, mean_chain}

module _ (bodies : Bodies) (f g : Expr → Scope → Chain) where
  part_alike : (a : Expr) → f a ≡ g a → (s : Scope) → mean_part bodies f s a ≡ mean_part bodies g s a
  part_alike a e s = ap (λ (c : Scope → Chain). mean_part bodies (λ _. c) s a) e

  -- parts that are smaller than a number mean the same
  parts_alike : (n : ℕ) (es : List Expr) → ((u : Expr) → size-Expr u < n → f u ≡ g u) → most size-Expr es < n → (s : Scope) → all (mean_part bodies f s) es ≡ all (mean_part bodies g s) es
  parts_alike n [] h less s = refl
  parts_alike n (a ∷ es) h less s = λ i. part_alike a (h a (omega arith)) s i >>= (λ b. parts_alike n es h (omega arith) s i >>= (λ bs. pure (b ∷ bs)))

  values_alike : (n : ℕ) (es : List Expr) → ((u : Expr) → size-Expr u < n → f u ≡ g u) → most size-Expr es < n → (s : Scope) → mean_values bodies f s es ≡ mean_values bodies g s es
  values_alike n es h less s = λ i. parts_alike n es h less s i >>= all need

  pairs_size : (qs : List (List ℕ × Expr)) → most size-Expr (map (λ q. q.1) qs) ≡ most (λ q. max 0 (max (size-Expr q.1) 0)) qs
  pairs_size [] = refl
  pairs_size (q ∷ qs) = omega (arith, pairs_size qs)

  call_alike : (l : Expr-F Expr) (args : List Expr) (n : ℕ) → ((u : Expr) → size-Expr u < n → f u ≡ g u) → size-Expr (roll-Expr l) < n → most size-Expr args < n → mean_call bodies f l args ≡ mean_call bodies g l args
  call_alike (Expr-F.Member p a name) args n h less smaller =
      let e = h a (omega (arith, ap size-Expr (expr.rolls-Member p a name), sized-Member p a name)) in
      λ i s. e i s >>= go_on (λ x. parts_alike n args h smaller s i >>= item_call s x name)
  call_alike (Expr-F.Safe p a name) args n h less smaller =
      let e = h a (omega (arith, ap size-Expr (expr.rolls-Safe p a name), sized-Safe p a name)) in
      λ i s. e i s >>= go_on_safely (λ x. parts_alike n args h smaller s i >>= item_call s x name)
  call_alike _ args n h less smaller = refl

  level_alike : (l : Expr-F Expr) → ((u : Expr) → size-Expr u < size-Expr (roll-Expr l) → f u ≡ g u) → mean_level bodies f l ≡ mean_level bodies g l
  level_alike (Expr-F.Literal p w) h = refl
  level_alike (Expr-F.Name p name) h = refl
  level_alike (Expr-F.Group p a) h =
      let e = h a (omega (arith, ap size-Expr (expr.rolls-Group p a), sized-Group p a)) in
      λ i s. whole_item (part_alike a e s i)
  level_alike (Expr-F.List p es) h =
      let less : most size-Expr es < size-Expr (roll-Expr (Expr-F.List p es)) = omega (arith, ap size-Expr (expr.rolls-List p es), sized-List p es) in
      λ i s. whole_item (values_alike _ es h less s i >>= (λ ws. answer (list_of (map plain ws))))
  level_alike (Expr-F.Rec p qs) h =
      let less : most size-Expr (map (λ q. q.1) qs) < size-Expr (roll-Expr (Expr-F.Rec p qs)) = omega (arith, pairs_size qs, ap size-Expr (expr.rolls-Rec p qs), sized-Rec p qs) in
      λ i s. whole_item (values_alike _ (map (λ q. q.1) qs) h less s i >>= (λ ws. answer (rec_of (zip (map (λ q. q.0) qs) (map plain ws)))))
  level_alike (Expr-F.Unary p op a) h =
      let e = h a (omega (arith, ap size-Expr (expr.rolls-Unary p op a), sized-Unary p op a)) in
      λ i s. whole_item (part_alike a e s i >>= need >>= (λ w. answer (prefixed op w)))
  level_alike (Expr-F.Binary p op a b) h =
      let d = h a (omega (arith, ap size-Expr (expr.rolls-Binary p op a b), sized-Binary p op a b)) in
      let e = h b (omega (arith, ap size-Expr (expr.rolls-Binary p op a b), sized-Binary p op a b)) in
      λ i s. whole_item (combined op (part_alike a d s i) (part_alike b e s i))
  level_alike (Expr-F.Choose p c a b) h =
      let j = h c (omega (arith, ap size-Expr (expr.rolls-Choose p c a b), sized-Choose p c a b)) in
      let d = h a (omega (arith, ap size-Expr (expr.rolls-Choose p c a b), sized-Choose p c a b)) in
      let e = h b (omega (arith, ap size-Expr (expr.rolls-Choose p c a b), sized-Choose p c a b)) in
      λ i s. whole_item ((part_alike c j s i >>= need >>= (λ w. pure (truth w))) >>= (λ t. if t then part_alike a d s i else part_alike b e s i))
  level_alike (Expr-F.Member p a name) h =
      let e = h a (omega (arith, ap size-Expr (expr.rolls-Member p a name), sized-Member p a name)) in
      λ i s. e i s >>= go_on (λ x. item_member bodies s x name)
  level_alike (Expr-F.Safe p a name) h =
      let e = h a (omega (arith, ap size-Expr (expr.rolls-Safe p a name), sized-Safe p a name)) in
      λ i s. e i s >>= go_on_safely (λ x. item_member bodies s x name)
  level_alike (Expr-F.Index p a b) h =
      let d = h a (omega (arith, ap size-Expr (expr.rolls-Index p a b), sized-Index p a b)) in
      let e = h b (omega (arith, ap size-Expr (expr.rolls-Index p a b), sized-Index p a b)) in
      λ i s. d i s >>= go_on (λ x. part_alike b e s i >>= item_index x)
  level_alike (Expr-F.Call p a args) h =
      call_alike (out-Expr a) args _ h (omega (arith, ap size-Expr (roll-out-Expr a), ap size-Expr (expr.rolls-Call p a args), sized-Call p a args))
      (omega (arith, ap size-Expr (expr.rolls-Call p a args), sized-Call p a args))
  level_alike (Expr-F.Pipe p a name args) h =
      let less : most size-Expr (a ∷ args) < size-Expr (roll-Expr (Expr-F.Pipe p a name args)) = omega (arith, ap size-Expr (expr.rolls-Pipe p a name args), sized-Pipe p a name args) in
      λ i s. whole_item (values_alike _ (a ∷ args) h less s i >>= pipe_call bodies s name (pipe s.app name))

looks_inside : (bodies : Bodies) → LooksInside out-Expr size-Expr (λ s. pure None) (mean_level bodies)
looks_inside bodies f g t h = level_alike bodies f g (out-Expr t) (λ u small. h u (omega (arith, ap size-Expr (roll-out-Expr t))))

-- What an expression means as a chain is one level over what its parts mean.
pub mean_chain_is : (bodies : Bodies) (e : Expr) → mean_chain bodies e ≡ mean_level bodies (mean_chain bodies) (out-Expr e)
mean_chain_is bodies = whole_is out-Expr size-Expr (λ s. pure None) (mean_level bodies) (looks_inside bodies)
