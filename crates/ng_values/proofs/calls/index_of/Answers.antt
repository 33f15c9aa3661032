use Rattle.std.proofs.Common.{◌≡◌, ◌↔◌, IsTrue, ℕ, zero, suc, ◌+◌, ◌<◌, Bool, true, false, cond, List, [], ◌∷◌, length, get_or, drop, Some, sym, ap, ◌∙◌, arith}
use Rattle.std.specs.Bool.{one_answer}
use Rattle.ng_values.specs.declared.value.Value.{Value}
use Rattle.ng_values.specs.Calls.{place_of}
use Rattle.ng_values.specs.Laws.{value_of-plain}
use Rattle.ng_values.specs.Same.{is_same, is_same_decides}
use Rattle.ng_values.specs.View.{plain_items}
use Rattle.ng_values.proofs.calls.index_of.Goals as goal

-- one item of what is left to search
one_step : (w : Value) (xs : List Value) (i n : ℕ) (x : Value) → i < length xs → x ≡ get_or xs i x → place_of n w (plain_items (drop i xs)) ≡ cond (is_same x w) (Some n) (place_of (n + 1) w (plain_items (drop (i + 1) xs)))
one_step w [] i n x h is = absurd (omega arith)
one_step w (y ∷ ys) zero n x h is =
    ap (λ z. cond (is_same z w) (Some n) (place_of (n + 1) w (plain_items ys))) (value_of-plain y ∙ sym is)
one_step w (y ∷ ys) (suc i) n x h is =
    let next : suc (i + 1) ≡ suc i + 1 = omega arith in
    one_step w ys i n x (omega arith) is ∙ ap (λ k. cond (is_same x w) (Some n) (place_of (n + 1) w (plain_items (drop k (y ∷ ys))))) next

same_test : (x w : Value) (r : Bool) → IsTrue r ↔ (x ≡ w) → r ≡ is_same x w
same_test x w r h = one_answer r (is_same x w) h (is_same_decides x w)

pub returns-then-same-clause-found : goal.returns-then-same-clause-found
returns-then-same-clause-found c =
    let xs = c.args.items.now in
    let w = c.args.value.now in
    let at = c.loop-at.at in
    let x = c.index-items-at.result in
    let step = one_step w xs at at x (omega arith) c.index-items-at.is in
    let met : is_same x w ≡ true = sym (same_test x w c.same.result c.same.ensures) ∙ c.if-same.true in
    sym (c.loop-at.invariant ∙ step ∙ ap (λ b. cond b (Some at) (place_of (at + 1) w (plain_items (drop (at + 1) xs)))) met)

pub loop-at-preserved : goal.loop-at-preserved
loop-at-preserved c =
    let xs = c.args.items.now in
    let w = c.args.value.now in
    let at = c.loop-at.at in
    let x = c.index-items-at.result in
    let step = one_step w xs at at x (omega arith) c.index-items-at.is in
    let missed : is_same x w ≡ false = sym (same_test x w c.same.result c.same.ensures) ∙ c.if-same.false in
    c.loop-at.invariant ∙ step ∙ ap (λ b. cond b (Some at) (place_of (at + 1) w (plain_items (drop (at + 1) xs)))) missed
