use Rattle.std.proofs.Common.{◌≡◌, sym, ap, ◌∙◌, arith, nat_cmp, Less, Equal, Greater}
use Rattle.std.specs.Ordering.{ordering_then}
use Rattle.ng_values.specs.Laws.{depth-List, depth-Rec}
use Rattle.ng_values.specs.Measure.{depth, pair_depth, list_depth, rec_depth}
use Rattle.ng_values.specs.Order.{order, order_pair, rank_of, content_of}
use Rattle.ng_values.specs.OrderLaws.{order_is}
use Rattle.ng_values.specs.View.{plain, plain_pair}
use Rattle.ng_values.proofs.Steps.{left_end}
use Rattle.ng_values.proofs.Sums.{largest_at}
use Rattle.ng_values.proofs.+compare.Goals as goal

pub order::compare_items-compare-requires : goal.order::compare_items-compare-requires
order::compare_items-compare-requires t c =
    (omega (arith, largest_at depth plain c.args.mine.now c.loop-at.at c.index-mine-at.result (omega arith) c.index-mine-at.is), tt)

pub order::compare_pairs-compare_pair-requires : goal.order::compare_pairs-compare_pair-requires
order::compare_pairs-compare_pair-requires t c =
    (omega (arith, largest_at pair_depth plain_pair c.args.mine.now c.loop-at.at c.index-mine-at.result (omega arith) c.index-mine-at.is), tt)

pub value::Value::compare_content-compare_items-requires : goal.value::Value::compare_content-compare_items-requires
value::Value::compare_content-compare_items-requires t c =
    (omega (arith, ap (λ w. depth (plain w)) c.in-List.is ∙ depth-List _, ap list_depth c.items.ensures), tt)

pub value::Value::compare_content-compare_pairs-requires : goal.value::Value::compare_content-compare_pairs-requires
value::Value::compare_content-compare_pairs-requires t c =
    (omega (arith, ap (λ w. depth (plain w)) c.in-Rec.is ∙ depth-Rec _, ap rec_depth c.pairs.ensures.shown), tt)

pub order::compare_items-returns : goal.order::compare_items-returns
order::compare_items-returns t c =
    c.cmp.ensures ∙ sym (c.loop-at.invariant ∙ left_end order plain c.args.mine.now c.args.theirs.now c.loop-at.at (omega (arith, c.min-at-end.ensures)))

pub order::compare_pairs-returns : goal.order::compare_pairs-returns
order::compare_pairs-returns t c =
    c.cmp.ensures ∙ sym (c.loop-at.invariant ∙ left_end order_pair plain_pair c.args.mine.now c.args.theirs.now c.loop-at.at (omega (arith, c.min-at-end.ensures)))

pub value::Value::compare-returns-in-Less : goal.value::Value::compare-returns-in-Less
value::Value::compare-returns-in-Less t c =
    let x = c.args.self.now in
    let y = c.args.other.now in
    let kinds : nat_cmp (rank_of x) (rank_of y) ≡ Less = cc (c.rank.ensures, c.rank-2.ensures, c.cmp.ensures, c.in-Less.is) in
    sym (order_is x y ∙ ap (λ o. ordering_then o (content_of x y)) kinds)

pub value::Value::compare-returns-in-Equal : goal.value::Value::compare-returns-in-Equal
value::Value::compare-returns-in-Equal t c =
    let x = c.args.self.now in
    let y = c.args.other.now in
    let kinds : nat_cmp (rank_of x) (rank_of y) ≡ Equal = cc (c.rank.ensures, c.rank-2.ensures, c.cmp.ensures, c.in-Equal.is) in
    c.compare_content.ensures ∙ sym (order_is x y ∙ ap (λ o. ordering_then o (content_of x y)) kinds)

pub value::Value::compare-returns-in-Greater : goal.value::Value::compare-returns-in-Greater
value::Value::compare-returns-in-Greater t c =
    let x = c.args.self.now in
    let y = c.args.other.now in
    let kinds : nat_cmp (rank_of x) (rank_of y) ≡ Greater = cc (c.rank.ensures, c.rank-2.ensures, c.cmp.ensures, c.in-Greater.is) in
    sym (order_is x y ∙ ap (λ o. ordering_then o (content_of x y)) kinds)
