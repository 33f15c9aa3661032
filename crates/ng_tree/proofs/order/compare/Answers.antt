use Rattle.std.proofs.Common.{◌≡◌, sym, ◌∙◌}
use Rattle.ng_tree.specs.Order.{path_cmp}
use Rattle.ng_tree.specs.OrderTotal.{path_equal}
use Rattle.ng_tree.proofs.order.compare.Goals as goal

pub returns-clause-same : goal.returns-clause-same
returns-clause-same c =
    let told : c.compare_steps.result ≡ path_cmp c.args.a.now c.args.b.now = c.compare_steps.ensures ∙ (λ i. path_cmp (c.items.ensures i) (c.items-2.ensures i)) in
    let equal = path_equal c.args.a.now c.args.b.now in
    (λ e. equal.0 (sym told ∙ e), λ e. told ∙ equal.1 e)
