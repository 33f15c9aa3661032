use Rattle.std.proofs.Common.{sym, ◌∙◌, ap, drop, ◌+◌}
use Rattle.ng_unbuilt.specs.Least.{least_of, least}
use Rattle.ng_unbuilt.specs.Forms.{forms, forms_after}
use Rattle.ng_unbuilt.proofs.Items.{decl_next}
use Rattle.ng_unbuilt.proofs.application.unbuilt.Goals as goal

pub loop-one-preserved : goal.loop-one-preserved
loop-one-preserved c =
    let ds = c.as_slice-one-items.result.now in
    let next = decl_next ds c.loop-one.one-index c.one-item.result c.loop-one.seen (least (forms c.args.app.now)) c.loop-one.best c.declaration-best.result c.loop-one-test.true c.one-item.is c.loop-one.invariant c.declaration-best.ensures in
    next ∙ ap (λ seen. least_of c.declaration-best.result (forms_after seen (drop (c.loop-one.one-index + 1) ds))) (sym c.seen_after-seen.ensures)
