use Rattle.ng_unbuilt.proofs.Items.{place_next}
use Rattle.ng_unbuilt.proofs.template.all_places.Goals as goal

pub loop-attribute-preserved : goal.loop-attribute-preserved
loop-attribute-preserved c = place_next c.args.attributes.now c.loop-attribute.attribute-index c.attribute-item.result c.args.best c.loop-attribute.best c.earlier-best.result c.loop-attribute-test.true c.attribute-item.is c.loop-attribute.invariant
    c.earlier-best.ensures
