use Rattle.std.proofs.Common.{refl, sym, subst}
use Rattle.ng_tags.proofs.AttributeSteps.{Goes, tag_start, tag_more, tag_shorter, tag_end, tag_none, tag_halts}
use Rattle.ng_tags.proofs.attributes.read_attributes.Goals as goal

pub loop-closed-init : goal.loop-closed-init
loop-closed-init c = record { goes = subst (λ k. Goes c.args.at k c.args.at) (sym c.new-found.ensures) (tag_start c.args.at); fits = c.requires }

pub next_in-requires : goal.next_in-requires
next_in-requires c = c.loop-closed.invariant.fits

pub returns-in-End : goal.returns-in-End
returns-in-End c = tag_end c.args.at c.loop-closed.rest c.in-End.rest c.loop-closed.found c.in-End.closed c.loop-closed.invariant.goes c.in-End.ensures

pub returns-in-Nothing : goal.returns-in-Nothing
returns-in-Nothing c = tag_none c.args.at c.loop-closed.rest c.loop-closed.found c.loop-closed.invariant.goes c.in-Nothing.ensures

pub attribute-requires : goal.attribute-requires
attribute-requires c = c.in-Attribute.ensures.fits

pub same-found : goal.same-found
same-found c = refl

pub loop-closed-smaller : goal.loop-closed-smaller
loop-closed-smaller c = tag_shorter c.loop-closed.rest c.in-Attribute.at c.in-Ok.after c.in-Ok.one c.in-Attribute.ensures c.in-Ok.ensures

pub loop-closed-preserved : goal.loop-closed-preserved
loop-closed-preserved c = record {
  goes = subst (λ k. Goes c.args.at k c.in-Ok.after) (sym c.in_ok-push-in-Ok.ensures.ok) (tag_more c.args.at c.loop-closed.rest c.in-Attribute.at c.in-Ok.after c.loop-closed.found c.in-Ok.one c.loop-closed.invariant.goes c.in-Attribute.ensures c.in-Ok.ensures);
  fits = c.in-Ok.ensures.fits;
}

pub returns-in-Err : goal.returns-in-Err
returns-in-Err c = tag_halts c.args.at c.loop-closed.rest c.in-Attribute.at c.loop-closed.found c.in-Err.stop c.loop-closed.invariant.goes c.in-Attribute.ensures c.in-Err.ensures
