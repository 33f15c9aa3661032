use Rattle.std.proofs.Common.{◌≡◌, length, sym, ap, ◌∙◌, arith}
use Rattle.ng_semantics.specs.Template.{nesting, in_order}
use Rattle.ng_semantics.specs.Events.{Handled}
use Rattle.ng_update.specs.Fields.{world_of}
use Rattle.ng_update.specs.Clicked.{attributes_among, clicked}
use Rattle.ng_update.specs.Running.{Running, click_on}
use Rattle.ng_update.proofs.Lists.{whole}
use Rattle.ng_update.proofs.Targets.{click_root, click_inside}
use Rattle.ng_update.proofs.engine.FlatEngine.click.Goals as goal

pub returns-then-is_root-clause-outcome : goal.returns-then-is_root-clause-outcome
returns-then-is_root-clause-outcome c =
    let component = c.self.inside.component in
    let world = world_of c.self.inside.fields.items in
    ap (λ (h : Handled). h.outcome) (sym (click_root component world c.args.tag.now c.self.invariant.first (sym c.is_root.ensures ∙ c.if-is_root.true)))
    ∙ ap (λ (r : Running). (click_on r c.args.tag.now).outcome) c.self.view_is

pub returns-then-is_root-clause-world : goal.returns-then-is_root-clause-world
returns-then-is_root-clause-world c =
    let component = c.self.inside.component in
    let world = world_of c.self.inside.fields.items in
    sym (ap (λ (r : Running). r.world) c.self.view_is)
    ∙ ap (λ (h : Handled). h.world) (sym (click_root component world c.args.tag.now c.self.invariant.first (sym c.is_root.ensures ∙ c.if-is_root.true)))
    ∙ ap (λ (r : Running). (click_on r c.args.tag.now).world) c.self.view_is

pub returns-clause-outcome : goal.returns-clause-outcome
returns-clause-outcome c =
    let component = c.self.inside.component in
    let world = world_of c.self.inside.fields.items in
    ap (λ (h : Handled). h.outcome)
    (c.click_in.ensures.result
    ∙ (λ j. clicked (world_of (c.as_mut_slice.ensures.value j)) (attributes_among c.args.tag.now (in_order nesting (c.as_slice-nodes.ensures j))))
    ∙ sym (click_inside component world c.args.tag.now c.self.invariant.first (sym c.is_root.ensures ∙ c.if-is_root.false))
    ∙ ap (λ (r : Running). click_on r c.args.tag.now) c.self.view_is)

pub returns-clause-world : goal.returns-clause-world
returns-clause-world c =
    let component = c.self.inside.component in
    let world = world_of c.self.inside.fields.items in
    let len : length c.click_in.new.fields ≡ length c.self.inside.fields.items = omega (arith, c.as_mut_slice.ensures.len, ap length c.as_mut_slice.ensures.value, c.self.inside.fields.ok.0) in
    ap world_of (whole c.click_in.new.fields c.self.inside.fields.items c.self.inside.fields.len c.self.inside.fields.ok.0 len)
    ∙ ap (λ (h : Handled). h.world)
    (c.click_in.ensures.result
    ∙ (λ j. clicked (world_of (c.as_mut_slice.ensures.value j)) (attributes_among c.args.tag.now (in_order nesting (c.as_slice-nodes.ensures j))))
    ∙ sym (click_inside component world c.args.tag.now c.self.invariant.first (sym c.is_root.ensures ∙ c.if-is_root.false))
    ∙ ap (λ (r : Running). click_on r c.args.tag.now) c.self.view_is)
