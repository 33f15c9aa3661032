use Rattle.std.proofs.Common.{ap, ◌∙◌, ◌-◌, subst, arith, length, take}
use Rattle.std.specs.Str.{IsUtf8}
use Rattle.ng_heads.proofs.LetLaws.{inner_size, outer_boundary, inner_boundary, inner_text, inner_place, interpolation_read, interpolation_turned}
use Rattle.ng_heads.proofs.interpolation.Goals as goal

pub overflow_sub-end : goal.overflow_sub-end
overflow_sub-end c = omega (arith, inner_size c.args.at.text.now c.requires, ap length c.as_bytes-z.ensures.value)

pub split-requires : goal.split-requires
split-requires c = rw c.as_bytes-z.ensures.value (outer_boundary c.args.at.text.now c.requires (subst IsUtf8 c.as_bytes-z.ensures.value c.as_bytes-z.ensures.utf8))

pub split-requires-2 : goal.split-requires-2
split-requires-2 c =
    inner_boundary c.args.at.text.now c.split.result.0.text.now c.requires (subst IsUtf8 c.as_bytes-z.ensures.value c.as_bytes-z.ensures.utf8) (c.split.ensures.front.0 ∙ ap (λ z. take (length z - 2) c.args.at.text.now) c.as_bytes-z.ensures.value)

pub returns-in-Ok : goal.returns-in-Ok
returns-in-Ok c =
    let text = c.split.ensures.front.0 ∙ ap (λ z. take (length z - 2) c.args.at.text.now) c.as_bytes-z.ensures.value in
    interpolation_read c.args.at.place c.args.at.text.now c.requires c.split-2.result.1.place c.split-2.result.1.text.now (inner_place c.args.at.text.now c.args.at c.split.result.0 c.split-2.result.1 c.requires text c.split.ensures.front.1 c.split-2.ensures.rest)
    (inner_text c.args.at.text.now c.split.result.0 c.split-2.result.1 c.requires text c.split-2.ensures.rest) c.in-Ok.value c.in-Ok.ensures

pub returns-in-Err : goal.returns-in-Err
returns-in-Err c =
    let text = c.split.ensures.front.0 ∙ ap (λ z. take (length z - 2) c.args.at.text.now) c.as_bytes-z.ensures.value in
    interpolation_turned c.args.at.place c.args.at.text.now c.requires c.split-2.result.1.place c.split-2.result.1.text.now (inner_place c.args.at.text.now c.args.at c.split.result.0 c.split-2.result.1 c.requires text c.split.ensures.front.1 c.split-2.ensures.rest)
    (inner_text c.args.at.text.now c.split.result.0 c.split-2.result.1 c.requires text c.split-2.ensures.rest) c.in-Err.stop c.turned.result c.in-Err.ensures c.turned.ensures
