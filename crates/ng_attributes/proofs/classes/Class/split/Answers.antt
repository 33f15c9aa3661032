use Rattle.std.proofs.Common.{◌∙◌, ap}
use Rattle.std.specs.List.{prefix_len}
use Rattle.ng_attributes.specs.Runs.{passes}
use Rattle.ng_attributes.proofs.Runs.{run_boundary, run_cut}
use Rattle.ng_attributes.proofs.classes.Class.split.Goals as goal

pub split_at-requires : goal.split_at-requires
split_at-requires c = run_boundary c.args.self c.args.text.now c.run_len.result (c.run_len.ensures.value ∙ ap (prefix_len (passes c.args.self)) c.as_bytes.ensures.value) c.utf8.text

pub returns : goal.returns
returns c = run_cut (passes c.args.self) c.args.text.now _ _ c.run_len.result (c.run_len.ensures.value ∙ ap (prefix_len (passes c.args.self)) c.as_bytes.ensures.value) c.split_at.ensures.front c.split_at.ensures.back
