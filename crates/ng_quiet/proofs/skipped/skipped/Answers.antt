use Rattle.std.proofs.Common.{◌∙◌}
use Rattle.ng_quiet.proofs.SkippedLaws.{answers_skipped}
use Rattle.ng_quiet.proofs.skipped.skipped.Goals as goal

pub returns : goal.returns
returns c =
    answers_skipped (λ marks. marks.items) _ c.as_slice.result.now c.as_slice-2.result.now c.reached.result (c.as_slice.ensures.value ∙ c.in_ok-graph.ensures) (c.as_slice-2.ensures.value ∙ c.in_ok-starts.ensures) c.reached.ensures
