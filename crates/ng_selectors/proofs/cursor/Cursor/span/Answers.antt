use Rattle.ng_selectors.proofs.Words.{run_ends}
use Rattle.ng_selectors.proofs.cursor.Cursor.span.Goals as goal

pub range-front-requires-clause-end_boundary : goal.range-front-requires-clause-end_boundary
range-front-requires-clause-end_boundary c = run_ends c.args.class _ _ _ c.as_bytes.ensures.value c.as_bytes.ensures.utf8 c.run-len.ensures

pub range_from-self-requires : goal.range_from-self-requires
range_from-self-requires c = λ _. run_ends c.args.class _ _ _ c.as_bytes.ensures.value c.as_bytes.ensures.utf8 c.run-len.ensures
