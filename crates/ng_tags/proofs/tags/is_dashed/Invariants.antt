use Rattle.std.proofs.Common.{◌≡◌, drop}
use Rattle.ng_lex.specs.Attributes.{is_dashed}
use Rattle.ng_tags.proofs.tags.is_dashed.Given as goal

abbrev pub invariant-loop-b : goal.invariant-loop-b
invariant-loop-b l = is_dashed (drop l.b-index l.tag) ≡ is_dashed l.tag
