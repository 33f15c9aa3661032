use Rattle.std.proofs.Common.{◌≡◌, ◌+◌, ◌≤◌, drop}
use Rattle.ng_tags.specs.Outlets.{top_len}
use Rattle.ng_tags.proofs.outlets.top_len.Given as goal

abbrev pub invariant-loop-at : goal.invariant-loop-at
invariant-loop-at l = (l.at + top_len l.depth (drop l.at l.tokens) ≡ top_len 0 l.tokens) × (l.depth ≤ l.at)
