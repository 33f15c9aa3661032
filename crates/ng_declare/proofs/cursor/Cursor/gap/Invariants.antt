use Rattle.std.proofs.Common.{◌≡◌, length}
use Rattle.ng_phrases.specs.Tokens.{parse_gap}
use Rattle.ng_declare.specs.Readers.{Question}
use Rattle.ng_declare.proofs.cursor.Cursor.gap.Given as goal

abbrev pub invariant-loop-len : goal.invariant-loop-len
invariant-loop-len l = parse_gap {Q = Question} l.fn.self.place l.fn.self.rest.now ≡ parse_gap l.self.place l.self.rest.now

abbrev pub decreases-loop-len : goal.decreases-loop-len
decreases-loop-len l = length l.self.rest.now
