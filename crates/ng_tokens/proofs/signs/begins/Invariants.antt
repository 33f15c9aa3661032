use Rattle.std.proofs.Common.{◌≡◌, length}
use Rattle.ng_tokens.specs.Lexis.{begins}
use Rattle.ng_tokens.proofs.signs.begins.Given as goal

abbrev pub invariant-loop-word : goal.invariant-loop-word
invariant-loop-word l = begins l.word l.z ≡ begins l.initial.word l.initial.z

abbrev pub decreases-loop-word : goal.decreases-loop-word
decreases-loop-word l = length l.word
