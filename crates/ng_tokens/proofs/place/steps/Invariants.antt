use Rattle.std.proofs.Common.{◌≡◌, ◌≤◌, ◌+◌, drop}
use Rattle.ng_tokens.specs.Lexis.{steps}
use Rattle.ng_tokens.proofs.place.steps.Given as goal

abbrev pub invariant-loop-b : goal.invariant-loop-b
invariant-loop-b l = (steps l.place (drop l.b-index l.z) ≡ steps l.fn.place l.z) × (l.place.line ≤ l.fn.place.line + l.b-index) × (l.place.column ≤ l.fn.place.column + l.b-index) × (l.place.byte ≤ l.fn.place.byte + l.b-index)
