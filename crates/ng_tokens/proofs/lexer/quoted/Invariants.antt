use Rattle.std.proofs.Common.{◌≡◌, drop}
use Rattle.std.specs.Prelude.{false}
use Rattle.std.specs.Option.{option_map}
use Rattle.ng_tokens.specs.Lexis.{unquote}
use Rattle.ng_tokens.proofs.Loops.{later}
use Rattle.ng_tokens.proofs.lexer.quoted.Given as goal

abbrev pub invariant-loop-at : goal.invariant-loop-at
invariant-loop-at l = later l.at (option_map (λ q. q.1) (unquote l.quote l.escaped (drop l.at l.z))) ≡ option_map (λ q. q.1) (unquote l.quote false l.z)
