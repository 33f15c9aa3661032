use Rattle.std.proofs.Common.{◌≡◌, length}
use Rattle.std.specs.Prelude.{codes}
use Rattle.ng_phrases.specs.Words.{sees_word}
use Rattle.ng_declare.specs.Members.{are_few}
use Rattle.ng_declare.specs.Grammar.{environment_lines, environment_provides}
use Rattle.ng_declare.specs.Gives.{nothing, read}
use Rattle.ng_declare.specs.Rounds.{rounds}
use Rattle.ng_declare.proofs.declarations.environment_lines.Given as goal

abbrev pub invariant-loop-found : goal.invariant-loop-found
invariant-loop-found l = read environment_lines l.fn.cursor.place l.fn.cursor.rest.now ≡ rounds nothing (sees_word (codes "provide")) environment_provides are_few l.found l.cursor.place l.cursor.rest.now

abbrev pub decreases-loop-found : goal.decreases-loop-found
decreases-loop-found l = length l.cursor.rest.now
