use Rattle.std.proofs.Common.{◌≡◌, length}
use Rattle.ng_declare.specs.Words.{word_of, sees_one}
use Rattle.ng_declare.specs.Members.{members, worded, are_few}
use Rattle.ng_declare.specs.Gives.{nothing, read}
use Rattle.ng_declare.specs.Rounds.{rounds}
use Rattle.ng_declare.proofs.members.members.Given as goal

abbrev pub invariant-loop-scope : goal.invariant-loop-scope
invariant-loop-scope l = read (members l.fn.scope) l.fn.cursor.place l.fn.cursor.rest.now ≡ rounds nothing (sees_one (word_of l.scope)) (worded l.scope) are_few l.found l.cursor.place l.cursor.rest.now

abbrev pub decreases-loop-scope : goal.decreases-loop-scope
decreases-loop-scope l = length l.cursor.rest.now
