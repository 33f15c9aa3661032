use Rattle.std.proofs.Common.{◌≡◌, length}
use Rattle.ng_declare.specs.Words.{flag_word, sees_one}
use Rattle.ng_declare.specs.Members.{flags, flagged, any_number}
use Rattle.ng_declare.specs.Gives.{nothing, read}
use Rattle.ng_declare.specs.Rounds.{rounds}
use Rattle.ng_declare.proofs.members.flags.Given as goal

abbrev pub invariant-loop-cursor : goal.invariant-loop-cursor
invariant-loop-cursor l = read flags l.fn.cursor.place l.fn.cursor.rest.now ≡ rounds nothing (sees_one flag_word) flagged any_number l.found l.cursor.place l.cursor.rest.now

abbrev pub decreases-loop-cursor : goal.decreases-loop-cursor
decreases-loop-cursor l = length l.cursor.rest.now
