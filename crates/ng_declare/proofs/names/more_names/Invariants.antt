use Rattle.std.proofs.Common.{◌≡◌, length}
use Rattle.ng_tokens.specs.declared.kinds.Sign.TheVariants as s
use Rattle.ng_phrases.specs.Words.{sees_sign}
use Rattle.ng_declare.specs.Members.{more_names, named, any_number}
use Rattle.ng_declare.specs.Gives.{nothing, read}
use Rattle.ng_declare.specs.Rounds.{rounds}
use Rattle.ng_declare.proofs.names.more_names.Given as goal

abbrev pub invariant-loop-cursor : goal.invariant-loop-cursor
invariant-loop-cursor l = read (more_names l.fn.start) l.fn.cursor.place l.fn.cursor.rest.now ≡ rounds nothing (sees_sign s.Comma) named any_number l.found l.cursor.place l.cursor.rest.now

abbrev pub decreases-loop-cursor : goal.decreases-loop-cursor
decreases-loop-cursor l = length l.cursor.rest.now
