use Rattle.std.proofs.Common.{◌≡◌, length, true}
use Rattle.ng_declare.specs.Words.{decl_word, sees_one}
use Rattle.ng_declare.specs.Grammar.{entries, declared, few_of_each}
use Rattle.ng_declare.specs.Counts.{counted}
use Rattle.ng_declare.specs.Gives.{nothing, read}
use Rattle.ng_declare.specs.Rounds.{rounds}
use Rattle.ng_declare.proofs.declarations.entries.Given as goal

abbrev pub invariant-loop-counts : goal.invariant-loop-counts
invariant-loop-counts l = record { rounds : read entries l.fn.cursor.place l.fn.cursor.rest.now ≡ rounds nothing (sees_one decl_word) declared few_of_each l.found l.cursor.place l.cursor.rest.now; counts : l.counts ≡ counted l.found; few : few_of_each l.found ≡ true }

abbrev pub decreases-loop-counts : goal.decreases-loop-counts
decreases-loop-counts l = length l.cursor.rest.now
