use Rattle.std.proofs.Common.{◌≡◌, ◌+◌, ◌*◌, length}
use Rattle.ng_tokens.specs.declared.kinds.Sign.TheVariants as s
use Rattle.ng_phrases.specs.Nested.{parse_below}
use Rattle.ng_phrases.specs.Words.{sees_sign}
use Rattle.ng_declare.specs.Readers.{readers}
use Rattle.ng_declare.specs.Constants.{constant_within, more_items, more_pairs, item, next_pair, fits_list, fits_rec}
use Rattle.ng_declare.specs.Gives.{inside}
use Rattle.ng_declare.specs.Rounds.{rounds}
use Rattle.ng_declare.specs.Weights.{ItemsWeigh, PairsWeigh}
use Rattle.ng_declare.proofs.constants.+constants.Given as goal

abbrev pub decreases-constant_below : goal.decreases-constant_below
decreases-constant_below l = 8 * l.levels

abbrev pub decreases-constant_within : goal.decreases-constant_within
decreases-constant_within l = 8 * l.levels + 7

abbrev pub decreases-list : goal.decreases-list
decreases-list l = 8 * l.levels + 6

abbrev pub decreases-list_on : goal.decreases-list_on
decreases-list_on l = 8 * l.levels + 5

abbrev pub decreases-more_items : goal.decreases-more_items
decreases-more_items l = 8 * l.levels + 4

abbrev pub decreases-next_item : goal.decreases-next_item
decreases-next_item l = 8 * l.levels + 3

abbrev pub decreases-rec : goal.decreases-rec
decreases-rec l = 8 * l.levels + 6

abbrev pub decreases-rec_on : goal.decreases-rec_on
decreases-rec_on l = 8 * l.levels + 5

abbrev pub decreases-more_pairs : goal.decreases-more_pairs
decreases-more_pairs l = 8 * l.levels + 4

abbrev pub decreases-next_pair : goal.decreases-next_pair
decreases-next_pair l = 8 * l.levels + 3

abbrev pub decreases-pair : goal.decreases-pair
decreases-pair l = 8 * l.levels + 2

abbrev pub invariant-more_items-loop-cursor : goal.invariant-more_items-loop-cursor
invariant-more_items-loop-cursor l = record {
  read : inside l.levels (more_items l.fn.start.items.items) l.fn.cursor.place l.fn.cursor.rest.now ≡ rounds (parse_below {R = readers} constant_within l.levels) (sees_sign s.Comma) item fits_list l.listing.items.items l.cursor.place l.cursor.rest.now;
  weighs : ItemsWeigh l.listing.items.items l.listing.weight;
}

abbrev pub decreases-more_items-loop-cursor : goal.decreases-more_items-loop-cursor
decreases-more_items-loop-cursor l = length l.cursor.rest.now

abbrev pub invariant-more_pairs-loop-cursor : goal.invariant-more_pairs-loop-cursor
invariant-more_pairs-loop-cursor l = record {
  read : inside l.levels (more_pairs l.fn.start.pairs.items) l.fn.cursor.place l.fn.cursor.rest.now ≡ rounds (parse_below {R = readers} constant_within l.levels) (sees_sign s.Comma) next_pair fits_rec l.pairing.pairs.items l.cursor.place l.cursor.rest.now;
  weighs : PairsWeigh l.pairing.pairs.items l.pairing.weights.entries l.pairing.weight;
}

abbrev pub decreases-more_pairs-loop-cursor : goal.decreases-more_pairs-loop-cursor
decreases-more_pairs-loop-cursor l = length l.cursor.rest.now
