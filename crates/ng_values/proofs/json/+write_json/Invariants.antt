use Rattle.std.proofs.Common.{◌≡◌, ◌+◌, ◌*◌, ◌++◌, take, map, string_bytes}
use Rattle.ng_values.specs.Measure.{depth, list_depth, rec_depth}
use Rattle.ng_values.specs.Json.{json, json_pair}
use Rattle.ng_values.specs.Text.{with_commas}
use Rattle.ng_values.specs.View.{plain, plain_items, plain_pairs}
use Rattle.ng_values.proofs.json.+write_json.Given as goal

abbrev pub decreases-write_json : goal.decreases-write_json
decreases-write_json l = 3 * depth (plain l.value.now) + 1

abbrev pub decreases-write_items : goal.decreases-write_items
decreases-write_items l = 3 * list_depth (plain_items l.items.now)

abbrev pub decreases-write_pairs : goal.decreases-write_pairs
decreases-write_pairs l = 3 * rec_depth (plain_pairs l.pairs.now)

abbrev pub decreases-write_pair : goal.decreases-write_pair
decreases-write_pair l = 3 * depth (plain l.pair.now.1) + 2

abbrev pub invariant-write_items-loop-at : goal.invariant-write_items-loop-at
invariant-write_items-loop-at l = string_bytes l.out ≡ string_bytes l.initial.out ++ with_commas (map json (plain_items (take l.at l.items)))

abbrev pub invariant-write_pairs-loop-at : goal.invariant-write_pairs-loop-at
invariant-write_pairs-loop-at l = string_bytes l.out ≡ string_bytes l.initial.out ++ with_commas (map json_pair (plain_pairs (take l.at l.pairs)))
