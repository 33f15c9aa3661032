use Rattle.std.proofs.Common.{◌≡◌, ◌∷◌, [], ◌++◌, map, OnOk, string_bytes, subst, ap, sym, ◌∙◌, arith}
use Rattle.std.proofs.lemmas.Grind.{common_steps}
use Rattle.ng_values.specs.Json.{json, json_pair}
use Rattle.ng_values.specs.JsonLaws.{json-List, json-Rec}
use Rattle.ng_values.specs.Text.{with_commas}
use Rattle.ng_values.specs.TextLaws.{commas_more}
use Rattle.ng_values.specs.Laws.{depth-List, depth-Rec}
use Rattle.ng_values.specs.Measure.{depth, pair_depth, list_depth, rec_depth}
use Rattle.ng_values.specs.View.{plain, plain_items, plain_pair, plain_pairs}
use Rattle.ng_values.proofs.Sums.{largest_at}
use Rattle.ng_values.proofs.json.+write_json.Goals as goal

pub write_json-write_items-requires : goal.write_json-write_items-requires
write_json-write_items-requires t c = (omega (arith, ap (λ w. depth (plain w)) c.in-List.is ∙ depth-List _, ap list_depth c.items.ensures), tt)

pub write_json-write_pairs-requires : goal.write_json-write_pairs-requires
write_json-write_pairs-requires t c = (omega (arith, ap (λ w. depth (plain w)) c.in-Rec.is ∙ depth-Rec _, ap rec_depth c.pairs.ensures.shown), tt)

pub write_items-write_json-requires : goal.write_items-write_json-requires
write_items-write_json-requires t c =
    (omega (arith, largest_at depth plain c.args.items.now c.loop-at.at c.index-items-at.result (omega arith) c.index-items-at.is), tt)

pub write_pairs-write_pair-requires : goal.write_pairs-write_pair-requires
write_pairs-write_pair-requires t c =
    (omega (arith, largest_at pair_depth plain_pair c.args.pairs.now c.loop-at.at c.index-pairs-at.result (omega arith) c.index-pairs-at.is), tt)

pub write_items-loop-at-preserved : goal.write_items-loop-at-preserved
write_items-loop-at-preserved t c =
    let more = commas_more json plain c.args.items.now c.loop-at.at c.index-items-at.result (omega arith) c.index-items-at.is in
    grind (arith, common_steps, more)

pub write_pairs-loop-at-preserved : goal.write_pairs-loop-at-preserved
write_pairs-loop-at-preserved t c =
    let more = commas_more json_pair plain_pair c.args.pairs.now c.loop-at.at c.index-pairs-at.result (omega arith) c.index-pairs-at.is in
    grind (arith, common_steps, more)

pub write_json-returns-in_ok-write_items-in-List : goal.write_json-returns-in_ok-write_items-in-List
write_json-returns-in_ok-write_items-in-List t c =
    let shown : json (plain c.args.value.now) ≡ 91 ∷ with_commas (map json (plain_items c.items.result.now)) ++ 93 ∷ [] =
    ap (λ w. json (plain w)) c.in-List.is ∙ json-List _ ∙ ap (λ vs. 91 ∷ with_commas (map json vs) ++ 93 ∷ []) (sym c.items.ensures) in
    subst (λ r. OnOk c.push-in-List.result (string_bytes c.push-in-List.new.self ≡ string_bytes c.args.out.now ++ r)) (sym shown) (grind (arith, common_steps))

pub write_json-returns-in_ok-write_pairs-in-Rec : goal.write_json-returns-in_ok-write_pairs-in-Rec
write_json-returns-in_ok-write_pairs-in-Rec t c =
    let shown : json (plain c.args.value.now) ≡ 123 ∷ with_commas (map json_pair (plain_pairs c.pairs.result.now)) ++ 125 ∷ [] =
    ap (λ w. json (plain w)) c.in-Rec.is ∙ json-Rec _ ∙ ap (λ ps. 123 ∷ with_commas (map json_pair ps) ++ 125 ∷ []) (sym c.pairs.ensures.shown) in
    subst (λ r. OnOk c.push-in-Rec-2.result (string_bytes c.push-in-Rec-2.new.self ≡ string_bytes c.args.out.now ++ r)) (sym shown) (grind (arith, common_steps))
