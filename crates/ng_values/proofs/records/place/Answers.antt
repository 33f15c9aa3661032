use Rattle.std.proofs.Common.{rules, nat_cmp}
use Rattle.std.specs.Cmp.Lexicographic.{slice_cmp}
use Rattle.std.proofs.lemmas.Fn.{always_returns_same}
use Rattle.ng_values.proofs.Keys.{finds_key}
use Rattle.ng_values.proofs.records.place.Goals as goal

-- the closure compares a pair's key
pub returns : goal.returns
returns c =
    let facts = c.binary_search_by.ensures in
    let by_key = facts.position (λ q. slice_cmp nat_cmp q.0 c.args.key.now) (always_returns_same _ _ _ (λ a r g called. (search rules, search rules))) in
    finds_key c.args.key.now c.args.pairs.now _ c.requires facts.bound by_key
