use Rattle.std.proofs.Common.{◌≡◌, ◌∙◌, subst, map, rules, tests}
use Rattle.std.specs.Prelude.{IfOk}
use Rattle.std.specs.List.{slice_split}
use Rattle.std.proofs.lemmas.Iterator.Consumers.{map_from_collect}
use Rattle.std.proofs.lemmas.Iterator.Splits.{YieldsList-from_slice_split}
use Rattle.ng_tokens.specs.Lexis.{is_blank}
use Rattle.ng_hosts.proofs.search.pieces_of.Goals as goal

pub returns : goal.returns
returns c =
    subst (λ t. IfOk c.collect.result (λ pieces. map (λ p. p.now) pieces.items ≡ slice_split is_blank t)) (c.as_bytes.ensures.value ∙ c.as_str.ensures)
    (map_from_collect c.collect.result c.collect.ensures.ran
    (YieldsList-from_slice_split _ is_blank c.as_bytes.result.now c.split.ensures.rest c.split.ensures.done c.split.ensures.closure (λ x b q k. search (rules, tests))))
