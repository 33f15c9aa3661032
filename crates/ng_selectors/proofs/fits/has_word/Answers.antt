use Rattle.std.proofs.Common.{◌∙◌, ap, rules, tests}
use Rattle.std.specs.Prelude.{◌&&◌}
use Rattle.std.specs.Str.{bytes_eq}
use Rattle.std.proofs.lemmas.Iterator.Search.{any_from_yields_List}
use Rattle.std.proofs.lemmas.Iterator.Splits.{YieldsList-from_slice_split}
use Rattle.ng_tokens.specs.Lexis.{is_blank}
use Rattle.ng_selectors.specs.Fits.{is_filled, has_word}
use Rattle.ng_selectors.proofs.Splits.{has_word_is}
use Rattle.ng_selectors.proofs.fits.has_word.Goals as goal

pub returns : goal.returns
returns c =
    any_from_yields_List (λ piece. is_filled piece && bytes_eq c.args.word.now piece) _ _ _ c.any.ensures.ran
    (YieldsList-from_slice_split _ is_blank c.as_bytes.result.now c.split.ensures.rest c.split.ensures.done c.split.ensures.closure (λ x b q k. search (rules, tests)))
    (λ x b q k. search (rules, tests))
    ∙ (has_word_is c.args.word.now c.as_bytes.result.now ∙ ap (has_word c.args.word.now) c.as_bytes.ensures.value)
