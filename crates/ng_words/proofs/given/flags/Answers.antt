use Rattle.std.proofs.Common.{◌∙◌, ap, refl, codes}
use Rattle.clap.specs.Words.{found_of}
use Rattle.clap.proofs.WalkLemmas.{first_value-rows}
use Rattle.ng_words.specs.Orders.{is_set}
use Rattle.ng_words.proofs.given.flags.Goals as goal

pub returns : goal.returns
returns c =
    let f = found_of c.args.matches.now in
    rw (
      c.is_set.ensures ∙ ap is_set (first_value-rows f (codes "every")),
      c.is_set-2.ensures ∙ ap is_set (first_value-rows f (codes "ops")),
      c.is_set-3.ensures ∙ ap is_set (first_value-rows f (codes "report")),
      c.is_set-4.ensures ∙ ap is_set (first_value-rows f (codes "trace")),
    ) refl
