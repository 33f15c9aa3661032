use Rattle.std.proofs.Common.{◌∙◌, ap, ap₂, codes, option_map}
use Rattle.clap.specs.Words.{found_of, rows_of}
use Rattle.clap.proofs.WalkLemmas.{first_value-rows}
use Rattle.ng_words.specs.Orders.{row_of, row_by, given_in}
use Rattle.ng_words.proofs.given.order.Goals as goal

pub returns-in_err-name : goal.returns-in_err-name
returns-in_err-name c =
    let f = found_of c.args.matches.now in
    let g = given_in (rows_of f) in
    rw c.from_residual.ensures (ap (λ n. row_by n g.flags g.first g.second) (c.in_err-name.ensures ∙ first_value-rows f (codes "command")))

pub returns : goal.returns
returns c =
    let f = found_of c.args.matches.now in
    let g = given_in (rows_of f) in
    let n = c.in_ok-name.name.now in
    c.row.ensures ∙ ap (λ x. row_of n x (option_map (λ s. s.now) c.get_str-first.result) (option_map (λ s. s.now) c.get_str-second.result)) c.flags.ensures
    ∙ ap₂ (row_of n g.flags) (c.get_str-first.ensures ∙ first_value-rows f (codes "first")) (c.get_str-second.ensures ∙ first_value-rows f (codes "second"))
    ∙ ap (λ n. row_by n g.flags g.first g.second) (c.in_ok-name.ensures ∙ first_value-rows f (codes "command"))
