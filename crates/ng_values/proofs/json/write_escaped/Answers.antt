use Rattle.std.proofs.Common.{ap, sym, ◌∙◌, ◌++◌, string_bytes}
use Rattle.std.proofs.lemmas.Iterator.{YieldsList-from_chars}
use Rattle.std.proofs.lemmas.Iterator.Consumers.{YieldsList-end}
use Rattle.std.proofs.lemmas.List.{map-id}
use Rattle.std.specs.List.{flat_map}
use Rattle.ng_values.specs.Json.{json_char}
use Rattle.ng_values.proofs.json.write_escaped.Goals as goal

pub returns : goal.returns
returns c =
    let all = YieldsList-end (YieldsList-from_chars c.args.text.now c.utf8.text cc) c.loop-letter.yielded _ c.loop-letter.yielded_by _ _ c.in-None.is c.next.ensures.steps in
    c.loop-letter.invariant ∙ ap (λ cs. string_bytes c.args.out.now ++ flat_map json_char cs) (sym (map-id c.loop-letter.yielded) ∙ all.0)
