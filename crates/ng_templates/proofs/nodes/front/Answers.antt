use Rattle.std.proofs.Common.{List, ℕ, [], sym, subst, take, drop}
use Rattle.ng_lex.specs.Spans.{IsSpan}
use Rattle.ng_templates.proofs.Alone.{span_alone}
use Rattle.ng_templates.proofs.Turns.{front_is, reads_part, reads_none}
use Rattle.ng_templates.proofs.nodes.front.Goals as goal

pub read_part-requires-clause-token : goal.read_part-requires-clause-token
read_part-requires-clause-token c =
    subst (λ (a : List ℕ). IsSpan c.in-Some.kind a []) (sym (front_is c.range.result.now c.args.text.now c.in-Some.len c.range.ensures.value)) (span_alone c.in-Some.kind (take c.in-Some.len c.args.text.now) (drop c.in-Some.len c.args.text.now) c.in-Some.ensures.found)

pub returns-in-Ok-clause-reads : goal.returns-in-Ok-clause-reads
returns-in-Ok-clause-reads c =
    reads_part c.args.place c.in-Some.kind c.args.text.now c.range.result.now c.in-Some.len c.in-Ok.markup (front_is c.range.result.now c.args.text.now c.in-Some.len c.range.ensures.value) c.in-Some.ensures.within c.in-Some.ensures.found c.in-Ok.ensures

pub returns-in-Err-clause-refused : goal.returns-in-Err-clause-refused
returns-in-Err-clause-refused c =
    reads_none c.args.place c.in-Some.kind c.args.text.now c.range.result.now c.in-Some.len c.in-Err.halt c.widen.result (front_is c.range.result.now c.args.text.now c.in-Some.len c.range.ensures.value) c.in-Some.ensures.found c.in-Err.ensures c.widen.ensures
