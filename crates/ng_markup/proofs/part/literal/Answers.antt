use Rattle.std.proofs.Common.{sym, subst}
use Rattle.ng_lex.specs.Letters.{Decodes}
use Rattle.ng_markup.proofs.PartAnswers.{literal_answers}
use Rattle.ng_markup.proofs.part.literal.Goals as goal

pub returns-in-Ok-Some : goal.returns-in-Ok-Some
returns-in-Ok-Some c =
    let bytes = rw c.in-Ok-Some.field-0-is at c.in-Ok-Some.ensures.some in
    let text = subst (λ k. Decodes c.args.place k c.in-Ok-Some.found.items) c.as_bytes.ensures.value bytes in
    let decodes = subst (Decodes c.args.place c.args.text.now) (sym c.as_slice.ensures.value) text in
    literal_answers c.args.place c.args.text.now _ c.literal_of.result c.map_err.result decodes c.literal_of.ensures c.map_err.ensures.cases
