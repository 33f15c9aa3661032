use Rattle.std.proofs.Common.{◌∙◌, ap, subst}
use Rattle.ng_lex.specs.Letters.{bytes, Decodes}
use Rattle.ng_attributes.proofs.SpelledLaws.{decoded_of}
use Rattle.ng_attributes.proofs.spelled.decode_value.Goals as goal

pub returns : goal.returns
returns c =
    let d = rw c.in-Some.is at c.in_ok-letters.ensures.some in
    let u = rw c.in-Some.is at (c.in_ok-letters.ensures.utf8 c.as_bytes.ensures.utf8) in
    decoded_of c.args.place c.args.text.now _ (subst (λ k. Decodes c.args.place k c.in-Some.letters.items) c.as_bytes.ensures.value d) c.requires u (c.in_ok-text.ensures ∙ ap bytes c.as_slice.ensures.value)
