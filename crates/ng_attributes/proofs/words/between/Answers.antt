use Rattle.std.proofs.Common.{◌-◌, length, take, drop, sym, ◌∙◌, ap, arith}
use Rattle.ng_tokens.specs.Lexis.{begins, same_text}
use Rattle.ng_lex.proofs.Boundaries.{word_boundary}
use Rattle.ng_attributes.proofs.WordLaws.{between_boundary, between_some}
use Rattle.ng_attributes.proofs.words.between.Goals as goal

pub split_at-requires : goal.split_at-requires
split_at-requires c = word_boundary c.args.first.now c.args.text.now (ap (begins c.args.first.now) (sym c.as_bytes.ensures.value) ∙ sym c.begins.ensures ∙ c.if-not-begins.false) c.requires.first c.utf8.text

pub split_at-requires-2 : goal.split_at-requires-2
split_at-requires-2 c = between_boundary c.args.first.now c.args.last.now c.args.text.now _ (omega arith) (ap (λ k. same_text c.args.last.now (take (length k - (length c.args.text.now - length c.args.last.now)) (drop (length c.args.text.now - length c.args.last.now) k))) (sym c.as_bytes-2.ensures.value) ∙ sym c.same_text.ensures ∙ c.if-not-same_text.false) c.split_at.ensures.back c.requires.last

pub returns : goal.returns
returns c =
    between_some c.args.first.now c.args.last.now c.args.text.now _ _ (omega arith) (ap (begins c.args.first.now) (sym c.as_bytes.ensures.value) ∙ sym c.begins.ensures ∙ c.if-not-begins.false) (ap (λ k. same_text c.args.last.now (take (length k - (length c.args.text.now - length c.args.last.now)) (drop (length c.args.text.now - length c.args.last.now) k))) (sym c.as_bytes-2.ensures.value) ∙ sym c.same_text.ensures ∙ c.if-not-same_text.false)
    c.split_at.ensures.back c.split_at-2.ensures.front
